use Rattle.std.proofs.Common.{◌≡◌, ◌++◌, ◌∷◌, List, length, IfSome}
use Rattle.std.specs.List.{AllByRecursion}
use Rattle.hk_base.specs.declared.plain.Match.{Match}
use Rattle.hk_report.specs.Pieces.{further_items}
use Rattle.hk_report.specs.Reports.{ItemFits}
use Rattle.hk_report.specs.LineReading.{IsCut}
use Rattle.hk_report.proofs.reader.read_further.Given as goal

-- what was read so far are items, and they were kept
abbrev pub invariant-loop-rest : goal.invariant-loop-rest
invariant-loop-rest l = (items : List Match) × AllByRecursion ItemFits items × (l.fn.bytes ≡ further_items items ++ l.rest) × IsCut l.rest × IfSome l.kept (λ v. v.items ≡ l.fn.first ∷ items)

abbrev pub decreases-loop-rest : goal.decreases-loop-rest
decreases-loop-rest l = length l.rest
