use Rattle.std.proofs.Common.{◌≡◌, ◌++◌, flat_map}
use Rattle.std.specs.List.{range_with_len}
use Rattle.hk_spec_made.specs.Input.{add_bytes, operator_record}
use Rattle.hk_made.proofs.programme.Programme.put_songs.Given as goal

abbrev pub invariant-loop-i : goal.invariant-loop-i
invariant-loop-i l = l.text.items ≡ l.fn.text.items ++ flat_map (λ i. operator_record (add_bytes l.self.highs.items i)) (range_with_len l.first l.i)
