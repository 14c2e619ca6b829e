-- Which texts are report lines, and where other texts go wrong.
use Rattle.std.specs.Prelude.{◌≡◌, ℕ, ◌+◌, ◌^◌, ◌<◌, ◌≤◌, List, ◌++◌, length, take}
use Rattle.std.specs.List.{AllByRecursion}
use Rattle.hk_base.specs.declared.plain.Head.{Head}
use Rattle.hk_base.specs.declared.plain.Match.{Match}
use Rattle.hk_spec_lines.specs.Lines.{HeadFits, line}

-- the numbers that an item may have
pub record ItemFits (item : Match) : Type 0 where
  pub id : item.id < 2 ^ 32
  pub start : item.start < 2 ^ 32
  pub errors : item.errors < 2 ^ 32

-- The text is the report line of these parts. The items stand in any order and may repeat.
pub record IsReportOf (text : List ℕ) (head : Head) (items : List Match) : Type 0 where
  pub head_fits : HeadFits head
  pub items_fit : AllByRecursion ItemFits items
  pub spelled : text ≡ line head items

-- the text is a report line
abbrev pub IsReport : List ℕ → Type 0
IsReport text = (head : Head) × (items : List Match) × IsReportOf text head items

-- these bytes begin a text of that kind: some bytes after them make one of them
abbrev pub Begins : (List ℕ → Type 0) → List ℕ → Type 0
Begins IsKind bytes = (more : List ℕ) × IsKind (bytes ++ more)

-- The text is no report line, and p is the least number such that its first p + 1 bytes begin none, or the text's length where
-- all of the text begins one.
pub record IsBadPlace (text : List ℕ) (p : ℕ) : Type 0 where
  pub within : p ≤ length text
  pub good : (q : ℕ) → q < p → Begins IsReport (take (q + 1) text)
  pub bad : p < length text → Begins IsReport (take (p + 1) text) → ⊥
  pub unfinished : p ≡ length text → (more : List ℕ) × (0 < length more) × IsReport (text ++ more)
