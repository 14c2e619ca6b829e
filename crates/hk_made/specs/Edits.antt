-- The operator's commands for an edit.
use Rattle.std.specs.Prelude.{ℕ, ◌+◌, ◌≤◌, ◌<◌, List, [], ◌∷◌, map}
use Rattle.std.specs.List.{range_with_len}
use Rattle.hk_spec_made.specs.Input.{add_bytes, withdraw_bytes}
use Rattle.hk_made.specs.declared.edits.Edit.{Edit}
use Rattle.hk_made.specs.declared.edits.Edit.TheVariants.{Add, Withdraw}

abbrev pub commands_of : List ℕ → Edit → List (List ℕ)
commands_of highs (Add first count) = map (add_bytes highs) (range_with_len first count)
commands_of highs (Withdraw song) = withdraw_bytes song ∷ []

-- it speaks of the eight songs
abbrev pub EditFits : Edit → Type 0
EditFits (Add first count) = first + count ≤ 8
EditFits (Withdraw song) = song < 8
