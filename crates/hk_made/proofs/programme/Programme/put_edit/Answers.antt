use Rattle.std.proofs.Common.{◌≡◌, ℕ, List, ◌++◌, flat_map, OnOk, subst, sym}
use Rattle.std.specs.List.{range_with_len}
use Rattle.std.proofs.lemmas.List.Folds.{flat_map-map}
use Rattle.hk_spec_made.specs.Input.{operator_record, add_bytes}
use Rattle.hk_made.specs.declared.edits.Edit.{Edit}
use Rattle.hk_made.specs.Edits.{commands_of}
use Rattle.hk_made.proofs.programme.Programme.put_edit.Goals as goal

pub returns-in-Add : goal.returns-in-Add
returns-in-Add c =
    let highs = c.args.self.now.highs.items in
    let Wrote : List ℕ → Type 0 = λ bytes. OnOk c.put_songs.result (c.put_songs.new.text.items ≡ c.args.text.now.items ++ bytes) in
    let Does : Edit → Type 0 = λ edit. Wrote (flat_map operator_record (commands_of highs edit)) in
    subst Does (sym c.in-Add.is) (subst Wrote (sym (flat_map-map operator_record (add_bytes highs) (range_with_len c.in-Add.first c.in-Add.count))) c.put_songs.ensures)
