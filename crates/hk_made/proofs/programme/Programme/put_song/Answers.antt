use Rattle.std.proofs.Common.{◌≡◌, ℕ, List, ◌+◌, ◌++◌, length, flat_map, OnOk, ap, subst, ◌∙◌, arith}
use Rattle.std.specs.Int.{w32, to_be_bytes}
use Rattle.hk_spec_streams.specs.Commands.{ADD_WORDS}
use Rattle.hk_spec_made.specs.Input.{command_bytes, add_bytes, operator_record}
use Rattle.hk_made.proofs.Lengths.{length-add}
use Rattle.hk_made.proofs.programme.Programme.put_song.Goals as goal

pub put_operator_record-requires : goal.put_operator_record-requires
put_operator_record-requires c =
    let song = c.song.result.now in
    omega (arith, c.requires, ap length (c.as_slice.ensures.value ∙ c.in_ok-command.ensures), length-add (100 + c.args.i) song, c.song.ensures.length)

pub returns : goal.returns
returns c =
    let i = c.args.i in
    let command : c.as_slice.result.now ≡ add_bytes c.args.self.now.highs.items i =
    c.as_slice.ensures.value ∙ c.in_ok-command.ensures
    ∙ ap (λ ws. command_bytes ADD_WORDS.number (to_be_bytes w32 (100 + i) ++ flat_map (to_be_bytes w32) ws)) c.song.ensures.words in
    let Wrote : List ℕ → Type 0 = λ bytes. OnOk c.put_operator_record.result (c.put_operator_record.new.text.items ≡ c.args.text.now.items ++ operator_record bytes) in
    subst Wrote command c.put_operator_record.ensures
