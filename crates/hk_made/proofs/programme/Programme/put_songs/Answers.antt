use Rattle.std.proofs.Common.{ℕ, List, ◌+◌, refl}
use Rattle.hk_spec_made.specs.Input.{operator_record, add_bytes}
use Rattle.hk_made.proofs.Ranges.{written-more}
use Rattle.hk_made.proofs.programme.Programme.put_songs.Goals as goal

pub loop-i-preserved : goal.loop-i-preserved
loop-i-preserved c =
    let record_of : ℕ → List ℕ = λ i. operator_record (add_bytes c.args.self.now.highs.items i) in
    written-more record_of c.args.text.now.items c.loop-i.text.items c.put_song.new.text.items c.args.first c.loop-i.i (c.args.first + c.loop-i.i)
    c.loop-i.invariant refl c.in_ok-put_song.ensures
