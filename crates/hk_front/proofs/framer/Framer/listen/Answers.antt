use Rattle.std.proofs.Common.{◌≡◌, ◌≤◌, ◌<◌, ◌++◌, [], ◌*◌, ◌+◌, ◌-◌, ℕ, List, length, take, ap, sym, subst, ◌∙◌, arith, inl, inr}
use Rattle.std.specs.Prelude.{slice_range}
use Rattle.std.proofs.lemmas.Bool.{cases_lt}
use Rattle.hk_front.specs.Framing.{Framing, HasFramed, frames_in}
use Rattle.hk_front.proofs.Framed.{frames-same, more_of, all_of}
use Rattle.hk_front.proofs.framer.Framer.listen.Goals as goal

pub loop-group-preserved : goal.loop-group-preserved
loop-group-preserved c =
    let piece : List ℕ = c.args.piece.now in
    let at : ℕ = c.loop-group.at in
    let size : ℕ = c.group_size-size.result in
    let old : Framing = c.args.self.now in
    let was : Framing = c.loop-group.self in
    let took = c.take_group.ensures in
    let before = c.loop-group.invariant in
    let room : at + size ≤ length piece = omega arith in
    record {
      inside = room;
      between = ap (λ r. r.group) took.between ∙ before.between;
      whole = before.whole ∙ sym (ap (λ n. 2 * n) (ap (λ r. r.channels) took.between));
      form = (took.form.0 ∙ before.form.0, took.form.1 ∙ before.form.1);
      taken = λ bytes has.
          subst (HasFramed c.take_group.new.self) (sym (all_of bytes piece at size room)) (took.taken (bytes ++ take at piece) (before.taken bytes has));
      no_frame = λ bytes k has upto. elim (cases_lt at k) [
        | inr earlier ↦ before.no_frame bytes k has earlier
        | inl later ↦
            let k_is : k ≡ at + (k - at) = omega (arith, later) in
            let mid : List ℕ = bytes ++ take at piece in
            let group : List ℕ = slice_range piece at (at + size) in
            let within : k - at ≤ size = omega (arith, upto, later) in
            ap (λ n. frames_in old (bytes ++ take n piece)) k_is
            ∙ ap (frames_in old) (more_of bytes piece at size (k - at) room within)
            ∙ sym (frames-same old was (mid ++ take (k - at) group) before.form)
            ∙ took.no_frame mid (k - at) (before.taken bytes has) (omega (arith, within, room))
            ∙ frames-same old was mid before.form
            ∙ before.no_frame bytes at has (omega arith)
      ];
    }
