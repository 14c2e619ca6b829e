use Rattle.std.proofs.Common.{◌≡◌, ◌≤◌, ◌*◌}
use Rattle.hk_spec_made.specs.Input.{words_before}
use Rattle.hk_made.proofs.songs.words_before.Given as goal

abbrev pub invariant-loop-earlier : goal.invariant-loop-earlier
invariant-loop-earlier l = record {
  value : l.words ≡ words_before l.earlier;
  most : l.words ≤ 1700 * l.earlier;
}
