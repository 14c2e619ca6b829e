use Rattle.std.proofs.Common.{rules, ◌≡◌, ℤ, List, length}
use Rattle.hk_spec_sound.specs.Spectrum.{complexes}
use Rattle.hk_transform.proofs.Reordered.{reordered, reordered_below, length-frame}
use Rattle.hk_transform.proofs.whole.transform.Goals as goal

pub ten_stages-requires-clause-re_below : goal.ten_stages-requires-clause-re_below
ten_stages-requires-clause-re_below c =
    let re : List ℤ = c.args.re.now in
    let re_len : length re ≡ 2048 = search rules in
    reordered_below 32769 re c.load_reversed.new.into re_len c.load_reversed.ensures.into_len c.load_reversed.ensures.reversed c.requires.re_within

pub ten_stages-requires-clause-im_below : goal.ten_stages-requires-clause-im_below
ten_stages-requires-clause-im_below c =
    let im : List ℤ = c.args.im.now in
    let im_len : length im ≡ 2048 = search rules in
    reordered_below 32769 im c.load_reversed-2.new.into im_len c.load_reversed-2.ensures.into_len c.load_reversed-2.ensures.reversed c.requires.im_within

pub returns-clause-spectrum : goal.returns-clause-spectrum
returns-clause-spectrum c =
    let re : List ℤ = c.args.re.now in
    let im : List ℤ = c.args.im.now in
    let re_len : length re ≡ 2048 = search rules in
    let im_len : length im ≡ 2048 = search rules in
    let items = complexes re im in
    let len : length items ≡ 2048 = length-frame re im re_len im_len in
    c.whole_stage.ensures.spectrum items len
    (c.ten_stages.ensures.halves items len
    (reordered re im c.load_reversed.new.into c.load_reversed-2.new.into re_len im_len
    c.load_reversed.ensures.into_len c.load_reversed-2.ensures.into_len c.load_reversed.ensures.reversed c.load_reversed-2.ensures.reversed))
