use Rattle.std.proofs.Common.{◌≡◌, ◌-◌, ◌<◌, ℕ, take, drop, slice_index, arith}
use Rattle.std.proofs.lemmas.List.{get_or-take}
use Rattle.byteorder.specs.Endian.{big_number}
use Rattle.hk_wire.proofs.Blank.{same_behind}
use Rattle.hk_wire.proofs.gathered.Gathered.number.Goals as goal

pub returns : goal.returns
returns c =
    let self = c.args.self.now in
    let p : ℕ = c.args.place in
    let rest = drop c.args.place c.args.self.now.bytes in
    let same = same_behind self.count self.bytes self.blank c.args.place in
    let inside : (k : ℕ) → k < 4 → slice_index (take (12 - c.args.place) rest) k ≡ slice_index rest k = λ k few. get_or-take (12 - p) rest k 0 (omega (arith, few, c.requires)) in
    let read : c.read_u32.result ≡ big_number 4 (take (12 - c.args.place) rest) = c.read_u32.ensures in
    omega (arith, read, same 0, same 1, same 2, same 3, inside 0 (omega arith), inside 1 (omega arith), inside 2 (omega arith), inside 3 (omega arith))
