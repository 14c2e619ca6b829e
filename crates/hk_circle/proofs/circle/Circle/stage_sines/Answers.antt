use Rattle.std.proofs.Common.{rules, ◌≤◌, ◌*◌, ◌^◌, length, arith}
use Rattle.std.proofs.Math.Nat.{pow-le-pow_right}
use Rattle.hk_circle.proofs.circle.Circle.stage_sines.Goals as goal

pub slice_bounds-result-end : goal.slice_bounds-result-end
slice_bounds-result-end c =
    let power : 2 ^ c.args.before ≤ 2 ^ 10 = pow-le-pow_right {n = 2} (omega arith) c.requires.few in
    let len = c.args.self.now.stage_sines_are.len in
    let inside : 2 * c.args.half ≤ length c.args.self.now.stage_sines.items = omega (arith, power, len, c.requires.half) in
    search rules
