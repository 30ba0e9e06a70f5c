use Rattle.std.proofs.Common.{◌-◌, ◌^◌, ◌≤◌, arith, pow_mono}
use Rattle.refusals.proofs.range_pages.Goals as goal

pub returns : goal.returns
returns c =
    let a = c.args in
    let h : 2 ^ (64 - a.t - a.p) ≤ 2 ^ 52 = pow_mono {i = 64 - a.t - a.p} {j = 52} (omega arith) in
    (c.power.ensures.0, rw c.power.ensures.0 h)
