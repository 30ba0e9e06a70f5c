use native.Mathlib.Omega.{arith}
use Prim.Native.Nat.{◌^◌, ◌≤◌, ◌-◌}
use native.Mathlib.Omega.{arith}
use lib.Pow.{pow_mono}
use Rattle.geometry.specs.Geometry.{stride_bits}
use Rattle.geometry.proofs.entries.Goals as goal

pub returns : goal.returns
unfolding stride_bits
returns c =
    let h : 2 ^ (c.args.p - 3) ≤ 2 ^ 13 = pow_mono {i = c.args.p - 3} {j = 13} (omega arith) in
    (c.power.ensures.0, c.power.ensures.1, rw c.power.ensures.0 h)
