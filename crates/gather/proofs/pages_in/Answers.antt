use Prim.Native.Nat.{◌*◌, ◌-◌, ◌^◌, ◌≤◌}
use lib.Pow.{pow_mono}
use Rattle.geometry.specs.Geometry.{stride_bits}
use Rattle.geometry.proofs.Geometry.{stride_le}
use Rattle.gather.specs.Ends.{pages_in}
use Rattle.gather.proofs.pages_in.Goals as goal

pub returns : goal.returns
unfolding pages_in stride_bits
returns c =
    let a = c.args in
    let h : 2 ^ ((a.page - 3) * a.left) ≤ 2 ^ 39 = pow_mono {i = (a.page - 3) * a.left} {j = 39} (stride_le a.page a.left c.requires.0.most c.requires.1) in
    (c.power.ensures.0, c.power.ensures.1, rw c.power.ensures.0 h)
