use Prim.Native.Nat.{◌+◌, ◌-◌}
use mathlib.Core.Path.{◌≡◌}
use native.Mathlib.Omega.{arith}
use Rattle.clean.specs.Clean.{whole_in}
use Rattle.clean.proofs.Cleaning.whole_in.Goals as goal

pub returns : goal.returns
unfolding whole_in
returns c =
    let k = c.args.self.now in
    let e : k.search.from + (k.to - k.search.from) ≡ k.to = omega (arith, k.forward) in
    rw e
