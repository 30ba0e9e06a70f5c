use Prim.Native.Nat.{ℕ, ◌+◌, ◌^◌, ◌<◌}
use mathlib.Core.Bool.{false}
use mathlib.Core.Path.{◌≡◌, sym, ◌∙◌}
use native.Mathlib.Omega.{arith}
use Rattle.descriptor.specs.Bits.{bit, set_bit}
use Rattle.descriptor.proofs.BitLaws.{set_small}
use Rattle.descriptor.proofs.set_bit.Goals as goal

raised : (n v : ℕ) → bit n v ≡ false → set_bit n v ≡ v + 2 ^ n
unfolding set_bit
raised n v e = rw e

pub overflow_add-result : goal.overflow_add-result
overflow_add-result c =
    let a = c.args in
    let e = raised a.n a.v (sym c.bit.ensures ∙ c.if-bit.false) in
    let v : a.v < 2 ^ 64 = omega arith in
    record { fits = rw (c.power.ensures.0, ← e) (set_small a.n a.v 64 (omega arith) v) }
