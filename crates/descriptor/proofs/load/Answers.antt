use native.Mathlib.Nat.{add-zero}
use Prim.Native.Nat.{ℕ}
use mathlib.Core.Bool.{Bool, true, false}
use mathlib.Core.List.{[], ◌∷◌}
use mathlib.Core.Path.{◌≡◌}
use native.Mathlib.Omega.{arith}
use Rattle.std.specs.Int.{w64, from_le_bytes, from_be_bytes}
use Rattle.descriptor.specs.Bits.{pick}
use Rattle.descriptor.specs.Bytes.{number, in_order, value_of, desc}
use Rattle.descriptor.proofs.Laws.{cells, window0}
use Rattle.descriptor.proofs.load.Goals as goal

-- std's number of 8 bytes in either order
read : (ee : Bool) (a b c d e f g h : ℕ) →
    pick ee (from_be_bytes w64 (a ∷ b ∷ c ∷ d ∷ e ∷ f ∷ g ∷ h ∷ [])) (from_le_bytes w64 (a ∷ b ∷ c ∷ d ∷ e ∷ f ∷ g ∷ h ∷ [])) ≡ value_of ee (a ∷ b ∷ c ∷ d ∷ e ∷ f ∷ g ∷ h ∷ [])
unfolding value_of in_order number
read true a b c d e f g h = omega arith
read false a b c d e f g h = omega arith

pub returns : goal.returns
unfolding desc cells
returns c =
    let a = c.args in
    rw (c.select.ensures, c.from_be_bytes.ensures, c.from_le_bytes.ensures, window0 8 a.memory.now a.at c.requires, add-zero a.at) (read a.ee _ _ _ _ _ _ _ _)
