-- Facts about tests that every layer uses.
use Prim.Native.Nat.{ℕ, ◌<◌, ◌≤◌}
use mathlib.Core.Bool.{Bool, true, false, ◌&&◌, ◌||◌}
use mathlib.Core.Path.{◌≡◌, refl, sym}
use native.Mathlib.Omega.{arith}
use lib.Dec.{ltb}
use borrow.Author.Tests.{lt-ltb, le-ltb, ltb-true, ltb-false}
use Rattle.descriptor.specs.Bits.{pick}

-- anything follows from 0 ≡ 1, and from true ≡ false
pub clash : {A : Type 0} → ◌≡◌ {A = ℕ} 0 1 → A
clash z = absurd (let y : ◌≡◌ {A = ℕ} 0 1 = z in omega arith)

pub differ : {A : Type 0} → true ≡ false → A
differ e = clash (cc)

by_value : (a b c d : ℕ) (t : Bool) → ltb a b ≡ t → (a < b → c < d) → (b ≤ a → d ≤ c) → t ≡ ltb c d
by_value a b c d true e p q = sym (lt-ltb c d (p (ltb-true a b e)))
by_value a b c d false e p q = sym (le-ltb c d (q (ltb-false a b e)))

-- two comparisons that say the same
pub ltb_same : (a b c d : ℕ) → (a < b → c < d) → (b ≤ a → d ≤ c) → ltb a b ≡ ltb c d
ltb_same a b c d = by_value a b c d (ltb a b) refl

-- each part of a conjunction that holds
pub and_true : (a b : Bool) → (a && b) ≡ true → (a ≡ true) × (b ≡ true)
and_true true b e = (refl, e)
and_true false true e = (e, refl)
and_true false false e = (e, e)

-- each part of a disjunction that fails
pub or_false : (a b : Bool) → (a || b) ≡ false → (a ≡ false) × (b ≡ false)
or_false false b e = (refl, e)
or_false true true e = (e, e)
or_false true false e = (e, refl)

pub or_true : (a : Bool) → (a || true) ≡ true
or_true false = refl
or_true true = refl

pub or_none : (a : Bool) → (a || false) ≡ a
or_none false = refl
or_none true = refl

-- what holds of both values holds of the one picked
pub pick_both : {A : Type 0} (P : A → Type 0) (b : Bool) (x y : A) → P x → P y → P (pick b x y)
pick_both P true x y h k = h
pick_both P false x y h k = k
