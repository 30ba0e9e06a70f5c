-- Setting and clearing one bit, for any bit: what the number keeps, and that it fits.
use Prim.Native.Nat.{ℕ, zero, suc, ◌+◌, ◌*◌, ◌/◌, ◌%◌, ◌^◌, ◌<◌, ◌≤◌, ◌-◌}
use mathlib.Core.Bool.{Bool, true, false, ◌||◌}
use mathlib.Core.Path.{◌≡◌, refl, sym, ap, ◌∙◌}
use native.Mathlib.Nat.{add-div_right, add-mul-mod_self_right, div-eq_of_lt, le-div_iff_mul-le, div-lt_iff_lt-mul, mod-lt}
use native.Mathlib.Omega.{arith}
use lib.Dec.{eqb, ltb, lit<}
use lib.Bits.{bit_or, or_shr, or_mod}
use lib.Pow.{pow_pos, pow-add, shr-shr, field as field_mod}
use borrow.Author.Tests.{eqb-true, eqb-false, eq-eqb, ne_eqb, ltb-true, ltb-false}
use Rattle.descriptor.specs.Bits.{pick, bit, set_bit, clear_bit}

-- a clear bit and a set bit, as numbers
bit_zero : (n v : ℕ) → bit n v ≡ false → v / 2 ^ n % 2 ≡ 0
bit_zero n v e = let h : v / 2 ^ n % 2 ≡ 1 → ⊥ = eqb-false (v / 2 ^ n % 2) 1 e in omega arith

-- ---- adding 2 ^ n where bit n is clear

module _ (n v : ℕ) (clear : v / 2 ^ n % 2 ≡ 0) where
  raised : (v + 2 ^ n) / 2 ^ n ≡ v / 2 ^ n + 1
  raised = add-div_right v (pow_pos n)

  -- what stands above the bit stays
  above : (k : ℕ) → n < k → (v + 2 ^ n) / 2 ^ k ≡ v / 2 ^ k
  above k h =
      let e : k ≡ n + (1 + (k - n - 1)) = omega arith in
      let half : (v / 2 ^ n + 1) / 2 ≡ v / 2 ^ n / 2 = omega arith in
      let step : (x : ℕ) → x / 2 ^ k ≡ x / 2 ^ n / 2 / 2 ^ (k - n - 1) =
      λ x. ap (λ (j : ℕ). x / 2 ^ j) e ∙ sym (shr-shr x n (1 + (k - n - 1))) ∙ sym (shr-shr (x / 2 ^ n) 1 (k - n - 1)) in
      step (v + 2 ^ n) ∙ rw (raised, half) (sym (step v))

-- what stands below stays
below : (n v j : ℕ) → j ≤ n → (v + 2 ^ n) % 2 ^ j ≡ v % 2 ^ j
below n v j h =
    let e : 2 ^ n ≡ 2 ^ (n - j) * 2 ^ j = ap (λ (k : ℕ). 2 ^ k) (let q : n ≡ (n - j) + j = omega arith in q) ∙ pow-add 2 (n - j) j in
    rw e (add-mul-mod_self_right v (2 ^ (n - j)) (2 ^ j))

-- ---- taking away 2 ^ n where bit n is set

-- a number whose bit n is set is at least 2 ^ n
pub bit_least : (n v : ℕ) → bit n v ≡ true → 2 ^ n ≤ v
bit_least n v e =
    let o : v / 2 ^ n % 2 ≡ 1 = eqb-true (v / 2 ^ n % 2) 1 e in
    let h : 1 * 2 ^ n ≤ v = (le-div_iff_mul-le (pow_pos n)).0 (let q : 1 ≤ v / 2 ^ n = omega arith in q) in
    omega arith

lowered : (n v : ℕ) → bit n v ≡ true → ((v - 2 ^ n) / 2 ^ n % 2 ≡ 0) × (v - 2 ^ n + 2 ^ n ≡ v)
lowered n v e =
    let l : 2 ^ n ≤ v = bit_least n v e in
    let s : v - 2 ^ n + 2 ^ n ≡ v = omega arith in
    let o : v / 2 ^ n % 2 ≡ 1 = eqb-true (v / 2 ^ n % 2) 1 e in
    let r : v / 2 ^ n ≡ (v - 2 ^ n) / 2 ^ n + 1 = ap (λ (x : ℕ). x / 2 ^ n) (sym s) ∙ add-div_right (v - 2 ^ n) (pow_pos n) in
    (omega arith, s)

-- ---- the laws of set_bit and clear_bit

pub set_above : (n v k : ℕ) → n < k → set_bit n v / 2 ^ k ≡ v / 2 ^ k
unfolding set_bit
set_above n v k h = by (bit n v) refl
  where
    by : (b : Bool) → bit n v ≡ b → pick b v (v + 2 ^ n) / 2 ^ k ≡ v / 2 ^ k
    by true e = refl
    by false e = above n v (bit_zero n v e) k h

pub set_below : (n v j : ℕ) → j ≤ n → set_bit n v % 2 ^ j ≡ v % 2 ^ j
unfolding set_bit
set_below n v j h = by (bit n v)
  where
    by : (b : Bool) → pick b v (v + 2 ^ n) % 2 ^ j ≡ v % 2 ^ j
    by true = refl
    by false = below n v j h

pub clear_above : (n v k : ℕ) → n < k → clear_bit n v / 2 ^ k ≡ v / 2 ^ k
unfolding clear_bit
clear_above n v k h = by (bit n v) refl
  where
    by : (b : Bool) → bit n v ≡ b → pick b (v - 2 ^ n) v / 2 ^ k ≡ v / 2 ^ k
    by true e = let l = lowered n v e in sym (above n (v - 2 ^ n) l.0 k h) ∙ ap (λ (x : ℕ). x / 2 ^ k) l.1
    by false e = refl

pub clear_below : (n v j : ℕ) → j ≤ n → clear_bit n v % 2 ^ j ≡ v % 2 ^ j
unfolding clear_bit
clear_below n v j h = by (bit n v) refl
  where
    by : (b : Bool) → bit n v ≡ b → pick b (v - 2 ^ n) v % 2 ^ j ≡ v % 2 ^ j
    by true e = sym (below n (v - 2 ^ n) j h) ∙ ap (λ (x : ℕ). x % 2 ^ j) (lowered n v e).1
    by false e = refl

-- the bit itself
pub set_bit_lem : (n v : ℕ) → bit n (set_bit n v) ≡ true
unfolding set_bit
set_bit_lem n v = by (bit n v) refl
  where
    by : (b : Bool) → bit n v ≡ b → bit n (pick b v (v + 2 ^ n)) ≡ true
    by true e = e
    by false e =
        let z = bit_zero n v e in
        eq-eqb ((v + 2 ^ n) / 2 ^ n % 2) 1 (rw (raised n v z) (omega arith))

pub clear_bit_lem : (n v : ℕ) → bit n (clear_bit n v) ≡ false
unfolding clear_bit
clear_bit_lem n v = by (bit n v) refl
  where
    by : (b : Bool) → bit n v ≡ b → bit n (pick b (v - 2 ^ n) v) ≡ false
    by true e = let z = (lowered n v e).0 in ne_eqb ((v - 2 ^ n) / 2 ^ n % 2) 1 (λ q. omega arith)
    by false e = e

-- every other bit, of two numbers that agree above and below bit n
others : (n v w : ℕ) → ((k : ℕ) → n < k → w / 2 ^ k ≡ v / 2 ^ k) → ((j : ℕ) → j ≤ n → w % 2 ^ j ≡ v % 2 ^ j)
    → (m : ℕ) → (m ≡ n → ⊥) → bit m w ≡ bit m v
others n v w up down m d = by (ltb m n) refl
  where
    by : (b : Bool) → ltb m n ≡ b → bit m w ≡ bit m v
    by true e =
        let l : m < n = ltb-true m n e in
        ap (λ (x : ℕ). eqb x 1) (sym (field_mod w 1 m) ∙ ap (λ (x : ℕ). x / 2 ^ m) (down (1 + m) (omega arith)) ∙ field_mod v 1 m)
    by false e =
        let l : n ≤ m = ltb-false m n e in
        ap (λ (x : ℕ). eqb (x % 2) 1) (up m (omega arith))

pub set_other : (n v m : ℕ) → (m ≡ n → ⊥) → bit m (set_bit n v) ≡ bit m v
set_other n v = others n v (set_bit n v) (set_above n v) (set_below n v)

pub clear_other : (n v m : ℕ) → (m ≡ n → ⊥) → bit m (clear_bit n v) ≡ bit m v
clear_other n v = others n v (clear_bit n v) (clear_above n v) (clear_below n v)

-- a number of w bits stays one
small : (w v x : ℕ) → x / 2 ^ w ≡ v / 2 ^ w → v < 2 ^ w → x < 2 ^ w
small w v x e h =
    let z : v / 2 ^ w ≡ 0 = div-eq_of_lt h in
    let q : x / 2 ^ w < 1 = rw (e, z) (omega arith) in
    let r : x < 1 * 2 ^ w = (div-lt_iff_lt-mul (pow_pos w)).0 q in
    omega arith

pub set_small : (n v w : ℕ) → n < w → v < 2 ^ w → set_bit n v < 2 ^ w
set_small n v w h l = small w v (set_bit n v) (set_above n v w h) l

pub clear_small : (n v w : ℕ) → n < w → v < 2 ^ w → clear_bit n v < 2 ^ w
clear_small n v w h l = small w v (clear_bit n v) (clear_above n v w h) l

-- ---- an or of two numbers, bit by bit

or_digits : (x y : ℕ) → x < 2 → y < 2 → eqb (bit_or x y) 1 ≡ (eqb x 1 || eqb y 1)
or_digits zero zero h k = refl
or_digits zero (suc zero) h k = refl
or_digits (suc zero) zero h k = refl
or_digits (suc zero) (suc zero) h k = refl
or_digits zero (suc (suc y)) h k = absurd (omega arith)
or_digits (suc zero) (suc (suc y)) h k = absurd (omega arith)
or_digits (suc (suc x)) y h k = absurd (omega arith)

pub or_bit : (n a b : ℕ) → bit n (bit_or a b) ≡ (bit n a || bit n b)
or_bit n a b =
    ap (λ (x : ℕ). eqb x 1) (ap (λ (x : ℕ). x % 2) (or_shr a b n) ∙ or_mod (a / 2 ^ n) (b / 2 ^ n) 1)
    ∙ or_digits (a / 2 ^ n % 2) (b / 2 ^ n % 2) (mod-lt (a / 2 ^ n) (lit< tt)) (mod-lt (b / 2 ^ n) (lit< tt))
