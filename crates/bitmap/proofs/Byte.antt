-- Numbers by their bits: a number of k bits is what its bits say, and a byte made from bits has those bits.
use Prim.Native.Nat.{ℕ, zero, suc, ◌+◌, ◌*◌, ◌/◌, ◌%◌, ◌^◌, ◌<◌}
use mathlib.Core.Bool.{Bool, true, false}
use mathlib.Core.Path.{◌≡◌, refl, sym, ap, ◌∙◌}
use native.Mathlib.Nat.{zero-add, add-zero, zero-div, div-one, pow-succ'}
use native.Mathlib.Omega.{arith}
use lib.Dec.{eqb, lit<}
use lib.Pow.{shr-shr}
use borrow.Author.Tests.{eqb-true, eqb-false, eq-eqb, ne_eqb}
use Rattle.descriptor.specs.Bits.{pick, bit, set_bit}
use Rattle.descriptor.proofs.BitLaws.{set_bit_lem, set_other}
use Rattle.bitmap.specs.Map.{byte_of}

-- ---- zero, and a power of two

pub bit_none : (n : ℕ) → bit n 0 ≡ false
bit_none n = rw (zero-div (2 ^ n))

power_set : (n : ℕ) → set_bit n 0 ≡ 2 ^ n
unfolding set_bit
power_set n = rw (bit_none n) (zero-add (2 ^ n))

pub bit_power : (i n : ℕ) → bit i (2 ^ n) ≡ eqb i n
bit_power i n = ap (bit i) (sym (power_set n)) ∙ by (eqb i n) refl
  where
    by : (b : Bool) → eqb i n ≡ b → bit i (set_bit n 0) ≡ b
    by true e = rw (eqb-true i n e) (set_bit_lem n 0)
    by false e = set_other n 0 i (eqb-false i n e) ∙ bit_none i

-- ---- the lowest bit, and the others

pub bit_half : (i v : ℕ) → bit (suc i) v ≡ bit i (v / 2)
bit_half i v = ap (λ (x : ℕ). eqb (x % 2) 1) (ap (λ (j : ℕ). v / 2 ^ j) (omega arith) ∙ sym (shr-shr v 1 i))

pub bit_low : (v : ℕ) → bit 0 v ≡ eqb (v % 2) 1
bit_low v = ap (λ (x : ℕ). eqb (x % 2) 1) (div-one v)

-- two numbers of k bits with the same bits are equal
pub bits_ext : (k a b : ℕ) → a < 2 ^ k → b < 2 ^ k → ((i : ℕ) → i < k → bit i a ≡ bit i b) → a ≡ b
bits_ext zero a b p q h = omega arith
bits_ext (suc k) a b p q h =
    let w : 2 ^ suc k ≡ 2 * 2 ^ k = pow-succ' 2 k in
    let up : a / 2 ≡ b / 2 = bits_ext k (a / 2) (b / 2) (omega arith) (omega arith) (λ i l. sym (bit_half i a) ∙ h (suc i) (omega arith) ∙ bit_half i b) in
    let low : eqb (a % 2) 1 ≡ eqb (b % 2) 1 = sym (bit_low a) ∙ h 0 (omega arith) ∙ bit_low b in
    let same : a % 2 ≡ b % 2 = odd (eqb (b % 2) 1) refl low in
    omega arith
  where
    odd : (t : Bool) → eqb (b % 2) 1 ≡ t → eqb (a % 2) 1 ≡ eqb (b % 2) 1 → a % 2 ≡ b % 2
    odd true e l = eqb-true (a % 2) 1 (l ∙ e) ∙ sym (eqb-true (b % 2) 1 e)
    odd false e l =
        let x : a % 2 ≡ 1 → ⊥ = eqb-false (a % 2) 1 (l ∙ e) in
        let y : b % 2 ≡ 1 → ⊥ = eqb-false (b % 2) 1 e in
        omega arith

-- ---- a number made from its bits

pick_small : (t : Bool) → pick t 1 0 < 2
pick_small true = lit< tt
pick_small false = lit< tt

pick_bit : (t : Bool) (n : ℕ) → eqb ((pick t 1 0 + 2 * n) % 2) 1 ≡ t
pick_bit true n = eq-eqb ((1 + 2 * n) % 2) 1 (omega arith)
pick_bit false n = ne_eqb ((0 + 2 * n) % 2) 1 (λ z. omega arith)

pub byte_small : (f : ℕ → Bool) (n k : ℕ) → byte_of f n k < 2 ^ k
unfolding byte_of
byte_small f n zero = lit< tt
byte_small f n (suc k) =
    let w : 2 ^ suc k ≡ 2 * 2 ^ k = pow-succ' 2 k in
    let h : byte_of f (suc n) k < 2 ^ k = byte_small f (suc n) k in
    let l : pick (f n) 1 0 < 2 = pick_small (f n) in
    omega arith

pub byte_bit : (f : ℕ → Bool) (n k i : ℕ) → i < k → bit i (byte_of f n k) ≡ f (n + i)
unfolding byte_of
byte_bit f n zero i h = absurd (omega arith)
byte_bit f n (suc k) zero h = bit_low (pick (f n) 1 0 + 2 * byte_of f (suc n) k) ∙ pick_bit (f n) (byte_of f (suc n) k) ∙ ap f (sym (add-zero n))
byte_bit f n (suc k) (suc i) h =
    let l : pick (f n) 1 0 < 2 = pick_small (f n) in
    let half : (pick (f n) 1 0 + 2 * byte_of f (suc n) k) / 2 ≡ byte_of f (suc n) k = omega arith in
    bit_half i (pick (f n) 1 0 + 2 * byte_of f (suc n) k) ∙ ap (bit i) half ∙ byte_bit f (suc n) k i (omega arith) ∙ ap f (omega arith)

pub byte_ext : (f g : ℕ → Bool) (n k : ℕ) → ((i : ℕ) → f i ≡ g i) → byte_of f n k ≡ byte_of g n k
unfolding byte_of
byte_ext f g n zero h = refl
byte_ext f g n (suc k) h = rw (h n, byte_ext f g (suc n) k h)

pub byte_none : (f : ℕ → Bool) (n k : ℕ) → ((i : ℕ) → f i ≡ false) → byte_of f n k ≡ 0
unfolding byte_of
byte_none f n zero h = refl
byte_none f n (suc k) h = rw (h n, byte_none f (suc n) k h)

-- all eight bits of a byte
pub bit_full : (i : ℕ) → i < 8 → bit i 255 ≡ true
unfolding byte_of
bit_full i h = byte_bit (λ (j : ℕ). true) 0 8 i h
