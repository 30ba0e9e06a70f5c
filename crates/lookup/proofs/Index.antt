-- The index at a level, in bits of the address: it is cut at the first level to those below 64 - T (RULES 6.2).
use Prim.Native.Nat.{ℕ, ◌+◌, ◌*◌, ◌-◌, ◌/◌, ◌%◌, ◌^◌, ◌<◌, ◌≤◌, min}
use mathlib.Core.Bool.{Bool, true, false}
use mathlib.Core.Path.{◌≡◌, refl, sym, ap, ◌∙◌}
use lib.Dec.{leb}
use borrow.Author.Tests.{leb-true, leb-false}
use native.Mathlib.Nat.{mod-lt, mod-eq_of_lt, lt_of_lt_of_le, min-eq_left, min-eq_right}
use native.Mathlib.Omega.{arith}
use lib.Pow.{pow_pos, pow_mono, field, mod-mod-pow}
use Rattle.vmsa.specs.Granules.{page_bits_of}
use Rattle.vmsa.specs.declared.Regime.{Regime}
use Rattle.descriptor.specs.Bits.{field as field_of}
use Rattle.geometry.specs.Geometry.{stride_bits, shift_of, span, index_bits}
use Rattle.lookup.specs.Steps.{entry_at, range_of, context_of}

-- the lower w bits of the lower j bits
lower : (x j w : ℕ) → x % 2 ^ j % 2 ^ w ≡ x % 2 ^ min w j
lower x j w = by (leb w j) refl
  where
    by : (b : Bool) → leb w j ≡ b → x % 2 ^ j % 2 ^ w ≡ x % 2 ^ min w j
    by true q =
        let h = leb-true w j q in
        let e : j ≡ (j - w) + w = omega (arith, h) in
        ap (λ (k : ℕ). x % 2 ^ k % 2 ^ w) e ∙ mod-mod-pow x (j - w) w ∙ ap (λ (k : ℕ). x % 2 ^ k) (sym (min-eq_left h))
    by false q =
        let h = leb-false w j q in
        let small : x % 2 ^ j < 2 ^ w = lt_of_lt_of_le (mod-lt x (pow_pos j)) (pow_mono {i = j} {j = w} (omega (arith, h))) in
        mod-eq_of_lt small ∙ ap (λ (k : ℕ). x % 2 ^ k) (sym (min-eq_right (let l : j ≤ w = omega (arith, h) in l)))

pub index_bits_lem : (r : Regime) (a left table : ℕ) → shift_of (page_bits_of r) left ≤ 64 - (range_of r a).tsz
    → entry_at (context_of r a) left table ≡ table + 8 * field_of (shift_of (page_bits_of r) left) (index_bits (page_bits_of r) (range_of r a).tsz left) a
unfolding entry_at context_of span index_bits
index_bits_lem r a left table h =
    let s = shift_of (page_bits_of r) left in
    let n = 64 - (range_of r a).tsz in
    let e : n ≡ (n - s) + s = omega arith in
    ap (λ (i : ℕ). table + 8 * i)
    (ap (λ (k : ℕ). a % 2 ^ k / 2 ^ s % 2 ^ stride_bits (page_bits_of r)) e ∙ ap (λ (i : ℕ). i % 2 ^ stride_bits (page_bits_of r)) (field a (n - s) s) ∙ lower (a / 2 ^ s) (n - s) (stride_bits (page_bits_of r)))
