-- Where the pages asked for lie in their range: all in one, one after another.
use Prim.Native.Nat.{ℕ, ◌+◌, ◌*◌, ◌-◌, ◌/◌, ◌%◌, ◌^◌, ◌<◌, ◌≤◌}
use mathlib.Core.Bool.{Bool, true, false, not, ◌&&◌, ◌||◌}
use mathlib.Core.Path.{◌≡◌, refl, sym, ap, subst, ◌∙◌}
use native.Mathlib.Nat.{mul_assoc, add-mul, zero-mul}
use native.Mathlib.Omega.{arith}
use lib.Dec.{leb}
use lib.Pow.{pow-add, pow_mono, high, low, high_ones, shl_lt}
use borrow.Author.Tests.{leb-true, eq-eqb, ne_eqb}
use Rattle.descriptor.specs.Bits.{pick}
use Rattle.descriptor.proofs.Tests.{and_true}
use Rattle.vmsa.specs.Limits.{tsz_least, tsz_most, Sized}
use Rattle.vmsa.specs.Granules.{page_bits_of, Paged}
use Rattle.geometry.proofs.Geometry.{paged}
use Rattle.vmsa.specs.declared.Regime.{Regime}
use Rattle.refusals.specs.Tests.{all_pages, range_pages, in_range0, in_range1}
use Rattle.checks.proofs.Accept.{Ranged}
use Rattle.lookup.specs.Steps.{upper, outside}

-- ---- page c * M + x of a range of M pages

module _ (p t : ℕ) (g : Paged p) (least : tsz_least ≤ t) (most : t ≤ tsz_most) where
  abbrev count : ℕ
  count = range_pages p t

  abbrev bits : ℕ
  bits = 64 - t

  -- the bytes of a range
  range_bytes : 2 ^ bits ≡ count * 2 ^ p
  range_bytes = ap (λ (k : ℕ). 2 ^ k) (let e : bits ≡ (64 - t - p) + p = omega (arith, g.most) in e) ∙ pow-add 2 (64 - t - p) p

  -- where range 1 begins
  pub range_top : all_pages p - count ≡ (2 ^ t - 1) * count
  range_top = ap (λ (k : ℕ). 2 ^ k - count) (let e : 64 - p ≡ t + (64 - t - p) = omega (arith, g.most) in e) ∙ high_ones t (64 - t - p)

  pub range_small : count ≤ 2 ^ 36
  range_small = pow_mono {i = 64 - t - p} {j = 36} (omega (arith, g.least))

  module _ (c x : ℕ) (h : x < count) where
    page_small : x * 2 ^ p < 2 ^ bits
    page_small = let e : (64 - t - p) + p ≡ bits = omega (arith, g.most) in subst (λ (k : ℕ). x * 2 ^ p < 2 ^ k) e (shl_lt (64 - t - p) p h)

    address_is : (c * count + x) * 2 ^ p ≡ c * 2 ^ bits + x * 2 ^ p
    address_is = add-mul (c * count) x (2 ^ p) ∙ ap (λ (y : ℕ). y + x * 2 ^ p) (mul_assoc c count (2 ^ p) ∙ ap (λ (y : ℕ). c * y) (sym range_bytes))

    address_high : (c * count + x) * 2 ^ p / 2 ^ bits ≡ c
    address_high = ap (λ (y : ℕ). y / 2 ^ bits) address_is ∙ high c bits page_small

    pub address_low : (c * count + x) * 2 ^ p % 2 ^ bits ≡ x * 2 ^ p
    address_low = ap (λ (y : ℕ). y % 2 ^ bits) address_is ∙ low c bits page_small

    bits_small : 2 ^ bits ≤ 2 ^ 48
    bits_small = pow_mono {i = bits} {j = 48} (omega arith)

    top_bytes : (2 ^ t - 1) * 2 ^ bits ≡ 2 ^ 64 - 2 ^ bits
    top_bytes = sym (high_ones t bits) ∙ ap (λ (k : ℕ). 2 ^ k - 2 ^ bits) (let e : t + bits ≡ 64 = omega arith in e)

    pub page_upper : (u : Bool) → c ≡ pick u (2 ^ t - 1) 0 → upper ((c * count + x) * 2 ^ p) ≡ u
    unfolding upper
    page_upper true e =
        let s = bits_small in
        let k = page_small in
        let q : c * 2 ^ bits ≡ 2 ^ 64 - 2 ^ bits = ap (λ (y : ℕ). y * 2 ^ bits) e ∙ top_bytes in
        let a = address_is in
        eq-eqb ((c * count + x) * 2 ^ p / 2 ^ 55 % 2) 1 (omega arith)
    page_upper false e =
        let s = bits_small in
        let k = page_small in
        let q : c * 2 ^ bits ≡ 0 = ap (λ (y : ℕ). y * 2 ^ bits) e ∙ zero-mul (2 ^ bits) in
        let a = address_is in
        ne_eqb ((c * count + x) * 2 ^ p / 2 ^ 55 % 2) 1 (λ z. omega arith)

    pub page_inside : (u : Bool) → c ≡ pick u (2 ^ t - 1) 0 → outside t ((c * count + x) * 2 ^ p) ≡ false
    unfolding outside
    page_inside u e = rw (address_high, page_upper u e) (ap not (eq-eqb c (pick u (2 ^ t - 1) 0) e))

    pub page_fits : (u : Bool) → c ≡ pick u (2 ^ t - 1) 0 → (c * count + x) * 2 ^ p < 2 ^ 64
    page_fits true e =
        let s = bits_small in
        let k = page_small in
        let q : c * 2 ^ bits ≡ 2 ^ 64 - 2 ^ bits = ap (λ (y : ℕ). y * 2 ^ bits) e ∙ top_bytes in
        let a = address_is in
        omega arith
    page_fits false e =
        let s = bits_small in
        let k = page_small in
        let q : c * 2 ^ bits ≡ 0 = ap (λ (y : ℕ). y * 2 ^ bits) e ∙ zero-mul (2 ^ bits) in
        let a = address_is in
        omega arith

-- ---- the pages of a harvest

-- first is page `from` of its range, of which `high` stands above, and the others follow it there
pub record Placed (r : Regime) (first count : ℕ) : Type 0 where
  pub is_upper : Bool
  pub above : ℕ
  pub from : ℕ
  pub top : above ≡ pick is_upper (2 ^ (pick is_upper r.range1 r.range0).tsz - 1) 0
  pub is : first ≡ above * range_pages (page_bits_of r) (pick is_upper r.range1 r.range0).tsz + from
  pub fits : from + count ≤ range_pages (page_bits_of r) (pick is_upper r.range1 r.range0).tsz

pub placed : (r : Regime) (first count : ℕ) → Sized r → Ranged r first count → Placed r first count
unfolding in_range0 in_range1
placed r first count z k = by (leb (first + count) (range_pages p r.range0.tsz)) refl k.in_range
  where
    p : ℕ
    p = page_bits_of r

    by : (b : Bool) → leb (first + count) (range_pages (page_bits_of r) r.range0.tsz) ≡ b
        → (b || (leb (all_pages (page_bits_of r) - range_pages (page_bits_of r) r.range1.tsz) first && leb (first + count) (all_pages (page_bits_of r)))) ≡ true → Placed r first count
    by true t e =
        record {
          is_upper = false;
          above = 0;
          from = first;
          top = refl;
          is = omega (arith, zero-mul (range_pages (page_bits_of r) r.range0.tsz));
          fits = leb-true (first + count) (range_pages (page_bits_of r) r.range0.tsz) t;
        }
    by false t e =
        let n = range_pages (page_bits_of r) r.range1.tsz in
        let a = and_true (leb (all_pages (page_bits_of r) - n) first) (leb (first + count) (all_pages (page_bits_of r))) e in
        let lo = leb-true (all_pages (page_bits_of r) - n) first a.0 in
        let hi = leb-true (first + count) (all_pages (page_bits_of r)) a.1 in
        let q = range_top (page_bits_of r) r.range1.tsz (paged r.granule) z.least1 z.most1 in
        let m : n ≤ all_pages (page_bits_of r) = pow_mono {i = 64 - r.range1.tsz - page_bits_of r} {j = 64 - page_bits_of r} (omega arith) in
        record {
          is_upper = true;
          above = 2 ^ r.range1.tsz - 1;
          from = first - (all_pages (page_bits_of r) - n);
          top = refl;
          is = omega arith;
          fits = omega arith;
        }
