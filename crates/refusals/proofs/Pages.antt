-- The pages of the ranges: none has more than there are.
use Rattle.std.proofs.Common.{◌≡◌, ℕ, ◌+◌, ◌-◌, ◌<◌, ◌≤◌, Bool, true, false, not, ◌&&◌, ◌||◌, eqb, ltb, leb, refl, arith, pow_mono, eq-eqb}
use borrow.Author.Tests.{lt-leb}
use Rattle.descriptor.proofs.Tests.{or_true}
use Rattle.vmsa.specs.Limits.{harvest_limit}
use Rattle.vmsa.specs.Granules.{page_bits_of}
use Rattle.vmsa.specs.declared.Regime.{Regime}
use Rattle.refusals.specs.Tests.{all_pages, range_pages, in_range0, in_range1, page_range_bad}

pub range_most : (p t : ℕ) → range_pages p t ≤ all_pages p
range_most p t = pow_mono {i = 64 - t - p} {j = 64 - p} (omega arith)

and_false : (b : Bool) → (b && false) ≡ false
and_false true = refl
and_false false = refl

-- a first page beyond all pages is in neither range
pub beyond_both : (p t u first count : ℕ) → all_pages p < first → (in_range0 p t first count || in_range1 p u first count) ≡ false
unfolding in_range0 in_range1
beyond_both p t u first count h =
    let m = range_most p t in
    rw (lt-leb (first + count) (range_pages p t) (omega arith), lt-leb (first + count) (all_pages p) (omega arith), and_false (leb (all_pages p - range_pages p u) first))

-- the three tests of row 10, each by what the code has found
module _ (r : Regime) (first count : ℕ) where
  pub bad_none : count ≡ 0 → page_range_bad r first count ≡ true
  unfolding page_range_bad
  bad_none e = rw (eq-eqb count 0 e)

  pub bad_many : ltb harvest_limit count ≡ true → page_range_bad r first count ≡ true
  unfolding page_range_bad
  bad_many e = rw (e, or_true (eqb count 0))

  pub bad_beyond : all_pages (page_bits_of r) < first → page_range_bad r first count ≡ true
  unfolding page_range_bad
  bad_beyond h = rw (beyond_both (page_bits_of r) r.range0.tsz r.range1.tsz first count h, or_true (eqb count 0 || ltb harvest_limit count))

  pub bad_ranges : eqb count 0 ≡ false → ltb harvest_limit count ≡ false
      → page_range_bad r first count ≡ not (in_range0 (page_bits_of r) r.range0.tsz first count || in_range1 (page_bits_of r) r.range1.tsz first count)
  unfolding page_range_bad
  bad_ranges e f = rw (e, f)
