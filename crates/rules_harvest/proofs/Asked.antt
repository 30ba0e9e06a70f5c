-- The pages and the map that a harvest may be asked for: what its checks test (rows 10 and 11) is what step 1 of the walk says of each page.
use Prim.Native.Nat.{ℕ, ◌+◌, ◌*◌, ◌-◌, ◌/◌, ◌^◌, ◌<◌, ◌≤◌}
use mathlib.Core.Bool.{Bool, true, false, ◌&&◌, ◌||◌}
use mathlib.Core.Path.{◌≡◌, refl, sym, ap, subst, ◌∙◌}
use native.Mathlib.Nat.{lt-div-mul-add, div-mul-le_self, zero-mul}
use native.Mathlib.Omega.{arith}
use lib.Dec.{leb, eqb}
use lib.Pow.{pow_pos, pow_mono, shr-shr, shl-shr}
use borrow.Author.Tests.{le-leb, le-ltb, ne_eqb, eqb-true, not-false}
use Rattle.descriptor.specs.Bits.{pick}
use Rattle.descriptor.proofs.Tests.{or_true}
use Rattle.vmsa.specs.Limits.{harvest_limit, Sized}
use Rattle.vmsa.specs.Granules.{page_bits_of, Paged}
use Rattle.geometry.specs.Geometry.{page_size}
use Rattle.geometry.proofs.Geometry.{paged}
use Rattle.vmsa.specs.declared.Regime.{Regime}
use Rattle.checks.specs.Order.{Checked}
use Rattle.std.specs.Prelude.{Ok}
use Rattle.checks.specs.Order.{and_then, regime_check, asked_check, harvest_check}
use Rattle.checks.proofs.Accept.{asked_accepted}
use Rattle.checks.proofs.Rows.{harvest_apart}
use Rattle.bitmap.specs.Map.{bytes_for}
use Rattle.refusals.specs.Tests.{all_pages, range_pages, in_range0, in_range1, page_range_bad, map_length_bad}
use Rattle.lookup.specs.Steps.{upper, range_of, outside}
use Rattle.harvest.proofs.Place.{range_top, page_upper, page_inside, Placed, placed}
use Rattle.rules_harvest.specs.Leaves.{AskedFor}
use Rattle.rules_harvest.specs.Harvest.{Askable}

-- ---- the pages of an accepted harvest lie in one range

module _ (r : Regime) (first count : ℕ) (z : Sized r) (pl : Placed r first count) where
  abbrev p : ℕ
  p = page_bits_of r

  abbrev t : ℕ
  t = (pick pl.is_upper r.range1 r.range0).tsz

  sizes : (b : Bool) → (16 ≤ (pick b r.range1 r.range0).tsz) × ((pick b r.range1 r.range0).tsz ≤ 39)
  sizes true = (z.least1, z.most1)
  sizes false = (z.least0, z.most0)

  module _ (page : ℕ) (q : AskedFor first count page) where
    -- its place in the range
    there : pl.from + (page - first) < range_pages p t
    there = omega (arith, pl.fits, q.0, q.1)

    address_as : page * page_size p ≡ (pl.above * range_pages p t + (pl.from + (page - first))) * 2 ^ p
    unfolding page_size
    address_as = ap (λ (x : ℕ). x * 2 ^ p) (let e : page ≡ pl.above * range_pages p t + (pl.from + (page - first)) = omega (arith, pl.is, q.0) in e)

    upper_as : upper (page * page_size p) ≡ pl.is_upper
    upper_as = ap upper address_as ∙ page_upper p t (paged r.granule) (sizes pl.is_upper).0 (sizes pl.is_upper).1 pl.above (pl.from + (page - first)) there pl.is_upper pl.top

    inside_as : outside (range_of r (page * page_size p)).tsz (page * page_size p) ≡ false
    unfolding range_of
    inside_as =
        ap (λ (b : Bool). outside (pick b r.range1 r.range0).tsz (page * page_size p)) upper_as
        ∙ ap (outside t) address_as
        ∙ page_inside p t (paged r.granule) (sizes pl.is_upper).0 (sizes pl.is_upper).1 pl.above (pl.from + (page - first)) there pl.is_upper pl.top

-- ---- and pages that lie in one range are accepted

-- a page inside a range, by the pages below it
inside_page : (p t x : ℕ) → Paged p → t ≤ 39 → outside t (x * page_size p) ≡ false → x / range_pages p t ≡ pick (upper (x * page_size p)) (2 ^ t - 1) 0
unfolding outside page_size
inside_page p t x g most e =
    let a = x * 2 ^ p in
    let s : 64 - t ≡ p + (64 - t - p) = omega (arith, g.most) in
    sym (ap (λ (k : ℕ). a / 2 ^ k) s ∙ sym (shr-shr a p (64 - t - p)) ∙ ap (λ (y : ℕ). y / 2 ^ (64 - t - p)) (shl-shr x p))
    ∙ eqb-true (a / 2 ^ (64 - t)) (pick (upper a) (2 ^ t - 1) 0) (not-false (eqb (a / 2 ^ (64 - t)) (pick (upper a) (2 ^ t - 1) 0)) e)

module _ (r : Regime) (first count bytes : ℕ) (z : Sized r) (h : Askable r first count bytes) where
  abbrev start : ℕ
  start = first * page_size (page_bits_of r)

  -- what step 1 says of a page, by the range of the first
  in_the_range : (page : ℕ) → AskedFor first count page → (u : Bool) → upper start ≡ u → (pick u r.range1 r.range0).tsz ≤ 39 → page / range_pages (page_bits_of r) (pick u r.range1 r.range0).tsz ≡ pick u (2 ^ (pick u r.range1 r.range0).tsz - 1) 0
  unfolding range_of
  in_the_range page q u e most =
      let up : upper (page * page_size (page_bits_of r)) ≡ u = h.one page q ∙ e in
      let t = (pick u r.range1 r.range0).tsz in
      let o : outside t (page * page_size (page_bits_of r)) ≡ false = subst (λ (b : Bool). outside (pick b r.range1 r.range0).tsz (page * page_size (page_bits_of r)) ≡ false) up (h.inside page q) in
      inside_page (page_bits_of r) t page (paged r.granule) most o ∙ ap (λ (b : Bool). pick b (2 ^ t - 1) 0) up

  abbrev last : ℕ
  last = first + count - 1

  last_asked : AskedFor first count last
  last_asked = (omega (arith, h.some), omega (arith, h.some))

  first_asked : AskedFor first count first
  first_asked = (omega arith, omega (arith, h.some))

  range_holds : (in_range0 (page_bits_of r) r.range0.tsz first count || in_range1 (page_bits_of r) r.range1.tsz first count) ≡ true
  unfolding in_range0 in_range1
  range_holds = by (upper start) refl
    where
      either : (a b : Bool) → b ≡ true → (a || b) ≡ true
      either a b e = ap (λ (x : Bool). a || x) e ∙ or_true a

      by : (u : Bool) → upper (first * page_size (page_bits_of r)) ≡ u → (leb (first + count) (range_pages (page_bits_of r) r.range0.tsz)
          || (leb (all_pages (page_bits_of r) - range_pages (page_bits_of r) r.range1.tsz) first && leb (first + count) (all_pages (page_bits_of r)))) ≡ true
      by false e =
          let n = range_pages (page_bits_of r) r.range0.tsz in
          let d : (first + count - 1) / n ≡ 0 = in_the_range last last_asked false e z.most0 in
          let l = lt-div-mul-add {a = first + count - 1} {b = n} (pow_pos (64 - r.range0.tsz - page_bits_of r)) in
          let m : (first + count - 1) / n * n ≡ 0 = ap (λ (x : ℕ). x * n) d ∙ zero-mul n in
          rw (le-leb (first + count) n (let w : first + count ≤ n = omega (arith, h.some) in w))
      by true e =
          let n = range_pages (page_bits_of r) r.range1.tsz in
          let all = all_pages (page_bits_of r) in
          let top = range_top (page_bits_of r) r.range1.tsz (paged r.granule) z.least1 z.most1 in
          let c = (2 ^ r.range1.tsz - 1) * n in
          let d1 : first / n * n ≡ c = ap (λ (x : ℕ). x * n) (in_the_range first first_asked true e z.most1) in
          let d2 : (first + count - 1) / n * n ≡ c = ap (λ (x : ℕ). x * n) (in_the_range last last_asked true e z.most1) in
          let l = lt-div-mul-add {a = first + count - 1} {b = n} (pow_pos (64 - r.range1.tsz - page_bits_of r)) in
          let k = div-mul-le_self first n in
          let s : n ≤ all = pow_mono {i = 64 - r.range1.tsz - page_bits_of r} {j = 64 - page_bits_of r} (omega arith) in
          either (leb (first + count) (range_pages (page_bits_of r) r.range0.tsz)) (leb (all - n) first && leb (first + count) all)
          (rw (le-leb (all - n) first (let w : all - n ≤ first = omega arith in w), le-leb (first + count) all (let w : first + count ≤ all = omega (arith, h.some) in w)))

  pages_good : page_range_bad r first count ≡ false
  unfolding page_range_bad
  pages_good =
      rw (ne_eqb count 0 (λ e. let s = h.some in omega arith), le-ltb harvest_limit count h.most, range_holds)

  map_good : map_length_bad count bytes ≡ false
  unfolding map_length_bad
  map_good = le-ltb bytes (bytes_for count) (let s : bytes_for count ≤ bytes = omega (arith, h.room) in s)

  pub asked_good : asked_check r first count bytes ≡ Ok tt
  unfolding asked_check
  asked_good = rw (pages_good, map_good)

-- ---- both ways

pub good_asked : (r : Regime) (first count bytes : ℕ) → Sized r → asked_check r first count bytes ≡ Ok tt → Askable r first count bytes
good_asked r first count bytes z e =
    let a = asked_accepted r first count bytes e in
    let pl = placed r first count z a.0 in
    let s = a.0.some in
    let first-in : AskedFor first count first = (omega arith, omega arith) in
    record {
      some = s;
      most = a.0.most;
      inside = inside_as r first count z pl;
      one = λ page q. upper_as r first count z pl page q ∙ sym (upper_as r first count z pl first first-in);
      room = omega (arith, a.1);
    }

pub check_asked : (n : ℕ) (r : Regime) (first count bytes : ℕ) → regime_check n r ≡ Ok tt → harvest_check n r first count bytes ≡ asked_check r first count bytes
check_asked n r first count bytes e = harvest_apart n r first count bytes ∙ ap (λ (c : Checked). and_then c (asked_check r first count bytes)) e
