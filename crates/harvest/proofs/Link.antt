-- The walks of the pages asked for, as the search has them: from one table on, page after page.
use Prim.Native.Nat.{ℕ, zero, suc, ◌+◌, ◌*◌, ◌-◌, ◌/◌, ◌%◌, ◌^◌, ◌<◌, ◌≤◌}
use mathlib.Core.Bool.{Bool, true, false, ◌&&◌, ◌||◌}
use mathlib.Core.List.{List}
use mathlib.Core.Path.{◌≡◌, refl, sym, ap, subst, ◌∙◌}
use native.Mathlib.Nat.{mul_assoc, add-mul, mul_comm, div-mul-le_self, mul-le-mul_left, mul-add-div_right}
use native.Mathlib.Omega.{arith}
use lib.Dec.{leb}
use lib.Pow.{pow-add}
use borrow.Author.Tests.{leb-true, leb-false, le-leb, lt-leb}
use Rattle.descriptor.specs.Bits.{pick}
use Rattle.descriptor.specs.Bytes.{put}
use Rattle.vmsa.specs.Limits.{Sized}
use Rattle.vmsa.specs.Granules.{page_bits_of, Paged}
use Rattle.vmsa.specs.Fields.{no_tables, with_table, set_ap2}
use Rattle.geometry.specs.Geometry.{page_size, stride_bits, first_left, level_of, output_limit}
use Rattle.geometry.proofs.Geometry.{paged}
use Rattle.vmsa.specs.declared.Regime.{Regime}
use Rattle.vmsa.specs.declared.Range.{Range}
use Rattle.vmsa.specs.declared.PhysAddr.{PhysAddr}
use Rattle.vmsa.specs.declared.FaultKind.{FaultKind}
use Rattle.vmsa.specs.declared.FaultKind.TheVariants.{ExternalAbort, Translation, AddressSize}
use Rattle.std.specs.Prelude.{Option, Some, None, Err, Ok}
use Rattle.lookup.specs.declared.Next.{Next}
use Rattle.lookup.specs.declared.Next.TheVariants as next
use Rattle.lookup.specs.Steps.{First}
use Rattle.lookup.specs.declared.Context.{Context}
use Rattle.lookup.specs.Trace.{End, fault, leaf, Trace, ended, end_under_hpd}
use Rattle.lookup.specs.Steps.{decoded, onward, on_word, followed, entry_at, entered, descend, pool_reader, upper, range_of, outside, context_of, first_table}
use Rattle.lookup.proofs.Levels.{from_first, locate_first}
use Rattle.refusals.specs.Tests.{range_pages}
use Rattle.gather.specs.Ends.{dirty, dirty_end, pages_in, untabled, Walks, walks, context_for, table_end}
use Rattle.gather.proofs.Ends.{pages_pos}
use Rattle.clean.specs.Clean.{whole_in, Asked, asked, set_again, cleaned_by}
use Rattle.harvest.specs.Harvest.{reached, reports, asked_of}
use Rattle.harvest.proofs.Place.{Placed, page_upper, page_inside, address_low, page_fits}

-- ---- a leaf's level is not above the table's that a search begins with

abbrev pub Under : ℕ → End → Type 0
Under n (fault kind level) = Unit {0}
Under n (leaf a l) = l.left < n

under_more : (n : ℕ) (e : End) → Under n e → Under (suc n) e
under_more n (fault kind level) h = tt
under_more n (leaf a l) h = omega arith

module _ (c : Context) (read : ℕ → Option ℕ) where
  under_onward : (n s a v : ℕ) → ((x t : ℕ) → Under n (descend c read n x t).end) → (x : Next) → Under (suc n) (onward (descend c read n) s n a v x).end
  under_onward n s a v h (next.Fault kind) = tt
  under_onward n s a v h (next.Table table) = under_more n (descend c read n (with_table s v) table.0).end (h (with_table s v) table.0)
  under_onward n s a v h next.Leaf = omega arith

  under_word : (n s a : ℕ) → ((x t : ℕ) → Under n (descend c read n x t).end) → (w : Option ℕ) → Under (suc n) (on_word (ended (fault ExternalAbort (level_of n))) (followed c (descend c read n) s n a) w).end
  unfolding followed
  under_word n s a h (Some v) = under_onward n s a v h (decoded c.page c.limit.0 n v)
  under_word n s a h None = tt

  pub descend_under : (n s t : ℕ) → Under n (descend c read n s t).end
  unfolding descend entered
  descend_under zero s t = tt
  descend_under (suc n) s t = under_word n s (entry_at c n t) (descend_under n) (read (entry_at c n t))

-- ---- HPD has no say

hpd_dirty : (b : Bool) (e : End) → dirty_end (end_under_hpd b e) ≡ dirty_end e
hpd_dirty b (fault kind level) = refl
hpd_dirty b (leaf a l) = refl

hpd_under : (b : Bool) (n : ℕ) (e : End) → Under n e → Under n (end_under_hpd b e)
hpd_under b n (fault kind level) h = tt
hpd_under b n (leaf a l) h = h

hpd_untabled : (b : Bool) (e : End) → untabled (end_under_hpd b e) ≡ untabled e
hpd_untabled b (fault kind level) = refl
hpd_untabled b (leaf a l) = refl

again_untabled : (k : Asked) (x : ℕ) (s : List ℕ) (e : End) → set_again k x s (untabled e) ≡ set_again k x s e
again_untabled k x s (fault kind level) = refl
again_untabled k x s (leaf a l) = refl

-- ---- the pages around a page, counted from another place

leb_add : (d a b : ℕ) → leb (d + a) (d + b) ≡ leb a b
leb_add d a b = by (leb a b) refl
  where
    by : (t : Bool) → leb a b ≡ t → leb (d + a) (d + b) ≡ t
    by true e = let h = leb-true a b e in le-leb (d + a) (d + b) (omega arith)
    by false e = let h = leb-false a b e in lt-leb (d + a) (d + b) (omega arith)

-- d is a multiple of w
whole_shift : (d from n w x k : ℕ) → 0 < w → d ≡ k * w → whole_in (d + from) n w (d + x) ≡ whole_in from n w x
unfolding whole_in
whole_shift d from n w x k h e =
    let q : (d + x) / w ≡ k + x / w = ap (λ (y : ℕ). (y + x) / w) e ∙ mul-add-div_right h k x in
    let m : (d + x) / w * w ≡ d + x / w * w = ap (λ (y : ℕ). y * w) q ∙ add-mul k (x / w) w ∙ ap (λ (y : ℕ). y + x / w * w) (sym e) in
    let a1 : d + x / w * w + w ≡ d + (x / w * w + w) = omega arith in
    let a2 : d + from + n ≡ d + (from + n) = omega arith in
    rw (m, a1, a2, leb_add d from (x / w * w), leb_add d (x / w * w + w) (from + n))

-- what the entries of a range map divides the range
range_multiple : (p t l : ℕ) → Paged p → t ≤ 39 → l ≤ first_left p t → range_pages p t ≡ 2 ^ (64 - t - p - stride_bits p * l) * pages_in p l
unfolding first_left stride_bits pages_in
range_multiple p t l g most h =
    let d = div-mul-le_self (63 - t - p) (p - 3) in
    let m : (p - 3) * l ≤ (p - 3) * ((63 - t - p) / (p - 3)) = mul-le-mul_left (p - 3) h in
    let c : (p - 3) * ((63 - t - p) / (p - 3)) ≡ (63 - t - p) / (p - 3) * (p - 3) = mul_comm (p - 3) ((63 - t - p) / (p - 3)) in
    ap (λ (k : ℕ). 2 ^ k) (let e : 64 - t - p ≡ (64 - t - p - (p - 3) * l) + (p - 3) * l = omega (arith, g.most) in e) ∙ pow-add 2 (64 - t - p - (p - 3) * l) ((p - 3) * l)

-- ---- the walk of each page asked for

abbrev pub range_for : (r : Regime) {first count : ℕ} → Placed r first count → Range
range_for r pl = pick pl.is_upper r.range1 r.range0

abbrev pub walks_of : Regime → Walks
walks_of r = walks r.pool.address (record { 0 = output_limit r.output }) (page_bits_of r)

-- where steps 1 and 2 lead, for every page of a range
unfoldable pub first_in : Regime → Range → First
first_in r g = pick (g.disabled || false) (Err Translation) (pick (leb (output_limit r.output) g.root.0) (Err AddressSize) (Ok g.root))

module _ (r : Regime) (first count : ℕ) (z : Sized r) (pl : Placed r first count) where
  abbrev g : Range
  g = range_for r pl

  abbrev p : ℕ
  p = page_bits_of r

  least : (b : Bool) → 16 ≤ (pick b r.range1 r.range0).tsz
  least true = z.least1
  least false = z.least0

  most : (b : Bool) → (pick b r.range1 r.range0).tsz ≤ 39
  most true = z.most1
  most false = z.most0

  abbrev address : ℕ → ℕ
  address n = (first + n) * page_size p

  module _ (n : ℕ) (h : n < count) where
    there : pl.from + n < range_pages p g.tsz
    there = omega (arith, pl.fits)

    address_as : address n ≡ (pl.above * range_pages p g.tsz + (pl.from + n)) * 2 ^ p
    unfolding page_size
    address_as = ap (λ (y : ℕ). y * 2 ^ p) (let e : first + n ≡ pl.above * range_pages p g.tsz + (pl.from + n) = omega (arith, pl.is) in e)

    pub range_at : range_of r (address n) ≡ g
    unfolding range_of
    range_at = ap (λ (b : Bool). pick b r.range1 r.range0) (ap upper address_as ∙ page_upper p g.tsz (paged r.granule) (least pl.is_upper) (most pl.is_upper) pl.above (pl.from + n) there pl.is_upper pl.top)

    inside_at : outside g.tsz (address n) ≡ false
    inside_at = ap (outside g.tsz) address_as ∙ page_inside p g.tsz (paged r.granule) (least pl.is_upper) (most pl.is_upper) pl.above (pl.from + n) there pl.is_upper pl.top

    pub address_fits : address n < 2 ^ 64
    address_fits = rw address_as (page_fits p g.tsz (paged r.granule) (least pl.is_upper) (most pl.is_upper) pl.above (pl.from + n) there pl.is_upper pl.top)

    pub input_at : address n % 2 ^ (64 - g.tsz) ≡ (pl.from + n) * page_size p
    unfolding page_size
    input_at = ap (λ (y : ℕ). y % 2 ^ (64 - g.tsz)) address_as ∙ address_low p g.tsz (paged r.granule) (least pl.is_upper) (most pl.is_upper) pl.above (pl.from + n) there

    pub context_at_lem : context_of r (address n) ≡ context_for (walks_of r) (pl.from + n)
    unfolding context_of
    context_at_lem = rw (range_at, input_at)

    pub first_at : first_table r (address n) ≡ first_in r g
    unfolding first_table first_in
    first_at = rw (range_at, inside_at)

  -- a page ends where its first table leads it
  module _ (pool : List ℕ) (n : ℕ) (h : n < count) where
    reached_first : (f : First) → first_table r (address n) ≡ f → reached r pool (first + n) ≡ end_under_hpd (range_of r (address n)).hpd (from_first r (pool_reader r pool) (address n) f).end
    unfolding reached
    reached_first f e = ap (λ (t : Trace). t.end) (locate_first r (pool_reader r pool) (address n) f e)

    -- where steps 1 and 2 fail, no page reaches a leaf
    pub reached_fault : (kind : FaultKind) → first_in r g ≡ Err kind → reached r pool (first + n) ≡ fault kind 0
    reached_fault kind e = reached_first (Err kind) (first_at n h ∙ e)

    deep : PhysAddr → End
    deep root = (descend (context_for (walks_of r) (pl.from + n)) (pool_reader r pool) (suc (first_left p g.tsz)) no_tables root.0).end

    reached_deep : (root : PhysAddr) → first_in r g ≡ Ok root → reached r pool (first + n) ≡ end_under_hpd g.hpd (deep root)
    unfolding deep
    reached_deep root e =
        reached_first (Ok root) (first_at n h ∙ e)
        ∙ ap (λ (q : Range). end_under_hpd q.hpd (descend (context_of r (address n)) (pool_reader r pool) (suc (first_left p q.tsz)) no_tables root.0).end) (range_at n h)
        ∙ ap (λ (c : Context). end_under_hpd g.hpd (descend c (pool_reader r pool) (suc (first_left p g.tsz)) no_tables root.0).end) (context_at_lem n h)

    module _ (root : PhysAddr) (e : first_in r g ≡ Ok root) where
      pub reached_end : untabled (reached r pool (first + n)) ≡ table_end (walks_of r) (pool_reader r pool) (first_left p g.tsz) root.0 (pl.from + n)
      unfolding table_end deep
      reached_end = ap untabled (reached_deep root e) ∙ hpd_untabled g.hpd (deep root)

      pub reached_low : Under (suc (first_left p g.tsz)) (reached r pool (first + n))
      unfolding deep
      reached_low =
          subst (Under (suc (first_left p g.tsz))) (sym (reached_deep root e))
          (hpd_under g.hpd (suc (first_left p g.tsz)) (deep root) (descend_under (context_for (walks_of r) (pl.from + n)) (pool_reader r pool) (suc (first_left p g.tsz)) no_tables root.0))

      pub reports_end : reports r pool first n ≡ dirty_end (table_end (walks_of r) (pool_reader r pool) (first_left p g.tsz) root.0 (pl.from + n))
      unfolding reports
      reports_end = sym (hpd_dirty true (reached r pool (first + n))) ∙ ap dirty_end reached_end

      -- a page's leaf is whole among the pages asked for, counted within the range or not
      again_shift : (s : List ℕ) (q : End) → Under (suc (first_left p g.tsz)) q
          → set_again (asked r.ee r.pool.address.0 p pl.from count) (pl.from + n) s q ≡ set_again (asked_of r first count) (first + n) s q
      again_shift s (fault kind level) u = refl
      again_shift s (leaf a l) u =
          let w = pages_in p l.left in
          let m = range_multiple p g.tsz l.left (paged r.granule) (most pl.is_upper) (omega arith) in
          let k = 2 ^ (64 - g.tsz - p - stride_bits p * l.left) in
          let d : pl.above * range_pages p g.tsz ≡ pl.above * k * w = ap (λ (y : ℕ). pl.above * y) m ∙ sym (mul_assoc pl.above k w) in
          let f : pl.above * range_pages p g.tsz + pl.from ≡ first = sym pl.is in
          let x : pl.above * range_pages p g.tsz + (pl.from + n) ≡ first + n = omega (arith, pl.is) in
          let e1 : whole_in (pl.above * range_pages p g.tsz + pl.from) count w (pl.above * range_pages p g.tsz + (pl.from + n)) ≡ whole_in pl.from count w (pl.from + n) =
          whole_shift (pl.above * range_pages p g.tsz) pl.from count w (pl.from + n) (pl.above * k) (pages_pos p l.left) d in
          ap (λ (b : Bool). pick (dirty l.value && b) (put r.ee s (a - r.pool.address.0) (set_ap2 l.value)) s)
          (sym e1 ∙ ap (λ (y : ℕ). whole_in y count w (pl.above * range_pages p g.tsz + (pl.from + n))) f ∙ ap (whole_in first count w) x)

      pub cleaned_shift : (s : List ℕ)
          → cleaned_by (asked r.ee r.pool.address.0 p pl.from count) (table_end (walks_of r) (pool_reader r pool) (first_left p g.tsz) root.0) (pl.from + n) s
          ≡ cleaned_by (asked_of r first count) (reached r pool) (first + n) s
      unfolding cleaned_by
      cleaned_shift s =
          ap (set_again (asked r.ee r.pool.address.0 p pl.from count) (pl.from + n) s) (sym reached_end)
          ∙ again_untabled (asked r.ee r.pool.address.0 p pl.from count) (pl.from + n) s (reached r pool (first + n))
          ∙ again_shift s (reached r pool (first + n)) reached_low
