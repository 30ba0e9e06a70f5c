-- What the search and the cleaning leave is the harvest of the pool.
use Prim.Native.Nat.{ℕ, zero, suc, ◌+◌, ◌*◌, ◌-◌, ◌/◌, ◌^◌, ◌<◌, ◌≤◌}
use mathlib.Core.Bool.{Bool, true, false}
use mathlib.Core.List.{List, ◌++◌}
use mathlib.Core.Path.{◌≡◌, refl, sym, ap, subst, ◌∙◌}
use native.Mathlib.Nat.{add-zero, add-sub_cancel_left}
use native.Mathlib.Omega.{arith}
use lib.ListN.{length, take, drop}
use lib.Pow.{shl-shr}
use Rattle.descriptor.specs.Bytes.{Bytes}
use Rattle.vmsa.specs.Limits.{Sized}
use Rattle.vmsa.specs.Granules.{page_bits_of}
use Rattle.geometry.specs.Geometry.{page_size, first_left, output_bits, output_limit}
use Rattle.geometry.proofs.Geometry.{paged, least_output, most_output}
use Rattle.descriptor.specs.Bits.{pick}
use Rattle.vmsa.specs.declared.Regime.{Regime}
use Rattle.vmsa.specs.declared.Range.{Range}
use Rattle.vmsa.specs.declared.PhysAddr.{PhysAddr}
use Rattle.vmsa.specs.declared.FaultKind.{FaultKind}
use Rattle.vmsa.specs.declared.FaultKind.TheVariants.{Translation, AddressSize}
use Rattle.descriptor.proofs.Tests.{clash}
use Rattle.std.specs.Prelude.{Err, Ok}
use Rattle.lookup.specs.declared.Context.{Context}
use Rattle.lookup.specs.Trace.{End, fault}
use Rattle.lookup.specs.Steps.{fetched, pool_reader, range_of, context_of, no_range, root_beyond, first_table}
use Rattle.checks.specs.Order.{regime_check, asked_check, harvest_check}
use Rattle.checks.proofs.Accept.{settled, asked_accepted, harvest_accepted}
use Rattle.walk.proofs.Parts.{put_back}
use Rattle.bitmap.specs.Map.{bytes_for, mapped, cleared, Raises}
use Rattle.bitmap.proofs.Laws.{cleared_mapped}
use Rattle.gather.specs.Ends.{dirty_end, walks, table_end, noted, Limited}
use Rattle.gather.proofs.Notes.{noted_mapped}
use Rattle.clean.specs.Clean.{pages, asked, set_again, cleaned_by, Cleans}
use Rattle.clean.proofs.Laws.{pages_still, cleaned_refl}
use Rattle.harvest.specs.Harvest.{reached, reports, asked_of, clean_pool, harvested, harvest}
use Rattle.harvest.proofs.Place.{Placed, range_small}
use Rattle.harvest.proofs.Link.{range_for, walks_of, first_in, range_at, first_at, address_fits, context_at_lem, reached_fault, reports_end, cleaned_shift}

pub sized_of : (n : ℕ) (r : Regime) → regime_check n r ≡ Ok tt → Sized r
sized_of n r e = (settled n r e).sized

pub room_of : (r : Regime) (first count bytes : ℕ) → asked_check r first count bytes ≡ Ok tt → bytes_for count ≤ bytes
room_of r first count bytes e = (asked_accepted r first count bytes e).1

pub most_of : (r : Regime) (first count bytes : ℕ) → asked_check r first count bytes ≡ Ok tt → count ≤ 65536
most_of r first count bytes e = (asked_accepted r first count bytes e).0.most

size_back : (p x : ℕ) → x * page_size p / page_size p ≡ x
unfolding page_size
size_back p x = shl-shr x p

-- the output addresses end at 2 to the output size
pub limited : (r : Regime) (a : ℕ) (c : Context) → c ≡ context_of r a → Limited c.limit.0
unfolding context_of output_limit
limited r a c e =
    subst (λ (k : Context). Limited k.limit.0) (sym e)
    (record { bits = output_bits r.output; least = least_output r.output; most = most_output r.output; is = refl })

-- the first table stands at the root of the range
pub table_root : (r : Regime) (a : ℕ) (root : PhysAddr) → first_table r a ≡ Ok root → (range_of r a).root ≡ root
unfolding first_table
table_root r a root e = by (no_range r a) (root_beyond r a) e
  where
    by : (off beyond : Bool) → pick off (Err Translation) (pick beyond (Err AddressSize) (Ok (range_of r a).root)) ≡ Ok root → (range_of r a).root ≡ root
    by true beyond q = clash (cc)
    by false true q = clash (cc)
    by false false q = cc

-- pages counted from another place
pages_shift : {S : Type 0} (f h : ℕ → S → S) (n x y : ℕ) (s : S) → ((i : ℕ) (t : S) → i < n → f (x + i) t ≡ h (y + i) t) → pages f x n s ≡ pages h y n s
unfolding pages
pages_shift f h zero x y s e = refl
pages_shift f h (suc n) x y s e =
    pages_shift f h n (suc x) (suc y) (f x s) (λ i t l. by i t l)
    ∙ ap (pages h (suc y) n) (ap (λ (j : ℕ). f j s) (sym (add-zero x)) ∙ e 0 s (omega arith) ∙ ap (λ (j : ℕ). h j s) (add-zero y))
  where
    by : (i : ℕ) (t : _) → i < n → f (suc x + i) t ≡ h (suc y + i) t
    by i t l =
        let a : suc x + i ≡ x + suc i = omega arith in
        let b : suc y + i ≡ y + suc i = omega arith in
        ap (λ (j : ℕ). f j t) a ∙ e (suc i) t (omega arith) ∙ sym (ap (λ (j : ℕ). h j t) b)

module _ (r : Regime) (first count : ℕ) (z : Sized r) (pl : Placed r first count) (some : 0 < count) where
  abbrev p : ℕ
  p = page_bits_of r

  abbrev a : ℕ
  a = first * page_size p

  at_first : (first + 0) * page_size p ≡ a
  at_first = ap (λ (y : ℕ). y * page_size p) (add-zero first)

  pub range_first : range_of r a ≡ range_for r pl
  range_first = ap (range_of r) (sym at_first) ∙ range_at r first count z pl 0 some

  table_first : first_table r a ≡ first_in r (range_for r pl)
  table_first = ap (first_table r) (sym at_first) ∙ first_at r first count z pl 0 some

  pub fits_first : a < 2 ^ 64
  fits_first = subst (λ (y : ℕ). y < 2 ^ 64) at_first (address_fits r first count z pl 0 some)

  pub from_first_lem : (context_of r a).input.0 / page_size (context_of r a).page ≡ pl.from
  from_first_lem =
      ap (λ (y : ℕ). (context_of r y).input.0 / page_size (context_of r y).page) (sym at_first)
      ∙ ap (λ (x : Context). x.input.0 / page_size x.page) (context_at_lem r first count z pl 0 some) ∙ ap (λ (x : ℕ). x * page_size p / page_size p) (add-zero pl.from) ∙ multiple pl.from
    where
      multiple : (x : ℕ) → x * page_size (page_bits_of r) / page_size (page_bits_of r) ≡ x
      multiple x = size_back (page_bits_of r) x

  -- from the page of the context's input on, all pages are among those of the largest range
  from_small : (context_of r a).input.0 / page_size (context_of r a).page + count ≤ 2 ^ 36
  from_small =
      let s = range_small p (range_for r pl).tsz (paged r.granule) (least pl.is_upper) (most pl.is_upper) in
      rw from_first_lem (omega (arith, pl.fits))
    where
      least : (b : Bool) → 16 ≤ (pick b r.range1 r.range0).tsz
      least true = z.least1
      least false = z.least0

      most : (b : Bool) → (pick b r.range1 r.range0).tsz ≤ 39
      most true = z.most1
      most false = z.most0

  -- the same by what the code has: its first address, the context there, and a page's size
  pub from_fits : (y : ℕ) (c : Context) (w : ℕ) → y ≡ a → c ≡ context_of r y → w ≡ page_size c.page → c.input.0 / w + count ≤ 2 ^ 36
  from_fits y c w e k f = rw (f, k, e) from_small

  -- no first table: no page reaches a leaf
  module _ (kind : FaultKind) (e : first_table r a ≡ Err kind) (pool : List ℕ) where
    none : (n : ℕ) → n < count → reached r pool (first + n) ≡ fault kind 0
    none n h = reached_fault r first count z pl pool n h kind (sym table_first ∙ e)

    pub fault_map : (map : List ℕ) → cleared (bytes_for count) map ≡ mapped (reports r pool first) count map
    unfolding reports
    fault_map map = cleared_mapped (reports r pool first) count map (λ i h. ap dirty_end (none i h))

    pub fault_pool : pool ≡ clean_pool r first count pool
    unfolding clean_pool cleaned_by
    fault_pool = sym (pages_still (cleaned_by (asked_of r first count) (reached r pool)) count first pool (λ y l h. still y l h))
      where
        still : (y : ℕ) → first ≤ y → y < first + count → set_again (asked_of r first count) y pool (reached r pool y) ≡ pool
        still y l h =
            let q : first + (y - first) ≡ y = omega arith in
            ap (set_again (asked_of r first count) y pool) (ap (reached r pool) (sym q) ∙ none (y - first) (omega arith))

  -- from the first table on, by what the code has of the walks
  module _ (root : PhysAddr) (e : first_table r a ≡ Ok root) (pool : List ℕ) (c : Context) (k : c ≡ context_of r a) (left from : ℕ)
      (el : left ≡ first_left c.page (range_of r a).tsz) (ef : from ≡ c.input.0 / page_size c.page) where
    abbrev go : first_in r (range_for r pl) ≡ Ok root
    go = sym table_first ∙ e

    from_is : from ≡ pl.from
    from_is = ef ∙ ap (λ (x : Context). x.input.0 / page_size x.page) k ∙ from_first_lem

    left_is : left ≡ first_left p (range_for r pl).tsz
    unfolding context_of
    left_is = el ∙ ap (λ (x : Context). first_left x.page (range_of r a).tsz) k ∙ ap (λ (x : Range). first_left p x.tsz) range_first

    -- the ends of the code's search are those of the definition
    ends_are : (q : List ℕ) → table_end (walks c.base c.limit c.page) (fetched r.ee q c.base.0) left root.0 ≡ table_end (walks_of r) (pool_reader r q) (first_left p (range_for r pl).tsz) root.0
    unfolding context_of
    ends_are q =
        ap (λ (x : Context). table_end (walks x.base x.limit x.page) (fetched r.ee q x.base.0) left root.0) k
        ∙ ap (λ (l : ℕ). table_end (walks_of r) (pool_reader r q) l root.0) left_is

    asked_is : asked r.ee c.base.0 c.page from (from + count - from) ≡ asked r.ee r.pool.address.0 p pl.from count
    unfolding context_of
    asked_is =
        ap (λ (x : Context). asked r.ee x.base.0 x.page from (from + count - from)) k
        ∙ ap (λ (n : ℕ). asked r.ee r.pool.address.0 p from n) (add-sub_cancel_left from count)
        ∙ ap (λ (x : ℕ). asked r.ee r.pool.address.0 p x count) from_is

    pub table_map : (map before after : List ℕ) → bytes_for count ≤ length map → Bytes map → before ≡ cleared (bytes_for count) map
        → Raises (noted (table_end (walks c.base c.limit c.page) (fetched r.ee pool c.base.0) left root.0) from from (from + count)) before after
        → after ≡ mapped (reports r pool first) count map
    table_map map before after room b q h =
        noted_mapped (table_end (walks c.base c.limit c.page) (fetched r.ee pool c.base.0) left root.0) (reports r pool first) from count map after room b
        (subst (λ (m : List ℕ). Raises (noted (table_end (walks c.base c.limit c.page) (fetched r.ee pool c.base.0) left root.0) from from (from + count)) m after) q h)
        (λ i l.
        ap (λ (f : ℕ → End). dirty_end (f (from + i))) (ends_are pool)
        ∙ ap (λ (x : ℕ). dirty_end (table_end (walks_of r) (pool_reader r pool) (first_left p (range_for r pl).tsz) root.0 (x + i))) from_is
        ∙ sym (reports_end r first count z pl pool i l root go))

    pub table_pool : (after : List ℕ) → Bytes pool
        → Cleans (asked r.ee c.base.0 c.page from (from + count - from)) (λ q. table_end (walks c.base c.limit c.page) (fetched r.ee q c.base.0) left root.0) from (from + count) pool after
        → after ≡ clean_pool r first count pool
    unfolding clean_pool
    table_pool after b h =
        h.leaves pool (cleaned_refl r.ee pool b)
        ∙ ap (λ (n : ℕ). pages (cleaned_by (asked r.ee c.base.0 c.page from (from + count - from)) (table_end (walks c.base c.limit c.page) (fetched r.ee pool c.base.0) left root.0)) from n pool) (add-sub_cancel_left from count)
        ∙ ap (λ (k' : _). pages (cleaned_by k' (table_end (walks c.base c.limit c.page) (fetched r.ee pool c.base.0) left root.0)) from count pool) asked_is
        ∙ ap (λ (f : ℕ → End). pages (cleaned_by (asked r.ee r.pool.address.0 p pl.from count) f) from count pool) (ends_are pool)
        ∙ ap (λ (x : ℕ). pages (cleaned_by (asked r.ee r.pool.address.0 p pl.from count) (table_end (walks_of r) (pool_reader r pool) (first_left p (range_for r pl).tsz) root.0)) x count pool) from_is
        ∙ pages_shift _ _ count pl.from first pool (λ i t l. cleaned_shift r first count z pl pool i l root go t)

-- ---- in the memory, the pool being a part of it

pub memory_harvest : (r : Regime) (first count : ℕ) (m map : List ℕ) → harvest_check (length m) r first count (length map) ≡ Ok tt → (x filled : List ℕ) (k : ℕ) → k ≡ r.pool.length
    → filled ≡ mapped (reports r (take k (drop r.pool.start m)) first) count map → x ≡ clean_pool r first count (take k (drop r.pool.start m))
    → harvested (Ok tt) (take r.pool.start m ++ (x ++ drop k (drop r.pool.start m))) filled ≡ harvest r first count m map
unfolding harvest
memory_harvest r first count m map e x filled k q f g =
    let s = r.pool.start in
    rw (e, f, g, q) (ap (λ (l : List ℕ). harvested (Ok tt) l (mapped (reports r (take r.pool.length (drop s m)) first) count map)) (put_back m (clean_pool r first count (take r.pool.length (drop s m))) s r.pool.length))

-- what an accepted harvest goes by
pub record Ready (n : ℕ) (r : Regime) (first count bits : ℕ) : Type 0 where
  pub fits : r.pool.start + r.pool.length ≤ n
  pub regime : regime_check n r ≡ Ok tt
  pub asked : asked_check r first count bits ≡ Ok tt

pub ready : (n : ℕ) (r : Regime) (first count bits : ℕ) → harvest_check n r first count bits ≡ Ok tt → Ready n r first count bits
ready n r first count bits e =
    let h = harvest_accepted n r first count bits e in
    record { fits = (settled n r h.0).pool.fits; regime = h.0; asked = h.1 }
