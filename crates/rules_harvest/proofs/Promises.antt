-- What an accepted harvest promises holds.
use Prim.Native.Nat.{ℕ, ◌+◌, ◌*◌, ◌-◌, ◌/◌, ◌<◌, ◌≤◌}
use mathlib.Core.Bool.{true}
use mathlib.Core.List.{List}
use mathlib.Core.Logic.{◌⊎◌, inl, inr}
use mathlib.Core.Path.{◌≡◌, refl, sym, ap, subst, ◌∙◌}
use native.Mathlib.Omega.{arith}
use lib.ListN.{length, get_or, drop}
use lib.Seq.{get_or-take, get_or-drop}
use Rattle.descriptor.specs.Bytes.{Bytes, desc}
use Rattle.descriptor.specs.Bits.{set_bit}
use Rattle.descriptor.proofs.Tests.{differ}
use Rattle.vmsa.specs.Fields.{set_ap2}
use Rattle.vmsa.specs.Granules.{page_bits_of}
use Rattle.vmsa.specs.declared.Regime.{Regime}
use Rattle.vmsa.specs.declared.Leaf.{Leaf}
use Rattle.std.specs.Prelude.{Ok}
use Rattle.lookup.specs.Trace.{End, fault, leaf}
use Rattle.lookup.proofs.Readers.{AlikeEnds, faults, leaves}
use Rattle.walk.specs.Walk.{pool_bytes}
use Rattle.walk.proofs.Parts.{desc_part}
use Rattle.bitmap.specs.Map.{map_bit, bytes_for}
use Rattle.bitmap.proofs.Laws.{split, mapped_bit, mapped_pad, mapped_rest}
use Rattle.gather.specs.Ends.{dirty, dirty_end, pages_in}
use Rattle.clean.specs.Clean.{Again}
use Rattle.clean.proofs.Laws.{set_clean, again_dirty}
use Rattle.harvest.specs.Harvest.{reached, reports, asked_of, clean_pool, harvest}
use Rattle.harvest.proofs.Laws.{outside}
use Rattle.rules_harvest.specs.Leaves.{PageLeaf, offset, SaysDirty, Dirty, AskedFor, Whole, SetAgain}
use Rattle.rules_harvest.specs.Harvest.{final_byte, HarvestPromises}
use Rattle.rules_harvest.proofs.Taken.{Taken, taken, pool_long, pool_small, pool_after, fits_after}
use Rattle.gather.proofs.Ends.{pages_pos}
use Rattle.rules_harvest.proofs.Whole.{says, said, whole_all, all_whole}
use Rattle.rules_harvest.proofs.Pool.{Sets, final_cleaned, leaf_set, byte_still, leaf_still}
use Rattle.rules_harvest.proofs.Reached.{leaf_stands, all_stand, reached_alike}

-- the leaf of a page, by the end of its walk
abbrev page_leaf : (r : Regime) (m : List ℕ) (page a : ℕ) (l : Leaf) → reached r (pool_bytes r.pool m) page ≡ leaf a l → PageLeaf r m page
page_leaf r m page a l e = record { address = a; value = l.value; left = l.left; tables = l.tables; reaches = e }

-- ---- dirty pages

dirty_page_lem : (r : Regime) (m : List ℕ) (page : ℕ) → dirty_end (reached r (pool_bytes r.pool m) page) ≡ true → Dirty r m page
dirty_page_lem r m page = by (reached r (pool_bytes r.pool m) page) refl
  where
    by : (e : End) → reached r (pool_bytes r.pool m) page ≡ e → dirty_end e ≡ true → Dirty r m page
    by (fault kind level) q h = differ (sym h)
    by (leaf a l) q h = (page_leaf r m page a l q, says l.value h)

page_dirty : (r : Regime) (m : List ℕ) (page : ℕ) → Dirty r m page → dirty_end (reached r (pool_bytes r.pool m) page) ≡ true
page_dirty r m page d = ap dirty_end d.0.reaches ∙ said d.0.value d.1

-- a bit of the map
bit_is : (r : Regime) (first count : ℕ) (m map : List ℕ) → (harvest r first count m map).reply ≡ Ok tt → (n : ℕ) → n < count
    → map_bit (harvest r first count m map).map n ≡ dirty_end (reached r (pool_bytes r.pool m) (first + n))
unfolding reports
bit_is r first count m map e n h =
    ap (λ (l : List ℕ). map_bit l n) (taken r first count m map e).map_is ∙ mapped_bit (reports r (pool_bytes r.pool m) first) count map n h

-- ---- the leaves that are set again

module _ (r : Regime) (first count : ℕ) (m map : List ℕ) (small : Bytes m) (t : Taken r first count m map) where
  abbrev pool : List ℕ
  pool = pool_bytes r.pool m

  abbrev base : ℕ
  base = r.pool.address.0

  abbrev after : List ℕ
  after = (harvest r first count m map).memory

  abbrev clean_pool_lem : List ℕ
  clean_pool_lem = clean_pool r first count pool

  -- a leaf that a page sets is one that is set again, and the other way
  set_leaf : (y a : ℕ) (l : Leaf) → first ≤ y → y < first + count → Sets (asked_of r first count) (reached r pool) y a l → SetAgain r first count m
  set_leaf y a l u v z = record {
    page = y;
    asked = (u, v);
    leaf = page_leaf r m y a l z.reaches;
    dirty = says l.value z.dirtied;
    whole = whole_all first count (pages_in (page_bits_of r) l.left) y (pages_pos (page_bits_of r) l.left) z.whole;
  }

  leaf_sets : (y : ℕ) (l : PageLeaf r m y) → SaysDirty l.value → Whole first count l
      → Sets (asked_of r first count) (reached r pool) y l.address (record { value = l.value; left = l.left; tables = l.tables })
  leaf_sets y l d w = record {
    reaches = l.reaches;
    dirtied = said l.value d;
    whole = all_whole first count (pages_in (page_bits_of r) l.left) y (pages_pos (page_bits_of r) l.left) w;
  }

  -- in the pool
  pool_set : (y : ℕ) (l : PageLeaf r m y) → AskedFor first count y → SaysDirty l.value → Whole first count l → desc r.ee clean_pool_lem (l.address - base) ≡ set_ap2 l.value
  unfolding clean_pool
  pool_set y l q d w =
      leaf_set (asked_of r first count) (reached r pool) pool (all_stand (length m) r t.settled first count pool) (pool_small r first count m map t small) first count y l.address
      (record { value = l.value; left = l.left; tables = l.tables }) q.0 q.1 (leaf_sets y l d w)

  -- in the memory
  memory_set : (l : SetAgain r first count m) → desc r.ee after (offset l.leaf) ≡ set_bit 7 l.leaf.value
  memory_set l =
      let at = l.leaf.address - base in
      let g = leaf_stands (length m) r t.settled pool l.page l.leaf.address _ l.leaf.reaches in
      let room : at + 8 ≤ r.pool.length = rw (pool_long r first count m map t) at g.fits in
      sym (desc_part r.ee after r.pool.start r.pool.length at (fits_after r first count m map t) room)
      ∙ ap (λ (x : List ℕ). desc r.ee x at) (pool_after r first count m map t)
      ∙ pool_set l.page l.leaf l.asked l.dirty l.whole

  -- ---- every other byte

  part_byte : (x : List ℕ) (j : ℕ) → j < r.pool.length → get_or (pool_bytes r.pool x) j 0 ≡ get_or x (r.pool.start + j) 0
  part_byte x j h = get_or-take r.pool.length (drop r.pool.start x) j 0 h ∙ get_or-drop r.pool.start x j 0

  module _ (i : ℕ) (apart : (l : SetAgain r first count m) → (i < offset l.leaf) ⊎ (offset l.leaf + 8 ≤ i)) where
    in_pool : r.pool.start ≤ i → i < r.pool.start + r.pool.length → get_or after i 0 ≡ get_or m i 0
    unfolding clean_pool set_leaf
    in_pool lo hi =
        let j = i - r.pool.start in
        let e : r.pool.start + j ≡ i = omega arith in
        let h : j < r.pool.length = omega arith in
        ap (λ (x : ℕ). get_or after x 0) (sym e) ∙ sym (part_byte after j h) ∙ ap (λ (x : List ℕ). get_or x j 0) (pool_after r first count m map t)
        ∙ byte_still (asked_of r first count) (reached r pool) pool (all_stand (length m) r t.settled first count pool) (pool_small r first count m map t small) first count j
        (λ y a l u v z. beside (a - base) (apart (set_leaf y a l u v z)))
        ∙ part_byte m j h ∙ ap (λ (x : ℕ). get_or m x 0) e
      where
        beside : (k : ℕ) → (i < r.pool.start + k) ⊎ (r.pool.start + k + 8 ≤ i) → (i - r.pool.start < k) ⊎ (k + 8 ≤ i - r.pool.start)
        beside k (inl h) = inl (omega arith)
        beside k (inr h) = inr (omega arith)

    memory_still : get_or after i 0 ≡ get_or m i 0
    memory_still =
        split i r.pool.start (λ h. outside r first count m map i (inl h))
        (λ lo. split i (r.pool.start + r.pool.length) (in_pool lo) (λ h. outside r first count m map i (inr h)))

  -- ---- the pages of a second harvest

  abbrev Unset : (page : ℕ) → PageLeaf r m page → Type 0
  Unset page l = (q : ℕ) → AskedFor first count q → (k : PageLeaf r m q) → k.address ≡ l.address → Whole first count k → ⊥

  -- leaves at one address have one value
  one_value : (x y : ℕ) (k : PageLeaf r m x) (l : PageLeaf r m y) → k.address ≡ l.address → k.value ≡ l.value
  one_value x y k l e =
      let f = leaf_stands (length m) r t.settled pool x k.address _ k.reaches in
      let g = leaf_stands (length m) r t.settled pool y l.address _ l.reaches in
      sym f.same ∙ ap (λ (a : ℕ). desc r.ee pool (a - base)) e ∙ g.same

  alike : (page : ℕ) → AlikeEnds Again (reached r pool page) (reached r clean_pool_lem page)
  unfolding clean_pool
  alike page =
      reached_alike (length m) r t.settled pool clean_pool_lem
      (final_cleaned (asked_of r first count) (reached r pool) pool (all_stand (length m) r t.settled first count pool) (pool_small r first count m map t small) first count) page

  -- a page that is dirty in the cleaned pool
  still_dirty : (page : ℕ) → dirty_end (reached r clean_pool_lem page) ≡ true → (l : PageLeaf r m page) × SaysDirty l.value × Unset page l
  still_dirty page = by (alike page) refl refl
    where
      by : {e f : End} → AlikeEnds Again e f → reached r pool page ≡ e → reached r clean_pool_lem page ≡ f → dirty_end f ≡ true → (l : PageLeaf r m page) × SaysDirty l.value × Unset page l
      by (faults kind level) p q h = differ (sym h)
      by (leaves a left sum {v = v} {w = w} k) p q h =
          let same : w ≡ v = again_dirty v w k h in
          let d : dirty v ≡ true = ap dirty (sym same) ∙ h in
          let l = page_leaf r m page a (record { value = v; left = left; tables = sum }) p in
          let now = (leaf_stands (length m) r t.settled clean_pool_lem page a _ q).same in (
            l,
            says v d,
            λ x asked k2 e whole.
                let value : k2.value ≡ v = one_value x page k2 l e in
                let set : desc r.ee clean_pool_lem (a - base) ≡ set_ap2 v =
                ap (λ (b : ℕ). desc r.ee clean_pool_lem (b - base)) (sym e) ∙ pool_set x k2 asked (subst SaysDirty (sym value) (says v d)) whole ∙ ap set_ap2 value in
                differ (sym h ∙ ap dirty (sym now ∙ set) ∙ set_clean v),
          )

  -- a leaf that no page sets stands as it did
  unset_leaf : (page : ℕ) (l : PageLeaf r m page) → Unset page l → desc r.ee clean_pool_lem (l.address - base) ≡ l.value
  unfolding clean_pool set_leaf
  unset_leaf page l none =
      let f = leaf_stands (length m) r t.settled pool page l.address _ l.reaches in
      leaf_still (asked_of r first count) (reached r pool) pool (all_stand (length m) r t.settled first count pool) (pool_small r first count m map t small) first count (l.address - base)
      f.aligned f.fits
      (λ y a x u v z e.
      let g = leaf_stands (length m) r t.settled pool y a x z.reaches in
      let s = set_leaf y a x u v z in
      none y (u, v) s.leaf (omega (arith, f.least, g.least)) s.whole)
      ∙ f.same

  dirty_still : (page : ℕ) → ((l : PageLeaf r m page) × SaysDirty l.value × Unset page l) → dirty_end (reached r clean_pool_lem page) ≡ true
  dirty_still page d = by (alike page) refl refl
    where
      by : {e f : End} → AlikeEnds Again e f → reached r pool page ≡ e → reached r clean_pool_lem page ≡ f → dirty_end (reached r clean_pool_lem page) ≡ true
      by (faults kind level) p q = differ (let z : leaf _ _ ≡ fault kind level = sym d.0.reaches ∙ p in cc)
      by (leaves a left sum {v = v} {w = w} k) p q =
          let e : leaf d.0.address (record { value = d.0.value; left = d.0.left; tables = d.0.tables }) ≡ leaf a (record { value = v; left = left; tables = sum }) = sym d.0.reaches ∙ p in
          let ea : d.0.address ≡ a = cc in
          let now = (leaf_stands (length m) r t.settled clean_pool_lem page a _ q).same in
          let same : w ≡ d.0.value = sym now ∙ ap (λ (b : ℕ). desc r.ee clean_pool_lem (b - base)) (sym ea) ∙ unset_leaf page d.0 d.2 in
          ap dirty_end q ∙ ap dirty same ∙ said d.0.value d.1

-- ---- the final byte of the map, and those after it

final_bits : (count n : ℕ) → 0 < count → n / 8 ≡ final_byte count → n < 8 * bytes_for count
final_bits count n z e = let h : n / 8 ≡ (count - 1) / 8 = e in let s : n < 8 * ((count + 7) / 8) = omega arith in s

later_bytes : (count j : ℕ) → final_byte count < j → bytes_for count ≤ j
later_bytes count j h = let k : (count - 1) / 8 < j = h in let s : (count + 7) / 8 ≤ j = omega arith in s

-- ---- all of it

pub harvest_promises : HarvestPromises
harvest_promises r first count m map small e =
    let t = taken r first count m map e in
    let f = reports r (pool_bytes r.pool m) first in
    record {
      reports = λ n h.
          (λ b. dirty_page_lem r m (first + n) (sym (bit_is r first count m map e n h) ∙ b), λ d. bit_is r first count m map e n h ∙ page_dirty r m (first + n) d);
      spare = λ n lo hi. rw t.map_is (mapped_pad f count map n lo (final_bits count n t.some hi));
      later = λ j h. rw t.map_is (mapped_rest f count map j (later_bytes count j h));
      set = memory_set r first count m map small t;
      still = memory_still r first count m map small t;
      again = λ other a n h.
          let b = bit_is r first count (harvest r first count m map).memory other a n h ∙ ap (λ (x : List ℕ). dirty_end (reached r x (first + n))) (pool_after r first count m map t) in
          (λ c. still_dirty r first count m map small t (first + n) (sym b ∙ c), λ d. b ∙ dirty_still r first count m map small t (first + n) d);
    }
