-- What a search notes: range after range, of one entry by what stands there, and over a cleared map.
use Prim.Native.Nat.{ℕ, ◌+◌, ◌*◌, ◌-◌, ◌<◌, ◌≤◌}
use mathlib.Core.Bool.{Bool, true, false, ◌&&◌, ◌||◌}
use Rattle.std.proofs.Math.Bool.{and-false, and-true, and-or_distrib_right}
use mathlib.Core.List.{List}
use mathlib.Core.Path.{◌≡◌, refl, sym, ap, ◌∙◌}
use native.Mathlib.Omega.{arith}
use lib.Dec.{eqb}
use borrow.Author.Tests.{le-leb, lt-leb}
use lib.ListN.{length}
use Rattle.descriptor.specs.Bytes.{Bytes, desc}
use Rattle.descriptor.proofs.Tests.{ltb_same}
use Rattle.vmsa.specs.declared.PhysAddr.{PhysAddr}
use Rattle.vmsa.specs.declared.FaultKind.{FaultKind}
use Rattle.std.specs.Prelude.{Option, Some, None}
use Rattle.lookup.specs.declared.Next.TheVariants as next
use Rattle.lookup.specs.Trace.{End}
use Rattle.lookup.specs.Steps.{decoded, fetched}
use Rattle.bitmap.specs.Map.{bytes_for, mapped, cleared, Raises, between}
use Rattle.bitmap.proofs.Laws.{split, between_in, between_before, between_after, between_none, between_join, between_one, raises_none, raises_same, raises_then, cleared_raised}
use Rattle.gather.specs.Ends.{dirty, dirty_end, leaf_dirty, pages_in, Walks, walks, entry_for, table_end, entry_end, noted, OneEntry, OneRun}
use Rattle.gather.proofs.Ends.{one_page, fetched_at, table_entry, run_entry, end_abort, end_fault_lem, end_leaf, end_table, end_dirty}

-- ---- tests of a page

-- outside the range the other test has no say
range_ext : (lo hi x : ℕ) (d e : Bool) → (lo ≤ x → x < hi → d ≡ e) → (between lo hi x && d) ≡ (between lo hi x && e)
range_ext lo hi x d e h =
    split x lo (λ b. rw (between_before lo hi x b)) (λ b. split x hi (λ c. ap (λ (t : Bool). between lo hi x && t) (h b c)) (λ c. rw (between_after lo hi x c)))

-- the range of bits of a range of pages
range_bits : (from lo hi i : ℕ) → between lo hi (from + i) ≡ between (lo - from) (hi - from) i
range_bits from lo hi i =
    split (from + i) lo (λ l. rw (lt-leb lo (from + i) l, lt-leb (lo - from) i (let q : i < lo - from = omega arith in q)))
    (λ l. rw (le-leb lo (from + i) l, le-leb (lo - from) i (let q : lo - from ≤ i = omega arith in q), ltb_same (from + i) hi i (hi - from) (λ p. omega arith) (λ p. omega arith)))

-- ---- what a search of a range notes

module _ (ends : ℕ → End) (from : ℕ) where
  -- no pages
  pub noted_none : (lo : ℕ) (m : List ℕ) → Raises (noted ends from lo lo) m m
  noted_none lo m = raises_none (noted ends from lo lo) m (λ i. rw (between_none lo lo (from + i) (omega arith)))

  -- one range after the other
  pub noted_join : (lo mid hi : ℕ) {a b c : List ℕ} → lo ≤ mid → mid ≤ hi → Raises (noted ends from lo mid) a b → Raises (noted ends from mid hi) b c → Raises (noted ends from lo hi) a c
  noted_join lo mid hi {a} {b} {c} p q r s =
      raises_same (λ i. noted ends from lo mid i || noted ends from mid hi i) (noted ends from lo hi) a c
      (λ i. sym (and-or_distrib_right (between lo mid (from + i)) (between mid hi (from + i)) (dirty_end (ends (from + i)))) ∙ ap (λ (t : Bool). t && dirty_end (ends (from + i))) (between_join lo mid hi (from + i) p q))
      (raises_then (noted ends from lo mid) (noted ends from mid hi) a b c r s)

  -- pages of which the same are dirty
  pub noted_alike : (other : ℕ → End) (lo hi : ℕ) {a b : List ℕ} → ((x : ℕ) → lo ≤ x → x < hi → dirty_end (other x) ≡ dirty_end (ends x)) → Raises (noted other from lo hi) a b
      → Raises (noted ends from lo hi) a b
  noted_alike other lo hi {a} {b} h r =
      raises_same (noted other from lo hi) (noted ends from lo hi) a b (λ i. range_ext lo hi (from + i) (dirty_end (other (from + i))) (dirty_end (ends (from + i))) (h (from + i))) r

  -- pages that end alike
  pub noted_same : (other : ℕ → End) (lo hi : ℕ) {a b : List ℕ} → ((x : ℕ) → lo ≤ x → x < hi → other x ≡ ends x) → Raises (noted other from lo hi) a b → Raises (noted ends from lo hi) a b
  noted_same other lo hi h r = noted_alike other lo hi (λ x p q. ap dirty_end (h x p q)) r

  -- no page is dirty, and every page is
  pub noted_clean : (lo hi : ℕ) (m : List ℕ) → ((x : ℕ) → lo ≤ x → x < hi → dirty_end (ends x) ≡ false) → Raises (noted ends from lo hi) m m
  noted_clean lo hi m h =
      raises_none (noted ends from lo hi) m (λ i. range_ext lo hi (from + i) (dirty_end (ends (from + i))) false (h (from + i)) ∙ and-false (between lo hi (from + i)))

  pub noted_dirty : (lo hi : ℕ) {a b : List ℕ} → ((x : ℕ) → lo ≤ x → x < hi → dirty_end (ends x) ≡ true) → Raises (between (lo - from) (hi - from)) a b → Raises (noted ends from lo hi) a b
  noted_dirty lo hi {a} {b} h r =
      raises_same (between (lo - from) (hi - from)) (noted ends from lo hi) a b
      (λ i. sym (range_ext lo hi (from + i) (dirty_end (ends (from + i))) true (h (from + i)) ∙ and-true (between lo hi (from + i)) ∙ range_bits from lo hi i)) r

-- ---- from a table on, by way of one entry

module _ (k : Walks) (read : ℕ → Option ℕ) (left : ℕ) (from : ℕ) where
  pub noted_entry : (table a lo hi : ℕ) {m n : List ℕ} → a ≡ entry_for k.page left table lo → OneEntry (pages_in k.page left) lo hi
      → Raises (noted (entry_end k read left a) from lo hi) m n → Raises (noted (table_end k read left table) from lo hi) m n
  noted_entry table a lo hi e one r =
      noted_same (table_end k read left table) from (entry_end k read left a) lo hi
      (λ x p q. ap (λ (i : ℕ). entry_end k read left i x) e ∙ sym (table_entry k read left table lo hi one x p q)) r

  pub noted_page : (table a x : ℕ) {m n : List ℕ} → a ≡ entry_for k.page left table x
      → Raises (noted (entry_end k read left a) from x (x + 1)) m n → Raises (noted (table_end k read left table) from x (x + 1)) m n
  noted_page table a x e r = noted_entry table a x (x + 1) e (one_page (pages_in k.page left) x) r

  -- ---- from an entry on, by what stands there

  module _ (a lo hi : ℕ) where
    pub noted_abort : (m : List ℕ) → read a ≡ None → Raises (noted (entry_end k read left a) from lo hi) m m
    noted_abort m e = noted_clean (entry_end k read left a) from lo hi m (λ x p q. ap dirty_end (end_abort k read left a x e))

    module _ (v : ℕ) (e : read a ≡ Some v) where
      pub noted_fault : (kind : FaultKind) (m : List ℕ) → decoded k.page k.limit.0 left v ≡ next.Fault kind → Raises (noted (entry_end k read left a) from lo hi) m m
      noted_fault kind m d = noted_clean (entry_end k read left a) from lo hi m (λ x p q. ap dirty_end (end_fault_lem k read left a x v kind e d))

      pub noted_table : (table : PhysAddr) {m n : List ℕ} → decoded k.page k.limit.0 left v ≡ next.Table table → 0 < left
          → Raises (noted (table_end k read (left - 1) table.0) from lo hi) m n → Raises (noted (entry_end k read left a) from lo hi) m n
      noted_table table d h r =
          noted_same (entry_end k read left a) from (table_end k read (left - 1) table.0) lo hi (λ x p q. sym (end_table k read left a x v table e d h)) r

      pub noted_leaf_clean : (m : List ℕ) → decoded k.page k.limit.0 left v ≡ next.Leaf → dirty v ≡ false → Raises (noted (entry_end k read left a) from lo hi) m m
      noted_leaf_clean m d c = noted_clean (entry_end k read left a) from lo hi m (λ x p q. ap dirty_end (end_leaf k read left a x v e d) ∙ c)

      pub noted_leaf_dirty : {m n : List ℕ} → decoded k.page k.limit.0 left v ≡ next.Leaf → dirty v ≡ true → Raises (between (lo - from) (hi - from)) m n
          → Raises (noted (entry_end k read left a) from lo hi) m n
      noted_leaf_dirty d c r = noted_dirty (entry_end k read left a) from lo hi (λ x p q. ap dirty_end (end_leaf k read left a x v e d) ∙ c) r

-- ---- an entry of the last level, whose one page is x

module _ (k : Walks) (read : ℕ → Option ℕ) (from a x v : ℕ) (e : read a ≡ Some v) where
  -- by what its descriptor says
  pub noted_value : {m n : List ℕ} → from ≤ x → Raises (λ i. eqb i (x - from) && leaf_dirty v (decoded k.page k.limit.0 0 v)) m n → Raises (noted (entry_end k read 0 a) from x (x + 1)) m n
  noted_value {m} {n} h r =
      let s : x + 1 - from ≡ x - from + 1 = omega arith in
      raises_same (λ i. eqb i (x - from) && leaf_dirty v (decoded k.page k.limit.0 0 v)) (noted (entry_end k read 0 a) from x (x + 1)) m n
      (λ i.
      ap (λ (t : Bool). t && leaf_dirty v (decoded k.page k.limit.0 0 v)) (sym (range_bits from x (x + 1) i ∙ ap (λ (hi : ℕ). between (x - from) hi i) s ∙ between_one (x - from) i))
      ∙ ap (λ (d : Bool). between x (x + 1) (from + i) && d) (sym (end_dirty k read 0 a (from + i) v e refl))) r

-- ---- entries of the last level that lie one after another

-- page x of a run, its descriptor at an offset of the pool
pub noted_run : (base limit : PhysAddr) (page : ℕ) (ee : Bool) (pool : List ℕ) (table lo hi from : ℕ) → OneRun page table base.0 (length pool) lo hi → (x at v : ℕ) → lo ≤ x → x < hi
    → at ≡ entry_for page 0 table lo - base.0 + 8 * (x - lo) → v ≡ desc ee pool at → from ≤ x → {m n : List ℕ}
    → Raises (λ i. eqb i (x - from) && leaf_dirty v (decoded page limit.0 0 v)) m n
    → Raises (noted (table_end (walks base limit page) (fetched ee pool base.0) 0 table) from x (x + 1)) m n
noted_run base limit page ee pool table lo hi from one x at v p q e is h r =
    let k = walks base limit page in
    let read = fetched ee pool base.0 in
    let a = entry_for page 0 table x in
    let goes = run_entry page table base.0 (length pool) lo hi one x p q in
    let s : a - base.0 ≡ at = omega (arith, goes, e) in
    let there = fetched_at ee pool base.0 a (omega (arith, goes, one.least)) (omega (arith, goes, one.most)) in
    noted_page k read 0 from table a x refl (noted_value k read from a x v (there ∙ ap (λ (i : ℕ). Some (desc ee pool i)) s ∙ ap Some (sym is)) h r)

-- ---- a whole search over cleared bytes

-- where the search began at bit 0 of a map whose first bytes were cleared, it leaves the map of the pages that end dirty
pub noted_mapped : (ends : ℕ → End) (f : ℕ → Bool) (from n : ℕ) (m after : List ℕ) → bytes_for n ≤ length m → Bytes m
    → Raises (noted ends from from (from + n)) (cleared (bytes_for n) m) after → ((i : ℕ) → i < n → dirty_end (ends (from + i)) ≡ f i) → after ≡ mapped f n m
noted_mapped ends f from n m after fits b r h =
    cleared_raised f (noted ends from from (from + n)) n m after fits b r
    (λ i l. rw (between_in from (from + n) (from + i) (omega arith) (omega arith)) (h i l)) (λ i l. rw (between_after from (from + n) (from + i) (omega arith)))
