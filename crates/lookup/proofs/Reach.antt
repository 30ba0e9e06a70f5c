-- Facts of any lookup, over any reader: how many descriptors it visits, and what holds of a leaf that it reaches.
use Prim.Native.Nat.{ℕ, zero, suc, ◌+◌, ◌-◌, ◌%◌, ◌≤◌, ◌<◌, zero-le, suc-le-suc}
use mathlib.Core.Bool.{Bool, true, false, ◌&&◌, ◌||◌}
use mathlib.Core.List.{List, ◌∷◌}
use mathlib.Core.Path.{◌≡◌, refl, subst}
use native.Mathlib.Nat.{zero-add}
use native.Mathlib.Omega.{arith}
use lib.Dec.{leb, lit≤, lit<}
use lib.ListN.{length}
use borrow.Author.Tests.{leb-true}
use Rattle.std.specs.Prelude.{Option, Some, None}
use Rattle.descriptor.specs.Bytes.{desc}
use Rattle.descriptor.specs.Bits.{pick}
use Rattle.descriptor.proofs.Tests.{clash, and_true, pick_both}
use Rattle.vmsa.specs.Limits.{tsz_least, Sized}
use Rattle.vmsa.specs.Fields.{sum_count, no_tables, with_table}
use Rattle.vmsa.proofs.Tables.{sum_below}
use Rattle.vmsa.specs.declared.Leaf.{Leaf}
use Rattle.vmsa.specs.Granules.{page_bits_of, Paged}
use Rattle.geometry.specs.Geometry.{level_of, first_left, output_limit}
use Rattle.geometry.proofs.Geometry.{paged, first_le}
use Rattle.vmsa.specs.declared.Regime.{Regime}
use Rattle.vmsa.specs.declared.PhysAddr.{PhysAddr}
use Rattle.vmsa.specs.declared.FaultKind.{FaultKind}
use Rattle.vmsa.specs.declared.FaultKind.TheVariants.{ExternalAbort, Translation, AddressSize}
use Rattle.lookup.specs.declared.Next.{Next}
use Rattle.lookup.specs.declared.Next.TheVariants as next
use Rattle.lookup.specs.declared.Context.{Context}
use Rattle.lookup.specs.Trace.{End, fault, leaf, Trace, ended, end_under_hpd}
use Rattle.lookup.specs.Steps.{decoded, fetched, onward, on_word, followed, entry_at, entered, descend, upper, range_of, outside, context_of, left_at_first, lookup, locate}
use Rattle.lookup.specs.Packing.{end_level, Backed}
use Rattle.lookup.proofs.Decoding.{is_table_lem, aligned8}

-- ---- the length of the visited list

visited_onward : (n : ℕ) (below : ℕ → ℕ → Trace) (sum left a v : ℕ) → ((s t : ℕ) → length (below s t).visited ≤ n) → (x : Next) → length (onward below sum left a v x).visited ≤ n
visited_onward n below sum left a v h (next.Fault kind) = zero-le
visited_onward n below sum left a v h (next.Table table) = h (with_table sum v) table.0
visited_onward n below sum left a v h next.Leaf = zero-le

visited_word : (n : ℕ) (z : Trace) (f : ℕ → Trace) → length z.visited ≤ n → ((v : ℕ) → length (f v).visited ≤ n) → (w : Option ℕ) → length (on_word z f w).visited ≤ n
visited_word n z f hz hf (Some v) = hf v
visited_word n z f hz hf None = hz

pub descend_visited : (c : Context) (read : ℕ → Option ℕ) (n s t : ℕ) → length (descend c read n s t).visited ≤ n
unfolding descend entered followed
descend_visited c read zero s t = zero-le
descend_visited c read (suc n) s t =
    suc-le-suc
    (visited_word n (ended (fault ExternalAbort (level_of n))) (followed c (descend c read n) s n (entry_at c n t)) zero-le
    (λ v. visited_onward n (descend c read n) s n (entry_at c n t) v (descend_visited c read n) (decoded c.page c.limit.0 n v)) (read (entry_at c n t)))

-- one descriptor is visited at each level: k of them from level 3 - n on, up to the level of the end
Counts : ℕ → Trace → Type 0
Counts n t = length t.visited + level_of n ≡ end_level t.end

counts_onward : (below : ℕ → ℕ → Trace) (sum left a v : ℕ) → ((s t : ℕ) → Counts left (below s t)) → (x : Next) → Counts left (onward below sum left a v x)
unfolding Counts
counts_onward below sum left a v h (next.Fault kind) = zero-add (level_of left)
counts_onward below sum left a v h (next.Table table) = h (with_table sum v) table.0
counts_onward below sum left a v h next.Leaf = zero-add (level_of left)

counts_word : (n : ℕ) (z : Trace) (f : ℕ → Trace) → Counts n z → ((v : ℕ) → Counts n (f v)) → (w : Option ℕ) → Counts n (on_word z f w)
counts_word n z f hz hf (Some v) = hf v
counts_word n z f hz hf None = hz

-- what follows the read of a level
read_counts : (c : Context) (read : ℕ → Option ℕ) (below : ℕ → ℕ → Trace) (n s t : ℕ) → ((x u : ℕ) → Counts n (below x u))
    → Counts n (on_word (ended (fault ExternalAbort (level_of n))) (followed c below s n (entry_at c n t)) (read (entry_at c n t)))
unfolding Counts followed
read_counts c read below n s t h =
    counts_word n (ended (fault ExternalAbort (level_of n))) (followed c below s n (entry_at c n t)) (zero-add (level_of n))
    (λ v. counts_onward below s n (entry_at c n t) v h (decoded c.page c.limit.0 n v)) (read (entry_at c n t))

descend_counts : (c : Context) (read : ℕ → Option ℕ) (n s t : ℕ) → n ≤ 3 → Counts n (descend c read n s t)
unfolding Counts descend entered level_of
descend_counts c read zero s t h = omega arith
descend_counts c read (suc n) s t h = let k = read_counts c read (descend c read n) n s t (λ x u. descend_counts c read n x u (omega arith)) in omega arith

pub descend_reads : (c : Context) (read : ℕ → Option ℕ) (n s t : ℕ) → n ≤ 3 → length (descend c read (suc n) s t).visited + level_of n ≡ suc (end_level (descend c read (suc n) s t).end)
unfolding Counts descend entered
descend_reads c read n s t h = let k = read_counts c read (descend c read n) n s t (λ x u. descend_counts c read n x u h) in omega arith

range_least : (r : Regime) (a : ℕ) → Sized r → tsz_least ≤ (range_of r a).tsz
unfolding range_of
range_least r a z = by (upper a)
  where
    by : (b : Bool) → tsz_least ≤ (pick b r.range1 r.range0).tsz
    by true = z.least1
    by false = z.least0

-- the first level is one of the four
pub first_low : (r : Regime) (a : ℕ) → Sized r → left_at_first r a ≤ 3
first_low r a z = first_le (page_bits_of r) (range_of r a).tsz (paged r.granule) (range_least r a z)

-- at most 4 descriptors are visited
pub locate_visited : (r : Regime) (read : ℕ → Option ℕ) (a : ℕ) → Sized r → length (locate r read a).visited ≤ 4
unfolding lookup locate
locate_visited r read a z =
    let range = range_of r a in
    let c = context_of r a in
    let deep = descend c read (suc (first_left (page_bits_of r) range.tsz)) no_tables range.root.0 in
    let short : Trace → Type 0 = λ t. length t.visited ≤ 4 in
    let beyond = leb (output_limit r.output) range.root.0 in
    let h : length deep.visited ≤ 4 =
    (let v = descend_visited c read (suc (first_left (page_bits_of r) range.tsz)) no_tables range.root.0 in
    let f = first_le (page_bits_of r) range.tsz (paged r.granule) (range_least r a z) in
    omega arith) in
    pick_both short (range.disabled || outside range.tsz a) (ended (fault Translation 0)) (pick beyond (ended (fault AddressSize 0)) deep) zero-le
    (pick_both short beyond (ended (fault AddressSize 0)) deep zero-le h)

-- a leaf takes a read
abbrev ReadOnce : Trace → End → Type 0
ReadOnce t (fault kind level) = Unit {0}
ReadOnce t (leaf a l) = 1 ≤ length t.visited

read_once : (c : Context) (read : ℕ → Option ℕ) (n s t : ℕ) → ReadOnce (descend c read (suc n) s t) (descend c read (suc n) s t).end
unfolding descend entered
read_once c read n s t = by (on_word (ended (fault ExternalAbort (level_of n))) (followed c (descend c read n) s n (entry_at c n t)) (read (entry_at c n t)))
  where
    by_end : (l : List ℕ) (e : End) → ReadOnce (record { visited = entry_at c n t ∷ l; end = e }) e
    by_end l (fault kind level) = tt
    by_end l (leaf a x) = suc-le-suc zero-le

    by : (u : Trace) → ReadOnce (record { visited = entry_at c n t ∷ u.visited; end = u.end }) u.end
    by u = by_end u.visited u.end

hpd_once : (hpd : Bool) (l : List ℕ) (e : End) → ReadOnce (record { visited = l; end = e }) e → ReadOnce (record { visited = l; end = end_under_hpd hpd e }) (end_under_hpd hpd e)
hpd_once hpd l (fault kind level) h = tt
hpd_once hpd l (leaf a x) h = h

pub locate_read : (r : Regime) (read : ℕ → Option ℕ) (a : ℕ) {at : ℕ} {l : Leaf} → (locate r read a).end ≡ leaf at l → 1 ≤ length (locate r read a).visited
unfolding lookup locate
locate_read r read a {at} {l} q = subst (ReadOnce (locate r read a)) q (hpd_once (range_of r a).hpd (lookup r read a).visited (lookup r read a).end (once r read a))
  where
    picked : (off beyond : Bool) (t : Trace) → ReadOnce t t.end
        → ReadOnce (pick off (ended (fault Translation 0)) (pick beyond (ended (fault AddressSize 0)) t)) (pick off (ended (fault Translation 0)) (pick beyond (ended (fault AddressSize 0)) t)).end
    picked true beyond t h = tt
    picked false true t h = tt
    picked false false t h = h

    once : (r : Regime) (read : ℕ → Option ℕ) (a : ℕ) → ReadOnce (lookup r read a) (lookup r read a).end
    once r read a =
        let range = range_of r a in
        picked (range.disabled || outside range.tsz a) (leb (output_limit r.output) range.root.0)
        (descend (context_of r a) read (suc (first_left (page_bits_of r) range.tsz)) no_tables range.root.0) (read_once (context_of r a) read (first_left (page_bits_of r) range.tsz) no_tables range.root.0)

-- ---- a leaf that is reached

-- it was read at that address, says that it is a leaf there, and lies at a multiple of 8; its sum has four bits
pub record Reached (c : Context) (read : ℕ → Option ℕ) (a : ℕ) (l : Leaf) : Type 0 where
  pub value : read a ≡ Some l.value
  pub leads : decoded c.page c.limit.0 l.left l.value ≡ next.Leaf
  pub low : l.left ≤ 3
  pub few : l.tables < sum_count
  pub aligned : a % 8 ≡ 0

abbrev pub Good : Context → (ℕ → Option ℕ) → End → Type 0
Good c read (fault kind level) = Unit {0}
Good c read (leaf a l) = Reached c read a l

pub entry_aligned : (c : Context) (left t : ℕ) → t % 8 ≡ 0 → entry_at c left t % 8 ≡ 0
unfolding entry_at
entry_aligned c left t e = omega arith

-- what holds of every end, where T holds of every table's address and S of every sum
module _ (c : Context) (read : ℕ → Option ℕ) (S T : ℕ → Type 0) (E : End → Type 0)
    (at_fault : (kind : FaultKind) (left : ℕ) → left ≤ 3 → E (fault kind (level_of left)))
    (at_table : (left v : ℕ) (table : PhysAddr) → decoded c.page c.limit.0 left v ≡ next.Table table → T table.0)
    (at_sum : (sum v : ℕ) → S sum → S (with_table sum v))
    (at_leaf : (left sum t v : ℕ) → left ≤ 3 → S sum → T t → read (entry_at c left t) ≡ Some v → decoded c.page c.limit.0 left v ≡ next.Leaf → E (leaf (entry_at c left t) (record { value = v; left = left; tables = sum }))) where
  onward_end : (below : ℕ → ℕ → Trace) (sum left t v : ℕ) → left ≤ 3 → S sum → T t → read (entry_at c left t) ≡ Some v → ((s u : ℕ) → S s → T u → E (below s u).end)
      → (x : Next) → decoded c.page c.limit.0 left v ≡ x → E (onward below sum left (entry_at c left t) v x).end
  onward_end below sum left t v h z e q k (next.Fault kind) d = at_fault kind left h
  onward_end below sum left t v h z e q k (next.Table table) d = k (with_table sum v) table.0 (at_sum sum v z) (at_table left v table d)
  onward_end below sum left t v h z e q k next.Leaf d = at_leaf left sum t v h z e q d

  word_end : (z : Trace) (f : ℕ → Trace) (a : ℕ) → E z.end → ((v : ℕ) → read a ≡ Some v → E (f v).end) → (w : Option ℕ) → read a ≡ w → E (on_word z f w).end
  word_end z f a hz hf (Some v) e = hf v e
  word_end z f a hz hf None e = hz

  pub descend_end : (n s t : ℕ) → n ≤ 4 → S s → T t → E (descend c read n s t).end
  unfolding descend entered followed level_of
  descend_end zero s t h z e = at_fault Translation 0 zero-le
  descend_end (suc n) s t h z e =
      let a = entry_at c n t in
      word_end (ended (fault ExternalAbort (level_of n))) (followed c (descend c read n) s n a) a (at_fault ExternalAbort n (omega arith))
      (λ v q. onward_end (descend c read n) s n t v (omega arith) z e q (λ x u y f. descend_end n x u (omega arith) y f) (decoded c.page c.limit.0 n v) refl)
      (read a) refl

pub descend_good : (c : Context) (read : ℕ → Option ℕ) (g : Paged c.page) (n s t : ℕ) → n ≤ 4 → s < sum_count → t % 8 ≡ 0 → Good c read (descend c read n s t).end
descend_good c read g =
    descend_end c read (λ s. s < sum_count) (λ t. t % 8 ≡ 0) (Good c read) (λ kind left h. tt)
    (λ left v table d. aligned8 c.page table.0 g (is_table_lem c.page c.limit.0 left v table d).aligned)
    sum_below (λ left sum t v h z e q d. record { value = q; leads = d; low = h; few = z; aligned = entry_aligned c left t e })

-- a level is one of the four, and a leaf's value stands in the pool
pub descend_backed : (c : Context) (ee : Bool) (pool : List ℕ) (base n s t : ℕ) → n ≤ 4 → s < sum_count → Backed ee pool base (descend c (fetched ee pool base) n s t).end
unfolding level_of
descend_backed c ee pool base n s t h z =
    descend_end c (fetched ee pool base) (λ s. s < sum_count) (λ t. Unit {0}) (Backed ee pool base) (λ kind left h. omega arith) (λ left v table d. tt) sum_below (λ left sum t v h z e q d. (h, z, q)) n s t h z tt

pub context_paged : (r : Regime) (a : ℕ) → Paged (context_of r a).page
unfolding context_of
context_paged r a = paged r.granule

-- what holds of a leaf under tables holds of it under none
hpd_good : (c : Context) (read : ℕ → Option ℕ) (hpd : Bool) (e : End) → Good c read e → Good c read (end_under_hpd hpd e)
hpd_good c read hpd (fault kind level) g = tt
hpd_good c read hpd (leaf a l) g = record {
  value = g.value;
  leads = g.leads;
  low = g.low;
  few = pick_both (λ (s : ℕ). s < sum_count) hpd 0 l.tables (lit< tt) g.few;
  aligned = g.aligned;
}

hpd_backed : (ee : Bool) (pool : List ℕ) (base : ℕ) (hpd : Bool) (e : End) → Backed ee pool base e → Backed ee pool base (end_under_hpd hpd e)
hpd_backed ee pool base hpd (fault kind level) g = g
hpd_backed ee pool base hpd (leaf a l) g = (g.0, pick_both (λ (s : ℕ). s < sum_count) hpd 0 l.tables (lit< tt) g.1, g.2)

pub locate_good : (r : Regime) (read : ℕ → Option ℕ) (a : ℕ) → Sized r → (range_of r a).root.0 % 8 ≡ 0 → Good (context_of r a) read (locate r read a).end
unfolding lookup locate
locate_good r read a z e =
    let range = range_of r a in
    let c = context_of r a in
    let deep = descend c read (suc (first_left (page_bits_of r) range.tsz)) no_tables range.root.0 in
    let good : Trace → Type 0 = λ t. Good c read t.end in
    let beyond = leb (output_limit r.output) range.root.0 in
    hpd_good c read range.hpd (lookup r read a).end
    (pick_both good (range.disabled || outside range.tsz a) (ended (fault Translation 0)) (pick beyond (ended (fault AddressSize 0)) deep) tt
    (pick_both good beyond (ended (fault AddressSize 0)) deep tt
    (descend_good c read (context_paged r a) (suc (first_left (page_bits_of r) range.tsz)) no_tables range.root.0 (suc-le-suc (first_le (page_bits_of r) range.tsz (paged r.granule) (range_least r a z))) (lit< tt) e)))

pub locate_backed : (r : Regime) (ee : Bool) (pool : List ℕ) (base a : ℕ) → Sized r → Backed ee pool base (locate r (fetched ee pool base) a).end
unfolding lookup locate
locate_backed r ee pool base a z =
    let range = range_of r a in
    let deep = descend (context_of r a) (fetched ee pool base) (suc (first_left (page_bits_of r) range.tsz)) no_tables range.root.0 in
    let backed : Trace → Type 0 = λ t. Backed ee pool base t.end in
    let beyond = leb (output_limit r.output) range.root.0 in
    hpd_backed ee pool base range.hpd (lookup r (fetched ee pool base) a).end
    (pick_both backed (range.disabled || outside range.tsz a) (ended (fault Translation 0)) (pick beyond (ended (fault AddressSize 0)) deep) (lit≤ tt)
    (pick_both backed beyond (ended (fault AddressSize 0)) deep (lit≤ tt)
    (descend_backed (context_of r a) ee pool base (suc (first_left (page_bits_of r) range.tsz)) no_tables range.root.0 (suc-le-suc (first_le (page_bits_of r) range.tsz (paged r.granule) (range_least r a z))) (lit< tt))))

-- ---- the reader over a pool

-- a value that was read lies wholly in the pool, and is the descriptor there
pub record InPool (ee : Bool) (pool : List ℕ) (base a v : ℕ) : Type 0 where
  pub least : base ≤ a
  pub most : a + 8 ≤ base + length pool
  pub same : desc ee pool (a - base) ≡ v

pub in_pool : (ee : Bool) (pool : List ℕ) (base a v : ℕ) → fetched ee pool base a ≡ Some v → InPool ee pool base a v
unfolding fetched
in_pool ee pool base a v e = by (leb base a && leb (a + 8) (base + length pool)) refl e
  where
    by : (b : Bool) → (leb base a && leb (a + 8) (base + length pool)) ≡ b → pick b (Some (desc ee pool (a - base))) None ≡ Some v → InPool ee pool base a v
    by true h q =
        let t = and_true (leb base a) (leb (a + 8) (base + length pool)) h in
        record { least = leb-true base a t.0; most = leb-true (a + 8) (base + length pool) t.1; same = cc }
    by false h q = clash (cc)
