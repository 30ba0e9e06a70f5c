-- A harvest over a memory in which a page's leaf says dirty: it reports the page where it covers it, and leaves the leaf or takes it.
use Prim.Native.Nat.{ℕ, zero, suc, ◌+◌, ◌-◌, ◌*◌, ◌≤◌, ◌<◌}
use mathlib.Core.Bool.{Bool, true, false}
use mathlib.Core.List.{List}
use mathlib.Core.Logic.{◌⊎◌, inl, inr}
use mathlib.Core.Path.{◌≡◌, refl, sym, ap, subst, subst⁻¹, ◌∙◌}
use native.Mathlib.Omega.{arith}
use lib.Dec.{eqb, leb}
use lib.ListN.{length}
use borrow.Author.Tests.{eqb-true, eqb-false, leb-true, leb-false}
use Rattle.descriptor.specs.Bytes.{Bytes}
use Rattle.descriptor.proofs.Tests.{clash, differ}
use Rattle.vmsa.specs.Granules.{page_bits_of}
use Rattle.geometry.specs.Geometry.{page_size}
use Rattle.vmsa.specs.declared.Regime.{Regime}
use Rattle.vmsa.specs.declared.Leaf.{Leaf}
use Rattle.std.specs.Prelude.{Ok}
use Rattle.lookup.specs.Trace.{End, fault, leaf}
use Rattle.lookup.proofs.Readers.{AlikeEnds, faults, leaves}
use Rattle.walk.specs.Walk.{pool_bytes, traced, revalued}
use Rattle.bitmap.specs.Map.{map_bit}
use Rattle.bitmap.proofs.Laws.{mapped_bit}
use Rattle.gather.specs.Ends.{dirty, dirty_end, pages_in}
use Rattle.clean.specs.Clean.{whole_in, Asked}
use Rattle.harvest.specs.Harvest.{reached, reports, asked_of, clean_pool, harvest}
use Rattle.walk.proofs.Ends.{found as found_leaf}
use Rattle.tlb.proofs.Walking.{usable_sized, usable_root}
use Rattle.tlb.specs.Ours.{usable, offset_of, located}
use Rattle.tlb.proofs.Found.{where_found}
use Rattle.rules_harvest.proofs.Taken.{Taken, taken, pool_after, pool_small}
use Rattle.rules_harvest.proofs.Reached.{leaf_stands, all_stand, reached_alike}
use Rattle.rules_harvest.proofs.Pool.{Sets, final_cleaned, leaf_still}
use Rattle.rules_harvest.specs.Leaves.{PageLeaf, AskedFor}
use Rattle.no_page_lost.proofs.Held.{Held}

-- a page of the harvest reaches the descriptor at this offset, and is reported
pub record Takes (R : Regime) (m : List ℕ) (first count : ℕ) (map : List ℕ) (at : ℕ) : Type 0 where
  pub page : ℕ
  pub asked : AskedFor first count page
  pub leaf : PageLeaf R m page
  pub offset : offset_of R leaf.address ≡ at
  pub reported : map_bit (harvest R first count m map).map (page - first) ≡ true

pub same_address : (R : Regime) (a b : ℕ) → R.pool.address.0 ≤ a → R.pool.address.0 ≤ b → offset_of R a ≡ offset_of R b → a ≡ b
same_address R a b h k e = omega arith

-- ---- a page's leaf, by the session's lookup and by the harvest's

pub leaf_least : (R : Regime) (m : List ℕ) (page : ℕ) → usable R ≡ true → (l : PageLeaf R m page) → R.pool.address.0 ≤ l.address
unfolding reached traced
leaf_least R m page u l =
    (found_leaf R (pool_bytes R.pool m) (page * page_size (page_bits_of R)) l.address _ (usable_sized R u) (usable_root R (page * page_size (page_bits_of R)) u) l.reaches).inside.least

-- where the session's lookup finds a leaf, the page reaches it
pub reaches_held : (R : Regime) (m : List ℕ) (page at : ℕ) → (h : Held R m page at) → (address : ℕ) × (reached R (pool_bytes R.pool m) page ≡ leaf address h.leaf) × (offset_of R address ≡ at)
unfolding reached traced
reaches_held R m page at h = let w = where_found R m page h.here in (w.address, w.end, w.offset)

-- and the other way round, under a regime that is accepted
pub held_reaches : (R : Regime) (m : List ℕ) (page address : ℕ) (l : Leaf) → usable R ≡ true → reached R (pool_bytes R.pool m) page ≡ leaf address l → dirty l.value ≡ true → Held R m page (offset_of R address)
unfolding located reached traced
held_reaches R m page address l u e d = record { leaf = l; count = length (traced R (pool_bytes R.pool m) (page * page_size (page_bits_of R))).visited; here = rw (u, e); says = d }

-- ---- the harvest that covers the page

pub covered : (R : Regime) (m : List ℕ) (first count : ℕ) (map : List ℕ) → (harvest R first count m map).reply ≡ Ok tt → (page at : ℕ) → Held R m page at → AskedFor first count page
    → map_bit (harvest R first count m map).map (page - first) ≡ true
unfolding reports
covered R m first count map e page at h a =
    let t = taken R first count m map e in
    let q = reaches_held R m page at h in
    let p : first + (page - first) ≡ page = omega (arith, a.0) in
    ap (λ (l : List ℕ). map_bit l (page - first)) t.map_is
    ∙ mapped_bit (reports R (pool_bytes R.pool m) first) count map (page - first) (omega (arith, a.0, a.1))
    ∙ ap (λ (x : ℕ). dirty_end (reached R (pool_bytes R.pool m) x)) p ∙ ap dirty_end q.1 ∙ h.says

-- ---- any harvest

-- a page of n from x on sets the leaf at an offset of the pool, or none does
module _ (k : Asked) (ends : ℕ → End) (i : ℕ) where
  pub record SetsAt (x n : ℕ) : Type 0 where
    pub page : ℕ
    pub least : x ≤ page
    pub most : page < x + n
    pub address : ℕ
    pub leaf : Leaf
    pub sets : Sets k ends page address leaf
    pub same : address - k.base ≡ i

  abbrev pub NoneSets : ℕ → ℕ → Type 0
  NoneSets x n = (y a : ℕ) (l : Leaf) → x ≤ y → y < x + n → Sets k ends y a l → a - k.base ≡ i → ⊥

  -- one page
  the_leaf : (x : ℕ) (a : ℕ) (l : Leaf) → ends x ≡ leaf a l → (y b : ℕ) (g : Leaf) → x ≤ y → y < x + 1 → Sets k ends y b g → (y ≡ x) × (b ≡ a) × (g ≡ l)
  the_leaf x a l e y b g u v z =
      let s : y ≡ x = omega arith in
      let q : leaf b g ≡ leaf a l = sym z.reaches ∙ ap ends s ∙ e in
      (s, cc, cc)

  by_tests : (x a : ℕ) (l : Leaf) → ends x ≡ leaf a l → (d w t : Bool) → dirty l.value ≡ d → whole_in k.from k.count (pages_in k.page l.left) x ≡ w → eqb (a - k.base) i ≡ t
      → SetsAt x 1 ⊎ NoneSets x 1
  by_tests x a l e true true true p q t =
      inl (record { page = x; least = omega arith; most = omega arith; address = a; leaf = l; sets = record { reaches = e; dirtied = p; whole = q }; same = eqb-true (a - k.base) i t })
  by_tests x a l e false w t p q r =
      inr (λ y b g u v z j. let s = the_leaf x a l e y b g u v z in differ (sym z.dirtied ∙ ap (λ (f : Leaf). dirty f.value) s.2 ∙ p))
  by_tests x a l e true false t p q r =
      inr (λ y b g u v z j.
      let s = the_leaf x a l e y b g u v z in
      differ (sym z.whole ∙ ap (λ (f : Leaf). whole_in k.from k.count (pages_in k.page f.left) y) s.2 ∙ ap (whole_in k.from k.count (pages_in k.page l.left)) s.0 ∙ q))
  by_tests x a l e true true false p q t = inr (λ y b g u v z j. let s = the_leaf x a l e y b g u v z in eqb-false (a - k.base) i t (ap (λ (c : ℕ). c - k.base) (sym s.1) ∙ j))

  by_end : (x : ℕ) (f : End) → ends x ≡ f → SetsAt x 1 ⊎ NoneSets x 1
  by_end x (fault kind level) e =
      inr (λ y a l u v z j. let s : y ≡ x = omega arith in let q : leaf a l ≡ fault kind level = sym z.reaches ∙ ap ends s ∙ e in clash (cc))
  by_end x (leaf a l) e = by_tests x a l e (dirty l.value) (whole_in k.from k.count (pages_in k.page l.left) x) (eqb (a - k.base) i) refl refl refl

  -- and then the others
  pub search_sets : (n x : ℕ) → SetsAt x n ⊎ NoneSets x n
  search_sets zero x = inr (λ y a l u v z j. omega arith)
  search_sets (suc n) x = one (by_end x (ends x) refl) (search_sets n (suc x))
    where
      rest : NoneSets x 1 → SetsAt (suc x) n ⊎ NoneSets (suc x) n → SetsAt x (suc n) ⊎ NoneSets x (suc n)
      rest unset (inl z) =
          inl (record { page = z.page; least = omega (arith, z.least); most = omega (arith, z.most); address = z.address; leaf = z.leaf; sets = z.sets; same = z.same })
      rest unset (inr more) = inr (λ y a l u v z j. split y (leb y x) refl a l u v z j)
        where
          split : (y : ℕ) (b : Bool) → leb y x ≡ b → (a : ℕ) (l : Leaf) → x ≤ y → y < x + suc n → Sets k ends y a l → a - k.base ≡ i → ⊥
          split y true t a l u v z j = let g = leb-true y x t in unset y a l u (omega arith) z j
          split y false t a l u v z j = let g = leb-false y x t in more y a l (omega arith) (omega arith) z j

      one : SetsAt x 1 ⊎ NoneSets x 1 → SetsAt (suc x) n ⊎ NoneSets (suc x) n → SetsAt x (suc n) ⊎ NoneSets x (suc n)
      one (inl z) later =
          inl (record { page = z.page; least = z.least; most = omega (arith, z.most); address = z.address; leaf = z.leaf; sets = z.sets; same = z.same })
      one (inr unset) later = rest unset later

-- the leaf of a page after a harvest, with another value
alike_leaf : {P : ℕ → ℕ → Type 0} {e f : End} → AlikeEnds P e f → (a : ℕ) (l : Leaf) → e ≡ leaf a l → (w : ℕ) × (f ≡ leaf a (revalued l w))
alike_leaf (faults kind level) a l q = clash (cc)
alike_leaf (leaves b left sum {v = v} {w = w} k) a l q =
    let x : b ≡ a = cc in
    let y : record { value = v; left = left; tables = sum } ≡ l = cc in
    (w, ap (λ (c : ℕ). leaf c (record { value = w; left = left; tables = sum })) x ∙ ap (λ (g : Leaf). leaf a (revalued g w)) y)

module _ (R : Regime) (m : List ℕ) (b : Bytes m) (first count : ℕ) (map : List ℕ) (e : (harvest R first count m map).reply ≡ Ok tt) (page at : ℕ) (h : Held R m page at) where
  abbrev pool : List ℕ
  pool = pool_bytes R.pool m

  t : Taken R first count m map
  t = taken R first count m map e

  abbrev q : (address : ℕ) × (reached R pool page ≡ leaf address h.leaf) × (offset_of R address ≡ at)
  q = reaches_held R m page at h

  good : usable R ≡ true
  good = (where_found R m page h.here).regime

  -- the leaf was set again: some page of the harvest reached it
  takes : SetsAt (asked_of R first count) (reached R pool) (q.0 - R.pool.address.0) first count → Takes R m first count map at
  takes z =
      let o : offset_of R z.address ≡ at = ap (λ (x : ℕ). R.pool.start + x) z.same ∙ q.2 in
      record {
        page = z.page;
        asked = (z.least, z.most);
        leaf = record { address = z.address; value = z.leaf.value; left = z.leaf.left; tables = z.leaf.tables; reaches = z.sets.reaches };
        offset = o;
        reported = covered R m first count map e z.page (offset_of R z.address) (held_reaches R m z.page z.address z.leaf good z.sets.reaches z.sets.dirtied) (z.least, z.most);
      }

  -- it was not: it is as it was
  leaves_it : NoneSets (asked_of R first count) (reached R pool) (q.0 - R.pool.address.0) first count → Held R (harvest R first count m map).memory page at
  unfolding t clean_pool
  leaves_it unset =
      let after = clean_pool R first count pool in
      let stands = all_stand (length m) R t.settled first count pool in
      let small = pool_small R first count m map t b in
      let c = final_cleaned (asked_of R first count) (reached R pool) pool stands small first count in
      let g = leaf_stands (length m) R t.settled pool page q.0 h.leaf q.1 in
      let x = alike_leaf (reached_alike (length m) R t.settled pool after c page) q.0 h.leaf q.1 in
      let y = leaf_stands (length m) R t.settled after page q.0 (revalued h.leaf x.0) x.1 in
      let v : x.0 ≡ h.leaf.value =
      sym y.same ∙ leaf_still (asked_of R first count) (reached R pool) pool stands small first count (q.0 - R.pool.address.0) g.aligned g.fits unset ∙ g.same in
      let r : reached R (pool_bytes R.pool (harvest R first count m map).memory) page ≡ leaf q.0 (revalued h.leaf x.0) = ap (λ (p : List ℕ). reached R p page) (pool_after R first count m map t) ∙ x.1 in
      subst (Held R (harvest R first count m map).memory page) q.2
      (held_reaches R (harvest R first count m map).memory page q.0 (revalued h.leaf x.0) good r (subst⁻¹ (λ (n : ℕ). dirty n ≡ true) v h.says))

  pub harvest_held : Held R (harvest R first count m map).memory page at ⊎ Takes R m first count map at
  harvest_held = by (search_sets (asked_of R first count) (reached R pool) (q.0 - R.pool.address.0) count first)
    where
      by : SetsAt (asked_of R first count) (reached R pool) (q.0 - R.pool.address.0) first count ⊎ NoneSets (asked_of R first count) (reached R pool) (q.0 - R.pool.address.0) first count
          → Held R (harvest R first count m map).memory page at ⊎ Takes R m first count map at
      by (inl z) = inr (takes z)
      by (inr unset) = inl (leaves_it unset)
