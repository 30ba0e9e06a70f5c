-- The tables on the way: what a leaf's sum says of them, and that without them the walk is the bare one.
use Prim.Native.Nat.{ℕ, zero, suc, ◌<◌, suc-le-suc}
use mathlib.Core.Bool.{Bool, true, false, ◌||◌}
use mathlib.Core.List.{List, [], ◌∷◌}
use mathlib.Core.Logic.{◌⊎◌, inl, inr, ◌↔◌}
use mathlib.Core.Path.{◌≡◌, refl, sym, ap, ◌∙◌}
use native.Mathlib.Nat.{zero-lt-suc}
use native.Mathlib.Omega.{arith}
use lib.Dec.{lit<}
use lib.ListN.{length, get_or}
use Rattle.descriptor.specs.Bits.{pick, bit}
use Rattle.descriptor.proofs.Tests.{differ, pick_both}
use Rattle.vmsa.specs.Fields.{sum_count, no_tables, with_table}
use Rattle.vmsa.specs.declared.Regime.{Regime}
use Rattle.vmsa.specs.declared.Access.{Access}
use Rattle.vmsa.specs.declared.Leaf.{Leaf}
use Rattle.checks.specs.Order.{Checked}
use Rattle.std.specs.Prelude.{Ok, Err, Option, Some, None}
use Rattle.checks.specs.Order.{walk_check}
use Rattle.lookup.specs.Trace.{End, fault, leaf, leaf_under_hpd, end_under_hpd}
use Rattle.lookup.specs.Steps.{range_of, lookup, locate}
use Rattle.lookup.proofs.Sums.{with_word, sum_along, locate_sum, below_sum, clear_sum}
use Rattle.walk.specs.Walk.{pool_bytes, traced, walk_along, walk_pool, checked, walk}
use Rattle.rules.specs.Tables.{trace_of, reader_of, TableAt, TablesOff, TablesClear, InSum, bare_end, bare_pool, bare_walk}

-- ---- a bit of the sum, and the tables that have it

or_either : (a b : Bool) → (a || b) ≡ true → (a ≡ true) ⊎ (b ≡ true)
or_either true b e = inl refl
or_either false b e = inr e

or_first : (a b : Bool) → a ≡ true → (a || b) ≡ true
or_first true b e = refl
or_first false b e = differ (sym e)

or_second : (a b : Bool) → b ≡ true → (a || b) ≡ true
or_second true b e = refl
or_second false b e = e

-- a test that bit n of each table joins
module _ (read : ℕ → Option ℕ) (test : ℕ → Bool) (n : ℕ) (adds : (s v : ℕ) → test (with_table s v) ≡ (test s || bit n v)) where
  -- one of the descriptors but the last has the bit
  Has : List ℕ → Type 0
  Has visited = (i : ℕ) × (v : ℕ) × (suc i < length visited) × (read (get_or visited i 0) ≡ Some v) × (bit n v ≡ true)

  from_sum : (visited : List ℕ) (s : ℕ) → test (sum_along read s visited) ≡ true → (test s ≡ true) ⊎ Has visited
  unfolding Has
  from_sum [] s e = inl e
  from_sum (last ∷ []) s e = inl e
  from_sum (table ∷ next ∷ rest) s e = by (read table) refl (from_sum (next ∷ rest) (with_word s (read table)) e)
    where
      here : (v : ℕ) → read table ≡ Some v → (test s ≡ true) ⊎ (bit n v ≡ true) → (test s ≡ true) ⊎ Has (table ∷ next ∷ rest)
      here v q (inl z) = inl z
      here v q (inr z) = inr (0, v, suc-le-suc (zero-lt-suc _), q, z)

      by : (w : Option ℕ) → read table ≡ w → (test (with_word s (read table)) ≡ true) ⊎ Has (next ∷ rest) → (test s ≡ true) ⊎ Has (table ∷ next ∷ rest)
      by w q (inr h) = inr (suc h.0, h.1, suc-le-suc h.2, h.3, h.4)
      by (Some v) q (inl z) = here v q (or_either (test s) (bit n v) (sym (adds s v) ∙ sym (ap (λ (w : Option ℕ). test (with_word s w)) q) ∙ z))
      by None q (inl z) = inl (sym (ap (λ (w : Option ℕ). test (with_word s w)) q) ∙ z)

  kept_in_sum : (visited : List ℕ) (s : ℕ) → test s ≡ true → test (sum_along read s visited) ≡ true
  kept_in_sum [] s e = e
  kept_in_sum (last ∷ []) s e = e
  kept_in_sum (table ∷ next ∷ rest) s e = kept_in_sum (next ∷ rest) (with_word s (read table)) (by (read table))
    where
      by : (w : Option ℕ) → test (with_word s w) ≡ true
      by (Some v) = adds s v ∙ or_first (test s) (bit n v) e
      by None = e

  into_sum : (visited : List ℕ) (s i v : ℕ) → suc i < length visited → read (get_or visited i 0) ≡ Some v → bit n v ≡ true → test (sum_along read s visited) ≡ true
  into_sum [] s i v h q e = absurd (omega arith)
  into_sum (last ∷ []) s i v h q e = absurd (omega arith)
  into_sum (table ∷ next ∷ rest) s zero v h q e =
      kept_in_sum (next ∷ rest) (with_word s (read table)) (ap (λ (w : Option ℕ). test (with_word s w)) q ∙ adds s v ∙ or_second (test s) (bit n v) e)
  into_sum (table ∷ next ∷ rest) s (suc i) v h q e = into_sum (next ∷ rest) (with_word s (read table)) i v (omega arith) q e

-- ---- the sum of an access

module _ (r : Regime) (a : Access) (m : List ℕ) where
  module _ (at : ℕ) (l : Leaf) (end : (trace_of r a m).end ≡ leaf at l) where
    leaf_sum : l.tables ≡ pick (range_of r a.address.0).hpd no_tables (sum_along (reader_of r m) no_tables (trace_of r a m).visited)
    unfolding traced
    leaf_sum = locate_sum (reader_of r m) r a.address.0 at l end

    pub sum_four : l.tables < sum_count
    sum_four =
        rw leaf_sum
        (pick_both (λ (s : ℕ). s < sum_count) (range_of r a.address.0).hpd no_tables (sum_along (reader_of r m) no_tables (trace_of r a m).visited) (lit< tt)
        (below_sum (reader_of r m) (trace_of r a m).visited no_tables (lit< tt)))

    module _ (test : ℕ → Bool) (n : ℕ) (adds : (s v : ℕ) → test (with_table s v) ≡ (test s || bit n v)) (none : test no_tables ≡ false) where
      in_sum : (hpd : Bool) → (range_of r a.address.0).hpd ≡ hpd → test l.tables ≡ true → InSum n r a m
      unfolding Has
      in_sum true q e = differ (sym e ∙ ap test (leaf_sum ∙ rw q) ∙ none)
      in_sum false q e = (q, by (from_sum (reader_of r m) test n adds (trace_of r a m).visited no_tables (sym (ap test (leaf_sum ∙ rw q)) ∙ e)))
        where
          by : (test no_tables ≡ true) ⊎ Has (reader_of r m) test n adds (trace_of r a m).visited → (i : ℕ) × (v : ℕ) × TableAt r a m i v × (bit n v ≡ true)
          by (inl z) = differ (sym z ∙ none)
          by (inr h) = (h.0, h.1, (h.2, h.3), h.4)

      pub sum_bit : (test l.tables ≡ true) ↔ InSum n r a m
      sum_bit = (
        in_sum (range_of r a.address.0).hpd refl,
        λ h.
            let t = h.1 in
            ap test (leaf_sum ∙ rw h.0) ∙ into_sum (reader_of r m) test n adds (trace_of r a m).visited no_tables t.0 t.1 t.2.0 t.2.1 t.3,
      )

  -- ---- where they have no say

  empty_sum : TablesOff r a ⊎ TablesClear r a m → (at : ℕ) (l : Leaf) → (trace_of r a m).end ≡ leaf at l → l.tables ≡ no_tables
  empty_sum (inl off) at l q = leaf_sum at l q ∙ rw off
  empty_sum (inr clear) at l q =
      leaf_sum at l q ∙ rw (clear_sum (reader_of r m) (trace_of r a m).visited (λ i h v e. clear i v (h, e)) no_tables) (by (range_of r a.address.0).hpd)
    where
      by : (b : Bool) → ◌≡◌ {A = ℕ} (pick b no_tables no_tables) no_tables
      by true = refl
      by false = refl

  bare_end_lem : (hpd : Bool) (e : End) → ((at : ℕ) (l : Leaf) → end_under_hpd hpd e ≡ leaf at l → l.tables ≡ no_tables) → end_under_hpd hpd e ≡ bare_end e
  bare_end_lem hpd (fault kind level) h = refl
  bare_end_lem hpd (leaf at l) h = ap (λ (n : ℕ). leaf at (record { value = l.value; left = l.left; tables = n })) (h at (leaf_under_hpd hpd l) refl)

  bare_pool_lem : TablesOff r a ⊎ TablesClear r a m → walk_pool r a (pool_bytes r.pool m) ≡ bare_pool r a (pool_bytes r.pool m)
  unfolding walk_pool traced locate
  bare_pool_lem h =
      let t = lookup r (reader_of r m) a.address.0 in
      ap (λ (e : End). walk_along r a (pool_bytes r.pool m) (record { visited = t.visited; end = e })) (bare_end_lem (range_of r a.address.0).hpd t.end (empty_sum h))

  pub bare_walk_lem : TablesOff r a ⊎ TablesClear r a m → walk r a m ≡ bare_walk r a m
  unfolding walk bare_walk
  bare_walk_lem h = by (walk_check (length m) r a)
    where
      by : (c : Checked) → checked (walk_pool r a) r.pool m c ≡ checked (bare_pool r a) r.pool m c
      by (Err x) = refl
      by (Ok _) = rw (bare_pool_lem h)
