-- The sum that a leaf stands under, from the list of visited addresses alone.
use Prim.Native.Nat.{ℕ, zero, suc, ◌<◌, suc-le-suc}
use mathlib.Core.Bool.{Bool, true, false, ◌||◌}
use mathlib.Core.List.{List, [], ◌∷◌}
use mathlib.Core.Path.{◌≡◌, refl, sym, ap, subst, ◌∙◌}
use native.Mathlib.Nat.{zero-lt-suc}
use lib.Bits.{or_zero_r}
use lib.Dec.{leb}
use lib.ListN.{length, get_or}
use Rattle.std.specs.Prelude.{Option, Some, None}
use Rattle.descriptor.specs.Bits.{pick}
use Rattle.vmsa.specs.Granules.{page_bits_of}
use Rattle.vmsa.specs.Fields.{table_bits, sum_count, no_tables, with_table}
use Rattle.geometry.specs.Geometry.{level_of, first_left, output_limit}
use Rattle.vmsa.proofs.Tables.{sum_below}
use Rattle.vmsa.specs.declared.Regime.{Regime}
use Rattle.vmsa.specs.declared.Leaf.{Leaf}
use Rattle.vmsa.specs.declared.FaultKind.TheVariants.{ExternalAbort, Translation, AddressSize}
use Rattle.lookup.specs.declared.Next.{Next}
use Rattle.lookup.specs.declared.Next.TheVariants as next
use Rattle.lookup.specs.declared.Context.{Context}
use Rattle.lookup.specs.Trace.{End, fault, leaf, Trace, ended, end_under_hpd}
use Rattle.lookup.specs.Steps.{decoded, onward, on_word, followed, entry_at, entered, descend, range_of, outside, context_of, lookup, locate}

-- a table's bits join the sum
abbrev pub with_word : ℕ → Option ℕ → ℕ
with_word sum (Some v) = with_table sum v
with_word sum None = sum

-- the sum of the tables among the descriptors visited: of all but the last, which is the leaf
abbrev pub sum_along : (ℕ → Option ℕ) → ℕ → List ℕ → ℕ
sum_along read sum [] = sum
sum_along read sum (last ∷ []) = sum
sum_along read sum (table ∷ next ∷ rest) = sum_along read (with_word sum (read table)) (next ∷ rest)

module _ (read : ℕ → Option ℕ) where
  -- a leaf stands under the sum of the addresses visited, from sum on; where the tables count
  SumIs : Bool → ℕ → List ℕ → End → Type 0
  SumIs hpd sum visited (fault kind level) = Unit {0}
  SumIs hpd sum visited (leaf a l) = l.tables ≡ pick hpd 0 (sum_along read sum visited)

  -- one table more in front
  one_more : (sum a v x : ℕ) (rest : List ℕ) (e : End) → read a ≡ Some v → SumIs false (with_table sum v) (x ∷ rest) e → SumIs false sum (a ∷ x ∷ rest) e
  unfolding SumIs
  one_more sum a v x rest (fault kind level) q h = tt
  one_more sum a v x rest (leaf at l) q h = h ∙ ap (λ (w : Option ℕ). sum_along read (with_word sum w) (x ∷ rest)) (sym q)

  module _ (c : Context) where
    onward_sum : (n sum a v : ℕ) → read a ≡ Some v → ((s t : ℕ) → SumIs false s (descend c read n s t).visited (descend c read n s t).end)
        → (y : Next) → SumIs false sum (a ∷ (onward (descend c read n) sum n a v y).visited) (onward (descend c read n) sum n a v y).end
    unfolding SumIs descend entered
    onward_sum n sum a v q h (next.Fault kind) = tt
    onward_sum zero sum a v q h (next.Table table) = tt
    onward_sum (suc n) sum a v q h (next.Table table) =
        one_more sum a v (entry_at c n table.0) (on_word (ended (fault ExternalAbort (level_of n))) (followed c (descend c read n) (with_table sum v) n (entry_at c n table.0)) (read (entry_at c n table.0))).visited (descend c read (suc n) (with_table sum v) table.0).end q (h (with_table sum v) table.0)
    onward_sum n sum a v q h next.Leaf = refl

    descend_sum : (n sum t : ℕ) → SumIs false sum (descend c read n sum t).visited (descend c read n sum t).end
    unfolding SumIs descend entered followed
    descend_sum zero sum t = tt
    descend_sum (suc n) sum t = by (λ s u. descend_sum n s u) (read (entry_at c n t)) refl
      where
        at : Option ℕ → Trace
        at w = on_word (ended (fault ExternalAbort (level_of n))) (followed c (descend c read n) sum n (entry_at c n t)) w

        by : ((s u : ℕ) → SumIs false s (descend c read n s u).visited (descend c read n s u).end) → (w : Option ℕ) → read (entry_at c n t) ≡ w → SumIs false sum (entry_at c n t ∷ (at w).visited) (at w).end
        by h (Some v) q = onward_sum n sum (entry_at c n t) v q h (decoded c.page c.limit.0 n v)
        by h None q = tt

  -- from the root on
  hpd_sum : (hpd : Bool) (visited : List ℕ) (e : End) → SumIs false no_tables visited e → SumIs hpd no_tables visited (end_under_hpd hpd e)
  unfolding SumIs
  hpd_sum hpd visited (fault kind level) h = tt
  hpd_sum hpd visited (leaf a l) h = ap (pick hpd 0) h

  locate_sums : (r : Regime) (a : ℕ) → SumIs (range_of r a).hpd no_tables (locate r read a).visited (locate r read a).end
  unfolding lookup locate SumIs
  locate_sums r a =
      let range = range_of r a in
      hpd_sum range.hpd (lookup r read a).visited (lookup r read a).end
      (by (range.disabled || outside range.tsz a) (leb (output_limit r.output) range.root.0)
      (descend (context_of r a) read (suc (first_left (page_bits_of r) range.tsz)) no_tables range.root.0)
      (descend_sum (context_of r a) (suc (first_left (page_bits_of r) range.tsz)) no_tables range.root.0))
    where
      by : (off beyond : Bool) (t : Trace) → SumIs false no_tables t.visited t.end
          → SumIs false no_tables (pick off (ended (fault Translation 0)) (pick beyond (ended (fault AddressSize 0)) t)).visited
          (pick off (ended (fault Translation 0)) (pick beyond (ended (fault AddressSize 0)) t)).end
      by true beyond t h = tt
      by false true t h = tt
      by false false t h = h

  pub locate_sum : (r : Regime) (a at : ℕ) (l : Leaf) → (locate r read a).end ≡ leaf at l → l.tables ≡ pick (range_of r a).hpd 0 (sum_along read no_tables (locate r read a).visited)
  unfolding SumIs
  locate_sum r a at l q = subst (SumIs (range_of r a).hpd no_tables (locate r read a).visited) q (locate_sums r a)

  -- the sum has four bits
  below_word : (sum : ℕ) (w : Option ℕ) → sum < sum_count → with_word sum w < sum_count
  below_word sum (Some v) h = sum_below sum v h
  below_word sum None h = h

  pub below_sum : (visited : List ℕ) (sum : ℕ) → sum < sum_count → sum_along read sum visited < sum_count
  below_sum [] sum h = h
  below_sum (last ∷ []) sum h = h
  below_sum (table ∷ next ∷ rest) sum h = below_sum (next ∷ rest) (with_word sum (read table)) (below_word sum (read table) h)

  -- tables whose bits are clear add nothing
  clear_word : (sum : ℕ) (w : Option ℕ) → ((v : ℕ) → w ≡ Some v → table_bits v ≡ 0) → with_word sum w ≡ sum
  unfolding with_table
  clear_word sum (Some v) h = rw (h v refl) (or_zero_r sum)
  clear_word sum None h = refl

  pub clear_sum : (visited : List ℕ) → ((i : ℕ) → suc i < length visited → (v : ℕ) → read (get_or visited i 0) ≡ Some v → table_bits v ≡ 0) → (sum : ℕ) → sum_along read sum visited ≡ sum
  clear_sum [] h sum = refl
  clear_sum (last ∷ []) h sum = refl
  clear_sum (table ∷ next ∷ rest) h sum =
      clear_sum (next ∷ rest) (λ i k v q. h (suc i) (suc-le-suc k) v q) (with_word sum (read table))
      ∙ clear_word sum (read table) (λ v q. h 0 (suc-le-suc (zero-lt-suc _)) v q)
