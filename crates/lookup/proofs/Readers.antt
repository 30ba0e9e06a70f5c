-- Two readers that no step can tell apart: a lookup over both visits the same addresses and ends alike.
-- The relation between values is any that decoding and the bits of a table cannot see; Access flag and dirty updates are one such.
use Prim.Native.Nat.{ℕ, zero, suc, ◌%◌}
use mathlib.Core.Bool.{Bool, true, false, ◌||◌}
use mathlib.Core.List.{List, ◌∷◌}
use mathlib.Core.Path.{◌≡◌, refl, sym, ap, subst, subst⁻¹}
use lib.Bits.{bit_or}
use lib.Dec.{leb}
use Rattle.std.specs.Prelude.{Option, Some, None}
use Rattle.descriptor.specs.Bits.{pick}
use Rattle.vmsa.specs.Fields.{table_bits, no_tables, with_table}
use Rattle.vmsa.specs.Granules.{page_bits_of, Paged}
use Rattle.geometry.specs.Geometry.{level_of, first_left, output_limit}
use Rattle.vmsa.specs.declared.Regime.{Regime}
use Rattle.vmsa.specs.declared.FaultKind.{FaultKind}
use Rattle.vmsa.specs.declared.FaultKind.TheVariants.{ExternalAbort, Translation, AddressSize}
use Rattle.lookup.specs.declared.Next.{Next}
use Rattle.lookup.specs.declared.Next.TheVariants as next
use Rattle.lookup.specs.declared.Context.{Context}
use Rattle.lookup.specs.Trace.{End, fault, leaf, Trace, ended, end_under_hpd}
use Rattle.lookup.specs.Steps.{decoded, onward, on_word, followed, entry_at, entered, descend, range_of, outside, context_of, lookup, locate}
use Rattle.lookup.proofs.Decoding.{is_table_lem, aligned8}
use Rattle.lookup.proofs.Reach.{entry_aligned, context_paged}

-- both unreachable, or related values
pub data AlikeWords (R : ℕ → ℕ → Type 0) : Option ℕ → Option ℕ → Type 0 where
  unreachable : AlikeWords R None None
  values : {v w : ℕ} → R v w → AlikeWords R (Some v) (Some w)

-- the same fault, or leaves at the same address and under the same tables, with related values
pub data AlikeEnds (R : ℕ → ℕ → Type 0) : End → End → Type 0 where
  faults : (kind : FaultKind) (level : ℕ) → AlikeEnds R (fault kind level) (fault kind level)
  leaves : (a left sum : ℕ) {v w : ℕ} → R v w → AlikeEnds R (leaf a (record { value = v; left = left; tables = sum })) (leaf a (record { value = w; left = left; tables = sum }))

pub record AlikeTraces (R : ℕ → ℕ → Type 0) (t u : Trace) : Type 0 where
  pub visited : t.visited ≡ u.visited
  pub ends : AlikeEnds R t.end u.end

module _ (R : ℕ → ℕ → Type 0) (c : Context) (g : Paged c.page)
    (unseen : (left v w : ℕ) → R v w → decoded c.page c.limit.0 left w ≡ decoded c.page c.limit.0 left v)
    (same : (v w : ℕ) → R v w → table_bits w ≡ table_bits v)
    (read read2 : ℕ → Option ℕ) (alike : (a : ℕ) → a % 8 ≡ 0 → AlikeWords R (read a) (read2 a)) where
  -- the sums stay the same
  sum_alike : (sum v w : ℕ) → R v w → with_table sum w ≡ with_table sum v
  unfolding with_table
  sum_alike sum v w k = ap (bit_or sum) (same v w k)

  onward_alike : (below below2 : ℕ → ℕ → Trace) → ((s t : ℕ) → t % 8 ≡ 0 → AlikeTraces R (below s t) (below2 s t)) → (sum left a v w : ℕ) → R v w
      → (x : Next) → decoded c.page c.limit.0 left v ≡ x → AlikeTraces R (onward below sum left a v x) (onward below2 sum left a w x)
  onward_alike below below2 h sum left a v w k (next.Fault kind) d = record { visited = refl; ends = faults kind (level_of left) }
  onward_alike below below2 h sum left a v w k (next.Table table) d =
      subst⁻¹ (λ (s : ℕ). AlikeTraces R (below (with_table sum v) table.0) (below2 s table.0)) (sum_alike sum v w k)
      (h (with_table sum v) table.0 (aligned8 c.page table.0 g (is_table_lem c.page c.limit.0 left v table d).aligned))
  onward_alike below below2 h sum left a v w k next.Leaf d = record { visited = refl; ends = leaves a left sum k }

  word_alike : (below below2 : ℕ → ℕ → Trace) → ((s t : ℕ) → t % 8 ≡ 0 → AlikeTraces R (below s t) (below2 s t)) → (sum left a : ℕ) {x y : Option ℕ} → AlikeWords R x y
      → AlikeTraces R (on_word (ended (fault ExternalAbort (level_of left))) (followed c below sum left a) x) (on_word (ended (fault ExternalAbort (level_of left))) (followed c below2 sum left a) y)
  unfolding followed
  word_alike below below2 h sum left a unreachable = record { visited = refl; ends = faults ExternalAbort (level_of left) }
  word_alike below below2 h sum left a (values {v = v} {w = w} k) =
      subst (λ (x : Next). AlikeTraces R (onward below sum left a v (decoded c.page c.limit.0 left v)) (onward below2 sum left a w x)) (sym (unseen left v w k))
      (onward_alike below below2 h sum left a v w k (decoded c.page c.limit.0 left v) refl)

  pub descend_alike : (n s t : ℕ) → t % 8 ≡ 0 → AlikeTraces R (descend c read n s t) (descend c read2 n s t)
  unfolding descend entered
  descend_alike zero s t e = record { visited = refl; ends = faults Translation 3 }
  descend_alike (suc n) s t e =
      let a = entry_at c n t in
      let w = word_alike (descend c read n) (descend c read2 n) (λ x u f. descend_alike n x u f) s n a (alike a (entry_aligned c n t e)) in
      record { visited = ap (λ (l : List ℕ). a ∷ l) w.visited; ends = w.ends }

-- and so they do where the tables do not count
hpd_alike : (R : ℕ → ℕ → Type 0) (hpd : Bool) {e f : End} → AlikeEnds R e f → AlikeEnds R (end_under_hpd hpd e) (end_under_hpd hpd f)
hpd_alike R hpd (faults kind level) = faults kind level
hpd_alike R hpd (leaves a left sum k) = leaves a left (pick hpd 0 sum) k

-- from the root on, where the root's address is a multiple of 8
pub locate_alike : (R : ℕ → ℕ → Type 0) (r : Regime) (a : ℕ)
    → ((left v w : ℕ) → R v w → decoded (context_of r a).page (context_of r a).limit.0 left w ≡ decoded (context_of r a).page (context_of r a).limit.0 left v)
    → ((v w : ℕ) → R v w → table_bits w ≡ table_bits v) → (read read2 : ℕ → Option ℕ) → ((x : ℕ) → x % 8 ≡ 0 → AlikeWords R (read x) (read2 x)) → (range_of r a).root.0 % 8 ≡ 0 → AlikeTraces R (locate r read a) (locate r read2 a)
unfolding lookup locate
locate_alike R r a unseen same read read2 alike e =
    let range = range_of r a in
    let t =
    by (range.disabled || outside range.tsz a) (leb (output_limit r.output) range.root.0)
    (descend_alike R (context_of r a) (context_paged r a) unseen same read read2 alike (suc (first_left (page_bits_of r) range.tsz)) no_tables range.root.0 e) in
    record { visited = t.visited; ends = hpd_alike R range.hpd t.ends }
  where
    by : {t u : Trace} (off beyond : Bool) → AlikeTraces R t u
        → AlikeTraces R (pick off (ended (fault Translation 0)) (pick beyond (ended (fault AddressSize 0)) t)) (pick off (ended (fault Translation 0)) (pick beyond (ended (fault AddressSize 0)) u))
    by true beyond h = record { visited = refl; ends = faults Translation 0 }
    by false true h = record { visited = refl; ends = faults AddressSize 0 }
    by false false h = h
