-- What an offer leaves of a walk that wants a descriptor, case by case; and what the walk still has before it, over a reader.
use Prim.Native.Nat.{ℕ, suc, ◌-◌, ◌≤◌, ◌<◌}
use mathlib.Core.Path.{◌≡◌, refl, sym, ap, ◌∙◌}
use native.Mathlib.Nat.{min-eq_left, min-le_right}
use native.Mathlib.Omega.{arith}
use Rattle.vmsa.specs.Fields.{with_table}
use Rattle.vmsa.specs.declared.PhysAddr.{PhysAddr}
use Rattle.vmsa.specs.declared.FaultKind.{FaultKind}
use Rattle.vmsa.specs.declared.FaultKind.TheVariants.{ExternalAbort}
use Rattle.vmsa.specs.declared.Refusal.{Refusal}
use Rattle.geometry.specs.Geometry.{level_of}
use Rattle.checks.specs.Order.{Checked}
use Rattle.std.specs.Prelude.{Ok, Err, Option, Some, None}
use Rattle.checks.specs.Order.{start_check}
use Rattle.lookup.specs.declared.Context.{Context}
use Rattle.lookup.specs.declared.Next.{Next}
use Rattle.lookup.specs.declared.Next.TheVariants as next
use Rattle.lookup.specs.Trace.{fault, leaf, Trace, ended as ended_trace, visit}
use Rattle.lookup.specs.Steps.{decoded, entry_at, on_word, followed, entered, descend}
use Rattle.lookup.specs.Steps as steps
use Rattle.lookup.proofs.Decoding.{table_above}
use Rattle.lookup.proofs.Levels.{down_up}
use Rattle.stepwise.specs.declared.Wanting.{Wanting}
use Rattle.stepwise.specs.Stepwise.{Progress, wanting, ended, declined, wanting_entry, left_at_start, left_at, leaf_at, ended_at, after_value, context_at, taken, offered_by, offered}

-- what the descriptor v says at the level of the one that is wanted
abbrev pub says_at : Wanting → ℕ → Next
says_at w v = decoded (context_at w).page (context_at w).limit.0 (left_at w) v

-- a table's entry is wanted next
abbrev pub below : Wanting → ℕ → PhysAddr → Wanting
below w v table = wanting_entry w.regime w.access (left_at w - 1) (with_table w.tables v) table.0

pub data Left (w : Wanting) (o : Option ℕ) : Progress → Type 0 where
  refused : (x : Refusal) → start_check w.regime w.access ≡ Err x → Left w o (ended (declined x))
  aborted : start_check w.regime w.access ≡ Ok tt → o ≡ None → Left w o (ended_at w (fault ExternalAbort (level_of (left_at w))))
  faulted : start_check w.regime w.access ≡ Ok tt → (v : ℕ) → o ≡ Some v → (kind : FaultKind) → says_at w v ≡ next.Fault kind → Left w o (ended_at w (fault kind (level_of (left_at w))))
  deeper : start_check w.regime w.access ≡ Ok tt → (v : ℕ) → o ≡ Some v → (table : PhysAddr) → says_at w v ≡ next.Table table → Left w o (wanting (below w v table))
  reached : start_check w.regime w.access ≡ Ok tt → (v : ℕ) → o ≡ Some v → says_at w v ≡ next.Leaf → Left w o (ended_at w (leaf w.address.0 (leaf_at w v)))

pub left_by_lem : (w : Wanting) (o : Option ℕ) → Left w o (offered w o)
unfolding offered
left_by_lem w o = by (start_check w.regime w.access) refl
  where
    on_next : start_check w.regime w.access ≡ Ok tt → (v : ℕ) → o ≡ Some v → (x : Next) → says_at w v ≡ x → Left w o (after_value w v x)
    on_next c v e (next.Fault kind) d = faulted c v e kind d
    on_next c v e (next.Table table) d = deeper c v e table d
    on_next c v e next.Leaf d = reached c v e d

    on_word_lem : start_check w.regime w.access ≡ Ok tt → (x : Option ℕ) → o ≡ x → Left w o (taken w x)
    on_word_lem c (Some v) e = on_next c v e (says_at w v) refl
    on_word_lem c None e = aborted c e

    by : (x : Checked) → start_check w.regime w.access ≡ x → Left w o (offered_by w o x)
    by (Err x) c = refused x c
    by (Ok _) c = on_word_lem c o refl

-- ---- the levels left

pub left_most : (w : Wanting) → left_at w ≤ left_at_start w
unfolding left_at
left_most w = min-le_right w.left (left_at_start w)

-- one level lower, where a table says so
module _ (w : Wanting) (v : ℕ) (table : PhysAddr) (d : says_at w v ≡ next.Table table) where
  pub left_above : 0 < left_at w
  left_above = table_above (context_at w).page (context_at w).limit.0 (left_at w) v table d

  pub left_below : left_at (below w v table) ≡ left_at w - 1
  unfolding left_at
  left_below = min-eq_left (let h = left_most w in let k : left_at w - 1 ≤ left_at_start w = omega arith in k)

-- ---- what is before a walk, over a reader

-- from a table's entry on
abbrev pub entry_trace : Context → (ℕ → Option ℕ) → ℕ → ℕ → ℕ → Trace
entry_trace c read left sum at = visit at (on_word (ended_trace (fault ExternalAbort (level_of left))) (followed c (descend c read left) sum left at) (read at))

pub descend_entry : (c : Context) (read : ℕ → Option ℕ) (left sum table : ℕ) → descend c read (suc left) sum table ≡ entry_trace c read left sum (entry_at c left table)
unfolding descend entered
descend_entry c read left sum table = refl

abbrev pub rest_of : Wanting → (ℕ → Option ℕ) → Trace
rest_of w read = entry_trace (context_at w) read (left_at w) w.tables w.address.0

module _ (w : Wanting) (read : ℕ → Option ℕ) where
  abbrev at : ℕ
  at = w.address.0

  pub rest_aborted : read at ≡ None → rest_of w read ≡ visit at (ended_trace (fault ExternalAbort (level_of (left_at w))))
  rest_aborted e = rw e

  rest_by : (v : ℕ) → read at ≡ Some v → (x : Next) → says_at w v ≡ x → rest_of w read ≡ visit at (steps.onward (descend (context_at w) read (left_at w)) w.tables (left_at w) at v x)
  unfolding followed
  rest_by v e x d = rw (e, d)

  pub rest_faulted : (v : ℕ) → read at ≡ Some v → (kind : FaultKind) → says_at w v ≡ next.Fault kind → rest_of w read ≡ visit at (ended_trace (fault kind (level_of (left_at w))))
  rest_faulted v e kind d = rest_by v e (next.Fault kind) d

  pub rest_reached : (v : ℕ) → read at ≡ Some v → says_at w v ≡ next.Leaf → rest_of w read ≡ visit at (ended_trace (leaf at (record { value = v; left = left_at w; tables = w.tables })))
  rest_reached v e d = rest_by v e next.Leaf d

  pub rest_deeper : (v : ℕ) → read at ≡ Some v → (table : PhysAddr) → says_at w v ≡ next.Table table → rest_of w read ≡ visit at (rest_of (below w v table) read)
  rest_deeper v e table d =
      let c = context_at w in
      let sum = with_table w.tables v in
      let l = left_at w in
      rest_by v e (next.Table table) d
      ∙ ap (visit at)
      (ap (λ (n : ℕ). descend c read n sum table.0) (sym (down_up l (left_above w v table d)))
      ∙ descend_entry c read (l - 1) sum table.0
      ∙ ap (λ (n : ℕ). entry_trace c read n sum (entry_at c (l - 1) table.0)) (sym (left_below w v table d)))
