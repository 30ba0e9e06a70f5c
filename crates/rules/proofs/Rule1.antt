-- Rule 1 holds.
use Prim.Native.Nat.{ℕ, ◌+◌, ◌<◌, ◌≤◌}
use mathlib.Core.Bool.{◌||◌}
use mathlib.Core.List.{List}
use mathlib.Core.Logic.{◌⊎◌, inl, inr}
use Rattle.std.specs.Prelude.{Option, None, Some, Ok, Err}
use mathlib.Core.Path.{◌≡◌, refl, ap, ◌∙◌}
use lib.ListN.{length, get_or}
use Rattle.descriptor.specs.Bytes.{Bytes, put}
use Rattle.descriptor.proofs.Tests.{pick_both}
use Rattle.vmsa.specs.Answers.{refused, number_of}
use Rattle.vmsa.specs.declared.Regime.{Regime}
use Rattle.vmsa.specs.declared.Access.{Access}
use Rattle.vmsa.specs.declared.Refusal.{Refusal}
use Rattle.checks.specs.Order.{Checked}
use Rattle.checks.specs.Order.{walk_rows, walk_check}
use Rattle.checks.proofs.Accept.{walk_accepted}
use Rattle.decision.specs.Decision.{flag_due, dirty_due}
use Rattle.walk.specs.Walk.{Outcome, pool_bytes, walk_pool, walk}
use Rattle.walk.proofs.Ends.{ready}
use Rattle.rules.specs.Rule1.{FirstRow, Rule1}
use Rattle.rules.specs.Rule2.{steps_of, offset}
use Rattle.walk.proofs.Parts.{length_with, get_d_with_before, get_d_with_after, part_with}
use Rattle.descriptor.proofs.Numbers.{bytes_put}
use Rattle.rules.proofs.Refusals.{first_refuses, refuses_first}
use Rattle.rules.proofs.StepLaws.{Fault, first_fault}
use Rattle.rules.proofs.Walks.{leaf_in, updated_leaf, walk_refused, walk_taken, passed_leaf, passed_bytes, failed_bytes, pool_length, taken_answers, refused_by, taken_by}

module _ (r : Regime) (a : Access) (m : List ℕ) where
  refusal_given : (k : ℕ) → (walk r a m).result ≡ refused k → (x : Refusal) × FirstRow (walk_rows (length m) r a) x × (number_of x ≡ k)
  unfolding walk_check
  refusal_given k e =
      let q = refused_by r a m k e in
      (q.0, refuses_first (walk_rows (length m) r a) q.0 q.1, q.2)

  refusal_gives : (x : Refusal) → FirstRow (walk_rows (length m) r a) x → (walk r a m).result ≡ refused (number_of x)
  unfolding walk_check
  refusal_gives x f = ap (λ (o : Outcome). o.result) (walk_refused r a m x (first_refuses f))

  refusal_keeps : (k : ℕ) → (walk r a m).result ≡ refused k → (walk r a m).bytes ≡ m
  refusal_keeps k e =
      let q = refused_by r a m k e in
      ap (λ (o : Outcome). o.bytes) (walk_refused r a m q.0 q.1)

  same_length : length (walk r a m).bytes ≡ length m
  same_length = by (walk_check (length m) r a) refl
    where
      by : (c : Checked) → walk_check (length m) r a ≡ c → length (walk r a m).bytes ≡ length m
      by (Err x) e = rw (walk_refused r a m x e)
      by (Ok _) e =
          rw (walk_taken r a m e)
          (length_with m (walk_pool r a (pool_bytes r.pool m)).bytes r.pool.start r.pool.length (ready (length m) r a e).fits (pool_length r a m e))

  same_outside : (i : ℕ) → (i < r.pool.start) ⊎ (r.pool.start + r.pool.length ≤ i) → get_or (walk r a m).bytes i 0 ≡ get_or m i 0
  same_outside i h = by (walk_check (length m) r a) refl h
    where
      by : (c : Checked) → walk_check (length m) r a ≡ c → (i < r.pool.start) ⊎ (r.pool.start + r.pool.length ≤ i) → get_or (walk r a m).bytes i 0 ≡ get_or m i 0
      by (Err x) e h = rw (walk_refused r a m x e)
      by (Ok _) e (inl h) =
          rw (walk_taken r a m e)
          (get_d_with_before m (walk_pool r a (pool_bytes r.pool m)).bytes r.pool.start r.pool.length (ready (length m) r a e).fits (pool_length r a m e) i h)
      by (Ok _) e (inr h) =
          rw (walk_taken r a m e)
          (get_d_with_after m (walk_pool r a (pool_bytes r.pool m)).bytes r.pool.start r.pool.length (ready (length m) r a e).fits (pool_length r a m e) i h)

  same_bytes : Bytes m → Bytes (walk r a m).bytes
  same_bytes h = by (walk_check (length m) r a) refl
    where
      taken : walk_check (length m) r a ≡ Ok tt → (o : Option Fault) → first_fault (steps_of r a m) ≡ o → Bytes (walk r a m).bytes
      taken e None q =
          let l = passed_leaf r a m q in
          let v = updated_leaf r a (leaf_in l) in
          rw (passed_bytes r a m e q l) (pick_both Bytes (flag_due r a (leaf_in l) || dirty_due r a (leaf_in l)) (put r.ee m (offset l) v) m (bytes_put r.ee m (offset l) v h) h)
      taken e (Some f) q = rw (failed_bytes r a m e f q) h

      by : (c : Checked) → walk_check (length m) r a ≡ c → Bytes (walk r a m).bytes
      by (Err x) e = rw (walk_refused r a m x e) h
      by (Ok _) e = taken e (first_fault (steps_of r a m)) refl

  pool_after : walk_check (length m) r a ≡ Ok tt → pool_bytes r.pool (walk r a m).bytes ≡ (walk_pool r a (pool_bytes r.pool m)).bytes
  pool_after e =
      rw (walk_taken r a m e)
      (part_with m (walk_pool r a (pool_bytes r.pool m)).bytes r.pool.start r.pool.length (ready (length m) r a e).fits (pool_length r a m e))

same_answer : (r : Regime) (a : Access) (m n : List ℕ) → length m ≡ length n → pool_bytes r.pool m ≡ pool_bytes r.pool n
    → ((walk r a m).result ≡ (walk r a n).result) × (pool_bytes r.pool (walk r a m).bytes ≡ pool_bytes r.pool (walk r a n).bytes)
same_answer r a m n l p = by (walk_check (length n) r a) refl
  where
    by : (c : Checked) → walk_check (length n) r a ≡ c
        → ((walk r a m).result ≡ (walk r a n).result) × (pool_bytes r.pool (walk r a m).bytes ≡ pool_bytes r.pool (walk r a n).bytes)
    by (Err x) e =
        let f : walk_check (length m) r a ≡ Err x = rw l e in
        rw (walk_refused r a m x f, walk_refused r a n x e) (refl, p)
    by (Ok _) e =
        let f : walk_check (length m) r a ≡ Ok tt = rw l e in
        (rw (walk_taken r a m f, walk_taken r a n e, p), rw (pool_after r a m f, pool_after r a n e, p))

pub rule1 : Rule1
rule1 = record {
  refusals = λ r a m k. (refusal_given r a m k, λ w. refusal_gives r a m w.0 w.1 ∙ ap refused w.2);
  accepted = λ r a m. (taken_answers r a m, taken_by r a m);
  managed = λ r a m h. (walk_accepted (length m) r a (taken_by r a m h)).0.managed;
  kept = refusal_keeps;
  long = same_length;
  outside = same_outside;
  bytes = same_bytes;
  unheard = same_answer;
}
