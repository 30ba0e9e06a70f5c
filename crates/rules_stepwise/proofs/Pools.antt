-- Over what a pool holds, the end of the plain walk over that reader is the plain walk of the memory.
use Prim.Native.Nat.{ℕ, ◌+◌, ◌-◌}
use mathlib.Core.Bool.{Bool, true, false}
use mathlib.Core.List.{List}
use mathlib.Core.Path.{◌≡◌, refl, ap, subst⁻¹, ◌∙◌}
use native.Mathlib.Omega.{arith}
use lib.ListN.{length}
use Rattle.descriptor.specs.Bytes.{put}
use Rattle.descriptor.specs.Bits.{pick}
use Rattle.vmsa.specs.declared.Regime.{Regime}
use Rattle.vmsa.specs.declared.Access.{Access}
use Rattle.vmsa.specs.declared.Leaf.{Leaf}
use Rattle.refusals.specs.Tests.{memory_pool_bad, pool_address_bad}
use Rattle.checks.specs.Order.{Checked}
use Rattle.std.specs.Prelude.{Ok, Err, None, Some}
use Rattle.checks.specs.Order.{walk_check, start_check}
use Rattle.checks.proofs.Rows.{walk_start}
use Rattle.lookup.specs.Trace.{End, fault, leaf}
use Rattle.lookup.specs.Steps.{locate}
use Rattle.decision.specs.Decision.{Decision, decision}
use Rattle.walk.specs.Walk.{Outcome, pool_bytes, with_pool_bytes, concluded, traced, walk_pool, walk}
use Rattle.walk.proofs.Ends.{ready}
use Rattle.walk.proofs.Parts.{with_own, with_put}
use Rattle.stepwise.specs.Stepwise.{Ended, conclusion, due_of}
use Rattle.rules.specs.Tables.{trace_of, reader_of}
use Rattle.rules.specs.Rule2.{LeafOf}
use Rattle.rules.proofs.Walks.{walk_refused, walk_taken, leaf_found, leaf_placed, pool_long}
use Rattle.rules_stepwise.specs.Feeds.{Plain, along, plain_over}
use Rattle.rules_stepwise.specs.Promised.{with_due, StandsAt, Expected}
use Rattle.rules_stepwise.proofs.Starts.{plain_refused, plain_walked}

-- the end e is the plain walk of the memory
abbrev pub IsWalk : Regime → Access → List ℕ → Ended → Type 0
IsWalk r a m e = ((walk r a m).result ≡ e.result) × ((walk r a m).bytes ≡ with_due r m e.due) × Expected r m e.due

module _ (r : Regime) (a : Access) (m : List ℕ) (k : walk_check (length m) r a ≡ Ok tt) where
  abbrev reads : ℕ
  reads = length (trace_of r a m).visited

  abbrev pool : List ℕ
  pool = pool_bytes r.pool m

  -- the walk, by the end of its trace
  by_end : (x : End) → (trace_of r a m).end ≡ x → walk r a m ≡ record { result = (concluded r a pool reads x).result; bytes = with_pool_bytes r.pool m (concluded r a pool reads x).bytes }
  unfolding walk_pool
  by_end x e = walk_taken r a m k ∙ ap (λ (y : End). record { result = (concluded r a pool reads y).result; bytes = with_pool_bytes r.pool m (concluded r a pool reads y).bytes }) e

  module _ (at : ℕ) (l : Leaf) (e : (trace_of r a m).end ≡ leaf at l) where
    abbrev found : LeafOf r a m
    found = record { address = at; value = l.value; left = l.left; tables = l.tables; reached = e }

    -- the leaf's descriptor stands in the pool
    stands : StandsAt r m (record { 0 = at }) l.value
    stands =
        let f = (leaf_found r a m k found).inside in
        let n = pool_long r a m k in
        record { least = f.least; most = omega arith; same = (leaf_placed r a m k found).value }

    leaf_bytes_lem : (d : Decision) → with_pool_bytes r.pool m (pick d.update (put r.ee pool (at - r.pool.address.0) d.value) pool) ≡ with_due r m (due_of at l.value d)
    leaf_bytes_lem d =
        let s = stands in
        with_put r.ee m r.pool.start r.pool.length (at - r.pool.address.0) d.value d.update (ready (length m) r a k).fits (let z = s.least in let y = s.most in omega arith)
        ∙ by d.update
      where
        by : (b : Bool) → pick b (put r.ee m (r.pool.start + (at - r.pool.address.0)) d.value) m
            ≡ with_due r m (pick b (Some (record { address = record { 0 = at }; expected = l.value; value = d.value })) None)
        by true = refl
        by false = refl

    leaf_expected : (d : Decision) → Expected r m (due_of at l.value d)
    leaf_expected d = by d.update
      where
        by : (b : Bool) → Expected r m (pick b (Some (record { address = record { 0 = at }; expected = l.value; value = d.value })) None)
        by true = stands
        by false = tt

  walk_by : (x : End) → (trace_of r a m).end ≡ x → IsWalk r a m (conclusion r a reads x)
  walk_by (fault kind level) e =
      let w = by_end (fault kind level) e in
      (ap (λ (o : Outcome). o.result) w, ap (λ (o : Outcome). o.bytes) w ∙ with_own m r.pool.start r.pool.length, tt)
  walk_by (leaf at l) e =
      let w = by_end (leaf at l) e in
      let d = decision r a l reads in
      (ap (λ (o : Outcome). o.result) w, ap (λ (o : Outcome). o.bytes) w ∙ leaf_bytes_lem at l e d, leaf_expected at l e d)

  pub walked_end : IsWalk r a m (along r a (locate r (reader_of r m) a.address.0)).end
  unfolding traced
  walked_end = walk_by (trace_of r a m).end refl

pub plain_walk : (r : Regime) (a : Access) (m : List ℕ) → memory_pool_bad (length m) r ≡ false → pool_address_bad r ≡ false → IsWalk r a m (plain_over r a (reader_of r m)).end
plain_walk r a m e f = by (start_check r a) refl
  where
    by : (x : Checked) → start_check r a ≡ x → IsWalk r a m (plain_over r a (reader_of r m)).end
    by (Err x) k =
        let w = walk_refused r a m x (walk_start (length m) r a e f ∙ k) in
        subst⁻¹ (λ (p : Plain). IsWalk r a m p.end) (plain_refused r a (reader_of r m) x k) (ap (λ (o : Outcome). o.result) w, ap (λ (o : Outcome). o.bytes) w, tt)
    by (Ok _) k =
        subst⁻¹ (λ (p : Plain). IsWalk r a m p.end) (plain_walked r a (reader_of r m) k) (walked_end r a m (walk_start (length m) r a e f ∙ k))
