-- The walk over the pool, by its first failing step: that step's fault with the pool as it was, or, with none, what the leaf passes.
use Prim.Native.Nat.{ℕ, ◌-◌}
use mathlib.Core.Bool.{Bool, true, false}
use mathlib.Core.List.{List, [], ◌∷◌}
use Rattle.std.specs.Prelude.{Option, None, Some}
use mathlib.Core.Path.{◌≡◌, refl, subst, subst⁻¹}
use lib.ListN.{length}
use Rattle.vmsa.specs.Fields.{af}
use Rattle.geometry.specs.Geometry.{level_of}
use Rattle.vmsa.specs.Answers.{fault as faulted, code_of}
use Rattle.vmsa.specs.declared.Regime.{Regime}
use Rattle.vmsa.specs.declared.Access.{Access}
use Rattle.vmsa.specs.declared.Leaf.{Leaf}
use Rattle.vmsa.specs.declared.FaultKind.{FaultKind}
use Rattle.vmsa.specs.declared.FaultKind.TheVariants.{AccessFlag, Permission, Alignment}
use Rattle.lookup.specs.Trace.{End, fault, leaf}
use Rattle.permission.specs.Permission.{flag_fails, alignment_fails, permission_fails}
use Rattle.decision.specs.Decision.{Decision, first_failing, failing, passing, decision}
use Rattle.walk.specs.Walk.{Outcome, traced, applied, walk_pool}
use Rattle.rules.specs.Steps.{step, leaf_steps, walk_steps}
use Rattle.rules.proofs.StepLaws.{Fault, first_fault, end_fault, walk_steps_lem}

-- whether a fault after such an end may be remembered
abbrev pub end_cacheable : End → Bool
end_cacheable (fault kind level) = false
end_cacheable (leaf at l) = af l.value

-- no step failed: the trace ends in a leaf
pub record Passed (r : Regime) (a : Access) (pool : List ℕ) : Type 0 where
  pub address : ℕ
  pub found : Leaf
  pub ends : (traced r pool a.address.0).end ≡ leaf address found

-- the first to fail gave the fault k at level l
abbrev pub fault_outcome : FaultKind → ℕ → Bool → ℕ → List ℕ → Outcome
fault_outcome k l cacheable reads pool = record { result = faulted (record { code = code_of k l; level = l; cacheable = cacheable; reads = reads }); bytes = pool }

abbrev pub Failed : Regime → Access → List ℕ → FaultKind → ℕ → Type 0
Failed r a pool k l =
    walk_pool r a pool ≡ fault_outcome k l (end_cacheable (traced r pool a.address.0).end) (length (traced r pool a.address.0).visited) pool

abbrev pub ByFault : Regime → Access → List ℕ → Option Fault → Type 0
ByFault r a pool None = Passed r a pool
ByFault r a pool (Some f) = Failed r a pool f.0 f.1

-- ---- steps 6 to 8

abbrev Decided : Regime → Access → Leaf → ℕ → Decision → Option Fault → Type 0
Decided r a l reads d None = d ≡ passing r a l reads
Decided r a l reads d (Some f) = (d ≡ failing l reads f.0) × (f.1 ≡ level_of l.left)

decision_by : (r : Regime) (a : Access) (l : Leaf) (reads : ℕ) → Decided r a l reads (decision r a l reads) (first_fault (leaf_steps r a l))
unfolding leaf_steps decision
decision_by r a l reads = by (flag_fails r l) (alignment_fails r a l) (permission_fails r a l)
  where
    by : (x y z : Bool)
        → Decided r a l reads (first_failing ((x, AccessFlag) ∷ (y, Alignment) ∷ (z, Permission) ∷ []) (failing l reads) (passing r a l reads))
        (first_fault (step x AccessFlag (level_of l.left) ∷ step y Alignment (level_of l.left) ∷ step z Permission (level_of l.left) ∷ []))
    by true y z = (refl, refl)
    by false true z = (refl, refl)
    by false false true = (refl, refl)
    by false false false = refl

decision_at : (r : Regime) (a : Access) (l : Leaf) (reads : ℕ) (o : Option Fault) → first_fault (leaf_steps r a l) ≡ o → Decided r a l reads (decision r a l reads) o
decision_at r a l reads o q = subst (Decided r a l reads (decision r a l reads)) q (decision_by r a l reads)

-- ---- all steps

module _ (r : Regime) (a : Access) (pool : List ℕ) where
  -- a leaf none of whose steps fails
  pub leaf_passes : (address : ℕ) (l : Leaf) → (traced r pool a.address.0).end ≡ leaf address l → first_fault (leaf_steps r a l) ≡ None
      → walk_pool r a pool ≡ applied r.ee pool (address - r.pool.address.0) (passing r a l (length (traced r pool a.address.0).visited))
  unfolding walk_pool
  leaf_passes address l e q =
      let d = decision_at r a l (length (traced r pool a.address.0).visited) None q in
      rw (e, d)

  leaf_outcome : (address : ℕ) (l : Leaf) → (traced r pool a.address.0).end ≡ leaf address l → (o : Option Fault) → first_fault (leaf_steps r a l) ≡ o → ByFault r a pool o
  unfolding walk_pool failing
  leaf_outcome address l e None q = record { address = address; found = l; ends = e }
  leaf_outcome address l e (Some f) q =
      let d = decision_at r a l (length (traced r pool a.address.0).visited) (Some f) q in
      rw (e, d.0, d.1)

  pub pool_outcome : ByFault r a pool (first_fault (walk_steps r a pool))
  unfolding walk_pool
  pool_outcome = subst⁻¹ (ByFault r a pool) (walk_steps_lem r a pool) (by (traced r pool a.address.0).end refl)
    where
      by : (e : End) → (traced r pool a.address.0).end ≡ e → ByFault r a pool (end_fault r a e)
      by (fault kind level) q = rw q
      by (leaf address l) q = leaf_outcome address l q (first_fault (leaf_steps r a l)) refl

  pub pool_by : (o : Option Fault) → first_fault (walk_steps r a pool) ≡ o → ByFault r a pool o
  pool_by o q = subst (ByFault r a pool) q pool_outcome
