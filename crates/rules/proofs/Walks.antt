-- The walk over the memory, from its checks and the walk over the pool.
use Prim.Native.Nat.{ℕ, ◌+◌, ◌-◌, ◌%◌, ◌≤◌}
use mathlib.Core.Bool.{◌||◌}
use mathlib.Core.List.{List}
use Rattle.std.specs.Prelude.{Option, None, Some, Ok, Err}
use mathlib.Core.Path.{◌≡◌, refl, sym, ap, ◌∙◌}
use native.Mathlib.Omega.{arith}
use lib.ListN.{length}
use Rattle.descriptor.specs.Bytes.{put}
use Rattle.descriptor.specs.Bits.{pick}
use Rattle.descriptor.proofs.Tests.{clash, pick_both}
use Rattle.descriptor.proofs.Laws.{length_put}
use Rattle.geometry.specs.Geometry.{level_of}
use Rattle.vmsa.specs.Fields.{shareability, nonglobal}
use Rattle.vmsa.specs.Answers.{Faulted, success, fault as faulted, refused, code_of, number_of}
use Rattle.vmsa.specs.declared.Regime.{Regime}
use Rattle.vmsa.specs.declared.Access.{Access}
use Rattle.vmsa.specs.declared.Leaf.{Leaf}
use Rattle.vmsa.specs.declared.Success.{Success}
use Rattle.vmsa.specs.declared.Refusal.{Refusal}
use Rattle.checks.specs.Order.{Checked}
use Rattle.checks.specs.Order.{walk_check}
use Rattle.checks.proofs.Accept.{walk_accepted}
use Rattle.permission.specs.Permission.{attribute_of}
use Rattle.decision.specs.Decision.{flag_due, dirty_due, updated, cacheable, output_of, passing}
use Rattle.walk.specs.Walk.{Outcome, pool_bytes, with_pool_bytes, applied, walk_pool, walk}
use Rattle.walk.proofs.Ends.{Found, found, ready, multiple8}
use Rattle.rules.specs.Steps.{leaf_steps}
use Rattle.rules.specs.Tables.{trace_of}
use Rattle.rules.specs.Rule2.{steps_of, LeafOf, offset, Placed}
use Rattle.walk.proofs.Parts.{with_own, with_put, length_part, desc_part}
use Rattle.rules.proofs.StepLaws.{Fault, first_fault, end_fault, walk_steps_lem}
use Rattle.rules.proofs.Outcomes.{end_cacheable, leaf_passes, pool_by}

-- the count of reads of an access, and what its leaf says
abbrev pub reads_of : Regime → Access → List ℕ → ℕ
reads_of r a m = length (trace_of r a m).visited

abbrev pub leaf_in : {r : Regime} {a : Access} {m : List ℕ} → LeafOf r a m → Leaf
leaf_in l = record { value = l.value; left = l.left; tables = l.tables }

-- what a success is told of its leaf
abbrev pub told : Regime → Access → Leaf → ℕ → Success
told r a l reads = record {
  output = record { 0 = output_of r a l };
  attribute = attribute_of r l;
  shareability = shareability l.value;
  nonglobal = nonglobal l.value;
  level = level_of l.left;
  accessed = flag_due r a l;
  dirtied = dirty_due r a l;
  cacheable = cacheable r a l;
  reads = reads;
}

-- and the leaf's value afterwards
abbrev pub updated_leaf : Regime → Access → Leaf → ℕ
updated_leaf r a l = updated (flag_due r a l) (dirty_due r a l) l.value

module _ (r : Regime) (a : Access) (m : List ℕ) where
  -- ---- by what the checks say

  pub walk_refused : (x : Refusal) → walk_check (length m) r a ≡ Err x → walk r a m ≡ record { result = refused (number_of x); bytes = m }
  unfolding walk
  walk_refused x e = rw e

  pub walk_taken : walk_check (length m) r a ≡ Ok tt
      → walk r a m
      ≡ record {
        result = (walk_pool r a (pool_bytes r.pool m)).result;
        bytes = with_pool_bytes r.pool m (walk_pool r a (pool_bytes r.pool m)).bytes;
      }
  unfolding walk
  walk_taken e = rw e

  -- ---- where a leaf lies

  module _ (c : walk_check (length m) r a ≡ Ok tt) where
    pub leaf_found : (l : LeafOf r a m) → Found r (pool_bytes r.pool m) a.address.0 l.address (leaf_in l)
    leaf_found l =
        let h = ready (length m) r a c in
        found r (pool_bytes r.pool m) a.address.0 l.address (leaf_in l) h.sized h.root l.reached

    pub pool_long : length (pool_bytes r.pool m) ≡ r.pool.length
    pool_long = length_part m r.pool.start r.pool.length (ready (length m) r a c).fits

    leaf_inside : (l : LeafOf r a m) → (r.pool.address.0 ≤ l.address) × (l.address - r.pool.address.0 + 8 ≤ r.pool.length)
    leaf_inside l =
        let i = (leaf_found l).inside in
        let n = pool_long in
        (i.least, omega arith)

    pub leaf_placed : (l : LeafOf r a m) → Placed l
    leaf_placed l =
        let h = (walk_accepted (length m) r a c).0 in
        let f = leaf_found l in
        let i = leaf_inside l in
        let s8 = multiple8 r r.pool.start h.pool.start in
        let b8 = multiple8 r r.pool.address.0 h.address.aligned in
        let a8 : l.address % 8 ≡ 0 = f.reached.aligned in
        record {
          least = omega arith;
          most = omega arith;
          aligned = omega arith;
          value = sym (desc_part r.ee m r.pool.start r.pool.length (l.address - r.pool.address.0) h.pool.fits i.1) ∙ f.inside.same;
        }

  -- ---- by the first failing step: where none fails there is a leaf, and it decides

  pub passed_leaf : first_fault (steps_of r a m) ≡ None → LeafOf r a m
  passed_leaf q =
      let p = pool_by r a (pool_bytes r.pool m) None q in
      let l = p.found in
      record { address = p.address; value = l.value; left = l.left; tables = l.tables; reached = p.ends }

  -- the first failing step of a walk that ends in a leaf is the leaf's
  pub leaf_first : (l : LeafOf r a m) → first_fault (leaf_steps r a (leaf_in l)) ≡ first_fault (steps_of r a m)
  leaf_first l = sym (walk_steps_lem r a (pool_bytes r.pool m) ∙ ap (end_fault r a) l.reached)

  passed_pool : first_fault (steps_of r a m) ≡ None → (l : LeafOf r a m)
      → walk_pool r a (pool_bytes r.pool m) ≡ applied r.ee (pool_bytes r.pool m) (l.address - r.pool.address.0) (passing r a (leaf_in l) (reads_of r a m))
  passed_pool q l = leaf_passes r a (pool_bytes r.pool m) l.address (leaf_in l) l.reached (leaf_first l ∙ q)

  -- the fault of a step
  abbrev pub fault_of : Fault → Faulted
  fault_of f = record { code = code_of f.0 f.1; level = f.1; cacheable = end_cacheable (trace_of r a m).end; reads = reads_of r a m }

  module _ (c : walk_check (length m) r a ≡ Ok tt) where
    pub failed_result : (f : Fault) → first_fault (steps_of r a m) ≡ Some f → (walk r a m).result ≡ faulted (fault_of f)
    failed_result f q = rw (walk_taken c, pool_by r a (pool_bytes r.pool m) (Some f) q)

    pub failed_bytes : (f : Fault) → first_fault (steps_of r a m) ≡ Some f → (walk r a m).bytes ≡ m
    failed_bytes f q = rw (walk_taken c, pool_by r a (pool_bytes r.pool m) (Some f) q) (with_own m r.pool.start r.pool.length)

    pub passed_result : first_fault (steps_of r a m) ≡ None → (l : LeafOf r a m) → (walk r a m).result ≡ success (told r a (leaf_in l) (reads_of r a m))
    unfolding passing
    passed_result q l = rw (walk_taken c, passed_pool q l)

    pub passed_bytes : first_fault (steps_of r a m) ≡ None → (l : LeafOf r a m)
        → (walk r a m).bytes ≡ pick (flag_due r a (leaf_in l) || dirty_due r a (leaf_in l)) (put r.ee m (offset l) (updated_leaf r a (leaf_in l))) m
    unfolding passing
    passed_bytes q l =
        rw (walk_taken c, passed_pool q l)
        (with_put r.ee m r.pool.start r.pool.length (l.address - r.pool.address.0) (updated_leaf r a (leaf_in l)) (flag_due r a (leaf_in l) || dirty_due r a (leaf_in l))
        (ready (length m) r a c).fits (leaf_inside c l).1)

    -- the walk over the pool leaves as many bytes
    pub pool_length : length (walk_pool r a (pool_bytes r.pool m)).bytes ≡ r.pool.length
    unfolding passing
    pool_length = by (first_fault (steps_of r a m)) refl
      where
        pool : List ℕ
        pool = pool_bytes r.pool m

        by : (o : Option Fault) → first_fault (steps_of r a m) ≡ o → length (walk_pool r a pool).bytes ≡ r.pool.length
        by None q =
            let l = passed_leaf q in
            let at = l.address - r.pool.address.0 in
            let n = pool_long c in
            let i = leaf_inside c l in
            let v = updated_leaf r a (leaf_in l) in
            rw (passed_pool q l)
            (pick_both (λ (x : List ℕ). length x ≡ r.pool.length) (flag_due r a (leaf_in l) || dirty_due r a (leaf_in l)) (put r.ee pool at v) pool
            (length_put r.ee pool at v (omega arith) ∙ n) n)
        by (Some f) q = rw (pool_by r a pool (Some f) q) (pool_long c)

    -- no walk that is taken refuses
    pub taken_answers : (k : ℕ) → (walk r a m).result ≡ refused k → ⊥
    taken_answers k e = by (first_fault (steps_of r a m)) refl
      where
        by : (o : Option Fault) → first_fault (steps_of r a m) ≡ o → ⊥
        by None q = clash (let z = passed_result q (passed_leaf q) in cc)
        by (Some f) q = clash (let z = failed_result f q in cc)

  -- ---- by the answer

  pub refused_by : (k : ℕ) → (walk r a m).result ≡ refused k → (x : Refusal) × (walk_check (length m) r a ≡ Err x) × (number_of x ≡ k)
  refused_by k e = by (walk_check (length m) r a) refl
    where
      by : (c : Checked) → walk_check (length m) r a ≡ c → (x : Refusal) × (walk_check (length m) r a ≡ Err x) × (number_of x ≡ k)
      by (Err x) h =
          let w : refused (number_of x) ≡ refused k = sym (ap (λ (o : Outcome). o.result) (walk_refused x h)) ∙ e in
          (x, h, (cc))
      by (Ok _) h = absurd (taken_answers h k e)

  pub taken_by : ((k : ℕ) → (walk r a m).result ≡ refused k → ⊥) → walk_check (length m) r a ≡ Ok tt
  taken_by n = by (walk_check (length m) r a) refl
    where
      by : (c : Checked) → walk_check (length m) r a ≡ c → c ≡ Ok tt
      by (Err x) h = absurd (n (number_of x) (ap (λ (o : Outcome). o.result) (walk_refused x h)))
      by (Ok _) h = refl

  module _ (f : Faulted) (e : (walk r a m).result ≡ faulted f) where
    pub fault_taken : walk_check (length m) r a ≡ Ok tt
    fault_taken = taken_by (λ k q. clash (let z : faulted f ≡ refused k = sym e ∙ q in cc))

    pub fault_some : (g : Fault) × (first_fault (steps_of r a m) ≡ Some g) × (f ≡ fault_of g)
    fault_some = by (first_fault (steps_of r a m)) refl
      where
        by : (o : Option Fault) → first_fault (steps_of r a m) ≡ o → (g : Fault) × (first_fault (steps_of r a m) ≡ Some g) × (f ≡ fault_of g)
        by None q = clash (let z = passed_result fault_taken q (passed_leaf q) in cc)
        by (Some g) q =
            let z : faulted f ≡ faulted (fault_of g) = sym e ∙ failed_result fault_taken g q in
            (g, q, (cc))

  module _ (s : Success) (e : (walk r a m).result ≡ success s) where
    pub success_taken : walk_check (length m) r a ≡ Ok tt
    success_taken = taken_by (λ k q. clash (let z : success s ≡ refused k = sym e ∙ q in cc))

    pub success_none : first_fault (steps_of r a m) ≡ None
    success_none = by (first_fault (steps_of r a m)) refl
      where
        by : (o : Option Fault) → first_fault (steps_of r a m) ≡ o → o ≡ None
        by None q = refl
        by (Some f) q = clash (let z = failed_result success_taken f q in cc)

    pub success_leaf : LeafOf r a m
    success_leaf = passed_leaf success_none

    pub success_told : (l : LeafOf r a m) → s ≡ told r a (leaf_in l) (reads_of r a m)
    success_told l =
        let q : success s ≡ success (told r a (leaf_in l) (reads_of r a m)) = sym e ∙ passed_result success_taken success_none l in
        cc

    pub success_bytes : (l : LeafOf r a m)
        → (walk r a m).bytes ≡ pick (flag_due r a (leaf_in l) || dirty_due r a (leaf_in l)) (put r.ee m (offset l) (updated_leaf r a (leaf_in l))) m
    success_bytes l = passed_bytes success_taken success_none l
