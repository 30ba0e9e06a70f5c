-- What the plain walk promises, taken from the function's own contract: `Learnt` is what a caller learns of a call, `Asked` what a caller must
-- show before it. Rules 1 and 2 are of `walk`, so they are of every call of the function. A weaker contract breaks the law here.
use Prim.Native.Nat.{ℕ}
use mathlib.Core.List.{List}
use mathlib.Core.Path.{◌≡◌, sym, ap, subst⁻¹, ◌∙◌}
use contract.Lifetimes.{Lfts}
use denote.Ref.{MutBor, at_last}
use Rattle.vmsa.specs.declared.Regime.{Regime}
use Rattle.vmsa.specs.declared.Access.{Access}
use Rattle.vmsa.specs.declared.Answer.{Answer}
use Rattle.vmsa.specs.Answers.{view}
use Rattle.vmsa.proofs.Answers.{LowIn, view_settles}
use Rattle.walk.specs.Walk.{Outcome, outcome, walk}
use Rattle.walk.proofs.Settled.{low_walk}
use Rattle.walk.proofs.walk.Reads.{Asked, Learnt}

module _ (lives : Lfts 1) (memory : MutBor (List ℕ)) (r : Regime) (a : Access) where
  pub walk_promise : (after : List ℕ) (x : Answer) → Learnt lives (memory, (r, (a, tt))) x (at_last memory after, (r, (a, tt))) → outcome x after ≡ walk r a memory.now
  walk_promise after x h = h

  -- and that is one answer, each part of it: no two results meet the contract
  pub walk_one : (after after' : List ℕ) (x y : Answer) → Learnt lives (memory, (r, (a, tt))) x (at_last memory after, (r, (a, tt)))
      → Learnt lives (memory, (r, (a, tt))) y (at_last memory after', (r, (a, tt))) → (x ≡ y) × (after ≡ after')
  walk_one after after' x y h k =
      let e : outcome x after ≡ outcome y after' = walk_promise after x h ∙ sym (walk_promise after' y k) in
      let low : LowIn (view x) = subst⁻¹ LowIn (ap (λ (o : Outcome). o.result) (walk_promise after x h)) (low_walk r a memory.now) in
      (view_settles x y low (ap (λ (o : Outcome). o.result) e), ap (λ (o : Outcome). o.bytes) e)

  -- nobody has to check first
  pub walk_free : Asked lives (memory, (r, (a, tt)))
  walk_free = tt
