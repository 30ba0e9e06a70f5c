-- Rules 1 and 2 (RULES 13) speak of `walk`. This is every call of the function walk::walk, by what its own contract tells its caller.
use Rattle.std.specs.Prelude.{ℕ, List, ◌≡◌}
use contract.Lifetimes.{Lfts}
use denote.Ref.{MutBor, at_last}
use Rattle.vmsa.specs.declared.Regime.{Regime}
use Rattle.vmsa.specs.declared.Access.{Access}
use Rattle.vmsa.specs.declared.Answer.{Answer}
use Rattle.walk.specs.Walk.{outcome, walk}
use Rattle.walk.proofs.walk.Reads.{Learnt}

-- called with the memory, the regime r and the access a, it returned x and left the memory at after
abbrev pub WalkOfCode : Type 0
WalkOfCode = (lives : Lfts 1) (memory : MutBor (List ℕ)) (r : Regime) (a : Access) (after : List ℕ) (x : Answer)
    → Learnt lives (memory, (r, (a, tt))) x (at_last memory after, (r, (a, tt))) → outcome x after ≡ walk r a memory.now
