-- The plain walk (RULES 6): the checks, steps 1 to 5, steps 6 to 8, and the leaf's new value put back into the pool.
use Rattle.std.specs.Prelude.{ℕ, ◌+◌, ◌-◌, Bool, false, List, ◌++◌, length, take, drop, Option, None, Some, Ok, Err}
use Rattle.descriptor.specs.Bytes.{put}
use Rattle.descriptor.specs.Bits.{pick}
use Rattle.vmsa.specs.Answers.{Result, fault as faulted, refused, code_of, number_of, view, cacheable_in}
use Rattle.vmsa.specs.declared.Regime.{Regime}
use Rattle.vmsa.specs.declared.Pool.{Pool}
use Rattle.vmsa.specs.declared.Access.{Access}
use Rattle.vmsa.specs.declared.Answer.{Answer}
use Rattle.vmsa.specs.declared.Leaf.{Leaf}
use Rattle.checks.specs.Order.{Checked, walk_check}
use Rattle.lookup.specs.Trace.{End, fault, leaf, Trace}
use Rattle.lookup.specs.Steps.{pool_reader, locate}
use Rattle.decision.specs.Decision.{Decision, decision}

-- an answer in numbers, and the bytes afterwards
pub record Outcome : Type 0 where
  pub result : Result
  pub bytes : List ℕ

-- an answer of the code with the bytes that it left
abbrev pub outcome : Answer → List ℕ → Outcome
outcome answer bytes = record { result = view answer; bytes = bytes }

-- the pool's bytes, and the memory with these bytes for the pool (RULES 2.2)
abbrev pub pool_bytes : Pool → List ℕ → List ℕ
pool_bytes p memory = take p.length (drop p.start memory)

abbrev pub with_pool_bytes : Pool → List ℕ → List ℕ → List ℕ
with_pool_bytes p memory bytes = take p.start memory ++ bytes ++ drop (p.start + p.length) memory

-- what a leaf decides, with its new value put where the descriptor lies, in the byte order of ee
abbrev pub applied : Bool → List ℕ → ℕ → Decision → Outcome
applied ee pool at d = record { result = d.result; bytes = pick d.update (put ee pool at d.value) pool }

-- the end of steps 1 to 5 taken to the answer; a fault may not be remembered and changes nothing
abbrev pub concluded : Regime → Access → List ℕ → ℕ → End → Outcome
concluded r a pool reads (fault kind level) =
    record { result = faulted (record { code = code_of kind level; level = level; cacheable = false; reads = reads }); bytes = pool }
concluded r a pool reads (leaf at l) = applied r.ee pool (at - r.pool.address.0) (decision r a l reads)

-- the descriptors that a walk visits in the pool, and their end
unfoldable pub traced : Regime → List ℕ → ℕ → Trace
traced r pool address = locate r (pool_reader r pool) address

-- the walk over the pool's bytes along a trace; the count of reads is the length of the visited list
abbrev pub walk_along : Regime → Access → List ℕ → Trace → Outcome
walk_along r a pool t = concluded r a pool (length t.visited) t.end

unfoldable pub walk_pool : Regime → Access → List ℕ → Outcome
walk_pool r a pool = walk_along r a pool (traced r pool a.address.0)

-- a leaf with another value
abbrev pub revalued : Leaf → ℕ → Leaf
revalued l v = record { value = v; left = l.left; tables = l.tables }

-- the leaf that may be remembered: as the walk left it, updates included, under the tables that it met (RULES 10.2)
abbrev pub kept_of : Leaf → Decision → Option Leaf
kept_of l d = pick (cacheable_in d.result) (Some (revalued l d.value)) None

abbrev pub kept_at : Regime → Access → ℕ → End → Option Leaf
kept_at r a reads (fault kind level) = None
kept_at r a reads (leaf at l) = kept_of l (decision r a l reads)

unfoldable pub kept_pool : Regime → Access → List ℕ → Option Leaf
kept_pool r a pool = kept_at r a (length (traced r pool a.address.0).visited) (traced r pool a.address.0).end

-- what is done over the pool's bytes, in the memory; a refusal carries its number alone and changes nothing
abbrev pub checked : (List ℕ → Outcome) → Pool → List ℕ → Checked → Outcome
checked over p memory (Err x) = record { result = refused (number_of x); bytes = memory }
checked over p memory (Ok _) = record { result = (over (pool_bytes p memory)).result; bytes = with_pool_bytes p memory (over (pool_bytes p memory)).bytes }

-- the plain walk over the lent memory
unfoldable pub walk : Regime → Access → List ℕ → Outcome
walk r a memory = checked (walk_pool r a) r.pool memory (walk_check (length memory) r a)
