-- Either byte order (RULES 2.3): a memory whose descriptors are in the other one.
use Rattle.std.specs.Prelude.{ℕ, zero, suc, ◌/◌, not, List, ◌++◌, reverse, take, drop}
use Rattle.vmsa.specs.Settings.{with_ee}
use Rattle.vmsa.specs.declared.Regime.{Regime}
use Rattle.vmsa.specs.declared.Pool.{Pool}
use Rattle.walk.specs.Walk.{Outcome, pool_bytes, with_pool_bytes}

-- the regime with the other byte order
abbrev pub other_order : Regime → Regime
other_order r = with_ee r (not r.ee)

-- n descriptors one after another, each byte-swapped
unfoldable pub swapped : ℕ → List ℕ → List ℕ
swapped zero bytes = bytes
swapped (suc n) bytes = reverse (take 8 bytes) ++ swapped n (drop 8 bytes)

-- the memory with every descriptor of the pool so
abbrev pub swapped_pool : Pool → List ℕ → List ℕ
swapped_pool p m = with_pool_bytes p m (swapped (p.length / 8) (pool_bytes p m))

-- an answer, and the memory that was left with it, with every descriptor of the pool so
abbrev pub swapped_outcome : Pool → Outcome → Outcome
swapped_outcome p o = record { result = o.result; bytes = swapped_pool p o.bytes }
