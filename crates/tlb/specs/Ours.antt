-- Our walker: each part of a session's walker by the definitions that the plain walk's contracts cite.
use Rattle.std.specs.Prelude.{ℕ, ◌+◌, ◌-◌, ◌*◌, List, length, Bool, false, not, ◌||◌}
use Rattle.descriptor.specs.Bytes.{bytes_of}
use Rattle.vmsa.specs.Granules.{page_bits_of}
use Rattle.geometry.specs.Geometry.{page_size, page_of}
use Rattle.vmsa.specs.Answers.{Result, success, fault as fault_with, refused, code_of, dirtied_in}
use Rattle.descriptor.specs.Bits.{pick}
use Rattle.vmsa.specs.declared.Regime.{Regime}
use Rattle.vmsa.specs.declared.Access.{Access}
use Rattle.vmsa.specs.declared.Leaf.{Leaf}
use Rattle.vmsa.specs.declared.FaultKind.TheVariants.{Translation}
use Rattle.refusals.specs.Tests.{sizes_bad, roots_bad}
use Rattle.checks.specs.Order.{first_of, memory_rows, setting_rows, access_rows, store_rows}
use Rattle.lookup.specs.Trace.{End, fault, leaf, Trace}
use Rattle.decision.specs.Decision.{decision, updated}
use Rattle.walk.specs.Walk.{pool_bytes, traced, walk}
use Rattle.harvest.specs.Harvest.{harvest}
use Rattle.tlb.specs.Walker.{Spot, lost, found, Walker}

-- where the descriptor at a physical address lies in the memory (RULES 2.3)
abbrev pub offset_of : Regime → ℕ → ℕ
offset_of r address = r.pool.start + (address - r.pool.address.0)

-- the end of a trace, with the leaf's offset in the memory
abbrev pub spot_at : Regime → ℕ → End → Spot
spot_at r reads (fault kind level) = lost (code_of kind level) level reads
spot_at r reads (leaf at l) = found (offset_of r at) l reads

abbrev pub spot_of : Regime → Trace → Spot
spot_of r t = spot_at r (length t.visited) t.end

-- a regime that rows 3 and 4 let through. No set regime accepts another; in a session of any bytes that has one all the same, no walk finds a table (RULES 10.5)
abbrev pub usable : Regime → Bool
usable r = not (sizes_bad r || roots_bad r)

-- steps 1 to 5 (RULES 6) of a page, by its first address
unfoldable pub located : Regime → List ℕ → ℕ → Spot
located r m page = pick (usable r) (spot_of r (traced r (pool_bytes r.pool m) (page * page_size (page_bits_of r)))) (lost (code_of Translation 0) 0 0)

-- steps 6 to 8 of a leaf
unfoldable pub judged : Regime → Leaf → Access → Result
judged r l a = (decision r a l 0).result

-- the updates that an answer tells of
abbrev pub accessed_in : Result → Bool
accessed_in (success s) = s.accessed
accessed_in (fault_with f) = false
accessed_in (refused n) = false

unfoldable pub stamped : Result → ℕ → ℕ
stamped o v = updated (accessed_in o) (dirtied_in o) v

abbrev pub ours : Walker
ours =
    record {
      memory_check = λ (r : Regime) (n : ℕ). first_of (memory_rows n r);
      setting_check = λ (r : Regime). first_of (setting_rows r);
      access_check = λ (r : Regime) (a : Access). first_of (access_rows r a);
      store_check = λ (r : Regime) (address : ℕ). first_of (store_rows r.pool address);
      offset = offset_of;
      word = λ (r : Regime) (v : ℕ). bytes_of r.ee v;
      page = λ (r : Regime) (a : Access). page_of (page_bits_of r) a.address.0;
      plain = walk;
      locate = located;
      judge = judged;
      stamp = stamped;
      harvest = harvest;
    }
