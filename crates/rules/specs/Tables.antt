-- The tables on the way (RULES 6.11): which bits are in their sum, the walk in which they have no say, and what they take away of a leaf.
use Rattle.std.specs.Prelude.{ℕ, suc, ◌<◌, Bool, true, false, List, ◌≡◌, length, get_or, Option, Some}
use Rattle.descriptor.specs.Bits.{pick, bit, set_bit, clear_bit}
use Rattle.vmsa.specs.Fields.{table_bits, no_tables, no_write_below, no_user_below, uxn_below, pxn_below}
use Rattle.vmsa.specs.declared.Regime.{Regime}
use Rattle.vmsa.specs.declared.Access.{Access}
use Rattle.vmsa.specs.declared.Leaf.{Leaf}
use Rattle.checks.specs.Order.{walk_check}
use Rattle.lookup.specs.Trace.{End, fault, leaf, Trace}
use Rattle.lookup.specs.Steps.{pool_reader, range_of, lookup}
use Rattle.walk.specs.Walk.{Outcome, pool_bytes, traced, walk_along, checked}

-- the trace of an access: the list of descriptor addresses visited, and the end, a fault or a leaf; and what stands at a descriptor address of its pool
abbrev pub trace_of : Regime → Access → List ℕ → Trace
trace_of r a m = traced r (pool_bytes r.pool m) a.address.0

abbrev pub reader_of : Regime → List ℕ → ℕ → Option ℕ
reader_of r m = pool_reader r (pool_bytes r.pool m)

-- number i of the descriptors visited is a table on the way, that is, not the last, and its value is v
abbrev pub TableAt : Regime → Access → List ℕ → ℕ → ℕ → Type 0
TableAt r a m i v = (suc i < length (trace_of r a m).visited) × (reader_of r m (get_or (trace_of r a m).visited i 0) ≡ Some v)

-- HPD of the address's range is on; bits 62 to 59 are clear in every table on the way
abbrev pub TablesOff : Regime → Access → Type 0
TablesOff r a = (range_of r a.address.0).hpd ≡ true

abbrev pub TablesClear : Regime → Access → List ℕ → Type 0
TablesClear r a m = (i v : ℕ) → TableAt r a m i v → table_bits v ≡ 0

-- bit n is in the tables' sum: HPD is off, and a table on the way has it
abbrev pub InSum : ℕ → Regime → Access → List ℕ → Type 0
InSum n r a m = ((range_of r a.address.0).hpd ≡ false) × ((i : ℕ) × (v : ℕ) × TableAt r a m i v × (bit n v ≡ true))

-- the walk by the rules in which a table's bits have no say: HPD is not asked, steps 6 to 8 are on a leaf whose sum is empty, and all else is as in `walk`
abbrev pub bare_end : End → End
bare_end (fault kind level) = fault kind level
bare_end (leaf at l) = leaf at (record { value = l.value; left = l.left; tables = no_tables })

abbrev pub bare_trace : Trace → Trace
bare_trace t = record { visited = t.visited; end = bare_end t.end }

abbrev pub bare_pool : Regime → Access → List ℕ → Outcome
bare_pool r a pool = walk_along r a pool (bare_trace (lookup r (pool_reader r pool) a.address.0))

unfoldable pub bare_walk : Regime → Access → List ℕ → Outcome
bare_walk r a m = checked (bare_pool r a) r.pool m (walk_check (length m) r a)

-- ---- what the tables take away, in bits of a leaf (RULES 7.3)

-- for bit 62: AP[2] 1 and DBM 0
abbrev pub without_write : ℕ → ℕ
without_write v = clear_bit 51 (set_bit 7 v)

-- for bit 61: AP[1] 0
abbrev pub without_user : ℕ → ℕ
without_user v = clear_bit 6 v

-- for bit 60: UXN 1
abbrev pub with_uxn : ℕ → ℕ
with_uxn v = set_bit 54 v

-- for bit 59: PXN 1
abbrev pub with_pxn : ℕ → ℕ
with_pxn v = set_bit 53 v

abbrev pub changed_if : Bool → (ℕ → ℕ) → ℕ → ℕ
changed_if b change v = pick b (change v) v

-- a descriptor that says by itself what a sum takes away, and a leaf, under no tables, that says what its tables do
unfoldable pub restricted_value : ℕ → ℕ → ℕ
restricted_value sum v =
    changed_if (no_write_below sum) without_write (changed_if (no_user_below sum) without_user (changed_if (uxn_below sum) with_uxn (changed_if (pxn_below sum) with_pxn v)))

abbrev pub restricted : Leaf → Leaf
restricted l = record { value = restricted_value l.tables l.value; left = l.left; tables = no_tables }
