-- Steps 1 to 5 of the walk (RULES 6.1 to 6.5, and 6.11): from a guest address to a leaf, or a fault. A reader says what stands at a descriptor address.
use Rattle.std.specs.Prelude.{ℕ, zero, suc, ◌+◌, ◌*◌, ◌-◌, ◌/◌, ◌%◌, ◌^◌, ◌<◌, Bool, not, ◌&&◌, ◌||◌, List, leb, eqb, length, Option, Some, None, Err, Ok, Result}
use Rattle.descriptor.specs.Bytes.{desc}
use Rattle.descriptor.specs.Bits.{pick, bit}
use Rattle.vmsa.specs.Limits.{address_limit}
use Rattle.vmsa.specs.Granules.{page_bits_of}
use Rattle.vmsa.specs.Fields.{no_tables, with_table}
use Rattle.geometry.specs.Geometry.{level_of, page_size, span, stride_bits, block_at, first_left, cut, output_limit}
use Rattle.vmsa.specs.declared.Regime.{Regime}
use Rattle.vmsa.specs.declared.Range.{Range}
use Rattle.vmsa.specs.declared.PhysAddr.{PhysAddr}
use Rattle.vmsa.specs.declared.VirtAddr.{VirtAddr}
use Rattle.vmsa.specs.declared.FaultKind.{FaultKind}
use Rattle.vmsa.specs.declared.FaultKind.TheVariants.{AddressSize, Translation, ExternalAbort}
use Rattle.lookup.specs.declared.Next.{Next}
use Rattle.lookup.specs.declared.Next.TheVariants as next
use Rattle.lookup.specs.declared.Context.{Context}
use Rattle.lookup.specs.Trace.{fault, leaf, Trace, ended, visit, under_hpd}

-- ---- steps 4 and 5: what a descriptor says at a level, for page bits p

-- bit 0 clear, or bits 1..0 = 01 at a level without blocks
unfoldable pub invalid : ℕ → ℕ → ℕ → Bool
invalid p left v = not (bit 0 v) || not (bit 1 v) && not (block_at p left)

-- 11 above the last level is a table
unfoldable pub is_table : ℕ → ℕ → Bool
is_table left v = bit 1 v && not (eqb left 0)

-- the address of a table, and the output address of a block or page
unfoldable pub address_in : ℕ → ℕ → ℕ → ℕ
address_in p left v = cut v (pick (is_table left v) (page_size p) (span p left))

unfoldable pub decoded : ℕ → ℕ → ℕ → ℕ → Next
decoded p limit left v =
    pick (invalid p left v) (next.Fault Translation)
    (pick (leb limit (address_in p left v)) (next.Fault AddressSize)
    (pick (is_table left v) (next.Table (record { 0 = address_in p left v })) next.Leaf))

-- ---- step 3: reading a descriptor

-- the value at an address, in the byte order of ee, where the descriptor lies wholly in the pool
unfoldable pub fetched : Bool → List ℕ → ℕ → ℕ → Option ℕ
fetched ee pool base a = pick (leb base a && leb (a + 8) (base + length pool)) (Some (desc ee pool (a - base))) None

-- what a regime reads of its pool
abbrev pub pool_reader : Regime → List ℕ → ℕ → Option ℕ
pool_reader r pool = fetched r.ee pool r.pool.address.0

-- ---- one level: its entry is read, and followed

-- what the levels share, part by part
abbrev pub context : PhysAddr → PhysAddr → VirtAddr → ℕ → Context
context base limit input page = record { base = base; limit = limit; input = input; page = page }

-- the address of a table's entry: the index is the input's bits at that level (step 2)
unfoldable pub entry_at : Context → ℕ → ℕ → ℕ
entry_at c left table = table + 8 * (c.input.0 / span c.page left % 2 ^ stride_bits c.page)

-- where the descriptor v at address a leads, the tables on the way having this sum; below goes on at a table, one level lower, its bits in the sum
abbrev pub onward : (ℕ → ℕ → Trace) → ℕ → ℕ → ℕ → ℕ → Next → Trace
onward below sum left a v (next.Fault kind) = ended (fault kind (level_of left))
onward below sum left a v (next.Table table) = below (with_table sum v) table.0
onward below sum left a v next.Leaf = ended (leaf a (record { value = v; left = left; tables = sum }))

unfoldable pub followed : Context → (ℕ → ℕ → Trace) → ℕ → ℕ → ℕ → ℕ → Trace
followed c below sum left a v = onward below sum left a v (decoded c.page c.limit.0 left v)

abbrev pub on_word : Trace → (ℕ → Trace) → Option ℕ → Trace
on_word unreachable value (Some v) = value v
on_word unreachable value None = unreachable

unfoldable pub entered : Context → (ℕ → Option ℕ) → (ℕ → ℕ → Trace) → ℕ → ℕ → ℕ → Trace
entered c read below left sum table =
    visit (entry_at c left table)
    (on_word (ended (fault ExternalAbort (level_of left))) (followed c below sum left (entry_at c left table)) (read (entry_at c left table)))

-- n levels from a table on, those above it having this sum; the last has no levels left. The clause for none is never reached: level 3 has no tables (is_table)
unfoldable pub descend : Context → (ℕ → Option ℕ) → ℕ → ℕ → ℕ → Trace
descend c read zero sum table = ended (fault Translation 3)
descend c read (suc left) sum table = entered c read (descend c read left) left sum table

-- ---- steps 1 and 2

-- bit 55 picks range 0 or 1
unfoldable pub upper : ℕ → Bool
upper a = bit 55 a

unfoldable pub range_of : Regime → ℕ → Range
range_of r a = pick (upper a) r.range1 r.range0

-- address bits 63 down to 64 - t are not all 0 (range 0) or all 1 (range 1)
unfoldable pub outside : ℕ → ℕ → Bool
outside t a = not (eqb (a / 2 ^ (64 - t)) (pick (upper a) (2 ^ t - 1) 0))

-- what the levels share: the index is cut at the first level to bits below 64 - t
unfoldable pub context_of : Regime → ℕ → Context
context_of r a = record { base = r.pool.address; limit = record { 0 = output_limit r.output }; input = record { 0 = a % 2 ^ (64 - (range_of r a).tsz) }; page = page_bits_of r }

-- the range is disabled, or the address is outside it; its root is beyond the output size
abbrev pub no_range : Regime → ℕ → Bool
no_range r a = (range_of r a).disabled || outside (range_of r a).tsz a

abbrev pub root_beyond : Regime → ℕ → Bool
root_beyond r a = leb (output_limit r.output) (range_of r a).root.0

-- the levels left at the first level
abbrev pub left_at_first : Regime → ℕ → ℕ
left_at_first r a = first_left (page_bits_of r) (range_of r a).tsz

-- where steps 1 and 2 lead: to the table of the first level, or to a fault before any descriptor is read
abbrev pub First : Type 0
First = Result PhysAddr FaultKind

unfoldable pub first_table : Regime → ℕ → First
first_table r a = pick (no_range r a) (Err Translation) (pick (root_beyond r a) (Err AddressSize) (Ok (range_of r a).root))

-- steps 1 to 5, a leaf under the sum of all tables on the way
unfoldable pub lookup : Regime → (ℕ → Option ℕ) → ℕ → Trace
lookup r read a =
    pick (no_range r a) (ended (fault Translation 0))
    (pick (root_beyond r a) (ended (fault AddressSize 0)) (descend (context_of r a) read (suc (left_at_first r a)) no_tables (range_of r a).root.0))

-- the same, the tables counting unless HPD of the address's range is on (RULES 6.11)
unfoldable pub locate : Regime → (ℕ → Option ℕ) → ℕ → Trace
locate r read a = under_hpd (range_of r a).hpd (lookup r read a)

-- what a walk can rely on where there is a first table
abbrev pub Below : First → Type 0
Below (Err kind) = Unit {0}
Below (Ok root) = root.0 < address_limit

-- what a walk can rely on where a table follows
abbrev pub Sound : ℕ → Next → Type 0
Sound left (next.Fault kind) = Unit {0}
Sound left (next.Table table) = (table.0 < address_limit) × (0 < left)
Sound left next.Leaf = Unit {0}
