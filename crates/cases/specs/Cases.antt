-- The worked cases P1 to P12 as one table under one claim (RULES 12).
use Rattle.std.specs.Prelude.{ℕ, ◌+◌, ◌*◌, ◌-◌, Bool, true, false, List, [], ◌∷◌, ◌++◌, ◌≡◌, length, replicate, take, drop, Ok, Err}
use Rattle.descriptor.specs.Bytes.{put}
use Rattle.vmsa.specs.Answers.{Result, success, fault, refused}
use Rattle.vmsa.specs.Settings.{disabled_range, with_pool, with_range0, with_range1, with_hpd0, with_hpd1, with_output, with_ha, with_hd, with_wxn, with_ee, with_granule, with_attributes}
use Rattle.vmsa.specs.declared.Granule.{Granule}
use Rattle.vmsa.specs.declared.Granule.TheVariants.{Kib4, Kib16, Kib64}
use Rattle.vmsa.specs.declared.Regime.{Regime}
use Rattle.vmsa.specs.declared.Pool.{Pool}
use Rattle.vmsa.specs.declared.Range.{Range}
use Rattle.vmsa.specs.declared.Access.{Access}
use Rattle.vmsa.specs.declared.AccessKind.{AccessKind}
use Rattle.vmsa.specs.declared.AccessKind.TheVariants.{Read, Write, Fetch, ProbeWrite}
use Rattle.vmsa.specs.declared.Refusal.TheVariants.{MemoryPool}
use Rattle.checks.specs.Order.{walk_check}
use Rattle.walk.specs.Walk.{Outcome, traced, walk}

-- ---- what the cases start from

-- the physical address of the pool's first byte; the root table stands there
abbrev pub pool_address : ℕ
pool_address = 0x40000000

-- a pool of n bytes, from the memory's first byte on
abbrev pub worked_pool : ℕ → Pool
worked_pool n = record { start = 0; length = n; address = record { 0 = pool_address } }

-- either range
abbrev pub range : Range
range = record { root = record { 0 = pool_address }; tsz = 16; disabled = false; hpd = false }

-- eight attribute bytes, all alike
abbrev pub eight : ℕ → ℕ
eight attribute = 0x0101010101010101 * attribute

abbrev pub base : Regime
base = record {
  pool = worked_pool 65536;
  range0 = range;
  range1 = range;
  output = 5;
  ha = true;
  hd = true;
  wxn = false;
  ee = false;
  granule = Kib4;
  attributes = eight 0xFF;
}

-- the same with EE on
abbrev pub big_endian : Regime
big_endian = with_ee base true

-- the regime with the longest pool; its length is P12's number, to hold the limit against
abbrev pub longest : Regime
longest = with_pool base (worked_pool 1048576)

-- an access from EL0, and the one at 0x403ABC of size 4
abbrev pub access : ℕ → ℕ → AccessKind → Access
access address size kind = record { address = record { 0 = address }; size = size; el0 = true; kind = kind }

abbrev pub usual : AccessKind → Access
usual kind = access 0x403ABC 4 kind

-- the same access from EL1
abbrev pub from_el1 : Access → Access
from_el1 a = record { address = a.address; size = a.size; el0 = false; kind = a.kind }

-- a descriptor at a physical address, as its offset in the pool and its value
abbrev pub stored : ℕ → ℕ → ℕ × ℕ
stored address value = (address - pool_address, value)

abbrev pub leaf_address : ℕ
leaf_address = 0x40003018

-- the four descriptors, given each; and given the third and the leaf
abbrev pub descriptors : ℕ → ℕ → ℕ → ℕ → List (ℕ × ℕ)
descriptors first second third leaf = stored 0x40000000 first ∷ stored 0x40001000 second ∷ stored 0x40002010 third ∷ stored leaf_address leaf ∷ []

abbrev pub tables_with : ℕ → ℕ → List (ℕ × ℕ)
tables_with third leaf = descriptors 0x40001003 0x40002003 third leaf

-- the leaf, and it with the Access flag set, and with AP[2] cleared too
abbrev pub leaf : ℕ
leaf = 0x00080000800053C3

abbrev pub accessed_leaf : ℕ
accessed_leaf = 0x00080000800057C3

abbrev pub dirty_leaf : ℕ
dirty_leaf = 0x0008000080005743

-- the four descriptors with another leaf, with another third one, and as they are
abbrev pub with_leaf : ℕ → List (ℕ × ℕ)
with_leaf v = tables_with 0x40003003 v

abbrev pub with_third : ℕ → List (ℕ × ℕ)
with_third v = tables_with v leaf

abbrev pub tables : List (ℕ × ℕ)
tables = with_leaf leaf

-- a leaf that EL0 may neither read nor write, so that both levels may fetch from it; and it with the Access flag set
abbrev pub kernel_leaf : ℕ
kernel_leaf = 0x0008000080005383

abbrev pub accessed_kernel_leaf : ℕ
accessed_kernel_leaf = 0x0008000080005783

-- the four descriptors, the second with bits 63 to 59 as in this number of five bits, and with this leaf
abbrev pub under_second : ℕ → ℕ → List (ℕ × ℕ)
under_second bits v = descriptors 0x40001003 (bits * 0x0800000000000000 + 0x40002003) 0x40003003 v

-- a memory with these descriptors put at their offsets, in the byte order of ee
unfoldable pub puts : Bool → List ℕ → List (ℕ × ℕ) → List ℕ
puts ee memory [] = memory
puts ee memory (d ∷ ds) = puts ee (put ee memory d.0 d.1) ds

-- n bytes, all 0 but for these descriptors
unfoldable pub memory_of : Bool → ℕ → List (ℕ × ℕ) → List ℕ
memory_of ee n ds = puts ee (replicate n 0) ds

-- ---- the claim

-- an access under a regime, the descriptors found, the result, and the descriptors that it changes
pub record Row : Type 0 where
  pub regime : Regime
  pub access : Access
  pub found : List (ℕ × ℕ)
  pub result : Result
  pub changed : List (ℕ × ℕ)

abbrev pub row : Regime → Access → List (ℕ × ℕ) → Result → List (ℕ × ℕ) → Row
row regime access found result changed = record { regime = regime; access = access; found = found; result = result; changed = changed }

-- the memory is exactly the pool, in the regime's byte order
abbrev pub memory : Row → List ℕ
memory r = memory_of r.regime.ee r.regime.pool.length r.found

abbrev pub expected : Row → Outcome
expected r = record { result = r.result; bytes = puts r.regime.ee (memory r) r.changed }

-- the walk gives this result, and leaves every byte as it was but for the descriptors changed
unfoldable pub Holds : Row → Type 0
Holds r = walk r.regime r.access (memory r) ≡ expected r

unfoldable pub All : List Row → Type 0
All [] = Unit {0}
All (r ∷ rs) = Holds r × All rs

-- ---- the table

-- a success at a level after so many reads: its address, whether it set the Access flag, cleared AP[2], and may be remembered
abbrev pub passed_at : ℕ → ℕ → ℕ → Bool → Bool → Bool → Result
passed_at level reads output accessed dirtied cacheable =
    success (record {
      output = record { 0 = output };
      attribute = 0xFF;
      shareability = 3;
      nonglobal = false;
      level = level;
      accessed = accessed;
      dirtied = dirtied;
      cacheable = cacheable;
      reads = reads;
    })

-- at level 3 after 4 reads
abbrev pub passed : ℕ → Bool → Bool → Bool → Result
passed = passed_at 3 4

-- a fault: its code, level, whether it may be remembered, and the count of reads
abbrev pub failed : ℕ → ℕ → Bool → ℕ → Result
failed code level cacheable reads = fault (record { code = code; level = level; cacheable = cacheable; reads = reads })

-- the leaf becomes v
abbrev pub leaf_now : ℕ → List (ℕ × ℕ)
leaf_now v = stored leaf_address v ∷ []

-- P2's write over a leaf v, with its output address: the leaf becomes w
abbrev pub write_row : Regime → ℕ → ℕ → ℕ → Row
write_row r v output w = row r (usual Write) (with_leaf v) (passed output true true true) (leaf_now w)

abbrev pub p2 : Regime → Row
p2 r = write_row r leaf 0x80005ABC dirty_leaf

-- a leaf of eight different bytes
abbrev pub distinct_bytes : Regime → Row
distinct_bytes r = write_row r 0x99084433221153C3 0x443322115ABC 0x9908443322115743

-- P1's first descriptor byte-swapped, and P1's read where it stands
abbrev pub swapped_descriptor : ℕ
swapped_descriptor = 0x0310004000000000

abbrev pub read_swapped : Regime → Row
read_swapped r = row r (usual Read) (stored pool_address swapped_descriptor ∷ []) (failed 4 0 false 1) []

-- ---- granules

-- a range of size field t, whose root stands at an address
abbrev pub range_of : ℕ → ℕ → Range
range_of t root = record { root = record { 0 = root }; tsz = t; disabled = false; hpd = false }

-- the bytes of a table
abbrev pub table_bytes : Granule → ℕ
table_bytes Kib4 = 4096
table_bytes Kib16 = 16384
table_bytes Kib64 = 65536

-- a regime of this granule, its ranges of size field t; the pool has room for the tables of a way
abbrev pub granuled : Granule → ℕ → Regime
granuled g t = with_granule (with_pool (with_range0 (with_range1 base (range_of t pool_address)) (range_of t pool_address)) (worked_pool 262144)) g

-- the descriptors on a way from the root to v, by the index at each level, for tables of s bytes that stand one after another from table k on. A table's descriptor has all bits
-- from 12 up to the granule's set, and they have no say in its address
abbrev pub way : ℕ → ℕ → List ℕ → ℕ → List (ℕ × ℕ)
way s k [] v = []
way s k (i ∷ []) v = (k * s + 8 * i, v) ∷ []
way s k (i ∷ j ∷ rest) v = (k * s + 8 * i, pool_address + (k + 2) * s - 0x1000 + 3) ∷ way s (k + 1) (j ∷ rest) v

-- the last of them becomes v
abbrev pub last_now : List (ℕ × ℕ) → ℕ → List (ℕ × ℕ)
last_now [] v = []
last_now (d ∷ []) v = (d.0, v) ∷ []
last_now (d ∷ e ∷ ds) v = last_now (e ∷ ds) v

abbrev pub way_in : Regime → List ℕ → ℕ → List (ℕ × ℕ)
way_in r indexes v = way (table_bytes r.granule) 0 indexes v

-- a read that goes by these indexes to the leaf v, at this level: its output address, and the leaf afterwards
abbrev pub reaches : Regime → List ℕ → ℕ → ℕ → ℕ → ℕ → ℕ → Row
reaches r indexes address v level output w = row r (access address 4 Read) (way_in r indexes v) (passed_at level (length indexes) output true false true) (last_now (way_in r indexes v) w)

-- one that ends there in a Translation fault
abbrev pub misses : Regime → List ℕ → ℕ → ℕ → ℕ → ℕ → Row
misses r indexes address v code level = row r (access address 4 Read) (way_in r indexes v) (failed code level false (length indexes)) []

-- a page and a block at level 2, with all bits from 12 up to the lowest of their address set; and them with the Access flag set
abbrev pub page16 : ℕ
page16 = 0x00080000800073C3

abbrev pub page64 : ℕ
page64 = 0x000800008001F3C3

abbrev pub block16 : ℕ
block16 = 0x0008000083FFF3C1

abbrev pub block64 : ℕ
block64 = 0x00080000BFFFF3C1

abbrev pub accessed_page16 : ℕ
accessed_page16 = 0x00080000800077C3

abbrev pub accessed_page64 : ℕ
accessed_page64 = 0x000800008001F7C3

abbrev pub accessed_block16 : ℕ
accessed_block16 = 0x0008000083FFF7C1

abbrev pub accessed_block64 : ℕ
accessed_block64 = 0x00080000BFFFF7C1

-- the pool at another place of the memory, with another address
abbrev pub moved_pool : ℕ → ℕ → ℕ → Pool
moved_pool start n address = record { start = start; length = n; address = record { 0 = address } }

unfoldable pub rows : List Row
rows =
    -- P1
    row base (usual Read) tables (passed 0x80005ABC true false true) (leaf_now accessed_leaf)
    -- P2; and with EE on, all descriptors big-endian
    ∷ p2 base
    ∷ p2 big_endian
    -- the same with a leaf of eight different bytes
    ∷ distinct_bytes base
    ∷ distinct_bytes big_endian
    -- P3, with the size that a probe has; size 4 is refused
    ∷ row base (access 0x403ABC 1 ProbeWrite) tables (passed 0x80005ABC false false false) []
    ∷ row base (usual ProbeWrite) tables (refused 6) []
    -- P4
    ∷ row (with_hd base false) (usual Write) tables (failed 15 3 false 4) []
    -- P5, with HD off too; with HD on it is refused
    ∷ row (with_hd (with_ha base false) false) (usual Write) tables (failed 11 3 false 4) []
    ∷ row (with_ha base false) (usual Write) tables (refused 13) []
    -- P6
    ∷ row base (usual Read) (with_third 0x4000F003) (failed 7 3 false 4) []
    -- P7
    ∷ row base (usual Read) (with_third 0x40010003) (failed 23 3 false 4) []
    -- P8, the leaf's other fields as they are
    ∷ row (with_output base 0) (usual Read) (with_leaf 0x00080001000003C3) (failed 3 3 false 4) []
    -- P9
    ∷ row base (usual Read) (with_leaf 0x00080000800053C1) (failed 7 3 false 4) []
    -- P10
    ∷ row (with_attributes base (eight 0x00)) (access 0x403ABD 2 Read) tables (failed 33 3 false 4) []
    -- P11
    ∷ row base (access 0x403FFC 4 Read) tables (passed 0x80005FFC true false true) (leaf_now accessed_leaf)
    ∷ row base (access 0x403FFD 4 Read) tables (refused 7) []
    -- P12
    ∷ row longest (usual Read) tables (passed 0x80005ABC true false true) (leaf_now accessed_leaf)
    ∷ row (with_pool base (worked_pool 1052672)) (usual Read) tables (refused 1) []
    -- a fault of step 1 counts no reads
    ∷ row (with_range0 base disabled_range) (usual Read) tables (failed 4 0 false 0) []
    -- a Permission fault may be remembered where the Access flag is set
    ∷ row (with_hd base false) (usual Write) (with_leaf accessed_leaf) (failed 15 3 true 4) []
    -- writable-clean counts as writable where WXN asks
    ∷ row (with_wxn base true) (usual Fetch) tables (failed 15 3 false 4) []
    -- 13 is checked after 5 and before 6
    ∷ row (with_attributes (with_ha base false) (eight 0x10)) (usual Write) tables (refused 5) []
    ∷ row (with_ha base false) (access 0x403ABC 3 Write) tables (refused 13) []
    -- a leaf in the pool's last 8 bytes, and a descriptor just after the pool
    ∷ row base (access 0x5FFABC 4 Write) (with_third 0x4000F003 ++ stored 0x4000FFF8 leaf ∷ []) (passed 0x80005ABC true true true) (stored 0x4000FFF8 dirty_leaf ∷ [])
    ∷ row base (access 0x400ABC 4 Write) (with_third 0x40010003) (failed 23 3 false 4) []
    -- the same of the longest pool
    ∷ row longest (access 0x5FFABC 4 Write) (with_third 0x400FF003 ++ stored 0x400FFFF8 leaf ∷ []) (passed 0x80005ABC true true true) (stored 0x400FFFF8 dirty_leaf ∷ [])
    ∷ row longest (access 0x400ABC 4 Write) (with_third 0x40100003) (failed 23 3 false 4) []
    -- P2's write with bit 62 in the second descriptor; with HPD on for its range it is P2's, and the other range's has no say
    ∷ row base (usual Write) (under_second 0b01000 leaf) (failed 15 3 false 4) []
    ∷ row (with_hpd0 base true) (usual Write) (under_second 0b01000 leaf) (passed 0x80005ABC true true true) (leaf_now dirty_leaf)
    ∷ row (with_hpd1 base true) (usual Write) (under_second 0b01000 leaf) (failed 15 3 false 4) []
    -- bit 62 takes writing from EL1 too, and no reading
    ∷ row base (from_el1 (usual Write)) (under_second 0b01000 leaf) (failed 15 3 false 4) []
    ∷ row base (usual Read) (under_second 0b01000 leaf) (passed 0x80005ABC true false true) (leaf_now accessed_leaf)
    -- a read and a write under bit 61, by EL0 and by EL1
    ∷ row base (usual Read) (under_second 0b00100 leaf) (failed 15 3 false 4) []
    ∷ row base (from_el1 (usual Read)) (under_second 0b00100 leaf) (passed 0x80005ABC true false true) (leaf_now accessed_leaf)
    ∷ row base (usual Write) (under_second 0b00100 leaf) (failed 15 3 false 4) []
    ∷ row base (from_el1 (usual Write)) (under_second 0b00100 leaf) (passed 0x80005ABC true true true) (leaf_now dirty_leaf)
    -- bits 60 and 59 are for fetches alone: P2's write under both
    ∷ row base (usual Write) (under_second 0b00011 leaf) (passed 0x80005ABC true true true) (leaf_now dirty_leaf)
    -- a fetch under bit 60 (UXN) and under bit 59 (PXN), by EL0 and by EL1
    ∷ row base (usual Fetch) (under_second 0b00010 kernel_leaf) (failed 15 3 false 4) []
    ∷ row base (from_el1 (usual Fetch)) (under_second 0b00010 kernel_leaf) (passed 0x80005ABC true false true) (leaf_now accessed_kernel_leaf)
    ∷ row base (usual Fetch) (under_second 0b00001 kernel_leaf) (passed 0x80005ABC true false true) (leaf_now accessed_kernel_leaf)
    ∷ row base (from_el1 (usual Fetch)) (under_second 0b00001 kernel_leaf) (failed 15 3 false 4) []
    -- EL0 may fetch under bits 61 and 62, also what it may not read
    ∷ row base (usual Fetch) (under_second 0b00100 leaf) (passed 0x80005ABC true false true) (leaf_now accessed_leaf)
    ∷ row base (usual Fetch) (under_second 0b01000 leaf) (passed 0x80005ABC true false true) (leaf_now accessed_leaf)
    -- where EL0 may write EL1 may not fetch; with bit 61 or 62 in the sum EL0 may not write, and EL1 may fetch
    ∷ row base (from_el1 (usual Fetch)) tables (failed 15 3 false 4) []
    ∷ row base (from_el1 (usual Fetch)) (under_second 0b00100 leaf) (passed 0x80005ABC true false true) (leaf_now accessed_leaf)
    ∷ row base (from_el1 (usual Fetch)) (under_second 0b01000 leaf) (passed 0x80005ABC true false true) (leaf_now accessed_leaf)
    -- the same where WXN asks: EL0 may fetch what it may not write, EL1 what nobody may write
    ∷ row (with_wxn base true) (usual Fetch) (under_second 0b00100 leaf) (passed 0x80005ABC true false true) (leaf_now accessed_leaf)
    ∷ row (with_wxn base true) (usual Fetch) (under_second 0b01000 leaf) (passed 0x80005ABC true false true) (leaf_now accessed_leaf)
    ∷ row (with_wxn base true) (from_el1 (usual Fetch)) (under_second 0b00100 leaf) (failed 15 3 false 4) []
    ∷ row (with_wxn base true) (from_el1 (usual Fetch)) (under_second 0b01000 leaf) (passed 0x80005ABC true false true) (leaf_now accessed_leaf)
    -- bit 62 over a leaf that is dirty already; the fault may be remembered
    ∷ row base (usual Write) (under_second 0b01000 dirty_leaf) (failed 15 3 true 4) []
    -- UXN from the first table and PXN from the third add up
    ∷ row base (usual Fetch) (descriptors 0x1000000040001003 0x40002003 0x0800000040003003 kernel_leaf) (failed 15 3 false 4) []
    ∷ row base (from_el1 (usual Fetch)) (descriptors 0x1000000040001003 0x40002003 0x0800000040003003 kernel_leaf) (failed 15 3 false 4) []
    -- HPD changes no fault before a leaf, nor its count: P6 with it on
    ∷ row (with_hpd0 base true) (usual Read) (with_third 0x4000F003) (failed 7 3 false 4) []
    -- bit 63 of a table has no say, and a leaf's own bits 63 to 59 have none
    ∷ row base (usual Write) (under_second 0b10000 leaf) (passed 0x80005ABC true true true) (leaf_now dirty_leaf)
    ∷ row base (usual Write) (with_leaf 0xF8080000800053C3) (passed 0x80005ABC true true true) (leaf_now 0xF808000080005743)
    -- P1, P4 and P7 with EE on, and bit 62 of a table
    ∷ row big_endian (usual Read) tables (passed 0x80005ABC true false true) (leaf_now accessed_leaf)
    ∷ row (with_hd big_endian false) (usual Write) tables (failed 15 3 false 4) []
    ∷ row big_endian (usual Read) (with_third 0x40010003) (failed 23 3 false 4) []
    ∷ row big_endian (usual Write) (under_second 0b01000 leaf) (failed 15 3 false 4) []
    -- the first descriptor in the other order, with EE on and off: bit 0 is then that of another byte
    ∷ read_swapped big_endian
    ∷ read_swapped base
    -- 16 KiB: from each first level to a page, whose address is cut at bit 14
    ∷ reaches (granuled Kib16 16) (0x001 ∷ 0x405 ∷ 0x406 ∷ 0x407 ∷ []) 0xC0580D01DABC page16 3 0x80005ABC accessed_page16
    ∷ reaches (granuled Kib16 17) (0x405 ∷ 0x406 ∷ 0x407 ∷ []) 0x40580D01DABC page16 3 0x80005ABC accessed_page16
    ∷ reaches (granuled Kib16 28) (0x406 ∷ 0x407 ∷ []) 0x80D01DABC page16 3 0x80005ABC accessed_page16
    ∷ reaches (granuled Kib16 39) (0x407 ∷ []) 0x101DABC page16 3 0x80005ABC accessed_page16
    -- 64 KiB: the same, cut at bit 16; and with EE on
    ∷ reaches (granuled Kib64 16) (0x0025 ∷ 0x1005 ∷ 0x1006 ∷ []) 0x9600B0065ABC page64 3 0x80015ABC accessed_page64
    ∷ reaches (granuled Kib64 22) (0x1005 ∷ 0x1006 ∷ []) 0x200B0065ABC page64 3 0x80015ABC accessed_page64
    ∷ reaches (granuled Kib64 35) (0x1006 ∷ []) 0x10065ABC page64 3 0x80015ABC accessed_page64
    ∷ reaches (with_ee (granuled Kib64 16) true) (0x0025 ∷ 0x1005 ∷ 0x1006 ∷ []) 0x9600B0065ABC page64 3 0x80015ABC accessed_page64
    -- the index of the first level is cut to address bits below 64 - T, which range 1 shows, where the bits above are 1: to 1 bit of 11 and 6 of 13, and at level 2 to 1 bit
    ∷ reaches (granuled Kib16 16) (0x001 ∷ 0x405 ∷ 0x406 ∷ 0x407 ∷ []) 0xFFFFC0580D01DABC page16 3 0x80005ABC accessed_page16
    ∷ reaches (granuled Kib64 16) (0x0025 ∷ 0x1005 ∷ 0x1006 ∷ []) 0xFFFF9600B0065ABC page64 3 0x80015ABC accessed_page64
    ∷ reaches (granuled Kib16 38) (0x001 ∷ 0x407 ∷ []) 0xFFFFFFFFFF01DABC page16 3 0x80005ABC accessed_page16
    ∷ reaches (granuled Kib64 34) (0x0001 ∷ 0x1006 ∷ []) 0xFFFFFFFFF0065ABC page64 3 0x80015ABC accessed_page64
    -- a block at level 2, its address cut at bit 25, at bit 29
    ∷ reaches (granuled Kib16 17) (0x405 ∷ 0x406 ∷ []) 0x40580CFE2ABC block16 2 0x82FE2ABC accessed_block16
    ∷ reaches (granuled Kib64 16) (0x0025 ∷ 0x1005 ∷ []) 0x9600AFFDCABC block64 2 0xAFFDCABC accessed_block64
    -- 01 at a level without blocks: 0, 1 and 3 of 16 KiB, 1 and 3 of 64 KiB
    ∷ misses (granuled Kib16 16) (0x001 ∷ []) 0xC0580D01DABC block16 4 0
    ∷ misses (granuled Kib16 17) (0x405 ∷ []) 0x40580D01DABC block16 5 1
    ∷ misses (granuled Kib16 39) (0x407 ∷ []) 0x101DABC block16 7 3
    ∷ misses (granuled Kib64 16) (0x0025 ∷ []) 0x9600B0065ABC block64 5 1
    ∷ misses (granuled Kib64 35) (0x1006 ∷ []) 0x10065ABC block64 7 3
    -- across a multiple of 4,096 within a page of 16 KiB, of 16,384 within one of 64 KiB; and out of the page, of 16 KiB within 64
    ∷ reaches (granuled Kib16 39) (0x407 ∷ []) 0x101EFFD page16 3 0x80006FFD accessed_page16
    ∷ reaches (granuled Kib64 35) (0x1006 ∷ []) 0x10067FFD page64 3 0x80017FFD accessed_page64
    ∷ row (granuled Kib16 39) (access 0x101BFFD 4 Read) [] (refused 7) []
    ∷ row (granuled Kib64 35) (access 0x1006FFFD 4 Read) [] (refused 7) []
    -- pool length, pool address and roots: multiples of 4,096, or of 16,384, but not of the granule
    ∷ row (with_pool (granuled Kib16 16) (worked_pool 69632)) (usual Read) [] (refused 1) []
    ∷ row (with_pool (granuled Kib64 16) (worked_pool 81920)) (usual Read) [] (refused 1) []
    ∷ row (with_pool (granuled Kib16 16) (moved_pool 0 65536 0x40001000)) (usual Read) [] (refused 2) []
    ∷ row (with_pool (granuled Kib64 16) (moved_pool 0 65536 0x40004000)) (usual Read) [] (refused 2) []
    ∷ row (with_range0 (granuled Kib16 16) (range_of 16 0x40001000)) (usual Read) [] (refused 4) []
    ∷ row (with_range1 (granuled Kib16 16) (range_of 16 0x40001000)) (usual Read) [] (refused 4) []
    ∷ row (with_range0 (granuled Kib64 16) (range_of 16 0x40004000)) (usual Read) [] (refused 4) []
    ∷ row (with_range1 (granuled Kib64 16) (range_of 16 0x40004000)) (usual Read) [] (refused 4) []
    ∷ []

-- the descriptor addresses that the usual access visits, in order
abbrev pub visited_in : List (ℕ × ℕ) → List ℕ
visited_in found = (traced base (memory_of base.ee base.pool.length found) (usual Read).address.0).visited

-- the 8 bytes of the leaf's descriptor that the walk of a row leaves; and those of the first descriptor that it finds
abbrev pub leaf_bytes : Row → List ℕ
leaf_bytes r = take 8 (drop (leaf_address - pool_address) (walk r.regime r.access (memory r)).bytes)

abbrev pub first_bytes : Row → List ℕ
first_bytes r = take 8 (memory r)

-- the claim: every row holds; P2 and the write over eight different bytes leave these bytes of the leaf, with EE off and on; the byte-swapped first
-- descriptor has these, with EE on those of P1's; P6 and P7 read these addresses, the last within the pool and just after it;
-- a memory of so many bytes is accepted, and of one more refused; so is, under 16 and 64 KiB, a pool that starts at a multiple of the granule (under 16 KiB with length, address and
-- roots that are no multiples of 64 KiB), and one that starts at a multiple of 4,096 or 16,384 alone
unfoldable pub Worked : Type 0
Worked =
    All rows
    × (leaf_bytes (p2 base) ≡ 0x43 ∷ 0x57 ∷ 0x00 ∷ 0x80 ∷ 0x00 ∷ 0x00 ∷ 0x08 ∷ 0x00 ∷ [])
    × (leaf_bytes (p2 big_endian) ≡ 0x00 ∷ 0x08 ∷ 0x00 ∷ 0x00 ∷ 0x80 ∷ 0x00 ∷ 0x57 ∷ 0x43 ∷ [])
    × (leaf_bytes (distinct_bytes base) ≡ 0x43 ∷ 0x57 ∷ 0x11 ∷ 0x22 ∷ 0x33 ∷ 0x44 ∷ 0x08 ∷ 0x99 ∷ [])
    × (leaf_bytes (distinct_bytes big_endian) ≡ 0x99 ∷ 0x08 ∷ 0x44 ∷ 0x33 ∷ 0x22 ∷ 0x11 ∷ 0x57 ∷ 0x43 ∷ [])
    × (first_bytes (read_swapped big_endian) ≡ 0x03 ∷ 0x10 ∷ 0x00 ∷ 0x40 ∷ 0x00 ∷ 0x00 ∷ 0x00 ∷ 0x00 ∷ [])
    × (first_bytes (read_swapped base) ≡ 0x00 ∷ 0x00 ∷ 0x00 ∷ 0x00 ∷ 0x40 ∷ 0x00 ∷ 0x10 ∷ 0x03 ∷ [])
    × (visited_in (with_third 0x4000F003) ≡ 0x40000000 ∷ 0x40001000 ∷ 0x40002010 ∷ 0x4000F018 ∷ [])
    × (visited_in (with_third 0x40010003) ≡ 0x40000000 ∷ 0x40001000 ∷ 0x40002010 ∷ 0x40010018 ∷ [])
    × (walk_check 16777216 base (usual Read) ≡ Ok tt)
    × (walk_check 16777217 base (usual Read) ≡ Err MemoryPool)
    × (walk_check 16777216 (with_range1 (with_range0 (with_pool (granuled Kib16 16) (moved_pool 16384 81920 0x40004000)) (range_of 16 0x40004000)) (range_of 16 0x4000C000)) (usual Read) ≡ Ok tt)
    × (walk_check 16777216 (with_pool (granuled Kib16 16) (moved_pool 4096 65536 pool_address)) (usual Read) ≡ Err MemoryPool)
    × (walk_check 16777216 (with_pool (granuled Kib64 16) (moved_pool 65536 65536 pool_address)) (usual Read) ≡ Ok tt)
    × (walk_check 16777216 (with_pool (granuled Kib64 16) (moved_pool 16384 65536 pool_address)) (usual Read) ≡ Err MemoryPool)
