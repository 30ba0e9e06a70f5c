-- Harvests (RULES 17) over the tables of the worked cases (RULES 12): the map in bytes, and what changes in the memory.
use Rattle.std.specs.Prelude.{ℕ, ◌-◌, Bool, true, false, List, [], ◌∷◌, ◌++◌, ◌≡◌, take, drop, replicate, Ok, Err}
use Rattle.vmsa.specs.Answers.{number_of}
use Rattle.vmsa.specs.Settings.{disabled_range, with_range0, with_ha}
use Rattle.vmsa.specs.declared.Regime.{Regime}
use Rattle.vmsa.specs.declared.Granule.TheVariants.{Kib16, Kib64}
use Rattle.vmsa.specs.declared.Refusal.{Refusal}
use Rattle.harvest.specs.Harvest.{reports, harvested, harvest}
use Rattle.cases.specs.Cases.{pool_address, base, big_endian, leaf_address, accessed_leaf, dirty_leaf, with_leaf, with_third, stored, leaf_now, granuled, way_in, last_now, accessed_page16, accessed_page64, puts, memory_of}

-- the memory is exactly the pool: all 0 but for these descriptors, in the regime's byte order
abbrev pub memory_in : Regime → List (ℕ × ℕ) → List ℕ
memory_in r found = memory_of r.ee r.pool.length found

-- an accepted harvest of count pages from page first on: it changes these descriptors and no other byte of the memory, and this is its map before and after
abbrev pub Leaves : Regime → ℕ → ℕ → List (ℕ × ℕ) → List (ℕ × ℕ) → List ℕ → List ℕ → Type 0
Leaves r first count found changed map filled = harvest r first count (memory_in r found) map ≡ harvested (Ok tt) (puts r.ee (memory_in r found) changed) filled

-- the tables as P2 leaves them, as P1 leaves them, with AP[2] clear but the Access flag too, and with AP[2] clear but DBM too: only the first leaf says dirty.
-- It is the leaf of page 0x403
abbrev pub dirty_tables : List (ℕ × ℕ)
dirty_tables = with_leaf dirty_leaf

abbrev pub clean_tables : List (ℕ × ℕ)
clean_tables = with_leaf accessed_leaf

abbrev pub old_tables : List (ℕ × ℕ)
old_tables = with_leaf 0x0008000080005343

abbrev pub unmarked_tables : List (ℕ × ℕ)
unmarked_tables = with_leaf 0x0000000080005743

-- pages 0x400 to 0x5FF under one block that says dirty; and it with AP[2] set
abbrev pub block_tables : List (ℕ × ℕ)
block_tables = with_third 0x0008000080000741

abbrev pub block_now : List (ℕ × ℕ)
block_now = stored 0x40002010 0x00080000800007C1 ∷ []

-- the leaf is that of page 0x603 too
abbrev pub shared_tables : List (ℕ × ℕ)
shared_tables = dirty_tables ++ stored 0x40002018 0x40003003 ∷ []

-- ways through tables of 16 and 64 KiB to a leaf that says dirty
abbrev pub tables16 : List (ℕ × ℕ)
tables16 = way_in (granuled Kib16 16) (0x001 ∷ 0x405 ∷ 0x406 ∷ 0x407 ∷ []) 0x0008000080007743

abbrev pub tables64 : List (ℕ × ℕ)
tables64 = way_in (granuled Kib64 16) (0x0025 ∷ 0x1005 ∷ 0x1006 ∷ []) 0x000800008001F743

-- one over the tables that P2 leaves is refused with this number, and neither memory nor map changes
abbrev pub Refuses : Regime → ℕ → ℕ → List ℕ → ℕ → Type 0
Refuses r first count map number = (x : Refusal) × (number_of x ≡ number) × (harvest r first count (memory_in r dirty_tables) map ≡ harvested (Err x) (memory_in r dirty_tables) map)

-- a map of two bytes with all bits set, and what becomes of it: its first byte is filled
abbrev pub ones : List ℕ
ones = 0xFF ∷ 0xFF ∷ []

abbrev pub first_byte : ℕ → List ℕ
first_byte b = b ∷ 0xFF ∷ []

-- what a harvest of 8 pages from page 0x400 on leaves of the tables that P2 leaves; and the 8 bytes of the leaf's descriptor in it
abbrev pub memory_left : Regime → List ℕ
memory_left r = (harvest r 0x400 8 (memory_in r dirty_tables) ones).memory

abbrev pub leaf_bytes_left : Regime → List ℕ
leaf_bytes_left r = take 8 (drop (leaf_address - pool_address) (memory_left r))

-- bits 0 to 7
abbrev pub eight_bits : (ℕ → Bool) → List Bool
eight_bits f = f 0 ∷ f 1 ∷ f 2 ∷ f 3 ∷ f 4 ∷ f 5 ∷ f 6 ∷ f 7 ∷ []

pub record WorkedHarvest : Type 0 where
  -- page 0x403 is bit 3; its leaf becomes that of P1, the second byte of the map stays
  pub dirty : Leaves base 0x400 8 dirty_tables (leaf_now accessed_leaf) ones (first_byte 0x08)
  pub bits : eight_bits (reports base (memory_in base dirty_tables) 0x400) ≡ false ∷ false ∷ false ∷ true ∷ false ∷ false ∷ false ∷ false ∷ []
  pub bytes : leaf_bytes_left base ≡ 0xC3 ∷ 0x57 ∷ 0x00 ∷ 0x80 ∷ 0x00 ∷ 0x00 ∷ 0x08 ∷ 0x00 ∷ []
  -- a second one over the memory that it leaves reports nothing, and changes nothing
  pub again : harvest base 0x400 8 (memory_left base) ones ≡ harvested (Ok tt) (memory_left base) (first_byte 0x00)
  -- the same with EE on
  pub big : Leaves big_endian 0x400 8 dirty_tables (leaf_now accessed_leaf) ones (first_byte 0x08)
  pub big_bytes : leaf_bytes_left big_endian ≡ 0x00 ∷ 0x08 ∷ 0x00 ∷ 0x00 ∷ 0x80 ∷ 0x00 ∷ 0x57 ∷ 0xC3 ∷ []
  -- a leaf that says clean, one with the Access flag clear, and one with DBM clear
  pub clean : Leaves base 0x400 8 clean_tables [] ones (first_byte 0x00)
  pub old : Leaves base 0x400 8 old_tables [] ones (first_byte 0x00)
  pub unmarked : Leaves base 0x400 8 unmarked_tables [] ones (first_byte 0x00)
  -- a map of one byte
  pub single : Leaves base 0x400 8 dirty_tables (leaf_now accessed_leaf) (0xFF ∷ []) (0x08 ∷ [])
  -- page 0x403 is not asked for; it is the last that is, bits past it being zero; it is the first of the second byte
  pub after : Leaves base 0x404 8 dirty_tables [] ones (first_byte 0x00)
  pub last : Leaves base 0x401 3 dirty_tables (leaf_now accessed_leaf) ones (first_byte 0x04)
  pub second : Leaves base 0x3FB 9 dirty_tables (leaf_now accessed_leaf) ones (0x00 ∷ 0x01 ∷ [])
  -- the same leaf is that of a page of range 1; a disabled range keeps its pages, and none reaches a leaf
  pub upper : Leaves base 0xFFFF000000400 8 dirty_tables (leaf_now accessed_leaf) ones (first_byte 0x08)
  pub disabled : Leaves (with_range0 base disabled_range) 0x400 8 dirty_tables [] ones (first_byte 0x00)
  -- a block that sticks out, be it by one page, is reported and left; reached whole, its 512 pages are reported and it is set again
  pub block : Leaves base 0x400 8 block_tables [] ones (first_byte 0xFF)
  pub nearly : Leaves base 0x401 511 block_tables [] (replicate 65 0xFF) (replicate 63 0xFF ++ 0x7F ∷ 0xFF ∷ [])
  pub whole : Leaves base 0x400 512 block_tables block_now (replicate 65 0x00) (replicate 64 0xFF ++ 0x00 ∷ [])
  -- two pages that share a leaf are both reported
  pub shared : Leaves base 0x403 513 shared_tables (leaf_now accessed_leaf) (replicate 66 0xFF) (0x01 ∷ replicate 63 0x00 ++ 0x01 ∷ 0xFF ∷ [])
  -- pages of 16 and of 64 KiB
  pub kib16 : Leaves (granuled Kib16 16) 0x301603400 8 tables16 (last_now tables16 accessed_page16) ones (first_byte 0x80)
  pub kib64 : Leaves (granuled Kib64 16) 0x9600B000 8 tables64 (last_now tables64 accessed_page64) ones (first_byte 0x40)
  -- the last page of range 0 and of range 1
  pub end0 : Leaves base 0xFFFFFFFFF 1 dirty_tables [] ones (first_byte 0x00)
  pub end1 : Leaves base 0xFFFFFFFFFFFFF 1 dirty_tables [] ones (first_byte 0x00)
  -- the most pages, with the shortest map that they take
  pub most : (harvest base 0x400 65536 (memory_in base dirty_tables) (replicate 8192 0xFF)).reply ≡ Ok tt
  -- 10: no pages; one more than 65,536 pages; past the end of range 0; in neither range; past the end of range 1
  pub none : Refuses base 0x400 0 ones 10
  pub many : Refuses base 0x400 65537 (replicate 8193 0xFF) 10
  pub past0 : Refuses base 0xFFFFFFFFF 2 ones 10
  pub between : Refuses base 0x1000000000 1 ones 10
  pub past1 : Refuses base 0xFFFFFFFFFFFFF 2 ones 10
  -- 11: the map has fewer bits than there are pages; 10 comes before it, and 13 before both
  pub short : Refuses base 0x400 8 [] 11
  pub ninth : Refuses base 0x400 9 (0xFF ∷ []) 11
  pub shorter : Refuses base 0x400 65536 (replicate 8191 0xFF) 11
  pub both : Refuses base 0x400 0 [] 10
  pub settings : Refuses (with_ha base false) 0x400 0 [] 13
