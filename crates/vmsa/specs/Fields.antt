-- The fields of a leaf descriptor (RULES 6.9), and the bits of tables that count below them (RULES 6.11).
use Rattle.std.specs.Prelude.{ℕ, Bool}
use Rattle.std.specs.Int.Bits.{bit_or}
use Rattle.descriptor.specs.Bits.{bit, field, set_bit, clear_bit}

abbrev pub attribute_index : ℕ → ℕ
attribute_index v = field 2 3 v

-- AP[1]: EL0 may access
abbrev pub ap1 : ℕ → Bool
ap1 v = bit 6 v

-- AP[2]: read-only, or, with DBM, clean
abbrev pub ap2 : ℕ → Bool
ap2 v = bit 7 v

abbrev pub shareability : ℕ → ℕ
shareability v = field 8 2 v

-- the Access flag
abbrev pub af : ℕ → Bool
af v = bit 10 v

-- nG
abbrev pub nonglobal : ℕ → Bool
nonglobal v = bit 11 v

-- the dirty bit modifier
abbrev pub dbm : ℕ → Bool
dbm v = bit 51 v

abbrev pub pxn : ℕ → Bool
pxn v = bit 53 v

abbrev pub uxn : ℕ → Bool
uxn v = bit 54 v

-- the two updates of a leaf: the Access flag set, and AP[2] cleared
abbrev pub set_af : ℕ → ℕ
set_af v = set_bit 10 v

abbrev pub clear_ap2 : ℕ → ℕ
clear_ap2 v = clear_bit 7 v

-- a harvest's: AP[2] set again (RULES 17.3)
abbrev pub set_ap2 : ℕ → ℕ
set_ap2 v = set_bit 7 v

-- ---- tables (the customer's papers: a table's extra bits)

-- bits 62 to 59 of a table descriptor, as a number of four bits; how many such numbers there are; and that of no table
unfoldable pub table_bits : ℕ → ℕ
table_bits v = field 59 4 v

abbrev pub sum_count : ℕ
sum_count = 16

abbrev pub no_tables : ℕ
no_tables = 0

-- the sum of tables, and one more: each bit where either has it
unfoldable pub with_table : ℕ → ℕ → ℕ
with_table sum v = bit_or sum (table_bits v)

-- bit 62, APTable[1]: nothing may be written below
abbrev pub no_write_below : ℕ → Bool
no_write_below sum = bit 3 sum

-- bit 61, APTable[0]: AP[1] counts as 0 below
abbrev pub no_user_below : ℕ → Bool
no_user_below sum = bit 2 sum

-- bit 60, UXNTable: UXN counts as 1 below
abbrev pub uxn_below : ℕ → Bool
uxn_below sum = bit 1 sum

-- bit 59, PXNTable: PXN counts as 1 below
abbrev pub pxn_below : ℕ → Bool
pxn_below sum = bit 0 sum
