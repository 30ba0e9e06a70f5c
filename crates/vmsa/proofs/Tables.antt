-- The bits of tables (RULES 6.11): how they add up, bit by bit, and that they are four.
use Prim.Native.Nat.{ℕ, ◌+◌, ◌/◌, ◌%◌, ◌^◌, ◌<◌}
use mathlib.Core.Bool.{Bool, ◌||◌}
use mathlib.Core.Path.{◌≡◌, refl, ap, ◌∙◌}
use native.Mathlib.Nat.{mod-lt}
use native.Mathlib.Omega.{arith}
use lib.Dec.{eqb, lit<}
use lib.Pow.{shr-shr}
use lib.Bits.{bit_or, or_shr, or_mod, or_lt}
use Rattle.descriptor.specs.Bits.{bit}
use Rattle.descriptor.proofs.BitLaws.{set_above, clear_above, or_bit}
use Rattle.vmsa.specs.Fields.{set_af, clear_ap2, table_bits, sum_count, with_table, no_write_below, no_user_below, uxn_below, pxn_below}

-- ---- the sum

pub bits_below : (v : ℕ) → table_bits v < sum_count
unfolding table_bits
bits_below v = mod-lt (v / 2 ^ 59) (lit< tt)

-- no table has none
pub no_bits : table_bits 0 ≡ 0
unfolding table_bits
no_bits = refl

pub sum_below : (sum v : ℕ) → sum < sum_count → with_table sum v < sum_count
unfolding with_table
sum_below sum v h = or_lt 4 sum (table_bits v) h (bits_below v)

-- the bits of tables or-ed into one number are the bits of their sum
pub or_bits : (a b : ℕ) → table_bits (bit_or a b) ≡ with_table (table_bits a) b
unfolding table_bits with_table
or_bits a b = ap (λ (x : ℕ). x % 2 ^ 4) (or_shr a b 59) ∙ or_mod (a / 2 ^ 59) (b / 2 ^ 59) 4

-- ---- the tests

-- a test of the bits of one table, as bit 59 + n of its descriptor
module _ (v : ℕ) where
  abbrev high : ℕ
  high = v / 2 ^ 59

  bit_of : (n : ℕ) → high % 2 ^ 4 / 2 ^ n % 2 ≡ high / 2 ^ n % 2 → bit n (high % 2 ^ 4) ≡ bit (59 + n) v
  bit_of n e = ap (λ (x : ℕ). eqb x 1) (e ∙ ap (λ (x : ℕ). x % 2) (shr-shr v 59 n))

  table_pxn : pxn_below (table_bits v) ≡ bit 59 v
  unfolding table_bits
  table_pxn = bit_of 0 (omega arith)

  table_uxn : uxn_below (table_bits v) ≡ bit 60 v
  unfolding table_bits
  table_uxn = bit_of 1 (omega arith)

  table_user : no_user_below (table_bits v) ≡ bit 61 v
  unfolding table_bits
  table_user = bit_of 2 (omega arith)

  table_write : no_write_below (table_bits v) ≡ bit 62 v
  unfolding table_bits
  table_write = bit_of 3 (omega arith)

-- a test of the sum with one table more
module _ (sum v : ℕ) where
  with_bit : (n : ℕ) {b : Bool} → bit n (table_bits v) ≡ b → bit n (with_table sum v) ≡ (bit n sum || b)
  unfolding with_table
  with_bit n e = or_bit n sum (table_bits v) ∙ ap (λ (x : Bool). bit n sum || x) e

  pub with_pxn_lem : pxn_below (with_table sum v) ≡ (pxn_below sum || bit 59 v)
  with_pxn_lem = with_bit 0 (table_pxn v)

  pub with_uxn_lem : uxn_below (with_table sum v) ≡ (uxn_below sum || bit 60 v)
  with_uxn_lem = with_bit 1 (table_uxn v)

  pub with_user : no_user_below (with_table sum v) ≡ (no_user_below sum || bit 61 v)
  with_user = with_bit 2 (table_user v)

  pub with_write : no_write_below (with_table sum v) ≡ (no_write_below sum || bit 62 v)
  with_write = with_bit 3 (table_write v)

-- ---- updates of a descriptor leave them

pub set_bits : (v : ℕ) → table_bits (set_af v) ≡ table_bits v
unfolding table_bits
set_bits v = ap (λ (x : ℕ). x % 2 ^ 4) (set_above 10 v 59 (lit< tt))

pub clear_bits : (v : ℕ) → table_bits (clear_ap2 v) ≡ table_bits v
unfolding table_bits
clear_bits v = ap (λ (x : ℕ). x % 2 ^ 4) (clear_above 7 v 59 (lit< tt))
