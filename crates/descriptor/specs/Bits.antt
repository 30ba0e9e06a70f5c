-- Bits and fields of a number, as RULES 6.9 speaks of them.
use Rattle.std.specs.Prelude.{ℕ, ◌+◌, ◌-◌, ◌/◌, ◌%◌, ◌^◌, Bool, true, false, eqb}

-- the first value where the test holds, or else the second
abbrev pub pick : {A : Type 0} → Bool → A → A → A
pick true a b = a
pick false a b = b

-- whether bit n of v is 1
abbrev pub bit : ℕ → ℕ → Bool
bit n v = eqb (v / 2 ^ n % 2) 1

-- the field of v that is w bits wide and starts at bit n
abbrev pub field : ℕ → ℕ → ℕ → ℕ
field n w v = v / 2 ^ n % 2 ^ w

-- v with bit n set, and with bit n cleared
unfoldable pub set_bit : ℕ → ℕ → ℕ
set_bit n v = pick (bit n v) v (v + 2 ^ n)

unfoldable pub clear_bit : ℕ → ℕ → ℕ
clear_bit n v = pick (bit n v) (v - 2 ^ n) v
