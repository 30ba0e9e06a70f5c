-- Memory attributes (RULES 3.1): eight bytes in one number, byte 0 lowest, as MAIR_EL1 has them.
use Rattle.std.specs.Prelude.{ℕ, ◌*◌, ◌/◌, ◌%◌, Bool, not, ◌&&◌, ◌||◌, eqb}
use Rattle.descriptor.specs.Bits.{field}

-- attribute byte i
unfoldable pub attribute : ℕ → ℕ → ℕ
attribute attributes i = field (8 * i) 8 attributes

-- 0x00, 0x04, 0x08 and 0x0C are Device; both halves nonzero is Normal (RULES 3.3)
unfoldable pub device : ℕ → Bool
device b = eqb b 0x00 || eqb b 0x04 || eqb b 0x08 || eqb b 0x0C

unfoldable pub normal : ℕ → Bool
normal b = not (eqb (b / 16) 0) && not (eqb (b % 16) 0)
