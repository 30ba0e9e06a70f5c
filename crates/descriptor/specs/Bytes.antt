-- A descriptor as 8 bytes of a memory, in either order (RULES 2.3).
use Rattle.std.specs.Prelude.{ℕ, zero, suc, ◌+◌, ◌*◌, ◌/◌, ◌%◌, ◌<◌, Bool, List, [], ◌∷◌, ◌++◌, reverse, get_or, take, drop}
use Rattle.descriptor.specs.Bits.{pick}

-- a memory of bytes: each is a number below 256; past the end get_or gives 0
abbrev pub Bytes : List ℕ → Type 0
Bytes memory = (i : ℕ) → get_or memory i 0 < 256

-- the number that bytes stand for, the lowest byte first
unfoldable pub number : List ℕ → ℕ
number [] = 0
number (b ∷ bs) = b + 256 * number bs

-- the n lowest bytes of v, the lowest first
unfoldable pub digits : ℕ → ℕ → List ℕ
digits zero v = []
digits (suc n) v = v % 256 ∷ digits n (v / 256)

-- the one place that fixes the byte order: bytes as they are, or with EE the other way round; so the lowest comes first, or last
unfoldable pub in_order : Bool → List ℕ → List ℕ
in_order ee bytes = pick ee (reverse bytes) bytes

-- a descriptor from its 8 bytes, and its 8 bytes
unfoldable pub value_of : Bool → List ℕ → ℕ
value_of ee bytes = number (in_order ee bytes)

unfoldable pub bytes_of : Bool → ℕ → List ℕ
bytes_of ee v = in_order ee (digits 8 v)

-- the descriptor at offset i of a memory
unfoldable pub desc : Bool → List ℕ → ℕ → ℕ
desc ee memory i = value_of ee (take 8 (drop i memory))

-- the memory with the descriptor v at offset i, and every other byte as it was
unfoldable pub put : Bool → List ℕ → ℕ → ℕ → List ℕ
put ee memory i v = take i memory ++ bytes_of ee v ++ drop (i + 8) memory
