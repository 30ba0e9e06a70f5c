-- A map of bits in bytes (RULES 17.2): bit n stands in byte n / 8, at place n mod 8 from the lowest.
use Rattle.std.specs.Prelude.{ℕ, zero, suc, ◌+◌, ◌*◌, ◌/◌, ◌%◌, Bool, ◌&&◌, ◌||◌, List, [], ◌∷◌, ◌++◌, ◌≡◌, leb, ltb, length, get_or, drop, replicate}
use Rattle.descriptor.specs.Bits.{pick, bit}
use Rattle.descriptor.specs.Bytes.{Bytes}

-- bit n of a map
unfoldable pub map_bit : List ℕ → ℕ → Bool
map_bit map n = bit (n % 8) (get_or map (n / 8) 0)

-- how many bytes n bits take
abbrev pub bytes_for : ℕ → ℕ
bytes_for n = (n + 7) / 8

-- ---- a map made from its bits

-- a byte of k bits of f, from bit n on, the first lowest
unfoldable pub byte_of : (ℕ → Bool) → ℕ → ℕ → ℕ
byte_of f n zero = 0
byte_of f n (suc k) = pick (f n) 1 0 + 2 * byte_of f (suc n) k

-- k bytes of f, from bit n on
unfoldable pub bytes_from : (ℕ → Bool) → ℕ → ℕ → List ℕ
bytes_from f n zero = []
bytes_from f n (suc k) = byte_of f n 8 ∷ bytes_from f (n + 8) k

-- f below n, and false from n on
unfoldable pub below : ℕ → (ℕ → Bool) → ℕ → Bool
below n f i = ltb i n && f i

-- the map with n bits of f in its first bytes: bits past the last in the final byte are zero, later bytes stay
unfoldable pub mapped : (ℕ → Bool) → ℕ → List ℕ → List ℕ
mapped f n map = bytes_from (below n f) 0 (bytes_for n) ++ drop (bytes_for n) map

-- ---- what the functions leave of a map

-- its first n bytes zero
unfoldable pub cleared : ℕ → List ℕ → List ℕ
cleared n map = replicate n 0 ++ drop n map

-- the bits of f raised, and every other bit as it was
pub record Raises (f : ℕ → Bool) (before after : List ℕ) : Type 0 where
  pub long : length after ≡ length before
  pub bits : (i : ℕ) → map_bit after i ≡ (map_bit before i || f i)
  pub bytes : Bytes before → Bytes after

-- the bits from lo on, below hi
abbrev pub between : ℕ → ℕ → ℕ → Bool
between lo hi i = leb lo i && ltb i hi
