-- The levels of the tables (RULES 6.2), for a granule of 2 ^ p bytes. A level is named by the number of levels left below it, 0 for level 3.
use Rattle.std.specs.Prelude.{ℕ, ◌+◌, ◌*◌, ◌-◌, ◌/◌, ◌%◌, ◌^◌, min, Bool, not, ◌&&◌, [], ◌∷◌, eqb, leb, get_or}
use Rattle.vmsa.specs.Limits.{address_limit}

-- a page, and a table, has 2 ^ p bytes
unfoldable pub page_size : ℕ → ℕ
page_size p = 2 ^ p

-- a table has 2 ^ stride_bits entries of 8 bytes
unfoldable pub stride_bits : ℕ → ℕ
stride_bits p = p - 3

-- a number that is no multiple of the granule
unfoldable pub unaligned : ℕ → ℕ → Bool
unaligned p x = not (eqb (x % page_size p) 0)

-- the page number of an address: bits 63 down to p (RULES 4.3)
unfoldable pub page_of : ℕ → ℕ → ℕ
page_of p a = a / page_size p

-- the number that Arm gives a level
unfoldable pub level_of : ℕ → ℕ
level_of left = 3 - left

-- the lowest address bit of a level's index, and how many bytes an entry of it maps (RULES 6.2)
unfoldable pub shift_of : ℕ → ℕ → ℕ
shift_of p left = p + (p - 3) * left

unfoldable pub span : ℕ → ℕ → ℕ
span p left = 2 ^ shift_of p left

-- how many address bits a level's index has: those from its lowest up to the next level's, cut to those below 64 - t (RULES 6.2)
unfoldable pub index_bits : ℕ → ℕ → ℕ → ℕ
index_bits p t left = min (stride_bits p) (64 - t - shift_of p left)

-- whether a level has blocks: above level 3, where an entry maps at most 2 ^ 30 bytes (RULES 6.2: levels 1 and 2 for 4 KiB, level 2 for the others)
unfoldable pub block_at : ℕ → ℕ → Bool
block_at p left = leb 1 left && leb (shift_of p left) 30

-- the levels left at the first level, for addresses below 2 ^ (64 - t) (RULES 6.2)
unfoldable pub first_left : ℕ → ℕ → ℕ
first_left p t = (63 - t - p) / (p - 3)

-- the address in a descriptor: bits 47 down, cut to a multiple of s (RULES 6.2)
unfoldable pub cut : ℕ → ℕ → ℕ
cut v s = v % address_limit / s * s

-- output codes 0 to 5 mean 32, 36, 40, 42, 44, 48 bits; addresses are below 2 to that (RULES 3.1)
unfoldable pub output_bits : ℕ → ℕ
output_bits code = get_or (32 ∷ 36 ∷ 40 ∷ 42 ∷ 44 ∷ 48 ∷ []) code 48

unfoldable pub output_limit : ℕ → ℕ
output_limit code = 2 ^ output_bits code
