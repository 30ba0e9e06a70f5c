-- When a call is refused: one test for each row of RULES 5.1. All sums are exact.
use Rattle.std.specs.Prelude.{ℕ, zero, suc, ◌+◌, ◌-◌, ◌%◌, ◌^◌, Bool, false, not, ◌&&◌, ◌||◌, ◌==◌, nat_le, nat_lt}
use Rattle.vmsa.specs.Limits.{memory_limit, pool_limit, address_limit, tsz_least, tsz_most, output_most, harvest_limit}
use Rattle.vmsa.specs.Granules.{page_bits_of}
use Rattle.geometry.specs.Geometry.{unaligned, page_of}
use Rattle.vmsa.specs.Kinds.{is_fetch, is_probe}
use Rattle.vmsa.specs.Attributes.{attribute, device, normal}
use Rattle.bitmap.specs.Map.{bytes_for}
use Rattle.vmsa.specs.declared.Regime.{Regime}
use Rattle.vmsa.specs.declared.Pool.{Pool}
use Rattle.vmsa.specs.declared.Access.{Access}

-- 1: memory above its limit; pool start or length not a multiple of the granule; length 0 or above its limit; pool passes the end of memory
unfoldable pub memory_pool_bad : ℕ → Regime → Bool
memory_pool_bad n r =
    nat_lt memory_limit n || unaligned (page_bits_of r) r.pool.start || unaligned (page_bits_of r) r.pool.length || r.pool.length == 0
    || nat_lt pool_limit r.pool.length || nat_lt n (r.pool.start + r.pool.length)

-- 2: pool address not a multiple of the granule, or address + length above 2^48
unfoldable pub pool_address_bad : Regime → Bool
pool_address_bad r = unaligned (page_bits_of r) r.pool.address.0 || nat_lt address_limit (r.pool.address.0 + r.pool.length)

-- 3: T of either range outside 16..39, or output code above 5
unfoldable pub tsz_bad : ℕ → Bool
tsz_bad t = nat_lt t tsz_least || nat_lt tsz_most t

unfoldable pub sizes_bad : Regime → Bool
sizes_bad r = tsz_bad r.range0.tsz || tsz_bad r.range1.tsz || nat_lt output_most r.output

-- 4: either root not a multiple of the granule, or not below 2^48
unfoldable pub root_bad : ℕ → ℕ → Bool
root_bad p root = unaligned p root || nat_le address_limit root

unfoldable pub roots_bad : Regime → Bool
roots_bad r = root_bad (page_bits_of r) r.range0.root.0 || root_bad (page_bits_of r) r.range1.root.0

-- 5: an attribute byte is neither Device nor Normal
abbrev pub some_below : ℕ → (ℕ → Bool) → Bool
some_below zero test = false
some_below (suc n) test = some_below n test || test n

unfoldable pub attribute_bad : ℕ → Bool
attribute_bad b = not (device b || normal b)

unfoldable pub attributes_bad : ℕ → Bool
attributes_bad attributes = some_below 8 (λ (i : ℕ). attribute_bad (attribute attributes i))

-- 13: HD on and HA off
unfoldable pub dirty_state_bad : Regime → Bool
dirty_state_bad r = r.hd && not r.ha

-- 6: size not 1, 2, 4, 8, 16; a fetch whose size is not 4 or address not a multiple of 4; a probe with size not 1
unfoldable pub size_bad : ℕ → Bool
size_bad size = not (size == 1 || size == 2 || size == 4 || size == 8 || size == 16)

unfoldable pub access_size_bad : Access → Bool
access_size_bad a =
    size_bad a.size
    || is_fetch a.kind && (not (a.size == 4) || not (a.address.0 % 4 == 0))
    || is_probe a.kind && not (a.size == 1)

-- 7: first and last byte (counted modulo 2^64) lie in different pages of the granule
unfoldable pub last_byte : Access → ℕ
last_byte a = (a.address.0 + (a.size - 1)) % 2 ^ 64

unfoldable pub crossing : Regime → Access → Bool
crossing r a = not (page_of (page_bits_of r) a.address.0 == page_of (page_bits_of r) (last_byte a))

-- 8: a store's physical address is not a multiple of 8, or its 8 bytes are not all in the pool
unfoldable pub store_address_bad : Pool → ℕ → Bool
store_address_bad pool address =
    not (address % 8 == 0) || nat_lt address pool.address.0 || nat_lt (pool.address.0 + pool.length) (address + 8)

-- 10: a harvest's first page in neither range, no pages or more than the limit, or pages that pass the end of the first page's range.
-- A range of size field t has 2 ^ (64 - t - p) pages; those of range 0 are the first of all pages there are, those of range 1 the last
abbrev pub all_pages : ℕ → ℕ
all_pages p = 2 ^ (64 - p)

abbrev pub range_pages : ℕ → ℕ → ℕ
range_pages p t = 2 ^ (64 - t - p)

unfoldable pub in_range0 : ℕ → ℕ → ℕ → ℕ → Bool
in_range0 p t first count = nat_le (first + count) (range_pages p t)

unfoldable pub in_range1 : ℕ → ℕ → ℕ → ℕ → Bool
in_range1 p t first count = nat_le (all_pages p - range_pages p t) first && nat_le (first + count) (all_pages p)

unfoldable pub page_range_bad : Regime → ℕ → ℕ → Bool
page_range_bad r first count =
    (count == 0) || nat_lt harvest_limit count
    || not (in_range0 (page_bits_of r) r.range0.tsz first count || in_range1 (page_bits_of r) r.range1.tsz first count)

-- 11: a harvest's map has fewer bits than there are pages
unfoldable pub map_length_bad : ℕ → ℕ → Bool
map_length_bad count bytes = nat_lt bytes (bytes_for count)
