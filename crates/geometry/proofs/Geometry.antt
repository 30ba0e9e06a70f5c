-- Facts of the geometry, for any granule.
use Prim.Native.Nat.{ℕ, zero, suc, ◌+◌, ◌-◌, ◌*◌, ◌/◌, ◌%◌, ◌^◌, ◌<◌, ◌≤◌}
use mathlib.Core.Path.{◌≡◌}
use native.Mathlib.Omega.{arith}
use native.Mathlib.Nat.{mul-le-mul, div-lt_iff_lt-mul, le-div_iff_mul-le, div-mul-le_self}
use lib.Dec.{lit≤}
use lib.Pow.{pow_pos, pow_mono}
use Rattle.vmsa.specs.Limits.{tsz_least, address_limit}
use Rattle.vmsa.specs.Granules.{page_bits, Paged}
use Rattle.vmsa.specs.declared.Granule.{Granule}
use Rattle.vmsa.specs.declared.Granule.TheVariants.{Kib4, Kib16, Kib64}
use Rattle.geometry.specs.Geometry.{shift_of, span, first_left, cut, output_bits}

-- the page bits of each granule
pub paged : (g : Granule) → Paged (page_bits g)
paged Kib4 = record { least = lit≤ tt; most = lit≤ tt }
paged Kib16 = record { least = lit≤ tt; most = lit≤ tt }
paged Kib64 = record { least = lit≤ tt; most = lit≤ tt }

pub stride_le : (p left : ℕ) → p ≤ 16 → left ≤ 3 → (p - 3) * left ≤ 39
stride_le p left h k = let a : p - 3 ≤ 13 = omega arith in mul-le-mul a k

pub shift_le : (p left : ℕ) → p ≤ 16 → left ≤ 3 → shift_of p left ≤ 55
unfolding shift_of
shift_le p left h k = omega (arith, stride_le p left h k)

pub shift_least : (p left : ℕ) → 12 ≤ p → 12 ≤ shift_of p left
unfolding shift_of
shift_least p left h = omega arith

pub first_le : (p t : ℕ) → Paged p → tsz_least ≤ t → first_left p t ≤ 3
unfolding first_left
first_le p t g k =
    let z : 0 < p - 3 = omega arith in
    let x : 63 - t - p < 4 * (p - 3) = omega arith in
    let q : (63 - t - p) / (p - 3) < 4 = (div-lt_iff_lt-mul z).1 x in
    omega arith

pub in_level : (x s k : ℕ) → 0 < s → k * s ≤ x → x < (k + 1) * s → k ≡ x / s
in_level x s k z a b =
    let l : k ≤ x / s = (le-div_iff_mul-le z).1 a in
    let u : x / s < k + 1 = (div-lt_iff_lt-mul z).1 b in
    omega arith

pub span_pos : (p left : ℕ) → 0 < span p left
unfolding span
span_pos p left = pow_pos (shift_of p left)

pub span_le : (p left : ℕ) → p ≤ 16 → left ≤ 3 → span p left ≤ 2 ^ 55
unfolding span
span_le p left h k = pow_mono {i = shift_of p left} {j = 55} (shift_le p left h k)

-- an address cut to a multiple of s is below 2 ^ 48
pub cut_lt : (v s : ℕ) → cut v s < address_limit
unfolding cut
cut_lt v s = omega (arith, div-mul-le_self (v % address_limit) s)

-- an output size has at least 32 bits, and at most 48
pub least_output : (code : ℕ) → 32 ≤ output_bits code
unfolding output_bits
least_output zero = lit≤ tt
least_output (suc zero) = lit≤ tt
least_output (suc (suc zero)) = lit≤ tt
least_output (suc (suc (suc zero))) = lit≤ tt
least_output (suc (suc (suc (suc zero)))) = lit≤ tt
least_output (suc (suc (suc (suc (suc zero))))) = lit≤ tt
least_output (suc (suc (suc (suc (suc (suc code)))))) = lit≤ tt

pub most_output : (code : ℕ) → output_bits code ≤ 48
unfolding output_bits
most_output zero = lit≤ tt
most_output (suc zero) = lit≤ tt
most_output (suc (suc zero)) = lit≤ tt
most_output (suc (suc (suc zero))) = lit≤ tt
most_output (suc (suc (suc (suc zero)))) = lit≤ tt
most_output (suc (suc (suc (suc (suc zero))))) = lit≤ tt
most_output (suc (suc (suc (suc (suc (suc code)))))) = lit≤ tt
