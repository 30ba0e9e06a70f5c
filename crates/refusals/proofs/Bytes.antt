-- Eight attribute bytes tested together (row 5): bit 0 of each byte of one number tells of that byte, since no byte looks beyond itself.
use Rattle.std.proofs.Common.{◌≡◌, ℕ, zero, suc, ◌+◌, ◌*◌, ◌/◌, ◌%◌, ◌^◌, ◌<◌, Bool, true, false, not, ◌||◌, eqb, sym, refl, ap, ◌∙◌, ap₂, mod-lt, div-add-mod', div-one, arith, lit<, shr-shr, ne_eqb}
use lib.Bits.{bit_and, bit_or, bit_xor, and_shr, or_shr, xor_shr, and_mod, or_mod, xor_mod, and_block, and_mask, and_zero_r}
use lib.Pow.{field, mod-mod-pow}
use Rattle.descriptor.specs.Bits.{bit}
use Rattle.descriptor.proofs.Tests.{or_none}
use Rattle.vmsa.specs.Attributes.{attribute, device, normal}
use Rattle.refusals.specs.Tests.{some_below, attribute_bad, attributes_bad}
use Rattle.refusals.proofs.Below.{all_below, all_below_lem, alike, alike_same}

-- ---- the numbers of the code

abbrev pub pair_of : ℕ → ℕ
pair_of x = bit_or x (x / 2 ^ 1)

abbrev pub low_of : ℕ → ℕ
low_of x = bit_or (pair_of x) (pair_of x / 2 ^ 2)

abbrev pub high_of : ℕ → ℕ
high_of x = low_of x / 2 ^ 4

abbrev pub no_device_of : ℕ → ℕ
no_device_of x = bit_or (pair_of x) (high_of x)

abbrev pub normal_of : ℕ → ℕ
normal_of x = bit_and (low_of x) (high_of x)

unfoldable pub bad_of : ℕ → ℕ
bad_of x = bit_xor (no_device_of x) (bit_and (no_device_of x) (normal_of x))

-- ---- they move along with the bytes

shr_swap : (x j k : ℕ) → x / 2 ^ j / 2 ^ k ≡ x / 2 ^ k / 2 ^ j
shr_swap x j k = shr-shr x j k ∙ ap (λ (n : ℕ). x / 2 ^ n) (let e : j + k ≡ k + j = omega arith in e) ∙ sym (shr-shr x k j)

pair_shr : (x n : ℕ) → pair_of x / 2 ^ n ≡ pair_of (x / 2 ^ n)
pair_shr x n = or_shr x (x / 2 ^ 1) n ∙ ap (bit_or (x / 2 ^ n)) (shr_swap x 1 n)

low_shr : (x n : ℕ) → low_of x / 2 ^ n ≡ low_of (x / 2 ^ n)
low_shr x n = or_shr (pair_of x) (pair_of x / 2 ^ 2) n ∙ ap₂ bit_or (pair_shr x n) (shr_swap (pair_of x) 2 n ∙ ap (λ (y : ℕ). y / 2 ^ 2) (pair_shr x n))

high_shr : (x n : ℕ) → high_of x / 2 ^ n ≡ high_of (x / 2 ^ n)
high_shr x n = shr_swap (low_of x) 4 n ∙ ap (λ (y : ℕ). y / 2 ^ 4) (low_shr x n)

none_shr : (x n : ℕ) → no_device_of x / 2 ^ n ≡ no_device_of (x / 2 ^ n)
none_shr x n = or_shr (pair_of x) (high_of x) n ∙ ap₂ bit_or (pair_shr x n) (high_shr x n)

normal_shr : (x n : ℕ) → normal_of x / 2 ^ n ≡ normal_of (x / 2 ^ n)
normal_shr x n = and_shr (low_of x) (high_of x) n ∙ ap₂ bit_and (low_shr x n) (high_shr x n)

bad_shr : (x n : ℕ) → bad_of x / 2 ^ n ≡ bad_of (x / 2 ^ n)
unfolding bad_of
bad_shr x n =
    xor_shr (no_device_of x) (bit_and (no_device_of x) (normal_of x)) n
    ∙ ap₂ bit_xor (none_shr x n) (and_shr (no_device_of x) (normal_of x) n ∙ ap₂ bit_and (none_shr x n) (normal_shr x n))

-- ---- bit 0 asks the lowest byte alone

-- bit n of a number
abbrev digit : ℕ → ℕ → ℕ
digit n x = x / 2 ^ n % 2

-- bits n and n + 1, and n to n + 3
abbrev digits2 : (ℕ → ℕ) → ℕ → ℕ
digits2 d n = bit_or (d n) (d (n + 1))

abbrev digits4 : (ℕ → ℕ) → ℕ → ℕ
digits4 d n = bit_or (digits2 d n) (digits2 d (n + 2))

-- what bit 0 is, from the digits
abbrev bad_by : (ℕ → ℕ) → ℕ
bad_by d =
    bit_xor (bit_or (digits2 d 0) (digits4 d 4)) (bit_and (bit_or (digits2 d 0) (digits4 d 4)) (bit_and (digits4 d 0) (digits4 d 4)))

pair_digit : (x n : ℕ) → digit n (pair_of x) ≡ digits2 (λ (k : ℕ). digit k x) n
pair_digit x n =
    ap (λ (y : ℕ). y % 2) (or_shr x (x / 2 ^ 1) n) ∙ or_mod (x / 2 ^ n) (x / 2 ^ 1 / 2 ^ n) 1
    ∙ ap (λ (y : ℕ). bit_or (digit n x) (y % 2)) (shr_swap x 1 n ∙ shr-shr x n 1)

low_digit : (x n : ℕ) → digit n (low_of x) ≡ digits4 (λ (k : ℕ). digit k x) n
low_digit x n =
    ap (λ (y : ℕ). y % 2) (or_shr (pair_of x) (pair_of x / 2 ^ 2) n) ∙ or_mod (pair_of x / 2 ^ n) (pair_of x / 2 ^ 2 / 2 ^ n) 1
    ∙ ap₂ bit_or (pair_digit x n) (ap (λ (y : ℕ). y % 2) (shr_swap (pair_of x) 2 n ∙ shr-shr (pair_of x) n 2) ∙ pair_digit x (n + 2))

zero_digit : (y : ℕ) → y % 2 ≡ digit 0 y
zero_digit y = ap (λ (z : ℕ). z % 2) (sym (div-one y))

none_digit : (x : ℕ) → no_device_of x % 2 ≡ bit_or (digits2 (λ (k : ℕ). digit k x) 0) (digits4 (λ (k : ℕ). digit k x) 4)
none_digit x = or_mod (pair_of x) (high_of x) 1 ∙ ap₂ bit_or (zero_digit (pair_of x) ∙ pair_digit x 0) (low_digit x 4)

normal_digit : (x : ℕ) → normal_of x % 2 ≡ bit_and (digits4 (λ (k : ℕ). digit k x) 0) (digits4 (λ (k : ℕ). digit k x) 4)
normal_digit x = and_mod (low_of x) (high_of x) 1 ∙ ap₂ bit_and (zero_digit (low_of x) ∙ low_digit x 0) (low_digit x 4)

bad_digit : (x : ℕ) → bad_of x % 2 ≡ bad_by (λ (k : ℕ). digit k x)
unfolding bad_of
bad_digit x =
    xor_mod (no_device_of x) (bit_and (no_device_of x) (normal_of x)) 1
    ∙ ap₂ bit_xor (none_digit x) (and_mod (no_device_of x) (normal_of x) 1 ∙ ap₂ bit_and (none_digit x) (normal_digit x))

-- the digits of the lowest byte are those of the number
byte_digit : (x j k : ℕ) → digit k (x % 2 ^ ((j + 1) + k)) ≡ digit k x
byte_digit x j k = ap (λ (y : ℕ). y % 2) (field x (j + 1) k) ∙ mod-mod-pow (x / 2 ^ k) j 1

byte_digits : (x : ℕ) → bad_by (λ (k : ℕ). digit k (x % 2 ^ 8)) ≡ bad_by (λ (k : ℕ). digit k x)
byte_digits x = rw (byte_digit x 7 0, byte_digit x 6 1, byte_digit x 5 2, byte_digit x 4 3, byte_digit x 3 4, byte_digit x 2 5, byte_digit x 1 6, byte_digit x 0 7)

-- ---- one byte

-- every byte, computed
bytes_computed : all_below 256 (λ (b : ℕ). alike (attribute_bad b) (eqb (bad_of b % 2) 1)) ≡ true
unfolding attribute_bad device normal bad_of
bytes_computed = refl

byte_bad : (x : ℕ) → attribute_bad (x % 2 ^ 8) ≡ eqb (bad_of x % 2) 1
byte_bad x =
    let b = x % 2 ^ 8 in
    alike_same (attribute_bad b) (eqb (bad_of b % 2) 1) (all_below_lem 256 (λ (k : ℕ). alike (attribute_bad k) (eqb (bad_of k % 2) 1)) bytes_computed b (mod-lt x (lit< tt)))
    ∙ ap (λ (y : ℕ). eqb y 1) (bad_digit b ∙ byte_digits x ∙ sym (bad_digit x))

attribute_bit : (x i : ℕ) → attribute_bad (attribute x i) ≡ bit (8 * i) (bad_of x)
unfolding attribute
attribute_bit x i = byte_bad (x / 2 ^ (8 * i)) ∙ ap (λ (y : ℕ). eqb (y % 2) 1) (sym (bad_shr x (8 * i)))

-- ---- the lowest bits of n bytes

-- bit 0 of each of n bytes
abbrev pub lowest_bits : ℕ → ℕ
lowest_bits zero = 0
lowest_bits (suc n) = lowest_bits n * 2 ^ 8 + 1

or_assoc : (a b c : Bool) → ((a || b) || c) ≡ (a || (b || c))
or_assoc true b c = refl
or_assoc false b c = refl

some_first : (n : ℕ) (f : ℕ → Bool) → some_below (suc n) f ≡ (f 0 || some_below n (λ (i : ℕ). f (suc i)))
some_first zero f = sym (or_none (f 0))
some_first (suc n) f = ap (λ (b : Bool). b || f (suc n)) (some_first n f) ∙ or_assoc (f 0) (some_below n (λ (i : ℕ). f (suc i))) (f (suc n))

some_same : (n : ℕ) (f g : ℕ → Bool) → ((i : ℕ) → f i ≡ g i) → some_below n f ≡ some_below n g
some_same zero f g h = refl
some_same (suc n) f g h = ap₂ ◌||◌ (some_same n f g h) (h n)

-- a number below 2 and a multiple of 2 ^ 8 are both 0, or one is not
either : (a c : ℕ) → c < 2 → not (eqb (a * 2 ^ 8 + c) 0) ≡ (eqb c 1 || not (eqb a 0))
either zero zero h = refl
either zero (suc zero) h = refl
either (suc a) zero h = ap not (ne_eqb (suc a * 2 ^ 8 + 0) 0 (λ e. omega arith)) ∙ sym (ap not (ne_eqb (suc a) 0 (λ e. omega arith)))
either (suc a) (suc zero) h = ap not (ne_eqb (suc a * 2 ^ 8 + 1) 0 (λ e. omega arith))
either a (suc (suc c)) h = absurd (omega arith)

masked : (n y : ℕ) → bit_and y (lowest_bits (suc n)) ≡ bit_and (y / 2 ^ 8) (lowest_bits n) * 2 ^ 8 + y % 2
masked n y =
    let parity : y % 2 ^ 8 % 2 ≡ y % 2 = omega arith in
    ap (λ (z : ℕ). bit_and z (lowest_bits (suc n))) (sym (div-add-mod' y (2 ^ 8)))
    ∙ and_block 8 (y / 2 ^ 8) (lowest_bits n) (y % 2 ^ 8) 1 (mod-lt y (lit< tt)) (lit< tt)
    ∙ ap (λ (z : ℕ). bit_and (y / 2 ^ 8) (lowest_bits n) * 2 ^ 8 + z) (and_mask (y % 2 ^ 8) 1 ∙ parity)

next_bit : (y i : ℕ) → bit (8 * i) (y / 2 ^ 8) ≡ bit (8 * suc i) y
next_bit y i =
    let e : 8 + 8 * i ≡ 8 * suc i = omega arith in
    ap (λ (z : ℕ). eqb (z % 2) 1) (shr-shr y 8 (8 * i) ∙ ap (λ (k : ℕ). y / 2 ^ k) e)

some_masked : (n y : ℕ) → not (eqb (bit_and y (lowest_bits n)) 0) ≡ some_below n (λ (i : ℕ). bit (8 * i) y)
some_masked zero y = rw (and_zero_r y)
some_masked (suc n) y =
    ap (λ (z : ℕ). not (eqb z 0)) (masked n y)
    ∙ either (bit_and (y / 2 ^ 8) (lowest_bits n)) (y % 2) (mod-lt y (lit< tt))
    ∙ ap₂ ◌||◌ (ap (λ (z : ℕ). eqb z 1) (zero_digit y)) (some_masked n (y / 2 ^ 8) ∙ some_same n (λ (i : ℕ). bit (8 * i) (y / 2 ^ 8)) (λ (i : ℕ). bit (8 * suc i) y) (next_bit y))
    ∙ sym (some_first n (λ (i : ℕ). bit (8 * i) y))

-- the eight bytes of a u64
pub attributes_together : (x : ℕ) → not (eqb (bit_and (bad_of x) (lowest_bits 8)) 0) ≡ attributes_bad x
unfolding attributes_bad
attributes_together x = some_masked 8 (bad_of x) ∙ some_same 8 (λ (i : ℕ). bit (8 * i) (bad_of x)) (λ (i : ℕ). attribute_bad (attribute x i)) (λ i. sym (attribute_bit x i))
