-- Bytes stay bytes, a descriptor of bytes is below 2 ^ 64, and bytes and numbers come back from each other.
use Prim.Native.Nat.{ℕ, zero, suc, ◌+◌, ◌*◌, ◌/◌, ◌%◌, ◌^◌, ◌<◌, ◌≤◌, zero-le}
use mathlib.Core.Bool.{Bool, true, false}
use mathlib.Core.Path.{◌≡◌, refl, sym, ap, ◌∙◌}
use mathlib.Core.List.{List, [], ◌∷◌, ◌++◌, reverse, reverse-cons, reverse-reverse, append_assoc}
use native.Mathlib.Nat.{pow-succ', mod-lt, div-one}
use lib.Pow.{shr-shr}
use native.Mathlib.Omega.{arith}
use lib.Dec.{lit<}
use lib.ListN.{length, take, drop, length-take, length-drop, take-append-drop}
use lib.Seq.{get_or-drop, drop-drop, length-take-le}
use Rattle.descriptor.specs.Bits.{field}
use Rattle.descriptor.specs.Bytes.{Bytes, number, digits, in_order, value_of, bytes_of, desc, put}
use Rattle.descriptor.proofs.Laws.{length_in_order, length_bytes}

-- ---- parts of bytes are bytes

pub bytes_drop : (m : List ℕ) (n : ℕ) → Bytes m → Bytes (drop n m)
bytes_drop m n h i = rw (get_or-drop n m i 0) (h (n + i))

pub bytes_take : (m : List ℕ) (n : ℕ) → Bytes m → Bytes (take n m)
bytes_take m zero h i = lit< tt
bytes_take [] (suc n) h i = lit< tt
bytes_take (b ∷ m) (suc n) h zero = h 0
bytes_take (b ∷ m) (suc n) h (suc i) = bytes_take m n (λ j. h (suc j)) i

pub bytes_append : (l m : List ℕ) → Bytes l → Bytes m → Bytes (l ++ m)
bytes_append [] m h k i = k i
bytes_append (b ∷ l) m h k zero = h 0
bytes_append (b ∷ l) m h k (suc i) = bytes_append l m (λ j. h (suc j)) k i

bytes_one : (b : ℕ) → b < 256 → Bytes (b ∷ [])
bytes_one b h zero = h
bytes_one b h (suc i) = lit< tt

pub bytes_digits : (n v : ℕ) → Bytes (digits n v)
unfolding digits
bytes_digits zero v i = lit< tt
bytes_digits (suc n) v zero = mod-lt v (lit< tt)
bytes_digits (suc n) v (suc i) = bytes_digits n (v / 256) i

bytes_reverse : (l : List ℕ) → Bytes l → Bytes (reverse l)
bytes_reverse [] h = h
bytes_reverse (b ∷ l) h = rw (reverse-cons b l) (bytes_append (reverse l) (b ∷ []) (bytes_reverse l (λ i. h (suc i))) (bytes_one b (h 0)))

bytes_in_order : (ee : Bool) (l : List ℕ) → Bytes l → Bytes (in_order ee l)
unfolding in_order
bytes_in_order true l h = bytes_reverse l h
bytes_in_order false l h = h

pub bytes_bytes : (ee : Bool) (v : ℕ) → Bytes (bytes_of ee v)
unfolding bytes_of
bytes_bytes ee v = bytes_in_order ee (digits 8 v) (bytes_digits 8 v)

pub bytes_put : (ee : Bool) (m : List ℕ) (i v : ℕ) → Bytes m → Bytes (put ee m i v)
unfolding put
bytes_put ee m i v h =
    bytes_append (take i m ++ bytes_of ee v) (drop (i + 8) m) (bytes_append (take i m) (bytes_of ee v) (bytes_take m i h) (bytes_bytes ee v)) (bytes_drop m (i + 8) h)

-- ---- sizes

number_small : (n : ℕ) (l : List ℕ) → length l ≤ n → Bytes l → number l < 256 ^ n
unfolding number
number_small zero [] k h = lit< tt
number_small (suc n) [] k h = let s : 0 < 256 ^ n = number_small n [] zero-le h in rw (pow-succ' 256 n) (omega arith)
number_small zero (b ∷ l) k h = absurd (omega arith)
number_small (suc n) (b ∷ l) k h =
    let s : number l < 256 ^ n = number_small n l (omega arith) (λ i. h (suc i)) in
    let t : b < 256 = h 0 in
    rw (pow-succ' 256 n) (omega arith)

pub desc_small : (ee : Bool) (m : List ℕ) (i : ℕ) → Bytes m → desc ee m i < 2 ^ 64
unfolding desc value_of
desc_small ee m i h =
    let eight = take 8 (drop i m) in
    number_small 8 (in_order ee eight) (rw (length_in_order ee eight, length-take 8 (drop i m)) (omega arith)) (bytes_in_order ee eight (bytes_take (drop i m) 8 (bytes_drop m i h)))

-- ---- the bytes of a number as fields

-- n fields of a byte, from bit s on
unfoldable pub fields : ℕ → ℕ → ℕ → List ℕ
fields zero s v = []
fields (suc n) s v = field s 8 v ∷ fields n (s + 8) v

fields_from : (n s v : ℕ) → digits n (v / 2 ^ s) ≡ fields n s v
unfolding digits fields
fields_from zero s v = refl
fields_from (suc n) s v = ap (λ (r : List ℕ). field s 8 v ∷ r) (ap (digits n) (shr-shr v s 8) ∙ fields_from n (s + 8) v)

pub digits_fields : (n v : ℕ) → digits n v ≡ fields n 0 v
digits_fields n v = ap (digits n) (sym (div-one v)) ∙ fields_from n 0 v

-- ---- bytes come back from their number

-- the lowest first
digits_number : (l : List ℕ) → Bytes l → digits (length l) (number l) ≡ l
unfolding digits number
digits_number [] h = refl
digits_number (b ∷ l) h =
    let t : b < 256 = h 0 in
    let low : (b + 256 * number l) % 256 ≡ b = omega arith in
    let high : (b + 256 * number l) / 256 ≡ number l = omega arith in
    rw (low, high) (ap (λ (r : List ℕ). b ∷ r) (digits_number l (λ i. h (suc i))))

-- the bytes, the lowest first, of the number that stands for a value in an order are the value's bytes in that order
pub bytes_again : (ee : Bool) (v : ℕ) → digits 8 (value_of ee (digits 8 v)) ≡ bytes_of ee v
unfolding value_of bytes_of
bytes_again ee v =
    let e : length (in_order ee (digits 8 v)) ≡ 8 = length_bytes ee v in
    rw e at (digits_number (in_order ee (digits 8 v)) (bytes_in_order ee (digits 8 v) (bytes_digits 8 v)))

-- 8 bytes come back from the value that they are read as
bytes_value : (ee : Bool) (l : List ℕ) → Bytes l → length l ≡ 8 → bytes_of ee (value_of ee l) ≡ l
unfolding bytes_of in_order
bytes_value ee l h e =
    let d : digits 8 (number l) ≡ l = rw e at (digits_number l h) in
    ap (in_order ee) (ap (λ (r : List ℕ). digits 8 (value_of ee r)) (sym d) ∙ bytes_again ee (number l)) ∙ twice ee ∙ d
  where
    twice : (b : Bool) → in_order b (in_order b (digits 8 (number l))) ≡ digits 8 (number l)
    twice true = reverse-reverse (digits 8 (number l))
    twice false = refl

-- a descriptor stored where it stands changes nothing
pub put_same : (ee : Bool) (m : List ℕ) (i : ℕ) → Bytes m → i + 8 ≤ length m → put ee m i (desc ee m i) ≡ m
unfolding put desc
put_same ee m i h fits =
    let l = take 8 (drop i m) in
    let e : length l ≡ 8 = length-take-le 8 (drop i m) (rw (length-drop i m) (omega arith)) in
    rw (bytes_value ee l (bytes_take (drop i m) 8 (bytes_drop m i h)) e, append_assoc, ← drop-drop 8 i m, take-append-drop 8 (drop i m)) (take-append-drop i m)
