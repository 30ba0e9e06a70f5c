-- The laws of maps: two maps with the same bits are equal, raising goes on from raising, what a map made from bits holds, and that raising bits over cleared bytes makes it.
use Prim.Native.Nat.{ℕ, zero, suc, ◌+◌, ◌*◌, ◌-◌, ◌/◌, ◌%◌, ◌<◌, ◌≤◌}
use mathlib.Core.Bool.{Bool, true, false, ◌&&◌, ◌||◌}
use mathlib.Core.List.{List, ◌++◌}
use mathlib.Core.Path.{◌≡◌, refl, sym, ap, ◌∙◌}
use native.Mathlib.Nat.{add-zero}
use native.Mathlib.Omega.{arith}
use lib.Dec.{leb, ltb, eqb, lit<}
use lib.ListN.{length, get_or, drop, replicate, length-append, length-drop, length-replicate, get_or-replicate, get_or-append}
use lib.Seq.{ext_get_or, get_or-append-add, get_or-drop}
use borrow.Author.Tests.{lt-ltb, le-ltb, le-leb, lt-leb, ltb-true, ltb-false, eq-eqb, ne_eqb}
use Rattle.descriptor.specs.Bits.{bit}
use Rattle.descriptor.specs.Bytes.{Bytes}
use Rattle.descriptor.proofs.Tests.{or_none}
use Rattle.descriptor.proofs.Numbers.{bytes_append, bytes_drop}
use Rattle.bitmap.specs.Map.{map_bit, bytes_for, byte_of, bytes_from, below, mapped, cleared, Raises, between}
use Rattle.bitmap.proofs.Byte.{bit_none, bits_ext, byte_small, byte_bit, byte_ext, byte_none}

-- ---- tests on where a bit lies

-- a number is below another, or not
pub split : {P : Type 0} (a b : ℕ) → (a < b → P) → (b ≤ a → P) → P
split {P} a b f g = by (ltb a b) refl
  where
    by : (t : Bool) → ltb a b ≡ t → P
    by true e = f (ltb-true a b e)
    by false e = g (ltb-false a b e)

pub between_in : (lo hi i : ℕ) → lo ≤ i → i < hi → between lo hi i ≡ true
between_in lo hi i p q = rw (le-leb lo i p, lt-ltb i hi q)

pub between_before : (lo hi i : ℕ) → i < lo → between lo hi i ≡ false
between_before lo hi i p = rw (lt-leb lo i p)

pub between_after : (lo hi i : ℕ) → hi ≤ i → between lo hi i ≡ false
between_after lo hi i p = rw (le-ltb i hi p) (none (leb lo i))
  where
    none : (t : Bool) → (t && false) ≡ false
    none true = refl
    none false = refl

-- no bit lies where the end is not past the start
pub between_none : (lo hi i : ℕ) → hi ≤ lo → between lo hi i ≡ false
between_none lo hi i h = split i lo (between_before lo hi i) (λ p. between_after lo hi i (omega arith))

-- one run after the other
pub between_join : (lo mid hi i : ℕ) → lo ≤ mid → mid ≤ hi → (between lo mid i || between mid hi i) ≡ between lo hi i
between_join lo mid hi i p q =
    split i mid
    (λ l.
    split i lo (λ b. rw (between_before lo mid i b, between_before mid hi i l, between_before lo hi i b))
    (λ b. rw (between_in lo mid i b l, between_in lo hi i b (omega arith))))
    (λ l.
    split i hi (λ e. rw (between_after lo mid i l, between_in mid hi i l e, between_in lo hi i (omega arith) e))
    (λ e. rw (between_after lo mid i l, between_after mid hi i e, between_after lo hi i e)))

-- a run of one bit
pub between_one : (n i : ℕ) → between n (n + 1) i ≡ eqb i n
between_one n i =
    split i n (λ l. between_before n (n + 1) i l ∙ sym (ne_eqb i n (λ z. omega arith)))
    (λ l. split n i (λ m. between_after n (n + 1) i (omega arith) ∙ sym (ne_eqb i n (λ z. omega arith))) (λ m. between_in n (n + 1) i l (omega arith) ∙ sym (eq-eqb i n (omega arith))))

-- ---- bits and bytes of a map

-- place i of byte k
pub bit_of : (m : List ℕ) (k i : ℕ) → i < 8 → map_bit m (8 * k + i) ≡ bit i (get_or m k 0)
unfolding map_bit
bit_of m k i h =
    let a : (8 * k + i) % 8 ≡ i = omega arith in
    let b : (8 * k + i) / 8 ≡ k = omega arith in
    rw (a, b)

-- a byte that stays keeps its bits
pub same_byte : (l m : List ℕ) (i : ℕ) → get_or l (i / 8) 0 ≡ get_or m (i / 8) 0 → map_bit l i ≡ map_bit m i
unfolding map_bit
same_byte l m i e = ap (bit (i % 8)) e

-- two maps of one length with the same bits are equal
pub map_ext : (l m : List ℕ) → length l ≡ length m → Bytes l → Bytes m → ((i : ℕ) → map_bit l i ≡ map_bit m i) → l ≡ m
map_ext l m e p q h =
    ext_get_or 0 l m e (λ k _. bits_ext 8 (get_or l k 0) (get_or m k 0) (p k) (q k) (λ i s. sym (bit_of l k i s) ∙ h (8 * k + i) ∙ bit_of m k i s))

-- ---- raising

pub raises_none : (f : ℕ → Bool) (m : List ℕ) → ((i : ℕ) → f i ≡ false) → Raises f m m
raises_none f m h = record { long = refl; bits = λ i. sym (rw (h i) (or_none (map_bit m i))); bytes = λ b. b }

pub raises_same : (f g : ℕ → Bool) (a b : List ℕ) → ((i : ℕ) → f i ≡ g i) → Raises f a b → Raises g a b
raises_same f g a b h r = record { long = r.long; bits = λ i. r.bits i ∙ ap (λ (t : Bool). map_bit a i || t) (h i); bytes = r.bytes }

or_assoc : (a b c : Bool) → ((a || b) || c) ≡ (a || (b || c))
or_assoc true b c = refl
or_assoc false b c = refl

pub raises_then : (f g : ℕ → Bool) (a b c : List ℕ) → Raises f a b → Raises g b c → Raises (λ i. f i || g i) a c
raises_then f g a b c r s =
    record {
      long = s.long ∙ r.long;
      bits = λ i. s.bits i ∙ ap (λ (t : Bool). t || g i) (r.bits i) ∙ or_assoc (map_bit a i) (f i) (g i);
      bytes = λ h. s.bytes (r.bytes h);
    }

-- runs of bits: none, one bit, and one run after the other
pub run_none : (n : ℕ) (m : List ℕ) → Raises (between n n) m m
run_none n m = raises_none (between n n) m (λ i. between_none n n i (omega arith))

pub run_one : (n : ℕ) {a b : List ℕ} → Raises (λ i. eqb i n) a b → Raises (between n (n + 1)) a b
run_one n {a} {b} r = raises_same (λ i. eqb i n) (between n (n + 1)) a b (λ i. sym (between_one n i)) r

pub run_join : (lo mid hi : ℕ) {a b c : List ℕ} → lo ≤ mid → mid ≤ hi → Raises (between lo mid) a b → Raises (between mid hi) b c → Raises (between lo hi) a c
run_join lo mid hi {a} {b} {c} p q r s =
    raises_same (λ i. between lo mid i || between mid hi i) (between lo hi) a c (λ i. between_join lo mid hi i p q) (raises_then (between lo mid) (between mid hi) a b c r s)

-- ---- a map made from its bits

pub length_from : (f : ℕ → Bool) (n k : ℕ) → length (bytes_from f n k) ≡ k
unfolding bytes_from
length_from f n zero = refl
length_from f n (suc k) = ap suc (length_from f (n + 8) k)

get_d_bytes : (f : ℕ → Bool) (n k j : ℕ) → j < k → get_or (bytes_from f n k) j 0 ≡ byte_of f (n + 8 * j) 8
unfolding bytes_from
get_d_bytes f n zero j h = absurd (omega arith)
get_d_bytes f n (suc k) zero h = ap (λ (m : ℕ). byte_of f m 8) (sym (add-zero n))
get_d_bytes f n (suc k) (suc j) h = get_d_bytes f (n + 8) k j (omega arith) ∙ ap (λ (m : ℕ). byte_of f m 8) (omega arith)

bytes_from_lem : (f : ℕ → Bool) (n k : ℕ) → Bytes (bytes_from f n k)
unfolding bytes_from
bytes_from_lem f n zero i = lit< tt
bytes_from_lem f n (suc k) zero = byte_small f n 8
bytes_from_lem f n (suc k) (suc i) = bytes_from_lem f (n + 8) k i

bytes_ext : (f g : ℕ → Bool) (n k : ℕ) → ((i : ℕ) → f i ≡ g i) → bytes_from f n k ≡ bytes_from g n k
unfolding bytes_from
bytes_ext f g n zero h = refl
bytes_ext f g n (suc k) h = rw (byte_ext f g n 8 h, bytes_ext f g (n + 8) k h)

bytes_none : (f : ℕ → Bool) (n k : ℕ) → ((i : ℕ) → f i ≡ false) → bytes_from f n k ≡ replicate k 0
unfolding bytes_from
bytes_none f n zero h = refl
bytes_none f n (suc k) h = rw (byte_none f n 8 h, bytes_none f (n + 8) k h)

below_in : (n : ℕ) (f : ℕ → Bool) (i : ℕ) → i < n → below n f i ≡ f i
unfolding below
below_in n f i h = rw (lt-ltb i n h)

below_past : (n : ℕ) (f : ℕ → Bool) (i : ℕ) → n ≤ i → below n f i ≡ false
unfolding below
below_past n f i h = rw (le-ltb i n h)

below_ext : (n : ℕ) (f g : ℕ → Bool) → ((i : ℕ) → i < n → f i ≡ g i) → (i : ℕ) → below n f i ≡ below n g i
below_ext n f g h i =
    split i n (λ l. below_in n f i l ∙ h i l ∙ sym (below_in n g i l)) (λ l. below_past n f i l ∙ sym (below_past n g i l))

pub mapped_length : (f : ℕ → Bool) (n : ℕ) (m : List ℕ) → bytes_for n ≤ length m → length (mapped f n m) ≡ length m
unfolding mapped
mapped_length f n m h = simp (length-append, length-drop, length_from) (omega arith)

pub mapped_bytes : (f : ℕ → Bool) (n : ℕ) (m : List ℕ) → Bytes m → Bytes (mapped f n m)
unfolding mapped
mapped_bytes f n m h = bytes_append (bytes_from (below n f) 0 (bytes_for n)) (drop (bytes_for n) m) (bytes_from_lem (below n f) 0 (bytes_for n)) (bytes_drop m (bytes_for n) h)

-- a byte of the bits
mapped_byte : (f : ℕ → Bool) (n : ℕ) (m : List ℕ) (j : ℕ) → j < bytes_for n → get_or (mapped f n m) j 0 ≡ byte_of (below n f) (8 * j) 8
unfolding mapped
mapped_byte f n m j h =
    get_or-append (bytes_from (below n f) 0 (bytes_for n)) (drop (bytes_for n) m) 0 j (rw (length_from (below n f) 0 (bytes_for n)) h)
    ∙ get_d_bytes (below n f) 0 (bytes_for n) j h
    ∙ ap (λ (x : ℕ). byte_of (below n f) x 8) (omega arith)

mapped_low : (f : ℕ → Bool) (n : ℕ) (m : List ℕ) (i : ℕ) → i < 8 * bytes_for n → map_bit (mapped f n m) i ≡ below n f i
unfolding map_bit
mapped_low f n m i h =
    let e : 8 * (i / 8) + i % 8 ≡ i = omega arith in
    rw (mapped_byte f n m (i / 8) (omega arith)) (byte_bit (below n f) (8 * (i / 8)) 8 (i % 8) (omega arith) ∙ ap (below n f) e)

-- its bits, the bits past the last in the final byte, and the bytes after it
pub mapped_bit : (f : ℕ → Bool) (n : ℕ) (m : List ℕ) (i : ℕ) → i < n → map_bit (mapped f n m) i ≡ f i
mapped_bit f n m i h = mapped_low f n m i (omega arith) ∙ below_in n f i h

pub mapped_pad : (f : ℕ → Bool) (n : ℕ) (m : List ℕ) (i : ℕ) → n ≤ i → i < 8 * bytes_for n → map_bit (mapped f n m) i ≡ false
mapped_pad f n m i h l = mapped_low f n m i l ∙ below_past n f i h

-- the elements after the first n of a list
after_first : (l r : List ℕ) (n j : ℕ) → length l ≡ n → n ≤ j → get_or (l ++ r) j 0 ≡ get_or r (j - n) 0
after_first l r n j e h =
    let s : j ≡ length l + (j - n) = omega arith in
    ap (λ (x : ℕ). get_or (l ++ r) x 0) s ∙ get_or-append-add l r (j - n) 0

rest_byte : (l m : List ℕ) (n j : ℕ) → length l ≡ n → n ≤ j → get_or (l ++ drop n m) j 0 ≡ get_or m j 0
rest_byte l m n j e h =
    after_first l (drop n m) n j e h ∙ get_or-drop n m (j - n) 0 ∙ ap (λ (x : ℕ). get_or m x 0) (omega arith)

pub mapped_rest : (f : ℕ → Bool) (n : ℕ) (m : List ℕ) (j : ℕ) → bytes_for n ≤ j → get_or (mapped f n m) j 0 ≡ get_or m j 0
unfolding mapped
mapped_rest f n m j h = rest_byte (bytes_from (below n f) 0 (bytes_for n)) m (bytes_for n) j (length_from (below n f) 0 (bytes_for n)) h

pub mapped_rest_bit : (f : ℕ → Bool) (n : ℕ) (m : List ℕ) (i : ℕ) → 8 * bytes_for n ≤ i → map_bit (mapped f n m) i ≡ map_bit m i
mapped_rest_bit f n m i h = same_byte (mapped f n m) m i (mapped_rest f n m (i / 8) (omega arith))

pub mapped_ext : (f g : ℕ → Bool) (n : ℕ) (m : List ℕ) → ((i : ℕ) → i < n → f i ≡ g i) → mapped f n m ≡ mapped g n m
unfolding mapped
mapped_ext f g n m h = ap (λ (l : List ℕ). l ++ drop (bytes_for n) m) (bytes_ext (below n f) (below n g) 0 (bytes_for n) (below_ext n f g h))

-- ---- cleared bytes

pub cleared_length : (n : ℕ) (m : List ℕ) → n ≤ length m → length (cleared n m) ≡ length m
unfolding cleared
cleared_length n m h = simp (length-append, length-drop, length-replicate) (omega arith)

pub cleared_none : (n : ℕ) (m : List ℕ) (j : ℕ) → j < n → get_or (cleared n m) j 0 ≡ 0
unfolding cleared
cleared_none n m j h =
    get_or-append (replicate n 0) (drop n m) 0 j (rw (length-replicate {A = ℕ} n 0) h) ∙ get_or-replicate n j 0 0 h

pub cleared_rest : (n : ℕ) (m : List ℕ) (j : ℕ) → n ≤ j → get_or (cleared n m) j 0 ≡ get_or m j 0
unfolding cleared
cleared_rest n m j h = rest_byte (replicate n 0) m n j (length-replicate n 0) h

pub cleared_bytes : (n : ℕ) (m : List ℕ) → Bytes m → Bytes (cleared n m)
cleared_bytes n m h j = split j n (λ l. rw (cleared_none n m j l) (lit< tt)) (λ l. rw (cleared_rest n m j l) (h j))

pub cleared_bit : (n : ℕ) (m : List ℕ) (i : ℕ) → i < 8 * n → map_bit (cleared n m) i ≡ false
unfolding map_bit
cleared_bit n m i h = rw (cleared_none n m (i / 8) (omega arith)) (bit_none (i % 8))

pub cleared_rest_bit : (n : ℕ) (m : List ℕ) (i : ℕ) → 8 * n ≤ i → map_bit (cleared n m) i ≡ map_bit m i
cleared_rest_bit n m i h = same_byte (cleared n m) m i (cleared_rest n m (i / 8) (omega arith))

-- cleared bytes are the map of no bit
pub cleared_mapped : (f : ℕ → Bool) (n : ℕ) (m : List ℕ) → ((i : ℕ) → i < n → f i ≡ false) → cleared (bytes_for n) m ≡ mapped f n m
unfolding cleared mapped
cleared_mapped f n m h =
    ap (λ (l : List ℕ). l ++ drop (bytes_for n) m)
    (sym (bytes_none (below n f) 0 (bytes_for n) (λ i. split i n (λ l. below_in n f i l ∙ h i l) (below_past n f i))))

-- raising bits over cleared bytes makes the map of those bits
pub cleared_raised : (f g : ℕ → Bool) (n : ℕ) (m after : List ℕ) → bytes_for n ≤ length m → Bytes m → Raises g (cleared (bytes_for n) m) after
    → ((i : ℕ) → i < n → g i ≡ f i) → ((i : ℕ) → n ≤ i → g i ≡ false) → after ≡ mapped f n m
cleared_raised f g n m after fits b r in_range past =
    map_ext after (mapped f n m) (r.long ∙ cleared_length (bytes_for n) m fits ∙ sym (mapped_length f n m fits)) (r.bytes (cleared_bytes (bytes_for n) m b)) (mapped_bytes f n m b)
    (λ i. r.bits i ∙ split i (8 * bytes_for n) (low i) (high i))
  where
    low : (i : ℕ) → i < 8 * bytes_for n → (map_bit (cleared (bytes_for n) m) i || g i) ≡ map_bit (mapped f n m) i
    low i l =
        rw (cleared_bit (bytes_for n) m i l)
        (split i n (λ p. in_range i p ∙ sym (mapped_bit f n m i p)) (λ p. past i p ∙ sym (mapped_pad f n m i p l)))

    high : (i : ℕ) → 8 * bytes_for n ≤ i → (map_bit (cleared (bytes_for n) m) i || g i) ≡ map_bit (mapped f n m) i
    high i l =
        rw (past i (let q : n ≤ i = omega arith in q))
        (or_none (map_bit (cleared (bytes_for n) m) i) ∙ cleared_rest_bit (bytes_for n) m i l ∙ sym (mapped_rest_bit f n m i l))
