-- What the stores of the functions leave of a map.
use Prim.Native.Nat.{ℕ, ◌+◌, ◌*◌, ◌-◌, ◌/◌, ◌%◌, ◌^◌, ◌<◌, ◌≤◌, zero, suc}
use mathlib.Core.Bool.{Bool, true, false, ◌||◌}
use mathlib.Core.List.{List, ◌∷◌, ◌++◌}
use mathlib.Core.Path.{◌≡◌, refl, sym, ap, ◌∙◌}
use native.Mathlib.Numerals.{add-one}
use native.Mathlib.Omega.{arith}
use lib.Dec.{eqb, lit<}
use lib.Bits.{bit_or, or_lt}
use lib.Pow.{pow-lt}
use lib.ListN.{length, get_or, set, length-set, drop, replicate, length-replicate}
use lib.Seq.{get_or-set_same, get_or-set_other, drop-cons, set_at}
use borrow.Rule.Slice.PartMut.{put_mid}
use Rattle.std.proofs.Common.{rules}
use Rattle.std.proofs.lemmas.List.{places}
use borrow.Author.Tests.{eqb-true, eqb-false, eq-eqb, ne_eqb}
use Rattle.descriptor.specs.Bits.{bit}
use Rattle.descriptor.specs.Bytes.{Bytes}
use Rattle.descriptor.proofs.BitLaws.{or_bit}
use Rattle.descriptor.proofs.Tests.{or_none, or_true}
use Rattle.bitmap.specs.Map.{map_bit, Raises, between, cleared}
use Rattle.bitmap.proofs.Byte.{bit_power, bit_full}
use Rattle.bitmap.proofs.Laws.{split, between_in, between_before, between_after}

-- a map whose bytes have the bits of f raised
raise_bits : (f : ℕ → Bool) (m n : List ℕ) → length n ≡ length m → ((j i : ℕ) → i < 8 → bit i (get_or n j 0) ≡ (bit i (get_or m j 0) || f (8 * j + i)))
    → (Bytes m → Bytes n) → Raises f m n
unfolding map_bit
raise_bits f m n e inside bytes =
    record {
      long = e;
      bits = λ i. let s : 8 * (i / 8) + i % 8 ≡ i = omega arith in inside (i / 8) (i % 8) (omega arith) ∙ ap (λ (j : ℕ). bit (i % 8) (get_or m (i / 8) 0) || f j) s;
      bytes = bytes;
    }

-- bit n raised in its byte
pub raise_one : (m : List ℕ) (n : ℕ) → n < 8 * length m → Raises (λ i. eqb i n) m (set m (n / 8) (bit_or (get_or m (n / 8) 0) (2 ^ (n % 8))))
raise_one m n h =
    raise_bits (λ i. eqb i n) m (set m (n / 8) v) (length-set m (n / 8) v) (λ j i l. bits j i l (eqb j (n / 8)) refl) (λ b j. bytes b j (eqb j (n / 8)) refl)
  where
    v : ℕ
    v = bit_or (get_or m (n / 8) 0) (2 ^ (n % 8))

    here : (j i : ℕ) → i < 8 → j ≡ n / 8 → (t : Bool) → eqb i (n % 8) ≡ t → t ≡ eqb (8 * j + i) n
    here j i l e true p = let q : i ≡ n % 8 = eqb-true i (n % 8) p in sym (eq-eqb (8 * j + i) n (omega arith))
    here j i l e false p = let q : i ≡ n % 8 → ⊥ = eqb-false i (n % 8) p in sym (ne_eqb (8 * j + i) n (λ z. q (omega arith)))

    bits : (j i : ℕ) → i < 8 → (t : Bool) → eqb j (n / 8) ≡ t → bit i (get_or (set m (n / 8) v) j 0) ≡ (bit i (get_or m j 0) || eqb (8 * j + i) n)
    bits j i l true p =
        let e : j ≡ n / 8 = eqb-true j (n / 8) p in
        rw (e, get_or-set_same m (n / 8) v 0 (omega arith), or_bit i (get_or m (n / 8) 0) (2 ^ (n % 8)), bit_power i (n % 8))
        (ap (λ (t : Bool). bit i (get_or m (n / 8) 0) || t) (here (n / 8) i l refl (eqb i (n % 8)) refl))
    bits j i l false p =
        let e : j ≡ n / 8 → ⊥ = eqb-false j (n / 8) p in
        rw (get_or-set_other m (n / 8) j v 0 e, ne_eqb (8 * j + i) n (λ z. e (omega arith))) (sym (or_none (bit i (get_or m j 0))))

    bytes : Bytes m → (j : ℕ) (t : Bool) → eqb j (n / 8) ≡ t → get_or (set m (n / 8) v) j 0 < 256
    bytes b j true p =
        rw (eqb-true j (n / 8) p, get_or-set_same m (n / 8) v 0 (omega arith))
        (or_lt 8 (get_or m (n / 8) 0) (2 ^ (n % 8)) (b (n / 8)) (pow-lt {i = n % 8} {j = 8} (omega arith)))
    bytes b j false p = rw (get_or-set_other m (n / 8) j v 0 (eqb-false j (n / 8) p)) (b j)

-- the bytes from lo on, below hi, raised
pub raise_bytes : (m ys : List ℕ) (lo hi : ℕ) → lo ≤ hi → hi ≤ length m → length ys ≡ hi - lo → ((k : ℕ) → k < hi - lo → get_or ys k 0 ≡ 255)
    → Raises (between (8 * lo) (8 * hi)) m (put_mid lo (hi - lo) m ys)
raise_bytes m ys lo hi p q e full =
    raise_bits (between (8 * lo) (8 * hi)) m n long bits (λ b j. split j lo (λ l. rw (before j l) (b j)) (λ l. split j hi (λ r. rw (in_it j l r) (lit< tt)) (λ r. rw (after j r) (b j))))
  where
    n : List ℕ
    n = put_mid lo (hi - lo) m ys

    long : length n ≡ length m
    long = search (rules, places)

    before : (j : ℕ) → j < lo → get_or n j 0 ≡ get_or m j 0
    before j l = search (rules, places)

    in_it : (j : ℕ) → lo ≤ j → j < hi → get_or n j 0 ≡ 255
    in_it j l r = at_part ∙ full (j - lo) (omega arith)
      where
        at_part : get_or n j 0 ≡ get_or ys (j - lo) 0
        at_part = search (rules, places)

    after : (j : ℕ) → hi ≤ j → get_or n j 0 ≡ get_or m j 0
    after j l = search (rules, places)

    bits : (j i : ℕ) → i < 8 → bit i (get_or n j 0) ≡ (bit i (get_or m j 0) || between (8 * lo) (8 * hi) (8 * j + i))
    bits j i l =
        split j lo (λ b. rw (before j b, between_before (8 * lo) (8 * hi) (8 * j + i) (omega arith)) (sym (or_none (bit i (get_or m j 0)))))
        (λ b. split j hi
        (λ r. rw (in_it j b r, between_in (8 * lo) (8 * hi) (8 * j + i) (omega arith) (omega arith)) (bit_full i l ∙ sym (or_true (bit i (get_or m j 0)))))
        (λ r. rw (after j r, between_after (8 * lo) (8 * hi) (8 * j + i) (omega arith)) (sym (or_none (bit i (get_or m j 0))))))

-- one more byte cleared
pub clear_next : (i : ℕ) (m : List ℕ) → i < length m → set (cleared i m) i 0 ≡ cleared (i + 1) m
unfolding cleared
clear_next i m h =
    rw (drop-cons m i 0 h) (set_at (replicate i 0) (get_or m i 0) (drop (suc i) m) 0 i (length-replicate i 0) ∙ snoc i (drop (suc i) m) ∙ ap (λ (n : ℕ). replicate n 0 ++ drop n m) (sym (add-one i)))
  where
    snoc : (n : ℕ) (l : List ℕ) → replicate n 0 ++ 0 ∷ l ≡ replicate (suc n) 0 ++ l
    snoc zero l = refl
    snoc (suc n) l = ap (λ (y : List ℕ). 0 ∷ y) (snoc n l)
