-- The laws of `desc` and `put` that callers use, and the steps from them to the code.
use Prim.Native.Nat.{ℕ, zero, suc, ◌+◌, ◌/◌, ◌%◌, ◌^◌, ◌<◌, ◌≤◌, ◌-◌}
use mathlib.Core.Path.{◌≡◌, refl, sym, ap, ◌∙◌}
use mathlib.Core.List.{List, [], ◌∷◌, ◌++◌, append_assoc, reverse, reverse-reverse}
use native.Mathlib.Nat.{add-suc, add-zero, add_assoc}
use mathlib.Core.Logic.{◌⊎◌, inl, inr}
use native.Mathlib.Omega.{arith}
use lib.ListN.{length, get_or, take, drop, length-append, length-drop, length-reverse, take-append-drop, get_or-append}
use lib.Seq.{drop-cons, take_at, drop_at, length-take-le, get_or-take, get_or-drop, get_or-append-add, take-append-add, drop-append-add, take-append-le, drop-append-le}
use mathlib.Core.Bool.{Bool, true, false, not}
use lib.Dec.{eqb, ltb}
use borrow.Author.Tests.{eqb-true, eqb-false, ltb-true, ltb-false}
use Rattle.descriptor.specs.Bits.{pick}
use Rattle.descriptor.specs.Bytes.{number, digits, in_order, value_of, bytes_of, desc, put}

-- ---- the elements of a part, one by one

-- n elements of l from at + k on
unfoldable pub cells : ℕ → List ℕ → ℕ → ℕ → List ℕ
cells zero l at k = []
cells (suc n) l at k = get_or l (at + k) 0 ∷ cells n l at (suc k)

window : (n : ℕ) (l : List ℕ) (at k : ℕ) → at + k + n ≤ length l → take n (drop (at + k) l) ≡ cells n l at k
unfolding cells
window zero l at k h = refl
window (suc n) l at k h =
    let lt : at + k < length l = omega arith in
    rw (drop-cons l (at + k) 0) (ap (λ (r : List ℕ). get_or l (at + k) 0 ∷ r) (rw (← add-suc at k) (window n l at (suc k) (omega (arith, add-suc at k)))))

pub window0 : (n : ℕ) (l : List ℕ) (at : ℕ) → at + n ≤ length l → take n (drop at l) ≡ cells n l at 0
window0 n l at h = rw (add-zero at) at (window n l at 0 (omega arith))

length_digits : (n v : ℕ) → length (digits n v) ≡ n
unfolding digits
length_digits zero v = refl
length_digits (suc n) v = ap suc (length_digits n (v / 256))

-- ---- either order: applied twice it changes nothing, and there are as many bytes; with that bytes stay bytes (Numbers) all laws follow but those of the other order

in_order_twice : (ee : Bool) (l : List ℕ) → in_order ee (in_order ee l) ≡ l
unfolding in_order
in_order_twice true l = reverse-reverse l
in_order_twice false l = refl

pub length_in_order : (ee : Bool) (l : List ℕ) → length (in_order ee l) ≡ length l
unfolding in_order
length_in_order true l = length-reverse l
length_in_order false l = refl

pub length_bytes : (ee : Bool) (v : ℕ) → length (bytes_of ee v) ≡ 8
unfolding bytes_of
length_bytes ee v = length_in_order ee (digits 8 v) ∙ length_digits 8 v

-- ---- the laws

-- a number comes back from its bytes, the lowest first
pub number_digits : (v : ℕ) → v < 2 ^ 64 → number (digits 8 v) ≡ v
unfolding number digits
number_digits v h = omega arith

-- a descriptor comes back from its bytes
pub value_bytes : (ee : Bool) (v : ℕ) → v < 2 ^ 64 → value_of ee (bytes_of ee v) ≡ v
unfolding value_of bytes_of
value_bytes ee v h = rw (in_order_twice ee (digits 8 v)) (number_digits v h)

module _ (ee : Bool) (l : List ℕ) (i v : ℕ) (fits : i + 8 ≤ length l) where
  head_length : length (take i l) ≡ i
  head_length = length-take-le i l (omega arith)

  front_length : length (take i l ++ bytes_of ee v) ≡ i + 8
  front_length = length-append (take i l) (bytes_of ee v) ∙ rw (head_length, length_bytes ee v)

  -- as many bytes
  pub length_put : length (put ee l i v) ≡ length l
  unfolding put
  length_put = length-append (take i l ++ bytes_of ee v) (drop (i + 8) l) ∙ rw (front_length, length-drop (i + 8) l) (omega arith)

  -- the 8 bytes at that offset
  pub take_put : take 8 (drop i (put ee l i v)) ≡ bytes_of ee v
  unfolding put
  take_put =
      rw (append_assoc, drop_at (take i l) (bytes_of ee v ++ drop (i + 8) l) i head_length) (take_at (bytes_of ee v) (drop (i + 8) l) 8 (length_bytes ee v))

  -- read after write at the same offset
  pub desc_put : v < 2 ^ 64 → desc ee (put ee l i v) i ≡ v
  unfolding desc
  desc_put h = ap (value_of ee) take_put ∙ value_bytes ee v h

  -- every other byte
  pub get_d_put_before : (k : ℕ) → k < i → get_or (put ee l i v) k 0 ≡ get_or l k 0
  unfolding put
  get_d_put_before k h =
      get_or-append (take i l ++ bytes_of ee v) (drop (i + 8) l) 0 k (rw front_length (omega arith))
      ∙ get_or-append (take i l) (bytes_of ee v) 0 k (rw head_length h)
      ∙ get_or-take i l k 0 h

  pub get_d_put_after : (k : ℕ) → i + 8 ≤ k → get_or (put ee l i v) k 0 ≡ get_or l k 0
  unfolding put
  get_d_put_after k h =
      let e : k ≡ i + 8 + (k - (i + 8)) = omega arith in
      let q : get_or (take i l ++ bytes_of ee v ++ drop (i + 8) l) (length (take i l ++ bytes_of ee v) + (k - (i + 8))) 0 ≡ get_or l (i + 8 + (k - (i + 8))) 0 =
      get_or-append-add (take i l ++ bytes_of ee v) (drop (i + 8) l) (k - (i + 8)) 0 ∙ get_or-drop (i + 8) l (k - (i + 8)) 0 in
      rw (front_length, ← e) at q

-- two lists that agree on n elements from at + k on
cells_ext : (n : ℕ) (l m : List ℕ) (at k : ℕ) → ((i : ℕ) → k ≤ i → i < k + n → get_or l (at + i) 0 ≡ get_or m (at + i) 0) → cells n l at k ≡ cells n m at k
unfolding cells
cells_ext zero l m at k h = refl
cells_ext (suc n) l m at k h =
    rw (h k (omega arith) (omega arith)) (ap (λ (r : List ℕ). get_or m (at + k) 0 ∷ r) (cells_ext n l m at (suc k) (λ i p q. h i (omega arith) (omega arith))))

desc_ext : (ee : Bool) (l m : List ℕ) (j : ℕ) → j + 8 ≤ length l → length m ≡ length l → ((i : ℕ) → j ≤ i → i < j + 8 → get_or m i 0 ≡ get_or l i 0) → desc ee m j ≡ desc ee l j
unfolding desc
desc_ext ee l m j h e same =
    rw (window0 8 m j (omega arith), window0 8 l j h) (ap (value_of ee) (cells_ext 8 m l j 0 (λ i p q. same (j + i) (omega arith) (omega arith))))

-- read after write at another offset
pub desc_put_other : (ee : Bool) (l : List ℕ) (i j v : ℕ) → i + 8 ≤ length l → j + 8 ≤ length l → (j + 8 ≤ i) ⊎ (i + 8 ≤ j) → desc ee (put ee l i v) j ≡ desc ee l j
desc_put_other ee l i j v p q (inl h) = desc_ext ee l (put ee l i v) j q (length_put ee l i v p) (λ k a b. get_d_put_before ee l i v p k (omega arith))
desc_put_other ee l i j v p q (inr h) = desc_ext ee l (put ee l i v) j q (length_put ee l i v p) (λ k a b. get_d_put_after ee l i v p k (omega arith))

-- read after write at multiples of 8, as one equation
pub desc_put_aligned : (ee : Bool) (l : List ℕ) (i v j : ℕ) → i % 8 ≡ 0 → j % 8 ≡ 0 → i + 8 ≤ length l → j + 8 ≤ length l → v < 2 ^ 64 → desc ee (put ee l i v) j ≡ pick (eqb i j) v (desc ee l j)
desc_put_aligned ee l i v j ai aj hi hj hv = by (eqb i j) refl
  where
    apart : (b : Bool) → ltb i j ≡ b → (i ≡ j → ⊥) → (j + 8 ≤ i) ⊎ (i + 8 ≤ j)
    apart true e n = inr (let p : i < j = ltb-true i j e in omega arith)
    apart false e n = inl (let p : j ≤ i = ltb-false i j e in omega arith)

    by : (b : Bool) → eqb i j ≡ b → desc ee (put ee l i v) j ≡ pick b v (desc ee l j)
    by true e = rw (← eqb-true i j e) (desc_put ee l i v hi hv)
    by false e = desc_put_other ee l i j v hi hj (apart (ltb i j) refl (eqb-false i j e))

-- ---- the other order

pub value_other : (ee : Bool) (l : List ℕ) → value_of (not ee) (reverse l) ≡ value_of ee l
unfolding value_of in_order
value_other true l = refl
value_other false l = ap number (reverse-reverse l)

pub bytes_other : (ee : Bool) (v : ℕ) → bytes_of (not ee) v ≡ reverse (bytes_of ee v)
unfolding bytes_of in_order
bytes_other true v = sym (reverse-reverse (digits 8 v))
bytes_other false v = refl

-- ---- a part of a memory

pub put_right : (ee : Bool) (xs ys : List ℕ) (i v : ℕ) → put ee (xs ++ ys) (length xs + i) v ≡ xs ++ put ee ys i v
unfolding put
put_right ee xs ys i v =
    rw (take-append-add xs ys i, add_assoc (length xs) i 8, drop-append-add xs ys (i + 8)) (simp append_assoc)

put_left : (ee : Bool) (xs ys : List ℕ) (i v : ℕ) → i + 8 ≤ length xs → put ee (xs ++ ys) i v ≡ put ee xs i v ++ ys
unfolding put
put_left ee xs ys i v h =
    let h0 : i ≤ length xs = omega arith in
    rw (take-append-le i xs ys h0, drop-append-le (i + 8) xs ys h) (simp append_assoc)

-- a store into the part of n bytes from s on is a store into the whole
pub put_part : (ee : Bool) (m : List ℕ) (s n i v : ℕ) → s + n ≤ length m → i + 8 ≤ n
    → take s m ++ (put ee (take n (drop s m)) i v ++ drop n (drop s m)) ≡ put ee m (s + i) v
put_part ee m s n i v h k =
    let ln : length (take n (drop s m)) ≡ n = length-take-le n (drop s m) (rw (length-drop s m) (omega arith)) in
    let ls : length (take s m) ≡ s = length-take-le s m (omega arith) in
    let e : put ee (take s m ++ (take n (drop s m) ++ drop n (drop s m))) (length (take s m) + i) v ≡ take s m ++ (put ee (take n (drop s m)) i v ++ drop n (drop s m)) =
    put_right ee (take s m) (take n (drop s m) ++ drop n (drop s m)) i v ∙ ap (λ (r : List ℕ). take s m ++ r) (put_left ee (take n (drop s m)) (drop n (drop s m)) i v (omega arith)) in
    sym (rw (take-append-drop n (drop s m), take-append-drop s m, ls) at e)
