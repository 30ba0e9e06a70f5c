-- A part of a memory: put back with other bytes, and its descriptors.
use Prim.Native.Nat.{ℕ, ◌+◌, ◌-◌, ◌<◌, ◌≤◌}
use mathlib.Core.Bool.{Bool, true, false}
use mathlib.Core.List.{List, ◌++◌, append_assoc}
use mathlib.Core.Logic.{◌⊎◌, inl, inr}
use mathlib.Core.Path.{◌≡◌, sym, ap, ◌∙◌}
use native.Mathlib.Omega.{arith}
use lib.ListN.{length, get_or, take, drop, length-append, length-drop, take-append-drop, get_or-append}
use lib.Seq.{length-take-le, drop_at, take_at, get_or-take, get_or-drop, get_or-append-add, take-add, drop-drop, take-append-le, drop-append-le}
use Rattle.descriptor.specs.Bytes.{value_of, desc, put}
use Rattle.descriptor.specs.Bits.{pick}
use Rattle.descriptor.proofs.Laws.{length_put, get_d_put_before, get_d_put_after, put_part}

-- ---- n bytes x for those from s on

module _ (m x : List ℕ) (s n : ℕ) (fits : s + n ≤ length m) (same : length x ≡ n) where
  front_length : length (take s m ++ x) ≡ s + n
  front_length = length-append (take s m) x ∙ rw (length-take-le s m (let h : s ≤ length m = omega arith in h), same)

  pub length_with : length (take s m ++ x ++ drop (s + n) m) ≡ length m
  length_with = length-append (take s m ++ x) (drop (s + n) m) ∙ rw (front_length, length-drop (s + n) m) (omega arith)

  pub get_d_with_before : (i : ℕ) → i < s → get_or (take s m ++ x ++ drop (s + n) m) i 0 ≡ get_or m i 0
  get_d_with_before i h =
      get_or-append (take s m ++ x) (drop (s + n) m) 0 i (rw front_length (omega arith))
      ∙ get_or-append (take s m) x 0 i (rw (length-take-le s m (let k : s ≤ length m = omega arith in k)) h)
      ∙ get_or-take s m i 0 h

  pub get_d_with_after : (i : ℕ) → s + n ≤ i → get_or (take s m ++ x ++ drop (s + n) m) i 0 ≡ get_or m i 0
  get_d_with_after i h =
      let e : i ≡ s + n + (i - (s + n)) = omega arith in
      let q : get_or (take s m ++ x ++ drop (s + n) m) (length (take s m ++ x) + (i - (s + n))) 0 ≡ get_or m (s + n + (i - (s + n))) 0 =
      get_or-append-add (take s m ++ x) (drop (s + n) m) (i - (s + n)) 0 ∙ get_or-drop (s + n) m (i - (s + n)) 0 in
      rw (front_length, ← e) at q

  pub part_with : take n (drop s (take s m ++ x ++ drop (s + n) m)) ≡ x
  part_with =
      rw (append_assoc, drop_at (take s m) (x ++ drop (s + n) m) s (length-take-le s m (let h : s ≤ length m = omega arith in h)))
      (take_at x (drop (s + n) m) n same)

  -- the part put in once more
  pub with_with : (y : List ℕ) → take s (take s m ++ x ++ drop (s + n) m) ++ y ++ drop (s + n) (take s m ++ x ++ drop (s + n) m) ≡ take s m ++ y ++ drop (s + n) m
  with_with y =
      let front : length (take s m) ≡ s = length-take-le s m (let h : s ≤ length m = omega arith in h) in
      let first : take s (take s m ++ x ++ drop (s + n) m) ≡ take s m = rw append_assoc (take_at (take s m) (x ++ drop (s + n) m) s front) in
      rw (first, drop_at (take s m ++ x) (drop (s + n) m) (s + n) front_length)

-- a part put back, as the borrow checker has it and as the definition says it
pub put_back : (m x : List ℕ) (s n : ℕ) → take s m ++ (x ++ drop n (drop s m)) ≡ take s m ++ x ++ drop (s + n) m
put_back m x s n = rw (drop-drop n s m, append_assoc)

-- the part put back as it was
pub with_own : (m : List ℕ) (s n : ℕ) → take s m ++ take n (drop s m) ++ drop (s + n) m ≡ m
with_own m s n = rw (← take-add s n m) (take-append-drop (s + n) m)

pub length_part : (m : List ℕ) (s n : ℕ) → s + n ≤ length m → length (take n (drop s m)) ≡ n
length_part m s n h = length-take-le n (drop s m) (rw (length-drop s m) (omega arith))

-- ---- a descriptor

-- the bytes beside one that is stored
pub get_d_put : (ee : Bool) (m : List ℕ) (i v : ℕ) → i + 8 ≤ length m → (k : ℕ) → (k < i) ⊎ (i + 8 ≤ k) → get_or (put ee m i v) k 0 ≡ get_or m k 0
get_d_put ee m i v fits k (inl h) = get_d_put_before ee m i v fits k h
get_d_put ee m i v fits k (inr h) = get_d_put_after ee m i v fits k h

-- a descriptor stored in the part, or not, is stored in the memory, or not
pub with_put : (ee : Bool) (m : List ℕ) (s n i v : ℕ) (b : Bool) → s + n ≤ length m → i + 8 ≤ n
    → take s m ++ pick b (put ee (take n (drop s m)) i v) (take n (drop s m)) ++ drop (s + n) m ≡ pick b (put ee m (s + i) v) m
with_put ee m s n i v true h k = sym (put_back m (put ee (take n (drop s m)) i v) s n) ∙ put_part ee m s n i v h k
with_put ee m s n i v false h k = with_own m s n

-- the part after a descriptor was stored in it
pub part_put : (ee : Bool) (m : List ℕ) (s n i v : ℕ) → s + n ≤ length m → i + 8 ≤ n → take n (drop s (put ee m (s + i) v)) ≡ put ee (take n (drop s m)) i v
part_put ee m s n i v h k =
    let part = take n (drop s m) in
    let l : length part ≡ n = length_part m s n h in
    ap (λ (x : List ℕ). take n (drop s x)) (sym (with_put ee m s n i v true h k)) ∙ part_with m (put ee part i v) s n h (length_put ee part i v (rw l k) ∙ l)

-- a descriptor of the part is one of the memory
pub desc_part : (ee : Bool) (m : List ℕ) (s n j : ℕ) → s + n ≤ length m → j + 8 ≤ n → desc ee (take n (drop s m)) j ≡ desc ee m (s + j)
unfolding desc
desc_part ee m s n j h k =
    let part = take n (drop s m) in
    let rest = drop n (drop s m) in
    let ln : length part ≡ n = length_part m s n h in
    let l1 : j ≤ length part = omega arith in
    let l2 : 8 ≤ length (drop j part) = rw (length-drop j part) (omega arith) in
    let e : drop (s + j) m ≡ drop j part ++ rest =
    sym (drop-drop j s m) ∙ ap (λ (x : List ℕ). drop j x) (sym (take-append-drop n (drop s m))) ∙ drop-append-le j part rest l1 in
    ap (value_of ee) (sym (rw e (take-append-le 8 (drop j part) rest l2)))
