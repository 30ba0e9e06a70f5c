-- Two memories side by side: what a call may leave of them, and their pools.
use Prim.Native.Nat.{ℕ, ◌+◌, ◌-◌, ◌<◌, ◌≤◌}
use mathlib.Core.Bool.{Bool, true, false}
use mathlib.Core.List.{List, ◌++◌, append_assoc}
use mathlib.Core.Logic.{◌⊎◌, inl, inr}
use Rattle.std.specs.Prelude.{Some}
use mathlib.Core.Path.{◌≡◌, refl, sym, ap, subst, ◌∙◌}
use native.Mathlib.Omega.{arith}
use lib.Dec.{ltb}
use lib.ListN.{length, get_or, take, drop, length-take, length-drop, get_or-append}
use lib.Seq.{ext_get_or, get_or-take, get_or-drop, get_or-append-add, length-take-le}
use borrow.Author.Tests.{ltb-true, ltb-false}
use Rattle.descriptor.specs.Bytes.{Bytes, bytes_of, put}
use Rattle.descriptor.proofs.Laws.{length_bytes, length_put}
use Rattle.descriptor.proofs.Numbers.{bytes_put}
use Rattle.vmsa.specs.declared.Regime.{Regime}
use Rattle.walk.specs.Walk.{pool_bytes}
use Rattle.walk.proofs.Parts.{get_d_put}
use Rattle.tlb.specs.Ours.{located}
use Rattle.calls.specs.Rule1.{InPool, Same}

-- ---- what a call leaves of two memories: both as they were, both with one descriptor at one place in reach, or both with one part in reach made the same

-- no more than a part of k bytes from s on is changed
pub record Parted (s k : ℕ) (m left : List ℕ) : Type 0 where
  pub long : length left ≡ length m
  pub bytes : Bytes m → Bytes left
  pub outside : (i : ℕ) → (i < s) ⊎ (s + k ≤ i) → get_or left i 0 ≡ get_or m i 0

pub data Written (At : ℕ → Type 0) (m n : List ℕ) : List ℕ → List ℕ → Type 0 where
  still : Written At m n m n
  wrote : (ee : Bool) (at v : ℕ) → ((i : ℕ) → at ≤ i → i < at + 8 → At i) → at + 8 ≤ length m → Written At m n (put ee m at v) (put ee n at v)
  parted : (s k : ℕ) → ((i : ℕ) → s ≤ i → i < s + k → At i) → {m' n' : List ℕ} → Parted s k m m' → Parted s k n n' → take k (drop s m') ≡ take k (drop s n') → Written At m n m' n'

pub written_long : {At : ℕ → Type 0} {m n m' n' : List ℕ} → Written At m n m' n' → length m' ≡ length m
written_long still = refl
written_long {m = m} (wrote ee at v h k) = length_put ee m at v k
written_long (parted s k h p q e) = p.long

pub written_bytes : {At : ℕ → Type 0} {m n m' n' : List ℕ} → Written At m n m' n' → Bytes m → Bytes m'
written_bytes still b = b
written_bytes {m = m} (wrote ee at v h k) b = bytes_put ee m at v b
written_bytes (parted s k h p q e) b = p.bytes b

data Apart (at k i : ℕ) : Type 0 where
  beside : (i < at) ⊎ (at + k ≤ i) → Apart at k i
  within : at ≤ i → i < at + k → Apart at k i

apart : (at k i : ℕ) → Apart at k i
apart at k i = by (ltb i at) (ltb i (at + k)) refl refl
  where
    by : (x y : Bool) → ltb i at ≡ x → ltb i (at + k) ≡ y → Apart at k i
    by true y p q = beside (inl (ltb-true i at p))
    by false false p q = beside (inr (ltb-false i (at + k) q))
    by false true p q = within (ltb-false i at p) (ltb-true i (at + k) q)

pub written_outside : {At : ℕ → Type 0} {m n m' n' : List ℕ} → Written At m n m' n' → (i : ℕ) → (At i → ⊥) → get_or m' i 0 ≡ get_or m i 0
written_outside still i o = refl
written_outside {At} {m} (wrote ee at v h k) i o = by (apart at 8 i)
  where
    by : Apart at 8 i → get_or (put ee m at v) i 0 ≡ get_or m i 0
    by (beside b) = get_d_put ee m at v k i b
    by (within p q) = absurd (o (h i p q))
written_outside {At} {m} {m' = m'} (parted s k h p q e) i o = by (apart s k i)
  where
    by : Apart s k i → get_or m' i 0 ≡ get_or m i 0
    by (beside b) = p.outside i b
    by (within x y) = absurd (o (h i x y))

get_d_within : (ee : Bool) (m : List ℕ) (at v i : ℕ) → at + 8 ≤ length m → at ≤ i → i < at + 8 → get_or (put ee m at v) i 0 ≡ get_or (bytes_of ee v) (i - at) 0
unfolding put
get_d_within ee m at v i k p q =
    let ls : length (take at m) ≡ at = length-take-le at m (omega arith) in
    let e : i ≡ at + (i - at) = omega arith in
    let j : i - at < length (bytes_of ee v) = rw (length_bytes ee v) (omega arith) in
    let g : get_or (take at m ++ (bytes_of ee v ++ drop (at + 8) m)) (length (take at m) + (i - at)) 0 ≡ get_or (bytes_of ee v) (i - at) 0 =
    get_or-append-add (take at m) (bytes_of ee v ++ drop (at + 8) m) (i - at) 0 ∙ get_or-append (bytes_of ee v) (drop (at + 8) m) 0 (i - at) j in
    rw append_assoc (rw (ls, ← e) at g)

-- a byte of a part
get_d_part : (s k : ℕ) (m : List ℕ) (i : ℕ) → s ≤ i → i < s + k → get_or m i 0 ≡ get_or (take k (drop s m)) (i - s) 0
get_d_part s k m i x y =
    let e : i ≡ s + (i - s) = omega arith in
    ap (λ (j : ℕ). get_or m j 0) e ∙ sym (get_or-take k (drop s m) (i - s) 0 (omega arith) ∙ get_or-drop s m (i - s) 0)

pub written_same : {At : ℕ → Type 0} {m n m' n' : List ℕ} → Written At m n m' n' → (In : ℕ → Type 0) → Same In m n → Same In m' n'
written_same still In h = h
written_same {At} {m} {n} (wrote ee at v r k) In h =
    let k' : at + 8 ≤ length n = subst (λ (x : ℕ). at + 8 ≤ x) h.long k in
    record { long = length_put ee m at v k ∙ h.long ∙ sym (length_put ee n at v k'); bytes = λ i q. by i q k' (apart at 8 i) }
  where
    by : (i : ℕ) → In i → at + 8 ≤ length n → Apart at 8 i → get_or (put ee m at v) i 0 ≡ get_or (put ee n at v) i 0
    by i q k' (beside b) = get_d_put ee m at v k i b ∙ h.bytes i q ∙ sym (get_d_put ee n at v k' i b)
    by i q k' (within x y) = get_d_within ee m at v i k x y ∙ sym (get_d_within ee n at v i k' x y)
written_same {At} {m} {n} {m'} {n'} (parted s k r p q e) In h = record { long = p.long ∙ h.long ∙ sym q.long; bytes = λ i z. by i z (apart s k i) }
  where
    by : (i : ℕ) → In i → Apart s k i → get_or m' i 0 ≡ get_or n' i 0
    by i z (beside b) = p.outside i b ∙ h.bytes i z ∙ sym (q.outside i b)
    by i z (within x y) = get_d_part s k m' i x y ∙ ap (λ (l : List ℕ). get_or l (i - s) 0) e ∙ sym (get_d_part s k n' i x y)

-- ---- memories that agree in the pool have one pool

pub pool_same : (r : Regime) (m n : List ℕ) → Same (InPool (Some r)) m n → pool_bytes r.pool m ≡ pool_bytes r.pool n
pool_same r m n h =
    let s = r.pool.start in
    let k = r.pool.length in
    ext_get_or 0 (take k (drop s m)) (take k (drop s n)) (rw (length-take k (drop s m), length-take k (drop s n), length-drop s m, length-drop s n, h.long))
    (λ i q. by i (below i q))
  where
    below : (i : ℕ) → i < length (take r.pool.length (drop r.pool.start m)) → i < r.pool.length
    below i q = let e = length-take r.pool.length (drop r.pool.start m) in omega (arith, e, q)

    by : (i : ℕ) → i < r.pool.length → get_or (take r.pool.length (drop r.pool.start m)) i 0 ≡ get_or (take r.pool.length (drop r.pool.start n)) i 0
    by i q =
        get_or-take r.pool.length (drop r.pool.start m) i 0 q ∙ get_or-drop r.pool.start m i 0
        ∙ h.bytes (r.pool.start + i) (omega arith, omega arith)
        ∙ sym (get_or-take r.pool.length (drop r.pool.start n) i 0 q ∙ get_or-drop r.pool.start n i 0)

pub located_same : (r : Regime) (m n : List ℕ) (p : ℕ) → pool_bytes r.pool m ≡ pool_bytes r.pool n → located r m p ≡ located r n p
unfolding located
located_same r m n p e = rw e
