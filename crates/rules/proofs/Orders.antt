-- The walk in the other byte order, over the memory with every descriptor of the pool in that order, is the walk.
use Prim.Native.Nat.{ℕ, zero, suc, ◌+◌, ◌*◌, ◌-◌, ◌/◌, ◌%◌, ◌<◌, ◌≤◌}
use mathlib.Core.Bool.{Bool, true, false, not, ◌&&◌}
use mathlib.Core.List.{List, ◌++◌, reverse}
use mathlib.Core.Path.{◌≡◌, refl, sym, ap, ◌∙◌}
use native.Mathlib.Omega.{arith}
use lib.Dec.{leb}
use lib.ListN.{length, take, drop, length-append, length-drop, length-reverse, take-append-drop}
use lib.Seq.{length-take-le, take_at, drop_at, drop-drop, drop-append-add}
use borrow.Author.Tests.{leb-true}
use Rattle.descriptor.specs.Bytes.{value_of, bytes_of, desc, put}
use Rattle.descriptor.specs.Bits.{pick}
use Rattle.descriptor.proofs.Laws.{length_bytes, value_other, bytes_other, put_right}
use Rattle.descriptor.proofs.Tests.{and_true}
use Rattle.vmsa.specs.Limits.{Sized}
use Rattle.vmsa.specs.Fields.{table_bits}
use Rattle.vmsa.specs.Settings.{with_pool, with_ee}
use Rattle.vmsa.specs.declared.Regime.{Regime}
use Rattle.vmsa.specs.declared.Pool.{Pool}
use Rattle.vmsa.specs.declared.Access.{Access}
use Rattle.vmsa.specs.declared.Leaf.{Leaf}
use Rattle.refusals.specs.Tests.{sizes_bad, roots_bad, dirty_state_bad, memory_pool_bad, pool_address_bad, crossing}
use Rattle.checks.specs.Order.{Checked}
use Rattle.std.specs.Prelude.{Ok, Err, Option, Some, None}
use Rattle.checks.specs.Order.{walk_check}
use Rattle.checks.proofs.Accept.{walk_accepted}
use Rattle.lookup.specs.Trace.{End, fault, leaf, Trace}
use Rattle.lookup.specs.Steps.{decoded, fetched, pool_reader, range_of, context_of, lookup, locate}
use Rattle.lookup.proofs.Readers.{AlikeWords, unreachable, values, AlikeEnds, faults, leaves, AlikeTraces, locate_alike}
use Rattle.permission.specs.Permission.{attribute_of, writable, clean, may_write, may_fetch, permitted, flag_fails, alignment_fails, permission_fails}
use Rattle.decision.specs.Decision.{flag_due, dirty_due, cacheable, passing, decision, output_of}
use Rattle.walk.specs.Walk.{Outcome, pool_bytes, concluded, traced, walk_pool, checked, walk}
use Rattle.walk.proofs.Parts.{part_with, with_with, with_own}
use Rattle.walk.proofs.Ends.{found, multiple8, ready}
use Rattle.rules.specs.Orders.{other_order, swapped, swapped_pool, swapped_outcome}
use Rattle.rules.proofs.Walks.{pool_long, pool_length}

-- ---- descriptors swapped, in a list

pub swapped_length : (n : ℕ) (l : List ℕ) → length (swapped n l) ≡ length l
unfolding swapped
swapped_length zero l = refl
swapped_length (suc n) l =
    length-append (reverse (take 8 l)) (swapped n (drop 8 l))
    ∙ rw (length-reverse (take 8 l), swapped_length n (drop 8 l)) (sym (length-append (take 8 l) (drop 8 l)) ∙ ap length (take-append-drop 8 l))

-- the first of them, swapped
first_length : (l : List ℕ) → 8 ≤ length l → length (reverse (take 8 l)) ≡ 8
first_length l h = length-reverse (take 8 l) ∙ length-take-le 8 l h

-- descriptor q of n
swapped_at : (n q : ℕ) (l : List ℕ) → q < n → 8 * q + 8 ≤ length l → take 8 (drop (8 * q) (swapped n l)) ≡ reverse (take 8 (drop (8 * q) l))
unfolding swapped
swapped_at zero q l h k = absurd (omega arith)
swapped_at (suc n) zero l h k = take_at (reverse (take 8 l)) (swapped n (drop 8 l)) 8 (first_length l k)
swapped_at (suc n) (suc q) l h k =
    let x = reverse (take 8 l) in
    let e : 8 * suc q ≡ 8 + 8 * q = omega arith in
    let long : 8 * q + 8 ≤ length (drop 8 l) = rw (length-drop 8 l) (omega arith) in
    let skip : drop (8 + 8 * q) (x ++ swapped n (drop 8 l)) ≡ drop (8 * q) (swapped n (drop 8 l)) =
    rw (first_length l (omega arith)) at (drop-append-add x (swapped n (drop 8 l)) (8 * q)) in
    rw (e, skip, ← drop-drop (8 * q) 8 l) (swapped_at n q (drop 8 l) (omega arith) long)

-- the first of a list stored, and one after it
put_first : (ee : Bool) (x t : List ℕ) (v : ℕ) → length x ≡ 8 → put ee (x ++ t) 0 v ≡ bytes_of ee v ++ t
unfolding put
put_first ee x t v e = rw (drop_at x t 8 e)

put_later : (ee : Bool) (x t : List ℕ) (q v : ℕ) → length x ≡ 8 → put ee (x ++ t) (8 * suc q) v ≡ x ++ put ee t (8 * q) v
put_later ee x t q v e =
    let s : 8 * suc q ≡ length x + 8 * q = omega (arith, e) in
    rw s (put_right ee x t (8 * q) v)

swapped_cons : (n : ℕ) (x t : List ℕ) → length x ≡ 8 → swapped (suc n) (x ++ t) ≡ reverse x ++ swapped n t
unfolding swapped
swapped_cons n x t e = rw (take_at x t 8 e, drop_at x t 8 e)

-- the same descriptor stored before turning, and after it in the other order
swapped_put : (ee : Bool) (n q : ℕ) (l : List ℕ) (v : ℕ) → q < n → 8 * q + 8 ≤ length l → put (not ee) (swapped n l) (8 * q) v ≡ swapped n (put ee l (8 * q) v)
swapped_put ee zero q l v h k = absurd (omega arith)
swapped_put ee (suc n) q l v h k =
    let x = take 8 l in
    let t = drop 8 l in
    let e : length x ≡ 8 = length-take-le 8 l (omega arith) in
    let f : length (reverse x) ≡ 8 = length-reverse x ∙ e in
    rw (← take-append-drop 8 l, swapped_cons n x t e) (by x t e f q h (rw (length-drop 8 l) (omega arith)) (λ j i. swapped_put ee n j t v i))
  where
    by : (x t : List ℕ) → length x ≡ 8 → length (reverse x) ≡ 8 → (q : ℕ) → q < suc n → 8 * q ≤ length t
        → ((j : ℕ) → j < n → 8 * j + 8 ≤ length t → put (not ee) (swapped n t) (8 * j) v ≡ swapped n (put ee t (8 * j) v))
        → put (not ee) (reverse x ++ swapped n t) (8 * q) v ≡ swapped (suc n) (put ee (x ++ t) (8 * q) v)
    by x t e f zero h k below =
        put_first (not ee) (reverse x) (swapped n t) v f
        ∙ rw (bytes_other ee v) (sym (swapped_cons n (bytes_of ee v) t (length_bytes ee v)))
        ∙ ap (swapped (suc n)) (sym (put_first ee x t v e))
    by x t e f (suc q) h k below =
        put_later (not ee) (reverse x) (swapped n t) q v f
        ∙ ap (λ (y : List ℕ). reverse x ++ y) (below q (omega arith) (omega arith))
        ∙ sym (swapped_cons n x (put ee t (8 * q) v) e)
        ∙ ap (swapped (suc n)) (sym (put_later ee x t q v e))

-- ---- the two readers, and the two traces

module _ (ee : Bool) (n : ℕ) (l : List ℕ) (long : length l ≡ 8 * n) (j : ℕ) (j8 : j % 8 ≡ 0) (fits : j + 8 ≤ length l) where
  abbrev nth : ℕ
  nth = j / 8

  whole : j ≡ 8 * nth
  whole = omega arith

  below : nth < n
  below = omega arith

  desc_other : desc (not ee) (swapped n l) j ≡ desc ee l j
  unfolding desc
  desc_other = rw whole (ap (value_of (not ee)) (swapped_at n nth l below (rw (← whole) fits)) ∙ value_other ee (take 8 (drop (8 * nth) l)))

  put_other : (v : ℕ) → put (not ee) (swapped n l) j v ≡ swapped n (put ee l j v)
  put_other v = rw whole (swapped_put ee n nth l v below (rw (← whole) fits))

words_other : (ee : Bool) (n : ℕ) (l : List ℕ) (base : ℕ) → length l ≡ 8 * n → base % 8 ≡ 0 → (a : ℕ) → a % 8 ≡ 0
    → AlikeWords ◌≡◌ (fetched (not ee) (swapped n l) base a) (fetched ee l base a)
unfolding fetched
words_other ee n l base long b8 a a8 = rw (swapped_length n l) (by (leb base a && leb (a + 8) (base + length l)) refl)
  where
    by : (b : Bool) → (leb base a && leb (a + 8) (base + length l)) ≡ b
        → AlikeWords ◌≡◌ (pick b (Some (desc (not ee) (swapped n l) (a - base))) None) (pick b (Some (desc ee l (a - base))) None)
    by true e =
        let t = and_true (leb base a) (leb (a + 8) (base + length l)) e in
        let g : base ≤ a = leb-true base a t.0 in
        let h : a + 8 ≤ base + length l = leb-true (a + 8) (base + length l) t.1 in
        values (desc_other ee n l long (a - base) (omega arith) (omega arith))
    by false e = unreachable

same_end : {e f : End} → AlikeEnds ◌≡◌ e f → e ≡ f
same_end (faults kind level) = refl
same_end (leaves a left sum k) = ap (λ (v : ℕ). leaf a (record { value = v; left = left; tables = sum })) k

same_trace : {t u : Trace} → AlikeTraces ◌≡◌ t u → t ≡ u
same_trace h i = record { visited = h.visited i; end = same_end h.ends i }

-- steps 1 to 5 ask the order of the reader alone
locate_other : (r : Regime) (read : ℕ → Option ℕ) (a : ℕ) → locate (other_order r) read a ≡ locate r read a
unfolding lookup locate range_of context_of
locate_other r read a = refl

-- steps 6 to 8 do not ask it, nor the pool; and the checks do not ask it
pub decision_elsewhere : (r : Regime) (p : Pool) (ee : Bool) (a : Access) (l : Leaf) (n : ℕ) → decision (with_ee (with_pool r p) ee) a l n ≡ decision r a l n
unfolding decision passing flag_due dirty_due cacheable flag_fails alignment_fails permission_fails attribute_of writable clean may_write may_fetch permitted output_of
decision_elsewhere r p ee a l n = refl

check_other : (n : ℕ) (r : Regime) (a : Access) → walk_check n (other_order r) a ≡ walk_check n r a
unfolding walk_check memory_pool_bad pool_address_bad sizes_bad roots_bad dirty_state_bad crossing
check_other n r a = refl

-- ---- the walk over the pool

module _ (r : Regime) (a : Access) (pool : List ℕ) (n : ℕ) (long : length pool ≡ 8 * n) (b8 : r.pool.address.0 % 8 ≡ 0)
    (sized : Sized r) (root : (range_of r a.address.0).root.0 % 8 ≡ 0) where
  trace_other : traced (other_order r) (swapped n pool) a.address.0 ≡ traced r pool a.address.0
  unfolding traced
  trace_other =
      locate_other r (pool_reader (other_order r) (swapped n pool)) a.address.0
      ∙ same_trace (locate_alike ◌≡◌ r a.address.0 (λ left v w k. ap (decoded _ _ left) (sym k)) (λ v w k. ap table_bits (sym k))
      (pool_reader (other_order r) (swapped n pool)) (pool_reader r pool) (words_other r.ee n pool r.pool.address.0 long b8) root)

  end_other : (k : ℕ) (e : End) → (traced r pool a.address.0).end ≡ e
      → ◌≡◌ {A = Outcome} (concluded (other_order r) a (swapped n pool) k e) (record { result = (concluded r a pool k e).result; bytes = swapped n (concluded r a pool k e).bytes })
  end_other k (fault kind level) q = refl
  end_other k (leaf at l) q =
      let f = found r pool a.address.0 at l sized root q in
      let i = f.inside in
      let d = decision r a l k in
      let j = at - r.pool.address.0 in
      let a8 : at % 8 ≡ 0 = f.reached.aligned in
      rw (decision_elsewhere r r.pool (not r.ee) a l k) (ap (λ (x : List ℕ). record { result = d.result; bytes = x }) (by d.update (put r.ee pool j d.value) (put_other r.ee n pool long j (omega arith) (omega (arith, i.least, i.most)) d.value)))
    where
      by : (b : Bool) {x : List ℕ} (y : List ℕ) → x ≡ swapped n y → pick b x (swapped n pool) ≡ swapped n (pick b y pool)
      by true y e = e
      by false y e = refl

  pool_other : ◌≡◌ {A = Outcome} (walk_pool (other_order r) a (swapped n pool)) (record { result = (walk_pool r a pool).result; bytes = swapped n (walk_pool r a pool).bytes })
  unfolding walk_pool
  pool_other = rw trace_other (end_other (length (traced r pool a.address.0).visited) (traced r pool a.address.0).end refl)

-- ---- the walk

same_length : (a b x c : List ℕ) → length x ≡ length b → length (a ++ x ++ c) ≡ length (a ++ b ++ c)
same_length a b x c e = simp length-append (rw e)

module _ (r : Regime) (a : Access) (m : List ℕ) where
  -- as many bytes, wherever the pool lies
  pub swapped_pool_length : length (swapped_pool r.pool m) ≡ length m
  swapped_pool_length =
      let s = r.pool.start in
      let n = r.pool.length in
      same_length (take s m) (pool_bytes r.pool m) (swapped (n / 8) (pool_bytes r.pool m)) (drop (s + n) m) (swapped_length (n / 8) (pool_bytes r.pool m)) ∙ ap length (with_own m s n)

  module _ (c : walk_check (length m) r a ≡ Ok tt) where
    abbrev start : ℕ
    start = r.pool.start

    abbrev count : ℕ
    count = r.pool.length / 8

    abbrev pool : List ℕ
    pool = pool_bytes r.pool m

    taken_other : checked (walk_pool (other_order r) a) r.pool (swapped_pool r.pool m) (Ok tt) ≡ swapped_outcome r.pool (checked (walk_pool r a) r.pool m (Ok tt))
    taken_other =
        let g = (walk_accepted (length m) r a c).0 in
        let h = ready (length m) r a c in
        let fits : start + r.pool.length ≤ length m = h.fits in
        let l8 = multiple8 r r.pool.length g.pool.length in
        let b8 = multiple8 r r.pool.address.0 g.address.aligned in
        let long : length pool ≡ r.pool.length = pool_long r a m c in
        let n8 : length pool ≡ 8 * count = omega arith in
        let w = walk_pool r a pool in
        let after : length w.bytes ≡ r.pool.length = pool_length r a m c in
        let same : length (swapped count pool) ≡ r.pool.length = swapped_length count pool ∙ long in
        rw (
          part_with m (swapped count pool) start r.pool.length fits same,
          pool_other r a pool count n8 b8 h.sized h.root,
          with_with m (swapped count pool) start r.pool.length fits same (swapped count w.bytes),
          part_with m w.bytes start r.pool.length fits after,
          with_with m w.bytes start r.pool.length fits after (swapped count w.bytes),
        )

  pub other_order_lem : walk (other_order r) a (swapped_pool r.pool m) ≡ swapped_outcome r.pool (walk r a m)
  unfolding walk
  other_order_lem = rw (swapped_pool_length, check_other (length m) r a) (by (walk_check (length m) r a) refl)
    where
      by : (x : Checked) → walk_check (length m) r a ≡ x
          → checked (walk_pool (other_order r) a) r.pool (swapped_pool r.pool m) x ≡ swapped_outcome r.pool (checked (walk_pool r a) r.pool m x)
      by (Err x) e = refl
      by (Ok _) e = taken_other e
