-- The walk over a memory that is 0 but for a few descriptors is the quick walk, for any number of bytes.
use Prim.Native.Nat.{ℕ, ◌+◌, ◌-◌, ◌%◌, ◌^◌, ◌≤◌, ◌<◌}
use mathlib.Core.Bool.{Bool, true, false, ◌&&◌}
use mathlib.Core.Path.{◌≡◌, refl, sym, ap, ◌∙◌, fun_ext}
use mathlib.Core.List.{List, [], ◌∷◌, ◌++◌, append-nil}
use native.Mathlib.Omega.{arith}
use native.Mathlib.Nat.{zero-add}
use lib.Dec.{leb, ltb, eqb}
use lib.ListN.{replicate, length, take, drop, length-replicate, replicate-append-replicate}
use lib.Seq.{take-length, drop-length, take_at, drop_at}
use borrow.Author.Tests.{eqb-true, leb-true, ltb-true}
use Rattle.descriptor.specs.Bytes.{number, in_order, value_of, desc, put}
use Rattle.descriptor.specs.Bits.{pick}
use Rattle.descriptor.proofs.Laws.{length_put, desc_put_aligned}
use Rattle.descriptor.proofs.Tests.{and_true}
use Rattle.vmsa.specs.declared.Regime.{Regime}
use Rattle.vmsa.specs.declared.Access.{Access}
use Rattle.checks.specs.Order.{Checked}
use Rattle.std.specs.Prelude.{Ok, Err, Option, Some, None}
use Rattle.checks.specs.Order.{walk_check}
use Rattle.lookup.specs.Steps.{fetched, pool_reader, locate}
use Rattle.walk.specs.Walk.{Outcome, traced, walk_along, walk_pool, checked, walk}
use Rattle.cases.specs.Cases.{puts, memory_of}
use Rattle.cases.proofs.Quick.{placed, all_placed, value_at, quick, unless, quick_walk}

-- ---- a memory of zeros

abbrev zeros : ℕ → List ℕ
zeros n = replicate n 0

zeros_length : (n : ℕ) → length (zeros n) ≡ n
zeros_length n = length-replicate n 0

zeros_split : (a b : ℕ) → zeros (a + b) ≡ zeros a ++ zeros b
zeros_split a b = sym (replicate-append-replicate a b 0)

zero_bytes : (n j : ℕ) → j + 8 ≤ n → take 8 (drop j (zeros n)) ≡ zeros 8
zero_bytes n j h =
    let rest = n - (j + 8) in
    let e : n ≡ j + (8 + rest) = omega arith in
    let s : zeros n ≡ zeros j ++ (zeros 8 ++ zeros rest) = ap zeros e ∙ zeros_split j (8 + rest) ∙ ap (λ (r : List ℕ). zeros j ++ r) (zeros_split 8 rest) in
    rw (s, drop_at (zeros j) (zeros 8 ++ zeros rest) j (zeros_length j), take_at (zeros 8) (zeros rest) 8 (zeros_length 8))

zero_value : (ee : Bool) → value_of ee (zeros 8) ≡ 0
unfolding value_of in_order number
zero_value true = refl
zero_value false = refl

zero_desc : (ee : Bool) (n j : ℕ) → j + 8 ≤ n → desc ee (zeros n) j ≡ 0
unfolding desc
zero_desc ee n j h = ap (value_of ee) (zero_bytes n j h) ∙ zero_value ee

-- ---- a memory with descriptors put in

pub record Placed (n : ℕ) (d : ℕ × ℕ) : Type 0 where
  pub aligned : d.0 % 8 ≡ 0
  pub inside : d.0 + 8 ≤ n
  pub small : d.1 < 2 ^ 64

is_placed : (n : ℕ) (d : ℕ × ℕ) → placed n d ≡ true → Placed n d
unfolding placed
is_placed n d e =
    let s = and_true (eqb (d.0 % 8) 0 && leb (d.0 + 8) n) (ltb d.1 (2 ^ 64)) e in
    let t = and_true (eqb (d.0 % 8) 0) (leb (d.0 + 8) n) s.0 in
    record { aligned = eqb-true (d.0 % 8) 0 t.0; inside = leb-true (d.0 + 8) n t.1; small = ltb-true d.1 (2 ^ 64) s.1 }

module _ (ee : Bool) (n : ℕ) where
  puts_length : (l : List ℕ) (ds : List (ℕ × ℕ)) → length l ≡ n → all_placed n ds ≡ true → length (puts ee l ds) ≡ n
  unfolding puts all_placed
  puts_length l [] e f = e
  puts_length l (d ∷ ds) e f =
      let s = and_true (placed n d) (all_placed n ds) f in
      let p = is_placed n d s.0 in
      puts_length (put ee l d.0 d.1) ds (length_put ee l d.0 d.1 (omega arith) ∙ e) s.1

  puts_desc : (l : List ℕ) (ds : List (ℕ × ℕ)) (j : ℕ) → length l ≡ n → all_placed n ds ≡ true → j % 8 ≡ 0 → j + 8 ≤ n
      → desc ee (puts ee l ds) j ≡ value_at ds j (desc ee l j)
  unfolding puts all_placed value_at
  puts_desc l [] j e f aj hj = refl
  puts_desc l (d ∷ ds) j e f aj hj =
      let s = and_true (placed n d) (all_placed n ds) f in
      let p = is_placed n d s.0 in
      puts_desc (put ee l d.0 d.1) ds j (length_put ee l d.0 d.1 (omega arith) ∙ e) s.1 aj hj
      ∙ ap (value_at ds j) (desc_put_aligned ee l d.0 d.1 j p.aligned aj (omega arith) (omega arith) p.small)

-- ---- the quick reader is the reader, at every address

module _ (ee : Bool) (n : ℕ) (ds : List (ℕ × ℕ)) (ok : all_placed n ds ≡ true) where
  pub memory_length : length (memory_of ee n ds) ≡ n
  unfolding memory_of
  memory_length = puts_length ee n (zeros n) ds (zeros_length n) ok

  memory_desc : (j : ℕ) → j % 8 ≡ 0 → j + 8 ≤ n → desc ee (memory_of ee n ds) j ≡ value_at ds j 0
  unfolding memory_of
  memory_desc j a h = puts_desc ee n (zeros n) ds j (zeros_length n) ok a h ∙ ap (value_at ds j) (zero_desc ee n j h)

  within : (base x : ℕ) (b : Bool) → (leb base x && leb (x + 8) (base + n)) ≡ b
      → fetched ee (memory_of ee n ds) base x ≡ pick b (Some (desc ee (memory_of ee n ds) (x - base))) None
  unfolding fetched
  within base x b e = rw (memory_length, e)

  same_word : (base x : ℕ) → fetched ee (memory_of ee n ds) base x ≡ quick ee n ds base x
  unfolding quick
  same_word base x = by (leb base x && leb (x + 8) (base + n)) refl
    where
      real : Option ℕ
      real = fetched ee (memory_of ee n ds) base x

      aligned : (b : Bool) → eqb ((x - base) % 8) 0 ≡ b → (x - base) + 8 ≤ n → real ≡ Some (desc ee (memory_of ee n ds) (x - base))
          → real ≡ pick b (Some (value_at ds (x - base) 0)) real
      aligned true e h q = q ∙ ap Some (memory_desc (x - base) (eqb-true ((x - base) % 8) 0 e) h)
      aligned false e h q = refl

      by : (b : Bool) → (leb base x && leb (x + 8) (base + n)) ≡ b → real ≡ pick b (pick (eqb ((x - base) % 8) 0) (Some (value_at ds (x - base) 0)) real) None
      by true e =
          let s = and_true (leb base x) (leb (x + 8) (base + n)) e in
          let p : base ≤ x = leb-true base x s.0 in
          let q : x + 8 ≤ base + n = leb-true (x + 8) (base + n) s.1 in
          aligned (eqb ((x - base) % 8) 0) refl (omega arith) (within base x true e)
      by false e = within base x false e

  same_reader : (base : ℕ) → fetched ee (memory_of ee n ds) base ≡ quick ee n ds base
  same_reader base = fun_ext (same_word base)

-- ---- and so the walks are the same

-- a pool that is the whole memory
whole : (m : List ℕ) (w : List ℕ → Outcome) (s l : ℕ) → s ≡ 0 → l ≡ length m
    → ◌≡◌ {A = Outcome} (record { result = (w (take l (drop s m))).result; bytes = take s m ++ (w (take l (drop s m))).bytes ++ drop (s + l) m }) (w m)
whole m w s l p q = rw (p, q, take-length m, zero-add (length m), drop-length m, append-nil (w m).bytes)

over_whole : (r : Regime) (a : Access) (m : List ℕ) (c : Checked) → r.pool.start ≡ 0 → r.pool.length ≡ length m → checked (walk_pool r a) r.pool m c ≡ unless m (walk_pool r a m) c
over_whole r a m (Err x) s l = refl
over_whole r a m (Ok _) s l = whole m (walk_pool r a) r.pool.start r.pool.length s l

along : (r : Regime) (a : Access) (pool : List ℕ) → walk_pool r a pool ≡ walk_along r a pool (locate r (pool_reader r pool) a.address.0)
unfolding walk_pool traced
along r a pool = refl

-- the descriptors visited
pub traced_quick : (r : Regime) (a : ℕ) (ds : List (ℕ × ℕ)) → all_placed r.pool.length ds ≡ true
    → traced r (memory_of r.ee r.pool.length ds) a ≡ locate r (quick r.ee r.pool.length ds r.pool.address.0) a
unfolding traced
traced_quick r a ds ok = ap (λ (read : ℕ → Option ℕ). locate r read a) (same_reader r.ee r.pool.length ds ok r.pool.address.0)

pub walk_quick : (r : Regime) (a : Access) (ds : List (ℕ × ℕ)) → r.pool.start ≡ 0 → all_placed r.pool.length ds ≡ true
    → walk r a (memory_of r.ee r.pool.length ds) ≡ quick_walk r.pool.length ds r a
unfolding walk quick_walk
walk_quick r a ds s ok =
    let n = r.pool.length in
    let m = memory_of r.ee n ds in
    over_whole r a m (walk_check (length m) r a) s (sym (memory_length r.ee n ds ok))
    ∙ rw (memory_length r.ee n ds ok, along r a m, same_reader r.ee n ds ok r.pool.address.0)
