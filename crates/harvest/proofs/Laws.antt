-- Facts of a harvest from its definition: what it leaves of the memory, what it leaves where it is refused, and that no byte outside the pool has a say.
use Prim.Native.Nat.{ℕ, zero, suc, ◌+◌, ◌-◌, ◌*◌, ◌<◌, ◌≤◌}
use mathlib.Core.Bool.{◌&&◌}
use mathlib.Core.List.{List, ◌++◌}
use mathlib.Core.Logic.{◌⊎◌, inl, inr}
use mathlib.Core.Path.{◌≡◌, refl, sym, ap, subst, ◌∙◌}
use native.Mathlib.Omega.{arith}
use lib.ListN.{length, get_or, take, drop}
use Rattle.descriptor.specs.Bytes.{Bytes, put}
use Rattle.descriptor.proofs.Laws.{length_put}
use Rattle.descriptor.proofs.Numbers.{bytes_put, bytes_take, bytes_drop, bytes_append}
use Rattle.descriptor.proofs.Tests.{clash, pick_both}
use Rattle.vmsa.specs.Limits.{Sized}
use Rattle.vmsa.specs.Fields.{set_ap2}
use Rattle.vmsa.specs.Granules.{page_bits_of}
use Rattle.geometry.specs.Geometry.{page_size}
use Rattle.vmsa.specs.declared.Regime.{Regime}
use Rattle.vmsa.specs.declared.Leaf.{Leaf}
use Rattle.vmsa.specs.declared.Refusal.{Refusal}
use Rattle.checks.specs.Order.{Checked}
use Rattle.std.specs.Prelude.{Ok, Err}
use Rattle.checks.specs.Order.{harvest_check}
use Rattle.checks.proofs.Accept.{settled, harvest_accepted}
use Rattle.lookup.specs.Trace.{End, fault, leaf}
use Rattle.lookup.specs.Packing.{Backed}
use Rattle.lookup.proofs.Reach.{locate_backed, in_pool}
use Rattle.walk.specs.Walk.{pool_bytes, with_pool_bytes}
use Rattle.walk.proofs.Parts.{length_with, get_d_with_before, get_d_with_after, part_with, length_part}
use Rattle.bitmap.specs.Map.{mapped}
use Rattle.gather.specs.Ends.{dirty, pages_in}
use Rattle.clean.specs.Clean.{pages, whole_in, Asked, set_again, cleaned_by}
use Rattle.harvest.specs.Harvest.{reached, reports, asked_of, clean_pool, Harvested, harvested, harvest_by, harvest}

-- ---- the pages one after another

module _ (k : Asked) (ends : ℕ → End) where
  again_bytes : (x : ℕ) (pool : List ℕ) → Bytes pool → (e : End) → Bytes (set_again k x pool e)
  again_bytes x pool h (fault kind level) = h
  again_bytes x pool h (leaf a l) =
      pick_both Bytes (dirty l.value && whole_in k.from k.count (pages_in k.page l.left) x) (put k.ee pool (a - k.base) (set_ap2 l.value)) pool
      (bytes_put k.ee pool (a - k.base) (set_ap2 l.value) h) h

  pages_bytes : (x count : ℕ) (pool : List ℕ) → Bytes pool → Bytes (pages (cleaned_by k ends) x count pool)
  unfolding pages cleaned_by
  pages_bytes x zero pool h = h
  pages_bytes x (suc count) pool h = pages_bytes (suc x) count (set_again k x pool (ends x)) (again_bytes x pool h (ends x))

  -- where every leaf lies in the pool
  module _ (n : ℕ) (inside : (x a : ℕ) (l : Leaf) → ends x ≡ leaf a l → (a - k.base) + 8 ≤ n) where
    again_length : (x : ℕ) (pool : List ℕ) → length pool ≡ n → (e : End) → ends x ≡ e → length (set_again k x pool e) ≡ n
    again_length x pool h (fault kind level) q = h
    again_length x pool h (leaf a l) q =
        pick_both (λ (t : List ℕ). length t ≡ n) (dirty l.value && whole_in k.from k.count (pages_in k.page l.left) x) (put k.ee pool (a - k.base) (set_ap2 l.value)) pool
        (length_put k.ee pool (a - k.base) (set_ap2 l.value) (rw h (inside x a l q)) ∙ h) h

    pages_length : (x count : ℕ) (pool : List ℕ) → length pool ≡ n → length (pages (cleaned_by k ends) x count pool) ≡ n
    unfolding pages cleaned_by
    pages_length x zero pool h = h
    pages_length x (suc count) pool h = pages_length (suc x) count (set_again k x pool (ends x)) (again_length x pool h (ends x) refl)

-- ---- the pool

-- a leaf that a page reaches lies wholly in the pool
reached_inside : (r : Regime) (pool : List ℕ) → Sized r → (x a : ℕ) (l : Leaf) → reached r pool x ≡ leaf a l → (a - r.pool.address.0) + 8 ≤ length pool
unfolding reached
reached_inside r pool z x a l q =
    let base = r.pool.address.0 in
    let b : Backed r.ee pool base (leaf a l) = subst (Backed r.ee pool base) q (locate_backed r r.ee pool base (x * page_size (page_bits_of r)) z) in
    let i = in_pool r.ee pool base a l.value b.2 in
    omega (arith, i.least, i.most)

pub pool_length : (r : Regime) (first count : ℕ) (pool : List ℕ) → Sized r → length (clean_pool r first count pool) ≡ length pool
unfolding clean_pool
pool_length r first count pool z = pages_length (asked_of r first count) (reached r pool) (length pool) (reached_inside r pool z) first count pool refl

pub pool_bytes_lem : (r : Regime) (first count : ℕ) (pool : List ℕ) → Bytes pool → Bytes (clean_pool r first count pool)
unfolding clean_pool
pool_bytes_lem r first count pool h = pages_bytes (asked_of r first count) (reached r pool) first count pool h

-- ---- the memory

-- a harvest that is accepted: its regime is, and the cleaned pool is as long as the pool
record Allowed (r : Regime) (first count : ℕ) (m : List ℕ) : Type 0 where
  fits : r.pool.start + r.pool.length ≤ length m
  long : length (clean_pool r first count (pool_bytes r.pool m)) ≡ r.pool.length

allowed : (r : Regime) (first count : ℕ) (m map : List ℕ) → harvest_check (length m) r first count (length map) ≡ Ok tt → Allowed r first count m
allowed r first count m map e =
    let s = settled (length m) r (harvest_accepted (length m) r first count (length map) e).0 in
    record {
      fits = s.pool.fits;
      long = pool_length r first count (pool_bytes r.pool m) s.sized ∙ length_part m r.pool.start r.pool.length s.pool.fits;
    }

module _ (r : Regime) (first count : ℕ) (m map : List ℕ) where
  abbrev cleaned : List ℕ
  cleaned = clean_pool r first count (pool_bytes r.pool m)

  -- what is refused is left as it was
  pub harvest_refused : (x : Refusal) → (harvest r first count m map).reply ≡ Err x → harvest r first count m map ≡ harvested (Err x) m map
  unfolding harvest
  harvest_refused x q = by (harvest_check (length m) r first count (length map)) q
    where
      by : (y : Checked) → (harvest_by r first count m map y).reply ≡ Err x → harvest_by r first count m map y ≡ harvested (Err x) m map
      by (Ok _) q = clash (cc)
      by (Err y) q = ap (λ (z : Checked). harvested z m map) q

  pub harvest_kept : (x : Refusal) → (harvest r first count m map).reply ≡ Err x → (harvest r first count m map).memory ≡ m
  harvest_kept x q = ap (λ (h : Harvested Checked). h.memory) (harvest_refused x q)

  pub map_kept : (x : Refusal) → (harvest r first count m map).reply ≡ Err x → (harvest r first count m map).map ≡ map
  map_kept x q = ap (λ (h : Harvested Checked). h.map) (harvest_refused x q)

  pub harvest_length : length (harvest r first count m map).memory ≡ length m
  unfolding harvest
  harvest_length = by (harvest_check (length m) r first count (length map)) refl
    where
      by : (y : Checked) → harvest_check (length m) r first count (length map) ≡ y → length (harvest_by r first count m map y).memory ≡ length m
      by (Err y) e = refl
      by (Ok _) e = let a = allowed r first count m map e in length_with m cleaned r.pool.start r.pool.length a.fits a.long

  pub harvest_bytes : Bytes m → Bytes (harvest r first count m map).memory
  unfolding harvest
  harvest_bytes h = by (harvest_check (length m) r first count (length map))
    where
      by : (y : Checked) → Bytes (harvest_by r first count m map y).memory
      by (Err y) = h
      by (Ok _) =
          bytes_append (take r.pool.start m ++ cleaned) (drop (r.pool.start + r.pool.length) m)
          (bytes_append (take r.pool.start m) cleaned (bytes_take m r.pool.start h)
          (pool_bytes_lem r first count (pool_bytes r.pool m) (bytes_take (drop r.pool.start m) r.pool.length (bytes_drop m r.pool.start h))))
          (bytes_drop m (r.pool.start + r.pool.length) h)

  -- no byte outside the pool changes
  pub outside : (i : ℕ) → (i < r.pool.start) ⊎ (r.pool.start + r.pool.length ≤ i) → get_or (harvest r first count m map).memory i 0 ≡ get_or m i 0
  unfolding harvest
  outside i o = by (harvest_check (length m) r first count (length map)) refl
    where
      beside : Allowed r first count m → (i < r.pool.start) ⊎ (r.pool.start + r.pool.length ≤ i) → get_or (with_pool_bytes r.pool m cleaned) i 0 ≡ get_or m i 0
      beside a (inl h) = get_d_with_before m cleaned r.pool.start r.pool.length a.fits a.long i h
      beside a (inr h) = get_d_with_after m cleaned r.pool.start r.pool.length a.fits a.long i h

      by : (y : Checked) → harvest_check (length m) r first count (length map) ≡ y → get_or (harvest_by r first count m map y).memory i 0 ≡ get_or m i 0
      by (Err y) e = refl
      by (Ok _) e = beside (allowed r first count m map e) o

-- ---- two memories

-- memories of one length with one pool: the same reply, the same map, and one pool afterwards
pub record Heard (r : Regime) (x y : Harvested Checked) : Type 0 where
  pub reply : x.reply ≡ y.reply
  pub map : x.map ≡ y.map
  pub pool : pool_bytes r.pool x.memory ≡ pool_bytes r.pool y.memory

-- the pool after an accepted harvest
pool_after : (r : Regime) (first count : ℕ) (m : List ℕ) → Allowed r first count m
    → pool_bytes r.pool (with_pool_bytes r.pool m (clean_pool r first count (pool_bytes r.pool m))) ≡ clean_pool r first count (pool_bytes r.pool m)
pool_after r first count m a = part_with m (clean_pool r first count (pool_bytes r.pool m)) r.pool.start r.pool.length a.fits a.long

pub unheard : (r : Regime) (first count : ℕ) (m n map : List ℕ) → length m ≡ length n → pool_bytes r.pool m ≡ pool_bytes r.pool n
    → Heard r (harvest r first count m map) (harvest r first count n map)
unfolding harvest
unheard r first count m n map long same =
    subst (λ (k : ℕ). Heard r (harvest_by r first count m map (harvest_check (length m) r first count (length map))) (harvest_by r first count n map (harvest_check k r first count (length map)))) long
    (by (harvest_check (length m) r first count (length map)) refl)
  where
    by : (y : Checked) → harvest_check (length m) r first count (length map) ≡ y → Heard r (harvest_by r first count m map y) (harvest_by r first count n map y)
    by (Err y) e = record { reply = refl; map = refl; pool = same }
    by (Ok _) e =
        let f = subst (λ (k : ℕ). harvest_check k r first count (length map) ≡ Ok tt) long e in
        record {
          reply = refl;
          map = ap (λ (pool : List ℕ). mapped (reports r pool first) count map) same;
          pool =
              pool_after r first count m (allowed r first count m map e) ∙ ap (clean_pool r first count) same
              ∙ sym (pool_after r first count n (allowed r first count n map f));
        }
