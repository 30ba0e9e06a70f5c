-- What an accepted harvest leaves, and on what it can rely; and what a refused one was refused by.
use Prim.Native.Nat.{ℕ, ◌+◌, ◌<◌, ◌≤◌}
use mathlib.Core.Bool.{Bool}
use mathlib.Core.List.{List}
use mathlib.Core.Path.{◌≡◌, refl, sym, ap, ◌∙◌}
use lib.ListN.{length, get_or, drop, get_or-append}
use Rattle.descriptor.specs.Bytes.{Bytes}
use Rattle.descriptor.proofs.Numbers.{bytes_take, bytes_drop}
use Rattle.vmsa.specs.declared.Regime.{Regime}
use Rattle.checks.specs.Order.{Checked}
use Rattle.std.specs.Prelude.{Ok, Err}
use Rattle.checks.specs.Order.{harvest_check}
use Rattle.checks.proofs.Accept.{Settled, settled, harvest_accepted, asked_accepted}
use Rattle.walk.specs.Walk.{pool_bytes, with_pool_bytes}
use Rattle.walk.proofs.Parts.{length_part, length_with, part_with}
use Rattle.bitmap.specs.Map.{bytes_for, bytes_from, below, mapped}
use Rattle.bitmap.proofs.Laws.{length_from}
use Rattle.harvest.specs.Harvest.{reports, clean_pool, harvest_by, harvest}
use Rattle.harvest.proofs.Laws.{pool_length}

-- ---- the reply is the check's

pub reply_check : (r : Regime) (first count : ℕ) (m map : List ℕ) → (harvest r first count m map).reply ≡ harvest_check (length m) r first count (length map)
unfolding harvest
reply_check r first count m map = by (harvest_check (length m) r first count (length map))
  where
    by : (c : Checked) → (harvest_by r first count m map c).reply ≡ c
    by (Ok _) = refl
    by (Err x) = refl

-- ---- an accepted harvest

pub record Taken (r : Regime) (first count : ℕ) (m map : List ℕ) : Type 0 where
  pub settled : Settled (length m) r
  pub some : 0 < count
  pub room : bytes_for count ≤ length map
  pub memory : (harvest r first count m map).memory ≡ with_pool_bytes r.pool m (clean_pool r first count (pool_bytes r.pool m))
  pub map_is : (harvest r first count m map).map ≡ mapped (reports r (pool_bytes r.pool m) first) count map

pub taken : (r : Regime) (first count : ℕ) (m map : List ℕ) → (harvest r first count m map).reply ≡ Ok tt → Taken r first count m map
unfolding harvest
taken r first count m map e =
    let c : harvest_check (length m) r first count (length map) ≡ Ok tt = sym (reply_check r first count m map) ∙ e in
    let h = harvest_accepted (length m) r first count (length map) c in
    record {
      settled = settled (length m) r h.0;
      some = (asked_accepted r first count (length map) h.1).0.some;
      room = (asked_accepted r first count (length map) h.1).1;
      memory = ap (λ (x : Checked). (harvest_by r first count m map x).memory) c;
      map_is = ap (λ (x : Checked). (harvest_by r first count m map x).map) c;
    }

-- ---- its pool

module _ (r : Regime) (first count : ℕ) (m map : List ℕ) (t : Taken r first count m map) where
  abbrev pool : List ℕ
  pool = pool_bytes r.pool m

  pub pool_long : length (pool_bytes r.pool m) ≡ r.pool.length
  pool_long = length_part m r.pool.start r.pool.length t.settled.pool.fits

  cleaned_long : length (clean_pool r first count pool) ≡ r.pool.length
  cleaned_long = pool_length r first count pool t.settled.sized ∙ pool_long

  pub pool_small : Bytes m → Bytes (pool_bytes r.pool m)
  pool_small b = bytes_take (drop r.pool.start m) r.pool.length (bytes_drop m r.pool.start b)

  -- the pool of the memory that is left, in which the pool fits as it did
  pub pool_after : pool_bytes r.pool (harvest r first count m map).memory ≡ clean_pool r first count (pool_bytes r.pool m)
  pool_after =
      ap (pool_bytes r.pool) t.memory ∙ part_with m (clean_pool r first count pool) r.pool.start r.pool.length t.settled.pool.fits cleaned_long

  pub fits_after : r.pool.start + r.pool.length ≤ length (harvest r first count m map).memory
  fits_after =
      let e : length (harvest r first count m map).memory ≡ length m =
      ap length t.memory ∙ length_with m (clean_pool r first count pool) r.pool.start r.pool.length t.settled.pool.fits cleaned_long in
      rw e t.settled.pool.fits

-- ---- the bytes of a map that are filled

-- whatever the map was
pub filled_same : (f : ℕ → Bool) (n : ℕ) (map other : List ℕ) (j : ℕ) → j < bytes_for n → get_or (mapped f n map) j 0 ≡ get_or (mapped f n other) j 0
unfolding mapped
filled_same f n map other j h =
    let l = bytes_from (below n f) 0 (bytes_for n) in
    let k : j < length l = rw (length_from (below n f) 0 (bytes_for n)) h in
    get_or-append l (drop (bytes_for n) map) 0 j k ∙ sym (get_or-append l (drop (bytes_for n) other) 0 j k)
