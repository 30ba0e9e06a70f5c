-- The session's walk past the checks is the plain walk over the pool.
use Prim.Native.Nat.{ℕ, ◌+◌, ◌-◌, ◌*◌, ◌/◌, ◌%◌, ◌≤◌, ◌^◌}
use mathlib.Core.Bool.{Bool, true, false, ◌||◌}
use mathlib.Core.List.{List}
use Rattle.std.specs.Prelude.{None, Some}
use mathlib.Core.Path.{◌≡◌, refl, sym, ap}
use native.Mathlib.Nat.{mul-div_cancel}
use native.Mathlib.Omega.{arith}
use lib.ListN.{length}
use lib.Pow.{pow_pos}
use borrow.Author.Tests.{not-true}
use Rattle.descriptor.specs.Bytes.{put}
use Rattle.descriptor.specs.Bits.{pick}
use Rattle.descriptor.proofs.Laws.{length_bytes}
use Rattle.descriptor.proofs.Tests.{or_false}
use Rattle.vmsa.specs.Limits.{Sized}
use Rattle.vmsa.specs.Granules.{page_bits_of}
use Rattle.geometry.specs.Geometry.{page_size, page_of}
use Rattle.vmsa.specs.Answers.{cacheable_in}
use Rattle.vmsa.specs.declared.Regime.{Regime}
use Rattle.vmsa.specs.declared.Access.{Access}
use Rattle.refusals.specs.Tests.{sizes_bad, root_bad, roots_bad}
use Rattle.checks.proofs.Accept.{sized, Rooted, rooted}
use Rattle.lookup.specs.Trace.{End, fault, leaf, Trace}
use Rattle.lookup.specs.Steps.{range_of}
use Rattle.lookup.proofs.Page.{locate_page}
use Rattle.walk.specs.Walk.{pool_bytes, with_pool_bytes, concluded, traced, walk_pool, revalued, kept_at, kept_pool}
use Rattle.walk.proofs.Parts.{with_own, with_put, length_part}
use Rattle.walk.proofs.Ends.{root_aligned, found}
use Rattle.tlb.specs.Replies.{answered, reply_of, updates}
use Rattle.tlb.specs.Walker.{Walked, put_word, walk_from, walked}
use Rattle.tlb.specs.Ours.{usable, offset_of, spot_at, located, judged, stamped, ours}
use Rattle.tlb.proofs.Deciding.{reply_decision, update_decision, value_decision, cache_decision}

-- ---- a usable regime

pub usable_sized : (r : Regime) → usable r ≡ true → Sized r
usable_sized r e = sized r (or_false (sizes_bad r) (roots_bad r) (not-true (sizes_bad r || roots_bad r) e)).0

rooted_by : (r : Regime) → roots_bad r ≡ false → Rooted (page_bits_of r) r.range0.root.0 × Rooted (page_bits_of r) r.range1.root.0
unfolding roots_bad
rooted_by r e =
    let s = or_false (root_bad (page_bits_of r) r.range0.root.0) (root_bad (page_bits_of r) r.range1.root.0) e in
    (rooted (page_bits_of r) r.range0.root.0 s.0, rooted (page_bits_of r) r.range1.root.0 s.1)

pub usable_root : (r : Regime) (address : ℕ) → usable r ≡ true → (range_of r address).root.0 % 8 ≡ 0
usable_root r address e =
    let h = rooted_by r (or_false (sizes_bad r) (roots_bad r) (not-true (sizes_bad r || roots_bad r) e)).1 in
    root_aligned r address h.0 h.1

-- ---- the page's first address stands for every address of the page

page_start : (p address : ℕ) → page_of p (page_of p address * page_size p) ≡ page_of p address
unfolding page_of page_size
page_start p address = mul-div_cancel (address / 2 ^ p) (pow_pos p)

pub traced_page : (r : Regime) (pool : List ℕ) (address : ℕ) → Sized r → traced r pool (page_of (page_bits_of r) address * page_size (page_bits_of r)) ≡ traced r pool address
unfolding traced
traced_page r pool address z = locate_page r _ (page_of (page_bits_of r) address * page_size (page_bits_of r)) address z (page_start (page_bits_of r) address)

-- ---- a descriptor put into the memory

pub put_is : (r : Regime) (m : List ℕ) (at v : ℕ) → put_word ours r m at v ≡ put r.ee m at v
unfolding put_word put
put_is r m at v = rw (length_bytes r.ee v)

-- ---- the walk over the memory

-- the plain walk over the pool, in the session's values
abbrev pub walked_pool : Regime → List ℕ → Access → Walked
walked_pool r m a = record {
  reply = reply_of (walk_pool r a (pool_bytes r.pool m)).result;
  memory = with_pool_bytes r.pool m (walk_pool r a (pool_bytes r.pool m)).bytes;
  kept = kept_pool r a (pool_bytes r.pool m);
}

module _ (r : Regime) (m : List ℕ) (a : Access) (z : Sized r) (e : (range_of r a.address.0).root.0 % 8 ≡ 0)
    (h : r.pool.start + r.pool.length ≤ length m) where
  pool : List ℕ
  pool = pool_bytes r.pool m

  trace : Trace
  trace = traced r pool a.address.0

  memory_by : (at : ℕ) (v : ℕ) (b : Bool) → (at - r.pool.address.0) + 8 ≤ r.pool.length
      → pick b (put_word ours r m (offset_of r at) v) m ≡ with_pool_bytes r.pool m (pick b (put r.ee pool (at - r.pool.address.0) v) pool)
  unfolding pool
  memory_by at v b k = rw (put_is r m (offset_of r at) v) (sym (with_put r.ee m r.pool.start r.pool.length (at - r.pool.address.0) v b h k))

  by_end : (n : ℕ) (x : End) → trace.end ≡ x
      → walk_from ours r m a (spot_at r n x)
      ≡ record { reply = reply_of (concluded r a pool n x).result; memory = with_pool_bytes r.pool m (concluded r a pool n x).bytes; kept = kept_at r a n x }
  unfolding trace pool
  by_end n (fault kind level) q = rw (with_own m r.pool.start r.pool.length)
  by_end n (leaf at l) q =
      let f = found r (pool_bytes r.pool m) a.address.0 at l z e q in
      let k : (at - r.pool.address.0) + 8 ≤ r.pool.length = (let p = length_part m r.pool.start r.pool.length h in omega (arith, f.inside.least, f.inside.most)) in
      rw (update_decision r a l n, value_decision r a l n, reply_decision r a l n, cache_decision r a l n)
      (ap (λ (x : List ℕ). record { reply = answered (judged r l a) n; memory = x; kept = pick (cacheable_in (judged r l a)) (Some (revalued l (stamped (judged r l a) l.value))) None })
      (memory_by at (stamped (judged r l a) l.value) (updates (judged r l a)) k))

  pub walked_pool_lem : usable r ≡ true → walked ours r m a ≡ walked_pool r m a
  unfolding located walk_pool kept_pool trace pool
  walked_pool_lem u = rw (u, traced_page r (pool_bytes r.pool m) a.address.0 z) (by_end (length trace.visited) trace.end refl)
