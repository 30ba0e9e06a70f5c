-- From what the lookup hands back to the end of its trace, and a pool that is put back into its memory.
use Prim.Native.Nat.{ℕ, ◌+◌, ◌-◌, ◌%◌, ◌<◌, ◌≤◌}
use mathlib.Core.Bool.{Bool, true, false}
use lib.Dec.{eqb}
use mathlib.Core.List.{List, ◌++◌}
use mathlib.Core.Path.{◌≡◌, sym, ap, subst, ◌∙◌}
use native.Mathlib.Nat.{zero-add}
use lib.ListN.{length, take, drop}
use borrow.Author.Tests.{eqb-true, not-false}
use Rattle.std.specs.Prelude.{None, Some, Ok, Err}
use Rattle.descriptor.proofs.Tests.{clash}
use Rattle.descriptor.specs.Bytes.{put}
use Rattle.descriptor.specs.Bits.{pick}
use Rattle.vmsa.specs.Limits.{Sized}
use Rattle.vmsa.specs.Granules.{page_bits_of}
use Rattle.geometry.specs.Geometry.{page_size, unaligned}
use Rattle.geometry.proofs.Geometry.{paged}
use Rattle.vmsa.specs.declared.Regime.{Regime}
use Rattle.vmsa.specs.declared.Access.{Access}
use Rattle.vmsa.specs.declared.Leaf.{Leaf}
use Rattle.vmsa.specs.Answers.{view, cacheable_in}
use Rattle.vmsa.specs.declared.Answer.{Answer}
use Rattle.vmsa.specs.declared.Answer.TheVariants as answer
use Rattle.checks.specs.Order.{walk_check}
use Rattle.checks.proofs.Accept.{Rooted, walk_accepted}
use Rattle.lookup.specs.declared.LeafAt.{LeafAt}
use Rattle.lookup.specs.declared.FaultAt.{FaultAt}
use Rattle.lookup.specs.declared.Located.{Located}
use Rattle.lookup.specs.Trace.{End, fault, leaf, Trace, shown_end, shown}
use Rattle.lookup.specs.Steps.{pool_reader, context_of, upper, range_of}
use Rattle.lookup.proofs.Decoding.{aligned8}
use Rattle.lookup.proofs.Reach.{Good, Reached, locate_good, InPool, in_pool}
use Rattle.decision.specs.declared.Verdict.{Verdict}
use Rattle.decision.specs.Decision.{decision, seen}
use Rattle.walk.proofs.Parts.{put_back}
use Rattle.walk.specs.Walk.{Outcome, traced, outcome, applied, walk_pool, revalued, kept_of, kept_pool, walk}

-- ---- the end of a trace, from the lookup that shows it

leaf_by : (e : End) (l : LeafAt) → shown_end e ≡ Ok l → e ≡ leaf l.address.0 l.leaf
leaf_by (fault kind level) l h = clash (cc)
leaf_by (leaf a x) l h =
    let z : ◌≡◌ {A = LeafAt} (record { address = record { 0 = a }; leaf = x }) l = cc in
    ap (λ (y : LeafAt). leaf y.address.0 y.leaf) z

fault_by : (e : End) (f : FaultAt) → shown_end e ≡ Err f → e ≡ fault f.kind f.level
fault_by (fault kind level) f h =
    let z : ◌≡◌ {A = FaultAt} (record { kind = kind; level = level }) f = cc in
    ap (λ (y : FaultAt). fault y.kind y.level) z
fault_by (leaf a x) f h = clash (cc)

module _ (t : Trace) (l : Located) (q : l ≡ shown 0 t) where
  end_shown : shown_end t.end ≡ l.end
  unfolding shown
  end_shown = sym (ap (λ (x : Located). x.end) q)

  pub reads_shown : length t.visited ≡ l.reads
  unfolding shown
  reads_shown = sym (zero-add (length t.visited)) ∙ sym (ap (λ (x : Located). x.reads) q)

  pub at_leaf : (f : LeafAt) → l.end ≡ Ok f → t.end ≡ leaf f.address.0 f.leaf
  at_leaf f h = leaf_by t.end f (end_shown ∙ h)

  pub at_fault : (f : FaultAt) → l.end ≡ Err f → t.end ≡ fault f.kind f.level
  at_fault f h = fault_by t.end f (end_shown ∙ h)

-- a leaf that the walk reached: it lies in the pool
pub record Found (r : Regime) (pool : List ℕ) (address a : ℕ) (l : Leaf) : Type 0 where
  pub reached : Reached (context_of r address) (pool_reader r pool) a l
  pub inside : InPool r.ee pool r.pool.address.0 a l.value

pub found : (r : Regime) (pool : List ℕ) (address a : ℕ) (l : Leaf) → Sized r → (range_of r address).root.0 % 8 ≡ 0 → (traced r pool address).end ≡ leaf a l → Found r pool address a l
unfolding traced
found r pool address a l z e q =
    let read = pool_reader r pool in
    let g : Reached (context_of r address) read a l = subst (λ (x : End). Good (context_of r address) read x) q (locate_good r read address z e) in
    record { reached = g; inside = in_pool r.ee pool r.pool.address.0 a l.value g.value }

-- ---- the answer over the pool, from what the code computed

module _ (r : Regime) (a : Access) (pool : List ℕ) (l : Located) (q : l ≡ shown 0 (traced r pool a.address.0)) where
  reads_are : length (traced r pool a.address.0).visited ≡ l.reads
  reads_are = reads_shown (traced r pool a.address.0) l q

  module _ (f : FaultAt) (h : l.end ≡ Err f) where
    fault_is : (traced r pool a.address.0).end ≡ fault f.kind f.level
    fault_is = at_fault (traced r pool a.address.0) l q f h

    pub fault_outcome_lem : outcome (answer.Fault (record { kind = f.kind; level = f.level; cacheable = false; reads = l.reads })) pool ≡ walk_pool r a pool
    unfolding walk_pool
    fault_outcome_lem = rw (reads_are, fault_is)

    pub fault_kept : None ≡ kept_pool r a pool
    unfolding kept_pool
    fault_kept = rw fault_is

  module _ (f : LeafAt) (h : l.end ≡ Ok f) where
    leaf_is : (traced r pool a.address.0).end ≡ leaf f.address.0 f.leaf
    leaf_is = at_leaf (traced r pool a.address.0) l q f h

    opened : walk_pool r a pool ≡ applied r.ee pool (f.address.0 - r.pool.address.0) (decision r a f.leaf l.reads)
    unfolding walk_pool
    opened = rw (reads_are, leaf_is)

    pub kept_outcome : (v : Verdict) → seen v ≡ decision r a f.leaf l.reads → v.update ≡ false → outcome v.answer pool ≡ walk_pool r a pool
    kept_outcome v e u = sym (opened ∙ rw (← e, u))

    pub stored_outcome : (v : Verdict) → seen v ≡ decision r a f.leaf l.reads → v.update ≡ true
        → (after : List ℕ) → after ≡ put r.ee pool (f.address.0 - r.pool.address.0) v.value → outcome v.answer after ≡ walk_pool r a pool
    stored_outcome v e u after s = sym (opened ∙ rw (← e, u, s))

    pub leaf_kept : (v : Verdict) → seen v ≡ decision r a f.leaf l.reads → pick (cacheable_in (view v.answer)) (Some (revalued f.leaf v.value)) None ≡ kept_pool r a pool
    unfolding kept_pool
    leaf_kept v e =
        let d : kept_of f.leaf (seen v) ≡ kept_of f.leaf (decision r a f.leaf l.reads) = ap (kept_of f.leaf) e in
        rw (reads_are, leaf_is) d

    pub leaf_found : Sized r → (range_of r a.address.0).root.0 % 8 ≡ 0 → Found r pool a.address.0 f.address.0 f.leaf
    leaf_found z e = found r pool a.address.0 f.address.0 f.leaf z e leaf_is

-- ---- what acceptance gives the walk over the pool

aligned_zero : (p x : ℕ) → unaligned p x ≡ false → x % page_size p ≡ 0
unfolding unaligned
aligned_zero p x e = eqb-true (x % page_size p) 0 (not-false (eqb (x % page_size p) 0) e)

-- a multiple of the regime's granule is a multiple of 8
pub multiple8 : (r : Regime) (x : ℕ) → unaligned (page_bits_of r) x ≡ false → x % 8 ≡ 0
multiple8 r x e = aligned8 (page_bits_of r) x (paged r.granule) (aligned_zero (page_bits_of r) x e)

pub root_aligned : (r : Regime) (address : ℕ) → Rooted (page_bits_of r) r.range0.root.0 → Rooted (page_bits_of r) r.range1.root.0 → (range_of r address).root.0 % 8 ≡ 0
unfolding range_of
root_aligned r address h k = by (upper address)
  where
    by : (b : Bool) → (pick b r.range1 r.range0).root.0 % 8 ≡ 0
    by true = multiple8 r r.range1.root.0 k.aligned
    by false = multiple8 r r.range0.root.0 h.aligned

pub record Ready (n : ℕ) (r : Regime) (a : Access) : Type 0 where
  pub fits : r.pool.start + r.pool.length ≤ n
  pub sized : Sized r
  pub root : (range_of r a.address.0).root.0 % 8 ≡ 0
  pub size : 0 < a.size

pub ready : (n : ℕ) (r : Regime) (a : Access) → walk_check n r a ≡ Ok tt → Ready n r a
ready n r a e =
    let h = walk_accepted n r a e in
    record {
      fits = h.0.pool.fits;
      sized = h.0.sized;
      root = root_aligned r a.address.0 h.0.root0 h.0.root1;
      size = h.1.positive;
    }

-- the walk over the memory, from the walk over the part of k bytes that is the pool
pub memory_outcome : (r : Regime) (a : Access) (m : List ℕ) → walk_check (length m) r a ≡ Ok tt → (v : Answer) (x : List ℕ) (k : ℕ) → k ≡ r.pool.length
    → outcome v x ≡ walk_pool r a (take k (drop r.pool.start m))
    → outcome v (take r.pool.start m ++ (x ++ drop k (drop r.pool.start m))) ≡ walk r a m
unfolding walk
memory_outcome r a m z v x k q e =
    let s = r.pool.start in
    let w = walk_pool r a (take r.pool.length (drop s m)) in
    let f : outcome v x ≡ w = rw q at e in
    let g : view v ≡ w.result = ap (λ (o : Outcome). o.result) f in
    let h : x ≡ w.bytes = ap (λ (o : Outcome). o.bytes) f in
    rw (z, q, put_back m x s r.pool.length, g, h)
