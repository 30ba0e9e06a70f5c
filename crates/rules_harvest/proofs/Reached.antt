-- The leaves that pages reach, in a pool and in the same pool cleaned: each stands in its pool, and every page reaches its leaf once more, set again or as it was.
use Prim.Native.Nat.{ℕ, ◌+◌, ◌*◌, ◌-◌, ◌%◌, ◌^◌, ◌≤◌}
use mathlib.Core.Bool.{Bool, true, false, ◌&&◌}
use mathlib.Core.List.{List}
use mathlib.Core.Path.{◌≡◌, refl, ap, ◌∙◌}
use native.Mathlib.Omega.{arith}
use lib.Dec.{leb, lit<}
use lib.ListN.{length}
use borrow.Author.Tests.{leb-true}
use Rattle.descriptor.specs.Bits.{pick}
use Rattle.descriptor.specs.Bytes.{desc}
use Rattle.descriptor.proofs.BitLaws.{set_above}
use Rattle.descriptor.proofs.Tests.{and_true}
use Rattle.vmsa.specs.Fields.{table_bits}
use Rattle.vmsa.specs.Granules.{page_bits_of}
use Rattle.geometry.specs.Geometry.{page_size}
use Rattle.vmsa.specs.declared.Regime.{Regime}
use Rattle.vmsa.specs.declared.Leaf.{Leaf}
use Rattle.checks.proofs.Accept.{Settled}
use Rattle.std.specs.Prelude.{Some, None}
use Rattle.lookup.specs.Trace.{End, fault, leaf}
use Rattle.lookup.specs.Steps.{fetched, pool_reader, context_of}
use Rattle.lookup.proofs.Reach.{context_paged}
use Rattle.lookup.proofs.Readers.{AlikeWords, unreachable, values, AlikeEnds, locate_alike}
use Rattle.walk.specs.Walk.{traced}
use Rattle.walk.proofs.Ends.{found, multiple8, root_aligned}
use Rattle.clean.specs.Clean.{Again, Cleaned}
use Rattle.clean.proofs.Laws.{Stands, again_split, again_decoded}
use Rattle.harvest.specs.Harvest.{reached, asked_of}

-- ---- one pool

-- a leaf at address a with value v, as it stands in the pool
pub record Standing (r : Regime) (pool : List ℕ) (a v : ℕ) : Type 0 where
  pub least : r.pool.address.0 ≤ a
  pub aligned : (a - r.pool.address.0) % 8 ≡ 0
  pub fits : a - r.pool.address.0 + 8 ≤ length pool
  pub same : desc r.ee pool (a - r.pool.address.0) ≡ v

module _ (n : ℕ) (r : Regime) (s : Settled n r) where
  pub base_aligned : r.pool.address.0 % 8 ≡ 0
  base_aligned = multiple8 r r.pool.address.0 s.address.aligned

  pub leaf_stands : (pool : List ℕ) (page a : ℕ) (l : Leaf) → reached r pool page ≡ leaf a l → Standing r pool a l.value
  unfolding reached traced
  leaf_stands pool page a l e =
      let b = base_aligned in
      let address = page * page_size (page_bits_of r) in
      let f = found r pool address a l s.sized (root_aligned r address s.root0 s.root1) e in
      record {
        least = f.inside.least;
        aligned = omega (arith, f.reached.aligned, f.inside.least);
        fits = omega (arith, f.inside.least, f.inside.most);
        same = f.inside.same;
      }

  pub all_stand : (first count : ℕ) (pool : List ℕ) (page : ℕ) → Stands (asked_of r first count) pool (reached r pool page)
  all_stand first count pool page = by (reached r pool page) refl
    where
      by : (e : End) → reached r pool page ≡ e → Stands (asked_of r first count) pool e
      by (fault kind level) q = tt
      by (leaf a l) q = let f = leaf_stands pool page a l q in (f.aligned, f.fits, f.same)

-- ---- the same pool, cleaned

again_tables : (v w : ℕ) → Again v w → table_bits w ≡ table_bits v
unfolding table_bits
again_tables v w k = again_split v w k (ap table_bits) (λ _ e. ap table_bits e ∙ ap (λ (x : ℕ). x % 2 ^ 4) (set_above 7 v 59 (lit< tt)))

opened : (ee : Bool) (p q : List ℕ) (base a : ℕ) → length q ≡ length p → fetched ee q base a ≡ pick (leb base a && leb (a + 8) (base + length p)) (Some (desc ee q (a - base))) None
unfolding fetched
opened ee p q base a e = rw e

words : (ee : Bool) (p q : List ℕ) (base : ℕ) → base % 8 ≡ 0 → Cleaned ee p q → (a : ℕ) → a % 8 ≡ 0 → AlikeWords Again (fetched ee p base a) (fetched ee q base a)
words ee p q base b8 c a a8 = rw (opened ee p p base a refl, opened ee p q base a c.long) (by (leb base a && leb (a + 8) (base + length p)) refl)
  where
    by : (b : Bool) → (leb base a && leb (a + 8) (base + length p)) ≡ b
        → AlikeWords Again (pick b (Some (desc ee p (a - base))) None) (pick b (Some (desc ee q (a - base))) None)
    by false e = unreachable
    by true e =
        let t = and_true (leb base a) (leb (a + 8) (base + length p)) e in
        let l = leb-true base a t.0 in
        let h = leb-true (a + 8) (base + length p) t.1 in
        values (c.each (a - base) (omega arith) (omega arith))

pub reached_alike : (n : ℕ) (r : Regime) → Settled n r → (p q : List ℕ) → Cleaned r.ee p q → (page : ℕ) → AlikeEnds Again (reached r p page) (reached r q page)
unfolding reached
reached_alike n r s p q c page =
    let a = page * page_size (page_bits_of r) in
    (locate_alike Again r a (λ left v w k. again_decoded (context_of r a).page (context_of r a).limit.0 left v w (context_paged r a) k) again_tables (pool_reader r p) (pool_reader r q)
    (words r.ee p q r.pool.address.0 (base_aligned n r s) c) (root_aligned r a s.root0 s.root1)).ends
