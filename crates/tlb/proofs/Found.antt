-- Where a lookup of a page finds its leaf.
use Prim.Native.Nat.{ℕ, ◌*◌, ◌≤◌}
use mathlib.Core.Bool.{Bool, true, false}
use mathlib.Core.List.{List}
use mathlib.Core.Path.{◌≡◌, refl, ap, subst}
use lib.Dec.{lit≤}
use lib.ListN.{length}
use Rattle.descriptor.specs.Bits.{pick}
use Rattle.descriptor.proofs.Tests.{clash}
use Rattle.vmsa.specs.Granules.{page_bits_of}
use Rattle.vmsa.specs.Answers.{code_of}
use Rattle.vmsa.specs.declared.Regime.{Regime}
use Rattle.vmsa.specs.declared.Leaf.{Leaf}
use Rattle.vmsa.specs.declared.FaultKind.{FaultKind}
use Rattle.vmsa.specs.declared.FaultKind.TheVariants.{Translation}
use Rattle.geometry.specs.Geometry.{page_size}
use Rattle.lookup.specs.Trace.{End, fault, leaf}
use Rattle.walk.specs.Walk.{pool_bytes, traced}
use Rattle.walk.proofs.Ends.{Found, found}
use Rattle.walk.proofs.Settled.{low_fault}
use Rattle.tlb.specs.Walker.{lost, found as found_at}
use Rattle.tlb.specs.Ours.{usable, offset_of, spot_at, spot_of, located}
use Rattle.tlb.proofs.Walking.{usable_sized, usable_root}

-- the descriptor's physical address, and the trace that ends there
pub record Where (r : Regime) (m : List ℕ) (p at : ℕ) (u : Leaf) (n : ℕ) : Type 0 where
  pub regime : usable r ≡ true
  pub address : ℕ
  pub end : (traced r (pool_bytes r.pool m) (p * page_size (page_bits_of r))).end ≡ leaf address u
  pub offset : offset_of r address ≡ at
  pub count : length (traced r (pool_bytes r.pool m) (p * page_size (page_bits_of r))).visited ≡ n

spot_found : (r : Regime) (k : ℕ) (e : End) (at : ℕ) (u : Leaf) (n : ℕ) → spot_at r k e ≡ found_at at u n
    → (address : ℕ) × (e ≡ leaf address u) × (offset_of r address ≡ at) × (k ≡ n)
spot_found r k (fault kind level) at u n q = clash (cc)
spot_found r k (leaf a l) at u n q =
    let e : l ≡ u = cc in
    (a, ap (leaf a) e, cc, cc)

pub where_found : (r : Regime) (m : List ℕ) (p : ℕ) {at : ℕ} {u : Leaf} {n : ℕ} → located r m p ≡ found_at at u n → Where r m p at u n
unfolding located
where_found r m p {at} {u} {n} q = by (usable r) refl q
  where
    by : (b : Bool) → usable r ≡ b → pick b (spot_of r (traced r (pool_bytes r.pool m) (p * page_size (page_bits_of r)))) (lost (code_of Translation 0) 0 0) ≡ found_at at u n → Where r m p at u n
    by true e q =
        let t = traced r (pool_bytes r.pool m) (p * page_size (page_bits_of r)) in
        let s = spot_found r (length t.visited) t.end at u n q in
        record { regime = e; address = s.0; end = s.1; offset = s.2; count = s.3 }
    by false e q = clash (cc)

-- the leaf lies in the pool
pub in_the_pool : (r : Regime) (m : List ℕ) (p : ℕ) {at : ℕ} {u : Leaf} {n : ℕ} (w : Where r m p at u n)
    → Found r (pool_bytes r.pool m) (p * page_size (page_bits_of r)) w.address u
in_the_pool r m p {u = u} w =
    found r (pool_bytes r.pool m) (p * page_size (page_bits_of r)) w.address u (usable_sized r w.regime) (usable_root r (p * page_size (page_bits_of r)) w.regime) w.end

-- a lookup that ends in a fault ends at one of the four levels
spot_lost : (r : Regime) (k : ℕ) (e : End) (code level n : ℕ) → spot_at r k e ≡ lost code level n → (kind : FaultKind) × (e ≡ fault kind level)
spot_lost r k (fault kind l) code level n q = let z : l ≡ level = cc in (kind, ap (fault kind) z)
spot_lost r k (leaf a l) code level n q = clash (cc)

pub low_lost : (r : Regime) (m : List ℕ) (p code level n : ℕ) → located r m p ≡ lost code level n → level ≤ 3
unfolding located
low_lost r m p code level n q = by (usable r) refl q
  where
    by : (b : Bool) → usable r ≡ b → pick b (spot_of r (traced r (pool_bytes r.pool m) (p * page_size (page_bits_of r)))) (lost (code_of Translation 0) 0 0) ≡ lost code level n → level ≤ 3
    by true e q =
        let t = traced r (pool_bytes r.pool m) (p * page_size (page_bits_of r)) in
        let s = spot_lost r (length t.visited) t.end code level n q in
        low_fault r (pool_bytes r.pool m) (p * page_size (page_bits_of r)) (usable_sized r e) s.0 level s.1
    by false e q = let z : ◌≡◌ {A = ℕ} 0 level = cc in subst (λ (x : ℕ). x ≤ 3) z (lit≤ tt)
