-- The fault of an answer stands at one of the four levels, so that its code and level settle its kind.
use Prim.Native.Nat.{ℕ, ◌≤◌}
use mathlib.Core.Bool.{Bool, true, false}
use mathlib.Core.List.{List}
use mathlib.Core.Path.{◌≡◌, refl, subst}
use lib.ListN.{length}
use Rattle.std.specs.Prelude.{Ok, Err}
use Rattle.descriptor.specs.Bits.{pick}
use Rattle.vmsa.specs.Limits.{Sized}
use Rattle.vmsa.specs.declared.Regime.{Regime}
use Rattle.vmsa.specs.declared.Access.{Access}
use Rattle.vmsa.specs.declared.Leaf.{Leaf}
use Rattle.vmsa.specs.declared.FaultKind.{FaultKind}
use Rattle.vmsa.specs.declared.FaultKind.TheVariants.{AccessFlag, Alignment, Permission}
use Rattle.vmsa.proofs.Answers.{LowIn}
use Rattle.checks.specs.Order.{Checked, walk_check}
use Rattle.lookup.specs.Trace.{End, fault, leaf}
use Rattle.lookup.specs.Packing.{Backed}
use Rattle.lookup.proofs.Packing.{level_le}
use Rattle.lookup.proofs.Reach.{locate_backed}
use Rattle.permission.specs.Permission.{flag_fails, alignment_fails, permission_fails}
use Rattle.decision.specs.Decision.{failing, passing, decision}
use Rattle.walk.specs.Walk.{pool_bytes, concluded, traced, walk_pool, checked, walk}
use Rattle.walk.proofs.Ends.{ready}

pub low_decision : (r : Regime) (a : Access) (l : Leaf) (n : ℕ) → LowIn (decision r a l n).result
unfolding decision failing passing
low_decision r a l n = by (flag_fails r l) (alignment_fails r a l) (permission_fails r a l)
  where
    by : (x y z : Bool) → LowIn (pick x (failing l n AccessFlag) (pick y (failing l n Alignment) (pick z (failing l n Permission) (passing r a l n)))).result
    by true y z = level_le l.left
    by false true z = level_le l.left
    by false false true = level_le l.left
    by false false false = tt

pub low_fault : (r : Regime) (pool : List ℕ) (address : ℕ) → Sized r → (kind : FaultKind) (level : ℕ) → (traced r pool address).end ≡ fault kind level → level ≤ 3
unfolding traced
low_fault r pool address z kind level e = subst (λ (x : End). Backed r.ee pool r.pool.address.0 x) e (locate_backed r r.ee pool r.pool.address.0 address z)

low_end : (r : Regime) (a : Access) (pool : List ℕ) (n : ℕ) (x : End) → ((kind : FaultKind) (level : ℕ) → x ≡ fault kind level → level ≤ 3) → LowIn (concluded r a pool n x).result
low_end r a pool n (fault kind level) h = h kind level refl
low_end r a pool n (leaf at l) h = low_decision r a l n

low_by : (r : Regime) (a : Access) (m : List ℕ) (c : Checked) → walk_check (length m) r a ≡ c → LowIn (checked (walk_pool r a) r.pool m c).result
unfolding walk_pool
low_by r a m (Err x) e = tt
low_by r a m (Ok _) e =
    let pool = pool_bytes r.pool m in
    low_end r a pool (length (traced r pool a.address.0).visited) (traced r pool a.address.0).end (λ kind level q. low_fault r pool a.address.0 (ready (length m) r a e).sized kind level q)

pub low_walk : (r : Regime) (a : Access) (m : List ℕ) → LowIn (walk r a m).result
unfolding walk
low_walk r a m = low_by r a m (walk_check (length m) r a) refl
