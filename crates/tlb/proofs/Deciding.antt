-- Steps 6 to 8 with the count of reads apart: what a decision says is what the session's walker says.
use Prim.Native.Nat.{ℕ}
use mathlib.Core.Bool.{Bool, true, false}
use mathlib.Core.Path.{◌≡◌, refl, ap}
use Rattle.descriptor.specs.Bits.{pick}
use Rattle.descriptor.proofs.Tests.{clash}
use Rattle.vmsa.specs.Answers.{cacheable_in, dirtied_in}
use Rattle.vmsa.specs.declared.Regime.{Regime}
use Rattle.vmsa.specs.declared.Access.{Access}
use Rattle.vmsa.specs.declared.Leaf.{Leaf}
use Rattle.vmsa.specs.declared.FaultKind.{FaultKind}
use Rattle.vmsa.specs.declared.FaultKind.TheVariants.{AccessFlag, Alignment, Permission}
use Rattle.permission.specs.Permission.{flag_fails, alignment_fails, permission_fails}
use Rattle.decision.specs.declared.HitKind.{HitKind}
use Rattle.decision.specs.declared.HitKind.TheVariants as hits
use Rattle.decision.specs.Decision.{Decision, dirty_due, updated, failing, passing, decision, hit_kind}
use Rattle.tlb.specs.Replies.{answered, reply_of, updates}
use Rattle.tlb.specs.Ours.{judged, stamped}

-- a decision, by the three tests
abbrev decided : Regime → Access → Leaf → ℕ → Bool → Bool → Bool → Decision
decided r a l n x y z = pick x (failing l n AccessFlag) (pick y (failing l n Alignment) (pick z (failing l n Permission) (passing r a l n)))

-- the kind of a hit, by the three tests
abbrev kind_by : Regime → Access → Leaf → Bool → Bool → Bool → HitKind
kind_by r a l x y z = pick x (hits.Fault AccessFlag) (pick y (hits.Fault Alignment) (pick z (hits.Fault Permission) (pick (dirty_due r a l) hits.Miss hits.Success)))

module _ (r : Regime) (a : Access) (l : Leaf) (n : ℕ) where
  reply_by : (x y z : Bool) → reply_of (decided r a l n x y z).result ≡ answered (decided r a l 0 x y z).result n
  unfolding failing passing
  reply_by true y z = refl
  reply_by false true z = refl
  reply_by false false true = refl
  reply_by false false false = refl

  update_by : (x y z : Bool) → (decided r a l n x y z).update ≡ updates (decided r a l 0 x y z).result
  unfolding failing passing
  update_by true y z = refl
  update_by false true z = refl
  update_by false false true = refl
  update_by false false false = refl

  value_by : (x y z : Bool) → (decided r a l n x y z).value ≡ stamped (decided r a l 0 x y z).result l.value
  unfolding failing passing stamped updated
  value_by true y z = refl
  value_by false true z = refl
  value_by false false true = refl
  value_by false false false = refl

  -- the reply: the answer that counts no reads, and the count
  pub reply_decision : reply_of (decision r a l n).result ≡ answered (judged r l a) n
  unfolding decision judged
  reply_decision = reply_by (flag_fails r l) (alignment_fails r a l) (permission_fails r a l)

  -- whether the leaf changes, and its value then
  pub update_decision : (decision r a l n).update ≡ updates (judged r l a)
  unfolding decision judged
  update_decision = update_by (flag_fails r l) (alignment_fails r a l) (permission_fails r a l)

  pub value_decision : (decision r a l n).value ≡ stamped (judged r l a) l.value
  unfolding decision judged
  value_decision = value_by (flag_fails r l) (alignment_fails r a l) (permission_fails r a l)

  cache_by : (x y z : Bool) → cacheable_in (decided r a l n x y z).result ≡ cacheable_in (decided r a l 0 x y z).result
  unfolding failing passing
  cache_by true y z = refl
  cache_by false true z = refl
  cache_by false false true = refl
  cache_by false false false = refl

  -- whether it may be remembered
  pub cache_decision : cacheable_in (decision r a l n).result ≡ cacheable_in (judged r l a)
  unfolding decision judged
  cache_decision = cache_by (flag_fails r l) (alignment_fails r a l) (permission_fails r a l)

-- ---- how a held leaf answers: with a success or a fault that changes nothing, or not at all

module _ (r : Regime) (a : Access) (l : Leaf) where
  dirty_by : (d : Bool) → (pick d hits.Miss hits.Success ≡ hits.Success → d ≡ false) × (pick d hits.Miss hits.Success ≡ hits.Miss → d ≡ true)
  dirty_by true = (λ e. clash (cc), λ e. refl)
  dirty_by false = (λ e. refl, λ e. clash (cc))

  never_dirty : (d : Bool) (kind : FaultKind) {A : Type 0} → pick d hits.Miss hits.Success ≡ hits.Fault kind → A
  never_dirty true kind e = clash (cc)
  never_dirty false kind e = clash (cc)

  success_by : (x y z : Bool) → kind_by r a l x y z ≡ hits.Success → dirtied_in (decided r a l 0 x y z).result ≡ false
  unfolding failing passing
  success_by true y z e = clash (cc)
  success_by false true z e = clash (cc)
  success_by false false true e = clash (cc)
  success_by false false false e = (dirty_by (dirty_due r a l)).0 e

  miss_by : (x y z : Bool) → kind_by r a l x y z ≡ hits.Miss → dirtied_in (decided r a l 0 x y z).result ≡ true
  unfolding failing passing
  miss_by true y z e = clash (cc)
  miss_by false true z e = clash (cc)
  miss_by false false true e = clash (cc)
  miss_by false false false e = (dirty_by (dirty_due r a l)).1 e

  fault_by : (x y z : Bool) (kind : FaultKind) → kind_by r a l x y z ≡ hits.Fault kind → decided r a l 0 x y z ≡ failing l 0 kind
  fault_by true y z kind e = let q : AccessFlag ≡ kind = cc in ap (failing l 0) q
  fault_by false true z kind e = let q : Alignment ≡ kind = cc in ap (failing l 0) q
  fault_by false false true kind e = let q : Permission ≡ kind = cc in ap (failing l 0) q
  fault_by false false false kind e = never_dirty (dirty_due r a l) kind e

  pub kind_success : hit_kind r a l ≡ hits.Success → dirtied_in (judged r l a) ≡ false
  unfolding decision judged hit_kind
  kind_success e = success_by (flag_fails r l) (alignment_fails r a l) (permission_fails r a l) e

  pub kind_miss : hit_kind r a l ≡ hits.Miss → dirtied_in (judged r l a) ≡ true
  unfolding decision judged hit_kind
  kind_miss e = miss_by (flag_fails r l) (alignment_fails r a l) (permission_fails r a l) e

  pub kind_fault : (kind : FaultKind) → hit_kind r a l ≡ hits.Fault kind → decision r a l 0 ≡ failing l 0 kind
  unfolding decision hit_kind
  kind_fault kind e = fault_by (flag_fails r l) (alignment_fails r a l) (permission_fails r a l) kind e
