-- What a write leaves of its leaf says dirty, if DBM is set; and no later update takes that away.
use Prim.Native.Nat.{ℕ}
use mathlib.Core.Bool.{Bool, true, false, not, ◌&&◌, ◌||◌}
use mathlib.Core.Path.{◌≡◌, refl, sym, ap, ◌∙◌}
use native.Mathlib.Omega.{arith}
use Rattle.descriptor.proofs.Tests.{and_true, clash, or_true}
use Rattle.vmsa.specs.Fields.{af, ap2, dbm}
use Rattle.vmsa.specs.Kinds.{writes}
use Rattle.vmsa.specs.Answers.{Result, success, dirtied_in}
use Rattle.vmsa.specs.declared.Regime.{Regime}
use Rattle.vmsa.specs.declared.Access.{Access}
use Rattle.vmsa.specs.declared.Leaf.{Leaf}
use Rattle.vmsa.specs.declared.Success.{Success}
use Rattle.permission.specs.Permission.{flag_fails, alignment_fails, permission_fails}
use Rattle.decision.specs.Decision.{flag_due, dirty_due, updated, failing, passing}
use Rattle.tlb.specs.Ours.{judged, accessed_in, stamped}
use Rattle.gather.specs.Ends.{dirty}
use Rattle.rules.proofs.Updates.{updated_other, updated_af, updated_ap2, writes_asks, flag_after, write_writable, dirty_after}
use Rattle.rule3.proofs.Agreement.{success_of, result_by, judged_by}
use borrow.Author.Tests.{not-true}

-- a leaf says dirty by its three bits
pub dirty_by : (v : ℕ) → af v ≡ true → dbm v ≡ true → ap2 v ≡ false → dirty v ≡ true
unfolding dirty
dirty_by v a d p = rw (a, d, p)

pub by_dirty : (v : ℕ) → dirty v ≡ true → (af v ≡ true) × (dbm v ≡ true) × (ap2 v ≡ false)
unfolding dirty
by_dirty v e =
    let s = and_true (af v && dbm v) (not (ap2 v)) e in
    let t = and_true (af v) (dbm v) s.0 in
    (t.0, t.1, not-true (ap2 v) s.1)

-- an update leaves it so
pub dirty_updated : (f d : Bool) (v : ℕ) → dirty v ≡ true → dirty (updated f d v) ≡ true
dirty_updated f d v e =
    let b = by_dirty v e in
    dirty_by (updated f d v) (updated_af v f d ∙ ap (λ (x : Bool). f || x) b.0 ∙ or_true f) (updated_other v f d 51 (λ z. omega arith) (λ z. omega arith) ∙ b.1)
    (updated_ap2 v f d ∙ ap (λ (x : Bool). not d && x) b.2 ∙ none (not d))
  where
    none : (x : Bool) → (x && false) ≡ false
    none true = refl
    none false = refl

pub dirty_stamped : (o : Result) (v : ℕ) → dirty v ≡ true → dirty (stamped o v) ≡ true
unfolding stamped
dirty_stamped o v e = dirty_updated (accessed_in o) (dirtied_in o) v e

-- a write or update that succeeds leaves its leaf so
module _ (r : Regime) (a : Access) (l : Leaf) (w : writes a.kind ≡ true) (d : dbm l.value ≡ true) where
  passes : flag_fails r l ≡ false → permission_fails r a l ≡ false → dirty (updated (flag_due r a l) (dirty_due r a l) l.value) ≡ true
  passes e f =
      dirty_by (updated (flag_due r a l) (dirty_due r a l) l.value)
      (updated_af l.value (flag_due r a l) (dirty_due r a l) ∙ flag_after r a l e (writes_asks a.kind w).0)
      (updated_other l.value (flag_due r a l) (dirty_due r a l) 51 (λ z. omega arith) (λ z. omega arith) ∙ d)
      (updated_ap2 l.value (flag_due r a l) (dirty_due r a l) ∙ dirty_after r a l (write_writable r a l f w) w)

  answer_by : (x y z : Bool) (s : Success) → result_by r a l x y z ≡ success s → (x ≡ false) × (y ≡ false) × (z ≡ false)
  unfolding failing
  answer_by true y z s k = clash (cc)
  answer_by false true z s k = clash (cc)
  answer_by false false true s k = clash (cc)
  answer_by false false false s k = (refl, refl, refl)

  pub written_dirty : (s : Success) → judged r l a ≡ success s → dirty (stamped (judged r l a) l.value) ≡ true
  unfolding stamped passing
  written_dirty s e =
      let k = answer_by (flag_fails r l) (alignment_fails r a l) (permission_fails r a l) s (sym (judged_by r a l) ∙ e) in
      let j : judged r l a ≡ success_of r a l =
      judged_by r a l ∙ ap (λ (x : Bool). result_by r a l x (alignment_fails r a l) (permission_fails r a l)) k.0 ∙ ap (λ (y : Bool). result_by r a l false y (permission_fails r a l)) k.1
      ∙ ap (λ (z : Bool). result_by r a l false false z) k.2 in
      ap (λ (o : Result). dirty (updated (accessed_in o) (dirtied_in o) l.value)) j ∙ passes k.0 k.2
