-- What every end says, whatever was offered: of its update, and of its output address.
use Prim.Native.Nat.{ℕ, ◌^◌, ◌<◌}
use mathlib.Core.Bool.{Bool, true, false, ◌||◌}
use mathlib.Core.Path.{◌≡◌, refl, sym, ap, subst, ◌∙◌}
use Rattle.descriptor.specs.Bits.{pick}
use Rattle.descriptor.proofs.Tests.{clash, or_false}
use Rattle.vmsa.specs.Granules.{page_bits_of}
use Rattle.vmsa.specs.Answers.{success, refused as refused_with}
use Rattle.vmsa.specs.declared.Regime.{Regime}
use Rattle.vmsa.specs.declared.Access.{Access}
use Rattle.vmsa.specs.declared.Leaf.{Leaf}
use Rattle.vmsa.specs.declared.Success.{Success}
use Rattle.vmsa.specs.declared.Refusal.{Refusal}
use Rattle.vmsa.specs.declared.FaultKind.{FaultKind}
use Rattle.vmsa.specs.declared.FaultKind.TheVariants.{AccessFlag, Alignment, Permission}
use Rattle.geometry.specs.Geometry.{output_bits, output_limit}
use Rattle.geometry.proofs.Geometry.{paged, least_output}
use Rattle.lookup.specs.declared.Next.TheVariants as next
use Rattle.lookup.specs.Trace.{End, fault, leaf}
use Rattle.lookup.specs.Steps.{decoded, context_of}
use Rattle.lookup.proofs.Decoding.{is_leaf, output_below}
use Rattle.permission.specs.Permission.{flag_fails, alignment_fails, permission_fails}
use Rattle.decision.specs.Decision.{flag_due, dirty_due, updated, output_of, failing, passing, decision}
use Rattle.std.specs.Prelude.{None, Some}
use Rattle.stepwise.specs.declared.Wanting.{Wanting}
use Rattle.stepwise.specs.Stepwise.{Ended, conclusion, declined, due_of, leaf_at}
use Rattle.rules.specs.Rule2.{FlagUpdate, DirtyUpdate}
use Rattle.rules.proofs.Walks.{told}
use Rattle.rules.proofs.Updates.{updated_other, updated_af, updated_ap2, flag_due_lem, dirty_due_lem}
use Rattle.rules_stepwise.specs.Promised.{Says}
use Rattle.rules_stepwise.proofs.Lefts.{says_at}

-- what every end says of its update, and of its output address
abbrev pub Fine : Regime → Access → Ended → Type 0
Fine r a e = Says r a e.result e.due × ((x : Success) → e.result ≡ success x → x.output.0 < output_limit r.output)

module _ (r : Regime) (a : Access) (at : ℕ) (l : Leaf) (n : ℕ) where
  abbrev v : ℕ
  v = l.value

  abbrev after : ℕ
  after = updated (flag_due r a l) (dirty_due r a l) l.value

  flag_made : FlagUpdate r a v after (flag_due r a l)
  flag_made = by (flag_due r a l) refl
    where
      by : (b : Bool) → flag_due r a l ≡ b → FlagUpdate r a v (updated (flag_due r a l) (dirty_due r a l) v) b
      by true q = let d = flag_due_lem r a l q in FlagUpdate.set d.0 d.2 d.1 (updated_af v (flag_due r a l) (dirty_due r a l) ∙ rw q)
      by false q = FlagUpdate.kept (updated_af v (flag_due r a l) (dirty_due r a l) ∙ rw q)

  dirty_made : DirtyUpdate r a v after (dirty_due r a l)
  dirty_made = by (dirty_due r a l) refl
    where
      by : (b : Bool) → dirty_due r a l ≡ b → DirtyUpdate r a v (updated (flag_due r a l) (dirty_due r a l) v) b
      by true q = let d = dirty_due_lem r a l q in DirtyUpdate.cleared d.0 d.1 d.2 d.3 d.4 (updated_ap2 v (flag_due r a l) (dirty_due r a l) ∙ rw q)
      by false q = DirtyUpdate.kept (updated_ap2 v (flag_due r a l) (dirty_due r a l) ∙ rw q)

  passes_says : (b : Bool) → (flag_due r a l || dirty_due r a l) ≡ b
      → Says r a (success (told r a l n)) (pick b (Some (record { address = record { 0 = at }; expected = v; value = after })) None)
  passes_says true q = (told r a l n, refl, record { some = q; flag = flag_made; dirty = dirty_made; bits = updated_other v (flag_due r a l) (dirty_due r a l) })
  passes_says false q = λ x e.
      let z : told r a l n ≡ x = cc in
      let h = or_false (flag_due r a l) (dirty_due r a l) q in
      (sym (ap (λ (y : Success). y.accessed) z) ∙ h.0, sym (ap (λ (y : Success). y.dirtied) z) ∙ h.1)

  leaf_says : Says r a (decision r a l n).result (due_of at v (decision r a l n))
  unfolding decision failing passing
  leaf_says = by (flag_fails r l) (alignment_fails r a l) (permission_fails r a l)
    where
      by : (x y z : Bool) → Says r a (pick x (failing l n AccessFlag) (pick y (failing l n Alignment) (pick z (failing l n Permission) (passing r a l n)))).result
          (due_of at v (pick x (failing l n AccessFlag) (pick y (failing l n Alignment) (pick z (failing l n Permission) (passing r a l n)))))
      by true y z = λ s e. clash (cc)
      by false true z = λ s e. clash (cc)
      by false false true = λ s e. clash (cc)
      by false false false = passes_says (flag_due r a l || dirty_due r a l) refl

  leaf_below : decoded (page_bits_of r) (output_limit r.output) l.left v ≡ next.Leaf → (x : Success) → (decision r a l n).result ≡ success x → x.output.0 < output_limit r.output
  unfolding decision failing passing output_of output_limit
  leaf_below d = by (flag_fails r l) (alignment_fails r a l) (permission_fails r a l)
    where
      by : (x y z : Bool) (s : Success) → (pick x (failing l n AccessFlag) (pick y (failing l n Alignment) (pick z (failing l n Permission) (passing r a l n)))).result ≡ success s → s.output.0 < 2 ^ output_bits r.output
      by true y z s e = clash (cc)
      by false true z s e = clash (cc)
      by false false true s e = clash (cc)
      by false false false s e =
          let q : told r a l n ≡ s = cc in
          subst (λ (y : Success). y.output.0 < 2 ^ output_bits r.output) q
          (output_below (page_bits_of r) (output_bits r.output) l.left v a.address.0 (paged r.granule).most (least_output r.output) (is_leaf (page_bits_of r) (2 ^ output_bits r.output) l.left v d))

-- ---- each sort of end

pub fine_refused : (r : Regime) (a : Access) (x : Refusal) → Fine r a (declined x)
fine_refused r a x = (λ s e. clash (cc), λ s e. clash (cc))

pub fine_fault : (r : Regime) (a : Access) (n : ℕ) (kind : FaultKind) (level : ℕ) → Fine r a (conclusion r a n (fault kind level))
fine_fault r a n kind level = (λ s e. clash (cc), λ s e. clash (cc))

pub fine_leaf : (w : Wanting) (n v : ℕ) → says_at w v ≡ next.Leaf → Fine w.regime w.access (conclusion w.regime w.access n (leaf w.address.0 (leaf_at w v)))
unfolding context_of
fine_leaf w n v d = (leaf_says w.regime w.access w.address.0 (leaf_at w v) n, leaf_below w.regime w.access w.address.0 (leaf_at w v) n d)

-- ---- what is concluded is no refusal

not_refused : (r : Regime) (a : Access) (l : Leaf) (n k : ℕ) → (decision r a l n).result ≡ refused_with k → ⊥
unfolding decision failing passing
not_refused r a l n k = by (flag_fails r l) (alignment_fails r a l) (permission_fails r a l)
  where
    by : (x y z : Bool) → (pick x (failing l n AccessFlag) (pick y (failing l n Alignment) (pick z (failing l n Permission) (passing r a l n)))).result ≡ refused_with k → ⊥
    by true y z e = clash (cc)
    by false true z e = clash (cc)
    by false false true e = clash (cc)
    by false false false e = clash (cc)

pub conclusion_answers : (r : Regime) (a : Access) (n : ℕ) (x : End) (k : ℕ) → (conclusion r a n x).result ≡ refused_with k → ⊥
conclusion_answers r a n (fault kind level) k e = clash (cc)
conclusion_answers r a n (leaf at l) k e = not_refused r a l n k e
