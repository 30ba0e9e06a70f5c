-- The contracts of the walk by value leave nothing open: no two results meet one, and nobody has to check first.
use Prim.Native.Nat.{ℕ}
use mathlib.Core.Path.{◌≡◌, sym, ap, subst⁻¹, ◌∙◌}
use lib.Dec.{lit≤}
use Rattle.descriptor.proofs.Tests.{clash}
use Rattle.vmsa.proofs.Answers.{LowIn, view_settles}
use Rattle.vmsa.specs.declared.Regime.{Regime}
use Rattle.vmsa.specs.declared.Access.{Access}
use Rattle.checks.specs.Order.{Checked}
use Rattle.std.specs.Prelude.{Ok, Err, Option, Some, None}
use Rattle.checks.specs.Order.{start_check}
use Rattle.lookup.specs.Steps.{First}
use Rattle.lookup.specs.Steps.{first_table}
use Rattle.lookup.proofs.Packing.{level_le}
use Rattle.walk.proofs.Settled.{low_decision}
use Rattle.stepwise.specs.declared.Wanting.{Wanting}
use Rattle.stepwise.specs.declared.Conclusion.{Conclusion}
use Rattle.stepwise.specs.declared.Stepwise.{Stepwise}
use Rattle.stepwise.specs.declared.Stepwise.TheVariants as stepwise
use Rattle.stepwise.specs.declared.Offered.{Offered}
use Rattle.stepwise.specs.Stepwise.{Ended, Progress, wanting, ended, begun, started, start, left_at, leaf_at, reads_at, offered, seen_end, seen, Takes}
use Rattle.stepwise.proofs.Stepwise.start.Reads as Start
use Rattle.stepwise.proofs.Stepwise.value.Reads as ValueOf
use Rattle.stepwise.proofs.Stepwise.unreachable.Reads as UnreachableOf
use Rattle.rules_stepwise.specs.Code.{Begun}
use Rattle.rules_stepwise.proofs.Lefts.{Left, refused, aborted, faulted, deeper, reached, left_by_lem}

-- the fault of an end stands at one of the four levels
abbrev Low : Progress → Type 0
Low (wanting w) = Unit {0}
Low (ended e) = LowIn e.result

low_first : (r : Regime) (a : Access) (f : First) → Low (begun r a f)
low_first r a (Err kind) = lit≤ tt
low_first r a (Ok root) = tt

low_started : (r : Regime) (a : Access) (x : Checked) → Low (started r a x)
low_started r a (Err x) = tt
low_started r a (Ok _) = low_first r a (first_table r a.address.0)

low_start : (r : Regime) (a : Access) → Low (start r a)
unfolding start
low_start r a = low_started r a (start_check r a)

low_left : (w : Wanting) (o : Option ℕ) (p : Progress) → Left w o p → Low p
low_left w o p (refused x c) = tt
low_left w o p (aborted c e) = level_le (left_at w)
low_left w o p (faulted c v e kind d) = level_le (left_at w)
low_left w o p (reached c v e d) = low_decision w.regime w.access (leaf_at w v) (reads_at w)
low_left w o p (deeper c v e table d) = tt

-- so what is seen of a walk settles it
end_settles : (c d : Conclusion) → LowIn (seen_end c).result → seen_end c ≡ seen_end d → c ≡ d
end_settles c d low e =
    let a : c.answer ≡ d.answer = view_settles c.answer d.answer low (ap (λ (x : Ended). x.result) e) in
    λ i. record { answer = a i; due = (e i).due }

seen_settles : (s t : Stepwise) → Low (seen s) → seen s ≡ seen t → s ≡ t
seen_settles (stepwise.Wanting v) (stepwise.Wanting w) low e = let z : v ≡ w = cc in ap stepwise.Wanting z
seen_settles (stepwise.Wanting v) (stepwise.Ended d) low e = clash (cc)
seen_settles (stepwise.Ended c) (stepwise.Wanting w) low e = clash (cc)
seen_settles (stepwise.Ended c) (stepwise.Ended d) low e = let z : seen_end c ≡ seen_end d = cc in ap stepwise.Ended (end_settles c d low z)

both : (p : Progress) → Low p → (s t : Stepwise) → seen s ≡ p → seen t ≡ p → s ≡ t
both p low s t e f = seen_settles s t (subst⁻¹ Low e low) (e ∙ sym f)

takes_one : (s : Stepwise) (o : Option ℕ) (x y : Offered) → Takes s o x → Takes s o y → x ≡ y
takes_one (stepwise.Wanting w) o x y h k =
    let p = both (offered w o) (low_left w o (offered w o) (left_by_lem w o)) x.walk y.walk h.0 k.0 in
    let q = h.1 ∙ sym k.1 in
    λ i. record { walk = p i; reply = q i }
takes_one (stepwise.Ended c) o x y h k = h ∙ sym k

-- ---- of each function

pub start_one : (r : Regime) (a : Access) (s t : Stepwise) → Begun r a s → Begun r a t → s ≡ t
start_one r a s t h k = both (start r a) (low_start r a) s t h k

pub value_one : (s : Stepwise) (v : ℕ) (x y : Offered) → ValueOf.Learnt tt (s, (v, tt)) x (s, (v, tt)) → ValueOf.Learnt tt (s, (v, tt)) y (s, (v, tt)) → x ≡ y
value_one s v x y h k = takes_one s (Some v) x y h k

pub unreachable_one : (s : Stepwise) (x y : Offered) → UnreachableOf.Learnt tt (s, tt) x (s, tt) → UnreachableOf.Learnt tt (s, tt) y (s, tt) → x ≡ y
unreachable_one s x y h k = takes_one s None x y h k

pub start_free : (r : Regime) (a : Access) → Start.Asked tt (r, (a, tt))
start_free r a = tt

pub value_free : (s : Stepwise) (v : ℕ) → ValueOf.Asked tt (s, (v, tt))
value_free s v = tt

pub unreachable_free : (s : Stepwise) → UnreachableOf.Asked tt (s, tt)
unreachable_free s = tt
