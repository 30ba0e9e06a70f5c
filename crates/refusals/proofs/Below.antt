-- A test of every number below n, by one computed answer.
use Rattle.std.proofs.Common.{◌≡◌, ℕ, zero, suc, ◌<◌, Bool, true, false, not, ◌&&◌, eqb, refl, ap, ◌∙◌, arith, eqb-true}
use borrow.Author.Tests.{eqb-false}
use Rattle.descriptor.proofs.Tests.{and_true, differ}

abbrev pub all_below : ℕ → (ℕ → Bool) → Bool
all_below zero test = true
all_below (suc n) test = all_below n test && test n

pub all_below_lem : (n : ℕ) (test : ℕ → Bool) → all_below n test ≡ true → (k : ℕ) → k < n → test k ≡ true
all_below_lem zero test e k h = absurd (omega arith)
all_below_lem (suc n) test e k h = by (λ less. all_below_lem n test (and_true (all_below n test) (test n) e).0 k less) (eqb k n) refl
  where
    by : (k < n → test k ≡ true) → (b : Bool) → eqb k n ≡ b → test k ≡ true
    by lower true q = ap test (eqb-true k n q) ∙ (and_true (all_below n test) (test n) e).1
    by lower false q = let other = eqb-false k n q in lower (omega (arith, other))

-- whether two answers are the same
abbrev pub alike : Bool → Bool → Bool
alike true b = b
alike false b = not b

pub alike_same : (a b : Bool) → alike a b ≡ true → a ≡ b
alike_same true true e = refl
alike_same true false e = differ (cc)
alike_same false true e = differ (cc)
alike_same false false e = refl
