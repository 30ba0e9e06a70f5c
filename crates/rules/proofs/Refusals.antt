-- The checks refuse by the first row that applies.
use mathlib.Core.Bool.{Bool, true, false}
use mathlib.Core.List.{List, [], ◌∷◌}
use mathlib.Core.Path.{◌≡◌, refl, subst}
use Rattle.descriptor.proofs.Tests.{clash}
use Rattle.descriptor.specs.Bits.{pick}
use Rattle.vmsa.specs.declared.Refusal.{Refusal}
use Rattle.std.specs.Prelude.{Err}
use Rattle.checks.specs.Order.{first_of}
use Rattle.rules.specs.Rule1.{FirstRow, here, later}

pub first_refuses : {rows : List (Bool × Refusal)} {x : Refusal} → FirstRow rows x → first_of rows ≡ Err x
first_refuses here = refl
first_refuses (later f) = first_refuses f

pub refuses_first : (rows : List (Bool × Refusal)) (x : Refusal) → first_of rows ≡ Err x → FirstRow rows x
refuses_first [] x e = clash (cc)
refuses_first (row ∷ rows) x e = by row.0 row.1 e (refuses_first rows x)
  where
    by : (b : Bool) (y : Refusal) → pick b (Err y) (first_of rows) ≡ Err x → (first_of rows ≡ Err x → FirstRow rows x) → FirstRow ((b, y) ∷ rows) x
    by true y q k = subst (λ (z : Refusal). FirstRow ((true, y) ∷ rows) z) (let w : y ≡ x = cc in w) here
    by false y q k = later (k q)
