-- The start, by what the checks say, and what it gives where it is accepted.
use Prim.Native.Nat.{◌<◌}
use mathlib.Core.Path.{◌≡◌, ap}
use Rattle.vmsa.specs.Limits.{Sized}
use Rattle.vmsa.specs.declared.Regime.{Regime}
use Rattle.vmsa.specs.declared.Access.{Access}
use Rattle.vmsa.specs.declared.Refusal.{Refusal}
use Rattle.std.specs.Prelude.{Ok, Err}
use Rattle.checks.specs.Order.{start_check}
use Rattle.checks.proofs.Accept.{start_accepted}
use Rattle.lookup.specs.Steps.{first_table}
use Rattle.stepwise.specs.Stepwise.{ended, declined, begun, started, start}

module _ (r : Regime) (a : Access) where
  pub start_refused : (x : Refusal) → start_check r a ≡ Err x → start r a ≡ ended (declined x)
  unfolding start
  start_refused x e = ap (started r a) e

  pub start_begun : start_check r a ≡ Ok tt → start r a ≡ begun r a (first_table r a.address.0)
  unfolding start
  start_begun e = ap (started r a) e

pub record Startable (r : Regime) (a : Access) : Type 0 where
  pub sized : Sized r
  pub size : 0 < a.size

pub startable : (r : Regime) (a : Access) → start_check r a ≡ Ok tt → Startable r a
startable r a e =
    let h = start_accepted r a e in
    record { sized = h.0; size = h.1.positive }
