-- The rows of two checks, one check after another.
use Prim.Native.Nat.{ℕ}
use mathlib.Core.Bool.{Bool, true, false}
use mathlib.Core.List.{List, [], ◌∷◌, ◌++◌}
use mathlib.Core.Path.{◌≡◌, refl}
use Rattle.descriptor.specs.Bits.{pick}
use Rattle.vmsa.specs.declared.Refusal.{Refusal}
use Rattle.checks.specs.Order.{Checked}
use Rattle.std.specs.Prelude.{Ok, Err}
use Rattle.vmsa.specs.declared.Regime.{Regime}
use Rattle.vmsa.specs.declared.Access.{Access}
use Rattle.refusals.specs.Tests.{memory_pool_bad, pool_address_bad}
use Rattle.checks.specs.Order.{first_of, and_then, table_rows, regime_rows, access_rows, tables_check, regime_check, access_check, walk_check, start_check, asked_rows, asked_check, harvest_check}

pub first_append : (xs ys : List (Bool × Refusal)) → first_of (xs ++ ys) ≡ and_then (first_of xs) (first_of ys)
first_append [] ys = refl
first_append (row ∷ xs) ys = by row.0 (first_append xs ys)
  where
    by : (b : Bool) → first_of (xs ++ ys) ≡ and_then (first_of xs) (first_of ys) → pick b (Err row.1) (first_of (xs ++ ys)) ≡ and_then (pick b (Err row.1) (first_of xs)) (first_of ys)
    by true e = refl
    by false e = e

pub both : (x y : Checked) → and_then x y ≡ Ok tt → (x ≡ Ok tt) × (y ≡ Ok tt)
both (Ok _) y q = (refl, q)
both (Err x) y q = (cc, cc)

-- a plain walk checks its regime, and then its access
pub walk_apart : (n : ℕ) (r : Regime) (a : Access) → walk_check n r a ≡ and_then (regime_check n r) (access_check r a)
unfolding regime_check access_check walk_check
walk_apart n r a = first_append (regime_rows n r) (access_rows r a)

-- a walk a descriptor at a time checks what its regime says of tables, and then its access
pub start_apart : (r : Regime) (a : Access) → start_check r a ≡ and_then (tables_check r) (access_check r a)
unfolding tables_check access_check start_check
start_apart r a = first_append (table_rows r) (access_rows r a)

-- where the pool is as it should be, a plain walk asks what such a walk asks
pub walk_start : (n : ℕ) (r : Regime) (a : Access) → memory_pool_bad n r ≡ false → pool_address_bad r ≡ false → walk_check n r a ≡ start_check r a
unfolding walk_check start_check
walk_start n r a e f = rw (e, f)

-- a harvest checks its regime, and then its pages and its map
pub harvest_apart : (n : ℕ) (r : Regime) (first count bytes : ℕ) → harvest_check n r first count bytes ≡ and_then (regime_check n r) (asked_check r first count bytes)
unfolding regime_check asked_check harvest_check
harvest_apart n r first count bytes = first_append (regime_rows n r) (asked_rows r first count bytes)
