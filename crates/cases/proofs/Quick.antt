-- The walk over a memory that is 0 but for a few descriptors, by looking these up: what antt computes of a row.
use Prim.Native.Nat.{ℕ, ◌+◌, ◌-◌, ◌%◌, ◌^◌}
use mathlib.Core.Bool.{Bool, true, ◌&&◌}
use mathlib.Core.List.{List, [], ◌∷◌}
use lib.Dec.{leb, ltb, eqb}
use Rattle.descriptor.specs.Bits.{pick}
use Rattle.vmsa.specs.Answers.{refused, number_of}
use Rattle.vmsa.specs.declared.Regime.{Regime}
use Rattle.vmsa.specs.declared.Access.{Access}
use Rattle.checks.specs.Order.{Checked}
use Rattle.std.specs.Prelude.{Ok, Err, Option, Some, None}
use Rattle.checks.specs.Order.{walk_check}
use Rattle.lookup.specs.Steps.{fetched, locate}
use Rattle.walk.specs.Walk.{Outcome, walk_along}
use Rattle.cases.specs.Cases.{memory_of}

-- a descriptor at a multiple of 8, within n bytes, and of 64 bits
unfoldable pub placed : ℕ → ℕ × ℕ → Bool
placed n d = eqb (d.0 % 8) 0 && leb (d.0 + 8) n && ltb d.1 (2 ^ 64)

unfoldable pub all_placed : ℕ → List (ℕ × ℕ) → Bool
all_placed n [] = true
all_placed n (d ∷ ds) = placed n d && all_placed n ds

-- the value at offset i: of the last of the descriptors that stands there, or else v
unfoldable pub value_at : List (ℕ × ℕ) → ℕ → ℕ → ℕ
value_at [] i v = v
value_at (d ∷ ds) i v = value_at ds i (pick (eqb d.0 i) d.1 v)

-- the quick reader; at an address that is no multiple of 8 it is the reader itself
unfoldable pub quick : Bool → ℕ → List (ℕ × ℕ) → ℕ → ℕ → Option ℕ
quick ee n ds base a =
    pick (leb base a && leb (a + 8) (base + n))
    (pick (eqb ((a - base) % 8) 0) (Some (value_at ds (a - base) 0)) (fetched ee (memory_of ee n ds) base a))
    None

-- a refusal over this memory, or else this outcome
abbrev pub unless : List ℕ → Outcome → Checked → Outcome
unless memory o (Err x) = record { result = refused (number_of x); bytes = memory }
unless memory o (Ok _) = o

unfoldable pub quick_walk : ℕ → List (ℕ × ℕ) → Regime → Access → Outcome
quick_walk n ds r a =
    unless (memory_of r.ee n ds) (walk_along r a (memory_of r.ee n ds) (locate r (quick r.ee n ds r.pool.address.0) a.address.0)) (walk_check n r a)
