use Prim.Native.Nat.{ℕ, ◌+◌, ◌*◌, ◌%◌, ◌^◌, ◌<◌, ◌≤◌}
use native.Mathlib.Nat.{mod-lt}
use native.Mathlib.Omega.{arith}
use mir.Val.{Fits}
use mir.Syntax.{w64}
use Rattle.vmsa.specs.Limits.{address_limit}
use Rattle.gather.specs.Ends.{entry_for}
use Rattle.gather.proofs.entry_of.Goals as goal

-- an entry lies at most 2 ^ 16 bytes into its table
module _ (x y : ℕ) (h : 0 < y) (k : y ≤ 8192) where
  index-fits : Fits w64 (8 * (x % y))
  index-fits = omega (arith, mod-lt x h)

  entry-fits : (t : ℕ) → t < address_limit → Fits w64 (t + 8 * (x % y))
  entry-fits t z = omega (arith, mod-lt x h)

  entry_lt : (t : ℕ) → t < address_limit → t + 8 * (x % y) < 2 ^ 49
  entry_lt t z = omega (arith, mod-lt x h)

pub returns : goal.returns
unfolding entry_for
returns c = (
  rw (c.entries.ensures.0, c.pages_in.ensures.0),
  entry_lt _ _ c.entries.ensures.1 c.entries.ensures.2 _ c.requires.2,
)
