-- The loop keeps: the bytes of the part so far are 255.
use Prim.Native.Nat.{ℕ, ◌-◌, ◌<◌}
use mathlib.Core.Path.{◌≡◌}
use lib.ListN.{length, get_or}
use Rattle.bitmap.proofs.fill.Given as goal

abbrev pub invariant-loop-byte : goal.invariant-loop-byte
invariant-loop-byte l = record { long : length l.byte-items ≡ l.hi - l.lo; full : (k : ℕ) → k < l.byte-index → get_or l.byte-items k 0 ≡ 255 }
