-- The loop keeps: the bits from lo on, below n, are raised.
use Rattle.bitmap.specs.Map.{Raises, between}
use Rattle.bitmap.proofs.raise_each.Given as goal

abbrev pub invariant-loop-n : goal.invariant-loop-n
invariant-loop-n l = Raises (between l.lo l.n) l.initial.map l.map
