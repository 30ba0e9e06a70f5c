-- The loop keeps: the pages from lo on, below x, are noted.
use Rattle.bitmap.specs.Map.{Raises}
use Rattle.gather.specs.Ends.{noted}
use Rattle.gather.specs.Search.{table_ends}
use Rattle.gather.proofs.Search.gather_run.Given as goal

abbrev pub invariant-loop-x : goal.invariant-loop-x
invariant-loop-x l = Raises (noted (table_ends l.self 0 l.fn.table.0 l.pool) l.self.from l.lo l.x) l.initial.map l.map
