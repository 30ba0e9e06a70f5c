use Rattle.gather.specs.Search.{table_ends}
use Rattle.clean.specs.Clean.{Cleans}
use Rattle.clean.specs.Cleaning.{asked_by}
use Rattle.clean.proofs.Cleaning.clean_each.Given as goal

-- the pages from lo on, below x, are cleaned
abbrev pub invariant-loop-x : goal.invariant-loop-x
invariant-loop-x l = Cleans (asked_by l.self) (table_ends l.self.search 0 l.table.0) l.lo l.x l.initial.pool l.pool
