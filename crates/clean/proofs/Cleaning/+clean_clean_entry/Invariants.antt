-- The levels left fall from an entry to a table, and an entry comes after its table.
use Rattle.std.proofs.Common.{◌+◌, ◌*◌, ◌≤◌, ◌-◌}
use Rattle.gather.specs.Search.{table_ends}
use Rattle.clean.specs.Clean.{Cleans}
use Rattle.clean.specs.Cleaning.{asked_by}
use Rattle.clean.proofs.Cleaning.+clean_clean_entry.Given as goal

abbrev pub decreases-clean : goal.decreases-clean
decreases-clean l = 2 * l.left + 1

abbrev pub decreases-clean_entry : goal.decreases-clean_entry
decreases-clean_entry l = 2 * l.left

abbrev pub invariant-clean-loop-at : goal.invariant-clean-loop-at
invariant-clean-loop-at l =
    (l.lo ≤ l.at) × (l.at ≤ l.hi) × Cleans (asked_by l.fn.self) (table_ends l.fn.self.search l.left l.table.0) l.lo l.at l.initial.pool l.pool

abbrev pub decreases-clean-loop-at : goal.decreases-clean-loop-at
decreases-clean-loop-at l = l.hi - l.at
