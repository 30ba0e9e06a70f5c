-- The loop of gather keeps: the pages from lo on, below at, are noted.
use Rattle.std.proofs.Common.{◌+◌, ◌*◌, ◌≤◌, ◌-◌}
use Rattle.bitmap.specs.Map.{Raises}
use Rattle.gather.specs.Ends.{noted}
use Rattle.gather.specs.Search.{table_ends}
use Rattle.gather.proofs.Search.+gather_gather_entry.Given as goal

abbrev pub decreases-gather : goal.decreases-gather
decreases-gather l = 2 * l.left + 1

abbrev pub decreases-gather_entry : goal.decreases-gather_entry
decreases-gather_entry l = 2 * l.left

abbrev pub invariant-gather-loop-at : goal.invariant-gather-loop-at
invariant-gather-loop-at l =
    (l.lo ≤ l.at) × (l.at ≤ l.hi) × Raises (noted (table_ends l.fn.self l.left l.table.0 l.pool) l.fn.self.from l.lo l.at) l.initial.map l.map

abbrev pub decreases-gather-loop-at : goal.decreases-gather-loop-at
decreases-gather-loop-at l = l.hi - l.at
