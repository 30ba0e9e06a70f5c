use Prim.Native.Nat.{ℕ, ◌+◌}
use mathlib.Core.Path.{sym, subst}
use native.Mathlib.Omega.{arith}
use Rattle.gather.specs.Ends.{OneRun}
use Rattle.clean.proofs.Entries.{cleans_join}
use Rattle.clean.proofs.Runs.{run_page}
use Rattle.clean.proofs.Cleaning.clean_run.Goals as goal

pub loop-x-preserved : goal.loop-x-preserved
loop-x-preserved c =
    let a = c.args in
    let k = a.self.now in
    let l = c.loop-x in
    let r = c.clean_at.new.pool in
    let run = subst (λ (n : ℕ). OneRun k.search.page a.table.0 k.search.base.0 n a.lo a.hi) (sym l.auto.pool) c.requires.3 in
    cleans_join _ _ a.lo l.x (l.x + 1) a.pool.now l.pool r l.auto.x (omega arith) l.invariant
    (run_page k a.table.0 a.lo a.hi c.requires.1 l.x l.auto.x (omega arith) l.pool run _ (omega (arith, c.entry_of.ensures.0)) r c.clean_at.ensures)
