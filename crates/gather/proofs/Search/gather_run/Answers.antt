use Prim.Native.Nat.{◌+◌, ◌*◌, ◌-◌}
use mathlib.Core.Path.{◌≡◌}
use native.Mathlib.Omega.{arith}
use Rattle.gather.specs.Ends.{entry_for}
use Rattle.gather.specs.Search.{table_ends}
use Rattle.gather.proofs.Notes.{noted_join, noted_run}
use Rattle.gather.proofs.Search.gather_run.Goals as goal

pub loop-x-preserved : goal.loop-x-preserved
loop-x-preserved c =
    let a = c.args in
    let k = a.self.now in
    let l = c.loop-x in
    let e : c.entry_of.result.0 - k.base.0 + 8 * (l.x - a.lo) ≡ entry_for k.page 0 a.table.0 a.lo - k.base.0 + 8 * (l.x - a.lo) = omega (arith, c.entry_of.ensures.0) in
    noted_join (table_ends k 0 a.table.0 a.pool.now) k.from a.lo l.x (l.x + 1) l.auto.x (omega arith) l.invariant
    (noted_run k.base k.limit k.page k.ee a.pool.now a.table.0 a.lo a.hi k.from c.requires.3 l.x _ c.load-v.result l.auto.x (omega arith)
    e c.load-v.ensures (omega (arith, c.requires.1.begin)) c.note.ensures)
