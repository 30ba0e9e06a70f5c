use Prim.Native.Nat.{◌+◌}
use mathlib.Core.Path.{sym, ◌∙◌}
use native.Mathlib.Omega.{arith}
use Rattle.lookup.specs.Steps.{fetched}
use Rattle.gather.specs.Search.{walks_of, table_ends}
use Rattle.gather.proofs.Notes.{noted_join, noted_page, noted_abort, noted_value}
use Rattle.gather.proofs.Search.gather_each.Goals as goal

pub loop-x-preserved-in_default : goal.loop-x-preserved-in_default
loop-x-preserved-in_default c =
    let a = c.args in
    let k = a.self.now in
    let l = c.loop-x in
    let read = fetched k.ee a.pool.now k.base.0 in
    let e = c.entry_of-entry in
    noted_join (table_ends k 0 a.table.0 a.pool.now) k.from a.lo l.x (l.x + 1) l.auto.x (omega arith) l.invariant
    (noted_page (walks_of k) read 0 k.from a.table.0 e.result.0 l.x e.ensures.0 (noted_abort (walks_of k) read 0 k.from e.result.0 l.x (l.x + 1) l.map (sym c.fetch.ensures ∙ c.in_default.is)))

pub loop-x-preserved : goal.loop-x-preserved
loop-x-preserved c =
    let a = c.args in
    let k = a.self.now in
    let l = c.loop-x in
    let read = fetched k.ee a.pool.now k.base.0 in
    let e = c.entry_of-entry in
    noted_join (table_ends k 0 a.table.0 a.pool.now) k.from a.lo l.x (l.x + 1) l.auto.x (omega arith) l.invariant
    (noted_page (walks_of k) read 0 k.from a.table.0 e.result.0 l.x e.ensures.0
    (noted_value (walks_of k) read k.from e.result.0 l.x c.in-Some.v (sym c.fetch.ensures ∙ c.in-Some.is) (omega (arith, c.requires.1.begin)) c.note.ensures))
