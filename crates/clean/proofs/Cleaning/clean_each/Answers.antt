use Prim.Native.Nat.{◌+◌}
use mathlib.Core.Path.{sym, ap, ◌∙◌}
use native.Mathlib.Omega.{arith}
use Rattle.lookup.specs.Steps.{fetched}
use Rattle.clean.proofs.Entries.{cleans_join}
use Rattle.clean.proofs.Runs.{page_abort, page_at}
use Rattle.clean.proofs.Cleaning.clean_each.Goals as goal

pub loop-x-preserved-in_default : goal.loop-x-preserved-in_default
loop-x-preserved-in_default c =
    let a = c.args in
    let k = a.self.now in
    let l = c.loop-x in
    cleans_join _ _ a.lo l.x (l.x + 1) a.pool.now l.pool l.pool l.auto.x (omega arith) l.invariant
    (page_abort k a.table.0 a.lo a.hi c.requires.1 l.x l.auto.x (omega arith) l.pool
    (ap (fetched k.search.ee l.pool k.search.base.0) (sym c.entry_of-entry.ensures.0) ∙ sym c.fetch.ensures ∙ c.in_default.is))

pub loop-x-preserved : goal.loop-x-preserved
loop-x-preserved c =
    let a = c.args in
    let k = a.self.now in
    let l = c.loop-x in
    let e = c.entry_of-entry.ensures.0 in
    let r = c.clean_at.new.pool in
    cleans_join _ _ a.lo l.x (l.x + 1) a.pool.now l.pool r l.auto.x (omega arith) l.invariant
    (page_at k a.table.0 a.lo a.hi c.requires.1 l.x l.auto.x (omega arith) l.pool c.in-Some.v _
    (ap (fetched k.search.ee l.pool k.search.base.0) (sym e) ∙ sym c.fetch.ensures ∙ c.in-Some.is) (omega (arith, e)) r c.clean_at.ensures)
