use mathlib.Core.Path.{sym, ap, ◌∙◌}
use Rattle.lookup.specs.Trace.{shown}
use Rattle.lookup.specs.Steps.{pool_reader}
use Rattle.lookup.proofs.Levels.{locate_first, locate_go}
use Rattle.lookup.proofs.Packing.{descent}
use Rattle.lookup.proofs.locate.Goals as goal

pub unpack-requires : goal.unpack-requires
unpack-requires c =
    let a = c.args in
    let k = c.context_of-c.result in
    descent k a.r.ee a.pool.now k.base.0 c.first_left-left.result c.in-Ok.root.0 c.level.result c.enter-n.result c.first_left-left.ensures.1 c.level.ensures c.enter-n.ensures

pub returns-in-Err : goal.returns-in-Err
returns-in-Err c =
    let a = c.args in
    c.failed.ensures ∙ sym (ap (shown 0) (locate_first a.r (pool_reader a.r a.pool.now) a.a.0 _ (sym c.first_table.ensures.0 ∙ c.in-Err.is)))

pub returns-in-Ok : goal.returns-in-Ok
returns-in-Ok c =
    let a = c.args in
    let g = c.range_of-range in
    let k = c.context_of-c in
    let left = c.first_left-left in
    c.unpack.ensures (descent k.result a.r.ee a.pool.now k.result.base.0 left.result c.in-Ok.root.0 c.level.result c.enter-n.result left.ensures.1 c.level.ensures c.enter-n.ensures)
    ∙ sym (ap (shown 0) (locate_go a.r a.pool.now a.a.0 g.result g.ensures.0 c.in-Ok.root (sym c.first_table.ensures.0 ∙ c.in-Ok.is) k.result k.ensures.0 left.result left.ensures.0))
