use native.Mathlib.Omega.{arith}
use mathlib.Core.Path.{◌∙◌}
use Rattle.walk.specs.Walk.{traced}
use Rattle.walk.proofs.Ends.{fault_outcome_lem, fault_kept, kept_outcome, stored_outcome, leaf_kept, leaf_found}
use Rattle.walk.proofs.walk_leaf.Goals as goal

pub judge-verdict-requires : goal.judge-verdict-requires
unfolding traced
judge-verdict-requires c =
    let a = c.args in
    let h = leaf_found a.r a.a a.pool.now c.locate-located.result c.locate-located.ensures c.in-Ok.found c.in-Ok.is c.requires.0 c.requires.1 in
    (c.requires.2, h.reached.low)

pub overflow_sub-offset : goal.overflow_sub-offset
unfolding traced
overflow_sub-offset c =
    let a = c.args in
    let h = leaf_found a.r a.a a.pool.now c.locate-located.result c.locate-located.ensures c.in-Ok.found c.in-Ok.is c.requires.0 c.requires.1 in
    h.inside.least

pub store-requires : goal.store-requires
unfolding traced
store-requires c =
    let a = c.args in
    let h = leaf_found a.r a.a a.pool.now c.locate-located.result c.locate-located.ensures c.in-Ok.found c.in-Ok.is c.requires.0 c.requires.1 in
    omega (arith, h.inside.least, h.inside.most)

pub returns-in-Err : goal.returns-in-Err
unfolding traced
returns-in-Err c =
    let a = c.args in
    let l = c.locate-located in (
      rw c.of_lookup.ensures (fault_outcome_lem a.r a.a a.pool.now l.result l.ensures c.in-Err.fault c.in-Err.is),
      fault_kept a.r a.a a.pool.now l.result l.ensures c.in-Err.fault c.in-Err.is,
    )

pub returns-then-verdict : goal.returns-then-verdict
unfolding traced
returns-then-verdict c =
    let a = c.args in
    let l = c.locate-located in
    let j = c.judge-verdict in (
      stored_outcome a.r a.a a.pool.now l.result l.ensures c.in-Ok.found c.in-Ok.is j.result j.ensures c.if-verdict.true _ c.store.ensures,
      c.keep-kept.ensures ∙ leaf_kept a.r a.a a.pool.now l.result l.ensures c.in-Ok.found c.in-Ok.is j.result j.ensures,
    )

pub returns-else-verdict : goal.returns-else-verdict
unfolding traced
returns-else-verdict c =
    let a = c.args in
    let l = c.locate-located in
    let j = c.judge-verdict in (
      kept_outcome a.r a.a a.pool.now l.result l.ensures c.in-Ok.found c.in-Ok.is j.result j.ensures c.if-verdict.false,
      c.keep-kept.ensures ∙ leaf_kept a.r a.a a.pool.now l.result l.ensures c.in-Ok.found c.in-Ok.is j.result j.ensures,
    )
