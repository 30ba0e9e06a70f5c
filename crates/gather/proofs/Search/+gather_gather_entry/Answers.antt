use Prim.Native.Nat.{ℕ, ◌≤◌}
use mathlib.Core.Path.{sym, subst, ◌∙◌}
use native.Mathlib.Omega.{arith}
use Rattle.lookup.specs.Steps.{fetched, Sound}
use Rattle.lookup.specs.declared.Next.TheVariants.{Table}
use Rattle.gather.specs.Ends.{OneEntry}
use Rattle.gather.specs.Search.{walks_of, table_ends}
use Rattle.gather.proofs.Notes.{noted_join, noted_entry, noted_abort, noted_fault, noted_table, noted_leaf_clean, noted_leaf_dirty}
use Rattle.gather.proofs.Search.+gather_gather_entry.Goals as goal

pub gather-loop-at-preserved : goal.gather-loop-at-preserved
gather-loop-at-preserved t c =
    let a = c.args in
    let k = a.self.now in
    let l = c.loop-at in
    let s = c.stop-next in
    let one = subst (λ (w : ℕ). OneEntry w l.at s.result) c.pages_in-w.ensures.0 s.ensures.entry in
    let r = noted_entry (walks_of k) (fetched k.ee a.pool.now k.base.0) a.left k.from a.table.0 c.entry_of-entry.result.0 l.at s.result c.entry_of-entry.ensures.0 one c.gather_entry.ensures in
    let past : l.at ≤ s.result = omega (arith, s.ensures.entry.some) in
    (omega arith, s.ensures.most, noted_join (table_ends k a.left a.table.0 a.pool.now) k.from a.lo l.at s.result l.invariant.0 past l.invariant.2 r)

pub gather_entry-returns-in_default : goal.gather_entry-returns-in_default
gather_entry-returns-in_default t c =
    let a = c.args in
    let k = a.self.now in
    noted_abort (walks_of k) (fetched k.ee a.pool.now k.base.0) a.left k.from a.entry.0 a.lo a.hi a.map.now (sym c.fetch.ensures ∙ c.in_default.is)

pub gather_entry-returns-in-Fault : goal.gather_entry-returns-in-Fault
gather_entry-returns-in-Fault t c =
    let a = c.args in
    let k = a.self.now in
    noted_fault (walks_of k) (fetched k.ee a.pool.now k.base.0) a.left k.from a.entry.0 a.lo a.hi c.in-Some.v
    (sym c.fetch.ensures ∙ c.in-Some.is) c.in-Fault.field-0 a.map.now (sym c.decode.ensures.0 ∙ c.in-Fault.is)

pub gather_entry-returns-in-Table : goal.gather_entry-returns-in-Table
gather_entry-returns-in-Table t c =
    let a = c.args in
    let k = a.self.now in
    let h : Sound a.left (Table c.in-Table.table) = rw c.in-Table.is at c.decode.ensures.1 in
    noted_table (walks_of k) (fetched k.ee a.pool.now k.base.0) a.left k.from a.entry.0 a.lo a.hi c.in-Some.v
    (sym c.fetch.ensures ∙ c.in-Some.is) c.in-Table.table (sym c.decode.ensures.0 ∙ c.in-Table.is) h.1 c.gather.ensures

pub gather_entry-returns-then-dirty : goal.gather_entry-returns-then-dirty
gather_entry-returns-then-dirty t c =
    let a = c.args in
    let k = a.self.now in
    noted_leaf_dirty (walks_of k) (fetched k.ee a.pool.now k.base.0) a.left k.from a.entry.0 a.lo a.hi c.in-Some.v
    (sym c.fetch.ensures ∙ c.in-Some.is) (sym c.decode.ensures.0 ∙ c.in-Leaf.is) (sym c.dirty.ensures ∙ c.if-dirty.true) c.raise_run.ensures

pub gather_entry-returns-else-dirty : goal.gather_entry-returns-else-dirty
gather_entry-returns-else-dirty t c =
    let a = c.args in
    let k = a.self.now in
    noted_leaf_clean (walks_of k) (fetched k.ee a.pool.now k.base.0) a.left k.from a.entry.0 a.lo a.hi c.in-Some.v
    (sym c.fetch.ensures ∙ c.in-Some.is) a.map.now (sym c.decode.ensures.0 ∙ c.in-Leaf.is) (sym c.dirty.ensures ∙ c.if-dirty.false)
