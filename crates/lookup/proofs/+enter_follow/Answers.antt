use Prim.Native.Nat.{ℕ, suc, ◌-◌}
use mathlib.Core.Path.{sym, ap, ◌∙◌}
use Rattle.geometry.specs.Geometry.{level_of}
use Rattle.vmsa.specs.Fields.{table_bits, with_table}
use Rattle.vmsa.proofs.Tables.{or_bits}
use Rattle.lookup.specs.Packing.{leaf_number, joined, packed}
use Rattle.lookup.specs.Steps.{descend, Sound, fetched}
use Rattle.lookup.specs.declared.Next.TheVariants.{Table}
use Rattle.lookup.proofs.Levels.{fault_packed, table_packed, leaf_packed, abort_packed, value_packed, down_up}
use Rattle.lookup.proofs.+enter_follow.Goals as goal

pub enter-returns-in_default : goal.enter-returns-in_default
enter-returns-in_default t c =
    let a = c.args in
    let k = a.c.now in
    let read = fetched a.ee a.pool.now a.c.now.base.0 in
    c.pack.ensures
    ∙ ap (λ (number : ℕ). joined (level_of a.left) number 0 0) c.kind_number.ensures.0
    ∙ sym (abort_packed k read a.left (table_bits a.met) a.table.0
    (rw (← c.entry_at-at.ensures.0) (sym c.fetch.ensures ∙ c.in_default.is)))

pub enter-returns : goal.enter-returns
enter-returns t c =
    let a = c.args in
    let k = a.c.now in
    let read = fetched a.ee a.pool.now a.c.now.base.0 in
    c.follow.ensures
    ∙ sym (rw (← c.entry_at-at.ensures.0) at (value_packed k read a.left (table_bits a.met) a.table.0 c.in-Some.v
    (rw (← c.entry_at-at.ensures.0) (sym c.fetch.ensures ∙ c.in-Some.is))))

pub follow-returns-in-Fault : goal.follow-returns-in-Fault
follow-returns-in-Fault t c =
    let a = c.args in
    let k = a.c.now in
    let read = fetched a.ee a.pool.now a.c.now.base.0 in
    c.pack.ensures
    ∙ ap (λ (number : ℕ). joined (level_of a.left) number 0 0) c.kind_number.ensures.0
    ∙ sym (fault_packed k (descend k read a.left) (table_bits a.met) a.left a.at.0 a.v _ (sym c.decode.ensures.0 ∙ c.in-Fault.is))

pub follow-returns-in-Table : goal.follow-returns-in-Table
follow-returns-in-Table t c =
    let a = c.args in
    let k = a.c.now in
    let read = fetched a.ee a.pool.now a.c.now.base.0 in
    let table = c.in-Table.table in
    let h : Sound a.left (Table table) = rw c.in-Table.is at c.decode.ensures.1 in
    c.enter.ensures
    ∙ sym (table_packed k (descend k read a.left) (table_bits a.met) a.left a.at.0 a.v _ (sym c.decode.ensures.0 ∙ c.in-Table.is)
    ∙ ap (λ (n : ℕ). packed (descend k read n (with_table (table_bits a.met) a.v) table.0)) (sym (down_up a.left h.1))
    ∙ ap (λ (sum : ℕ). packed (descend k read (suc (a.left - 1)) sum table.0)) (sym (or_bits a.met a.v)))

pub follow-returns-in-Leaf : goal.follow-returns-in-Leaf
follow-returns-in-Leaf t c =
    let a = c.args in
    let k = a.c.now in
    let read = fetched a.ee a.pool.now a.c.now.base.0 in
    c.pack-in-Leaf.ensures
    ∙ ap (λ (sum : ℕ). joined (level_of a.left) leaf_number sum a.at.0) c.table_bits.ensures.0
    ∙ sym (leaf_packed k (descend k read a.left) (table_bits a.met) a.left a.at.0 a.v (sym c.decode.ensures.0 ∙ c.in-Leaf.is))
