use Prim.Native.Nat.{ℕ, ◌-◌, ◌%◌, ◌≤◌}
use mathlib.Core.Bool.{true, false, ◌&&◌}
use mathlib.Core.List.{List}
use mathlib.Core.Path.{◌≡◌, sym, ap, ◌∙◌}
use native.Mathlib.Omega.{arith}
use Rattle.descriptor.specs.Bytes.{put}
use Rattle.lookup.specs.declared.Next.TheVariants.{Table, Leaf}
use Rattle.lookup.specs.Steps.{fetched, decoded, Sound}
use Rattle.lookup.proofs.Decoding.{is_table_lem, aligned8}
use Rattle.gather.specs.Ends.{dirty, pages_in, OneEntry}
use Rattle.gather.specs.Search.{walks_of, table_ends}
use Rattle.gather.proofs.Ends.{entry_aligned}
use Rattle.clean.specs.Clean.{whole_in}
use Rattle.clean.specs.Cleaning.{asked_by}
use Rattle.clean.proofs.Entries.{cleans_join, cleans_to, cleans_entry, cleans_abort, cleans_fault, cleans_table, cleans_left, cleans_set}
use Rattle.clean.proofs.Cleaning.+clean_clean_entry.Goals as goal

-- ---- a table, entry by entry

pub clean-clean_entry-requires : goal.clean-clean_entry-requires
clean-clean_entry-requires t c =
    let a = c.args in
    let h = c.requires in
    let e = c.stop-next.ensures in
    let r = c.entry_of-entry in
    let z : r.result.0 % 8 ≡ 0 = rw r.ensures.0 (entry_aligned a.self.now.search.page a.left a.table.0 c.loop-at.at h.1.aligned) in (
      omega arith,
      (
        record { paged = h.0.paged; low = h.0.low; forward = omega (arith, e.entry.some); small = omega (arith, e.most, h.0.small) },
        record { begin = omega (arith, h.1.begin); end = omega (arith, e.most, h.1.end); base_aligned = h.1.base_aligned; aligned = z },
        rw c.pages_in-w.ensures.0 at e.entry,
        r.ensures.1,
      ),
    )

pub clean-loop-at-preserved : goal.clean-loop-at-preserved
clean-loop-at-preserved t c =
    let a = c.args in
    let l = c.loop-at in
    let e = c.stop-next in
    let k = a.self.now in
    let s = k.search in
    let r = c.clean_entry.new.pool in
    let one : OneEntry (pages_in s.page a.left) l.at e.result = rw c.pages_in-w.ensures.0 at e.ensures.entry in
    let entry =
    cleans_entry (asked_by k) (walks_of s) (λ (first : List ℕ). fetched s.ee first s.base.0) a.left a.table.0 c.entry_of-entry.result.0 l.at e.result l.pool r
    c.entry_of-entry.ensures.0 one c.clean_entry.ensures in
    let past : l.at ≤ e.result = omega (arith, e.ensures.entry.some) in
    (omega arith, e.ensures.most, cleans_join (asked_by k) (table_ends s a.left a.table.0) a.lo l.at e.result a.pool.now l.pool r l.invariant.0 past l.invariant.2 entry)

-- ---- an entry

pub clean_entry-returns-in_default : goal.clean_entry-returns-in_default
clean_entry-returns-in_default t c =
    let a = c.args in
    let k = a.self.now in
    let s = k.search in
    cleans_abort s.ee s.base s.limit s.page s.from (k.to - s.from) s.paged a.left a.entry.0 a.lo a.hi a.pool.now (sym c.fetch.ensures ∙ c.in_default.is)

pub clean_entry-clean-requires : goal.clean_entry-clean-requires
clean_entry-clean-requires t c =
    let a = c.args in
    let p = c.requires in
    let s = a.self.now.search in
    let u = c.in-Table.table in
    let h : Sound a.left (Table u) = rw c.in-Table.is at c.decode.ensures.1 in
    let d = is_table_lem s.page s.limit.0 a.left c.in-Some.v u (sym c.decode.ensures.0 ∙ c.in-Table.is) in (
      omega arith,
      (
        record { paged = p.0.paged; low = omega arith; forward = p.0.forward; small = p.0.small },
        record { begin = p.1.begin; end = p.1.end; base_aligned = p.1.base_aligned; aligned = aligned8 s.page u.0 s.paged d.aligned },
        h.0,
      ),
    )

pub clean_entry-returns-in-Fault : goal.clean_entry-returns-in-Fault
clean_entry-returns-in-Fault t c =
    let a = c.args in
    let p = c.requires in
    let k = a.self.now in
    let s = k.search in
    cleans_fault s.ee s.base s.limit s.page s.from (k.to - s.from) s.paged a.left a.entry.0 a.lo a.hi a.pool.now p.1.base_aligned p.1.aligned c.in-Some.v
    (sym c.fetch.ensures ∙ c.in-Some.is) c.in-Fault.field-0 (sym c.decode.ensures.0 ∙ c.in-Fault.is)

pub clean_entry-returns-in-Table : goal.clean_entry-returns-in-Table
clean_entry-returns-in-Table t c =
    let a = c.args in
    let p = c.requires in
    let k = a.self.now in
    let s = k.search in
    let u = c.in-Table.table in
    let h : Sound a.left (Table u) = rw c.in-Table.is at c.decode.ensures.1 in
    cleans_table s.ee s.base s.limit s.page s.from (k.to - s.from) s.paged a.left a.entry.0 a.lo a.hi a.pool.now p.1.base_aligned p.1.aligned c.in-Some.v
    (sym c.fetch.ensures ∙ c.in-Some.is) u (sym c.decode.ensures.0 ∙ c.in-Table.is) h.1 c.clean.new.pool c.clean.ensures

pub clean_entry-returns-then-dirty-whole_in : goal.clean_entry-returns-then-dirty-whole_in
clean_entry-returns-then-dirty-whole_in t c =
    let a = c.args in
    let p = c.requires in
    let k = a.self.now in
    let s = k.search in
    let v = c.in-Some.v in
    let d : decoded s.page s.limit.0 a.left v ≡ Leaf = sym c.decode.ensures.0 ∙ c.in-Leaf.is in
    let wide : c.pages_in.result ≡ pages_in s.page a.left = c.pages_in.ensures.0 in
    let y : (dirty v && whole_in s.from (k.to - s.from) (pages_in s.page a.left) a.lo) ≡ true = rw (← wide, ← c.dirty.ensures, ← c.whole_in.ensures) c.if-dirty-whole_in.true in
    cleans_to (c.store.ensures ∙ ap (put s.ee a.pool.now (a.entry.0 - s.base.0)) c.set_bit.ensures)
    (cleans_set s.ee s.base s.limit s.page s.from (k.to - s.from) s.paged a.left a.entry.0 a.lo a.hi a.pool.now p.1.base_aligned p.1.aligned v (sym c.fetch.ensures ∙ c.in-Some.is)
    d p.2 y)

pub clean_entry-returns-else-dirty-whole_in : goal.clean_entry-returns-else-dirty-whole_in
clean_entry-returns-else-dirty-whole_in t c =
    let a = c.args in
    let p = c.requires in
    let k = a.self.now in
    let s = k.search in
    let v = c.in-Some.v in
    let d : decoded s.page s.limit.0 a.left v ≡ Leaf = sym c.decode.ensures.0 ∙ c.in-Leaf.is in
    let wide : c.pages_in.result ≡ pages_in s.page a.left = c.pages_in.ensures.0 in
    let n : (dirty v && whole_in s.from (k.to - s.from) (pages_in s.page a.left) a.lo) ≡ false = rw (← wide, ← c.dirty.ensures, ← c.whole_in.ensures) c.if-dirty-whole_in.false in
    cleans_left s.ee s.base s.limit s.page s.from (k.to - s.from) s.paged a.left a.entry.0 a.lo a.hi a.pool.now p.1.base_aligned p.1.aligned v
    (sym c.fetch.ensures ∙ c.in-Some.is) d p.2 n
