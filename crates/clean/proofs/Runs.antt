-- A table of the last level, page by page.
use Prim.Native.Nat.{ℕ, ◌+◌, ◌*◌, ◌-◌, ◌<◌, ◌≤◌}
use mathlib.Core.List.{List}
use mathlib.Core.Path.{◌≡◌, refl, ap, ◌∙◌}
use native.Mathlib.Omega.{arith}
use lib.ListN.{length}
use Rattle.std.specs.Prelude.{Some, None}
use Rattle.descriptor.specs.Bytes.{desc}
use Rattle.lookup.specs.Steps.{fetched}
use Rattle.gather.specs.declared.Search.{Search}
use Rattle.gather.specs.Ends.{pages_in, entry_for, OneRun}
use Rattle.gather.specs.Search.{walks_of, table_ends, entry_ends}
use Rattle.gather.proofs.Ends.{one_page, fetched_at, entry_aligned, run_entry}
use Rattle.clean.specs.declared.Cleaning.{Cleaning}
use Rattle.clean.specs.Clean.{cleaned_at, Cleans, Cleanable}
use Rattle.clean.specs.Cleaning.{asked_by}
use Rattle.clean.proofs.Entries.{cleans_abort, cleans_entry, cleans_to, page_cleaned}

-- page x of a table, over a pool
module _ (c : Cleaning) (table lo hi : ℕ) (able : Cleanable (asked_by c) table lo hi) (x : ℕ) (p : lo ≤ x) (h : x < hi) (q : List ℕ) where
  abbrev s : Search
  s = c.search

  abbrev a : ℕ
  a = entry_for c.search.page 0 table x

  abbrev Page : List ℕ → Type 0
  Page r = Cleans (asked_by c) (table_ends s 0 table) x (x + 1) q r

  from_entry : (r : List ℕ) → Cleans (asked_by c) (entry_ends s 0 a) x (x + 1) q r → Page r
  from_entry r = cleans_entry (asked_by c) (walks_of s) (λ first. fetched s.ee first s.base.0) 0 table a x (x + 1) q r refl (one_page (pages_in s.page 0) x)

  -- its entry is not in the pool
  pub page_abort : fetched s.ee q s.base.0 a ≡ None → Page q
  page_abort u = from_entry q (cleans_abort s.ee s.base s.limit s.page s.from (c.to - s.from) s.paged 0 a x (x + 1) q u)

  -- its entry is in the pool, at an offset
  pub page_at : (w at : ℕ) → fetched s.ee q s.base.0 a ≡ Some w → at ≡ a - s.base.0 → (r : List ℕ) → r ≡ cleaned_at s.ee s.page s.limit.0 at q → Page r
  page_at w at found e r f =
      cleans_to (f ∙ ap (λ (i : ℕ). cleaned_at s.ee s.page s.limit.0 i q) e)
      (from_entry _ (page_cleaned s.ee s.base s.limit s.page s.from (c.to - s.from) s.paged a x q able_here w found))
    where
      able_here : Cleanable (asked_by c) a x (x + 1)
      able_here = record {
        begin = omega (arith, able.begin);
        end = omega (arith, able.end);
        base_aligned = able.base_aligned;
        aligned = entry_aligned s.page 0 table x able.aligned;
      }

  -- its entry is one of a run
  pub run_page : OneRun s.page table s.base.0 (length q) lo hi → (at : ℕ) → at ≡ entry_for s.page 0 table lo - s.base.0 + 8 * (x - lo) → (r : List ℕ)
      → r ≡ cleaned_at s.ee s.page s.limit.0 at q → Page r
  run_page run at e =
      let goes = run_entry s.page table s.base.0 (length q) lo hi run x p h in
      page_at (desc s.ee q (a - s.base.0)) at (fetched_at s.ee q s.base.0 a (omega (arith, goes, run.least)) (omega (arith, goes, run.most))) (omega (arith, e, goes, run.least))
