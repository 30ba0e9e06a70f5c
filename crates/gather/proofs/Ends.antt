-- Where the pages of a table and of an entry end: page by page, entry by entry, and whatever the tables' sum.
use Prim.Native.Nat.{ℕ, zero, suc, ◌+◌, ◌*◌, ◌-◌, ◌/◌, ◌%◌, ◌^◌, ◌<◌, ◌≤◌}
use mathlib.Core.Path.{◌≡◌, refl, sym, ap, ◌∙◌}
use native.Mathlib.Nat.{div-mul-le_self, lt-div-mul-add, div-eq_of_lt-le, add-mul, div-add-mod', div-one, mul-zero, mod-add-mod, mod-eq_of_lt}
use native.Mathlib.Omega.{arith}
use lib.ListN.{length}
use lib.Pow.{pow_pos, shl-shr, shr-shr}
use borrow.Author.Tests.{le-leb}
use mathlib.Core.Bool.{Bool}
use mathlib.Core.List.{List}
use Rattle.descriptor.specs.Bytes.{desc}
use Rattle.vmsa.specs.Fields.{no_tables, with_table}
use Rattle.geometry.specs.Geometry.{level_of, page_size, shift_of, span, stride_bits}
use Rattle.vmsa.specs.declared.PhysAddr.{PhysAddr}
use Rattle.vmsa.specs.declared.FaultKind.{FaultKind}
use Rattle.vmsa.specs.declared.FaultKind.TheVariants.{ExternalAbort}
use Rattle.std.specs.Prelude.{Option, Some, None}
use Rattle.lookup.specs.declared.Next.{Next}
use Rattle.lookup.specs.declared.Next.TheVariants as next
use Rattle.lookup.specs.declared.Context.{Context}
use Rattle.lookup.specs.Trace.{End, fault, leaf, Trace, ended}
use Rattle.lookup.specs.Steps.{fetched, entry_at, decoded, onward, on_word, followed, entered, descend}
use Rattle.lookup.proofs.Levels.{down_up}
use Rattle.gather.specs.Ends.{dirty_end, leaf_dirty, pages_in, untabled, Walks, context_for, entry_for, table_end, entry_end, OneEntry, OneRun}

-- ---- the tables' sum has no say

onward_untabled : (below : ℕ → ℕ → Trace) → ((s r t : ℕ) → untabled (below s t).end ≡ untabled (below r t).end) → (s r left a v : ℕ) (x : Next)
    → untabled (onward below s left a v x).end ≡ untabled (onward below r left a v x).end
onward_untabled below h s r left a v (next.Fault kind) = refl
onward_untabled below h s r left a v (next.Table table) = h (with_table s v) (with_table r v) table.0
onward_untabled below h s r left a v next.Leaf = refl

module _ (c : Context) (read : ℕ → Option ℕ) where
  word_untabled : (n s r a : ℕ) → ((x y t : ℕ) → untabled (descend c read n x t).end ≡ untabled (descend c read n y t).end) → (w : Option ℕ)
      → untabled (on_word (ended (fault ExternalAbort (level_of n))) (followed c (descend c read n) s n a) w).end
      ≡ untabled (on_word (ended (fault ExternalAbort (level_of n))) (followed c (descend c read n) r n a) w).end
  unfolding followed
  word_untabled n s r a h (Some v) = onward_untabled (descend c read n) h s r n a v (decoded c.page c.limit.0 n v)
  word_untabled n s r a h None = refl

  pub descend_untabled : (n s r t : ℕ) → untabled (descend c read n s t).end ≡ untabled (descend c read n r t).end
  unfolding descend entered
  descend_untabled zero s r t = refl
  descend_untabled (suc n) s r t = word_untabled n s r (entry_at c n t) (descend_untabled n) (read (entry_at c n t))

pub untabled_dirty : (e : End) → dirty_end (untabled e) ≡ dirty_end e
untabled_dirty (fault kind level) = refl
untabled_dirty (leaf a l) = refl

-- ---- the entry of a page

-- the walk's entry is that of the page
pub entry_at_lem : (k : Walks) (left table x : ℕ) → entry_at (context_for k x) left table ≡ entry_for k.page left table x
unfolding entry_at entry_for span shift_of pages_in page_size stride_bits
entry_at_lem k left table x =
    let p = k.page in
    ap (λ (i : ℕ). table + 8 * (i % 2 ^ (p - 3))) (sym (shr-shr (x * 2 ^ p) p ((p - 3) * left)) ∙ ap (λ (i : ℕ). i / 2 ^ ((p - 3) * left)) (shl-shr x p))

-- pages of one entry
pub entry_same : (p left table x y : ℕ) → x / pages_in p left ≡ y / pages_in p left → entry_for p left table x ≡ entry_for p left table y
unfolding entry_for
entry_same p left table x y e = ap (λ (i : ℕ). table + 8 * (i % 2 ^ stride_bits p)) e

-- entries lie at multiples of 8
pub entry_aligned : (p left table x : ℕ) → table % 8 ≡ 0 → entry_for p left table x % 8 ≡ 0
unfolding entry_for
entry_aligned p left table x e = omega arith

-- from a table on, by way of the page's entry
pub table_end_lem : (k : Walks) (read : ℕ → Option ℕ) (left table x : ℕ) → table_end k read left table x ≡ entry_end k read left (entry_for k.page left table x) x
unfolding table_end entry_end descend entered
table_end_lem k read left table x = ap (λ (a : ℕ). entry_end k read left a x) (entry_at_lem k left table x)

-- by way of the one entry of all pages from lo on, below hi
pub table_entry : (k : Walks) (read : ℕ → Option ℕ) (left table lo hi : ℕ) → OneEntry (pages_in k.page left) lo hi → (x : ℕ) → lo ≤ x → x < hi
    → table_end k read left table x ≡ entry_end k read left (entry_for k.page left table lo) x
table_entry k read left table lo hi one x p q =
    table_end_lem k read left table x ∙ ap (λ (a : ℕ). entry_end k read left a x) (entry_same k.page left table x lo (one.same x p q))

-- what a walk finds from a table on, whatever the sum of the tables above it
pub table_any : (k : Walks) (read : ℕ → Option ℕ) (left table x s : ℕ) → untabled (descend (context_for k x) read (suc left) s table).end ≡ table_end k read left table x
unfolding table_end
table_any k read left table x s = descend_untabled (context_for k x) read (suc left) s no_tables table

-- ---- from an entry on, by what stands there

module _ (k : Walks) (read : ℕ → Option ℕ) (left a x : ℕ) where
  pub end_abort : read a ≡ None → entry_end k read left a x ≡ fault ExternalAbort (level_of left)
  unfolding entry_end
  end_abort e = rw (e, entry_end)

  end_value : (v : ℕ) → read a ≡ Some v → entry_end k read left a x ≡ untabled (followed (context_for k x) (descend (context_for k x) read left) no_tables left a v).end
  unfolding entry_end
  end_value v e = rw (e, entry_end)

  pub end_fault_lem : (v : ℕ) (kind : FaultKind) → read a ≡ Some v → decoded k.page k.limit.0 left v ≡ next.Fault kind → entry_end k read left a x ≡ fault kind (level_of left)
  unfolding followed
  end_fault_lem v kind e d = rw (end_value v e, d)

  pub end_leaf : (v : ℕ) → read a ≡ Some v → decoded k.page k.limit.0 left v ≡ next.Leaf → entry_end k read left a x ≡ leaf a (record { value = v; left = left; tables = no_tables })
  unfolding followed
  end_leaf v e d = rw (end_value v e, d)

  end_below : (v : ℕ) (table : PhysAddr) → read a ≡ Some v → decoded k.page k.limit.0 left v ≡ next.Table table
      → entry_end k read left a x ≡ untabled (descend (context_for k x) read left (with_table no_tables v) table.0).end
  unfolding followed
  end_below v table e d = rw (end_value v e, d)

  pub end_table : (v : ℕ) (table : PhysAddr) → read a ≡ Some v → decoded k.page k.limit.0 left v ≡ next.Table table → 0 < left → entry_end k read left a x ≡ table_end k read (left - 1) table.0 x
  end_table v table e d h =
      end_below v table e d
      ∙ ap (λ (n : ℕ). untabled (descend (context_for k x) read n (with_table no_tables v) table.0).end) (sym (down_up left h))
      ∙ table_any k read (left - 1) table.0 x (with_table no_tables v)

  -- an entry of the last level has no table below it: it is dirty where it is the page's leaf and says so
  pub end_dirty : (v : ℕ) → read a ≡ Some v → left ≡ 0 → dirty_end (entry_end k read left a x) ≡ leaf_dirty v (decoded k.page k.limit.0 left v)
  unfolding followed descend
  end_dirty v e z = rw (end_value v e, z) (by (decoded k.page k.limit.0 0 v))
    where
      by : (n : Next) → dirty_end (untabled (onward (descend (context_for k x) read 0) no_tables 0 a v n).end) ≡ leaf_dirty v n
      by (next.Fault kind) = refl
      by (next.Table table) = refl
      by next.Leaf = refl

-- a descriptor wholly in the pool is read
pub fetched_at : (ee : Bool) (pool : List ℕ) (base a : ℕ) → base ≤ a → a + 8 ≤ base + length pool → fetched ee pool base a ≡ Some (desc ee pool (a - base))
unfolding fetched
fetched_at ee pool base a l h = rw (le-leb base a l, le-leb (a + 8) (base + length pool) h)

-- ---- the end of an entry's pages

-- a page by itself is of one entry
pub one_page : (w x : ℕ) → OneEntry w x (x + 1)
one_page w x = record { some = omega arith; same = λ y p q. ap (λ (z : ℕ). z / w) (omega arith) }

pub stop_end : (w at : ℕ) → at - at % w + w ≡ (at / w + 1) * w
stop_end w at = let e : (at / w + 1) * w ≡ at / w * w + w = add-mul (at / w) 1 w ∙ omega arith in omega (arith, div-add-mod' at w)

pub stop_more : (w at : ℕ) → 0 < w → at < (at / w + 1) * w
stop_more w at h = let e : (at / w + 1) * w ≡ at / w * w + w = add-mul (at / w) 1 w ∙ omega arith in omega (arith, lt-div-mul-add {a = at} {b = w} h)

pub stop_same : (w at x : ℕ) → 0 < w → at ≤ x → x < (at / w + 1) * w → x / w ≡ at / w
stop_same w at x h p q = div-eq_of_lt-le w (omega (arith, div-mul-le_self at w)) q

-- an entry maps at least one page
pub pages_pos : (p left : ℕ) → 0 < pages_in p left
unfolding pages_in
pages_pos p left = pow_pos (stride_bits p * left)

-- ---- entries of the last level that lie one after another

-- at the last level an entry maps one page
entry_last : (p table x : ℕ) → entry_for p 0 table x ≡ table + 8 * (x % 2 ^ stride_bits p)
unfolding entry_for pages_in
entry_last p table x = ap (λ (i : ℕ). table + 8 * (i % 2 ^ stride_bits p)) (ap (λ (n : ℕ). x / 2 ^ n) (mul-zero (stride_bits p)) ∙ div-one x)

-- going on by d, below the next multiple of e
mod_on : (e x d : ℕ) → x % e + d < e → (x + d) % e ≡ x % e + d
mod_on e x d h = sym (mod-add-mod x e d) ∙ mod-eq_of_lt h

-- each page's entry is 8 bytes after the one before it
pub run_entry : (p table base bytes lo hi : ℕ) → OneRun p table base bytes lo hi → (x : ℕ) → lo ≤ x → x < hi → entry_for p 0 table x ≡ entry_for p 0 table lo + 8 * (x - lo)
run_entry p table base bytes lo hi one x l h =
    let e = 2 ^ stride_bits p in
    let q : x % e ≡ lo % e + (x - lo) = ap (λ (n : ℕ). n % e) (let s : x ≡ lo + (x - lo) = omega arith in s) ∙ mod_on e lo (x - lo) (omega (arith, one.onward)) in
    let a = entry_last p table x in
    let b = entry_last p table lo in
    omega (arith, a, b, q)
