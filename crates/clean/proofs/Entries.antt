-- What a cleaning leaves, entry by entry.
use Prim.Native.Nat.{ℕ, suc, ◌+◌, ◌-◌, ◌%◌, ◌^◌, ◌<◌, ◌≤◌}
use mathlib.Core.Bool.{Bool, true, false, ◌&&◌}
use mathlib.Core.List.{List}
use mathlib.Core.Path.{◌≡◌, refl, sym, ap, subst, ◌∙◌}
use native.Mathlib.Omega.{arith}
use lib.Dec.{leb, lit<}
use lib.ListN.{length}
use Rattle.descriptor.specs.Bits.{pick}
use Rattle.descriptor.specs.Bytes.{Bytes, desc, put}
use Rattle.descriptor.proofs.Tests.{and_true, clash, differ}
use Rattle.descriptor.proofs.BitLaws.{set_small}
use Rattle.descriptor.proofs.Laws.{length_put, desc_put}
use Rattle.descriptor.proofs.Numbers.{bytes_put, desc_small, put_same}
use Rattle.vmsa.specs.Fields.{set_ap2, no_tables}
use Rattle.vmsa.specs.Granules.{Paged}
use Rattle.vmsa.specs.declared.PhysAddr.{PhysAddr}
use Rattle.vmsa.specs.declared.FaultKind.{FaultKind}
use Rattle.vmsa.specs.declared.Leaf.{Leaf}
use Rattle.std.specs.Prelude.{Option, Some, None}
use Rattle.lookup.specs.declared.Next.{Next}
use Rattle.lookup.specs.declared.Next.TheVariants as next
use Rattle.lookup.specs.Trace.{End, fault, leaf}
use Rattle.lookup.specs.Steps.{fetched, decoded, descend}
use Rattle.lookup.proofs.Decoding.{table_above}
use Rattle.lookup.proofs.Reach.{Good, descend_good, InPool}
pub use Rattle.lookup.proofs.Reach.{in_pool}
use Rattle.gather.specs.Ends.{dirty, leaf_dirty, pages_in, untabled, Walks, walks, context_for, entry_for, table_end, entry_end, OneEntry}
use Rattle.gather.proofs.Ends.{one_page, fetched_at, table_entry, end_abort, end_fault_lem, end_leaf, end_table}
use Rattle.clean.specs.Clean.{pages, whole_in, Asked, asked, set_again, cleaned_by, cleaned_at, Again, Cleaned, Cleans, Cleanable}
use Rattle.clean.proofs.Laws.{pages_join, pages_none, pages_still, pages_once, pages_ext, whole_same, whole_page, again_split, again_dirty, again_decoded, cleaned_refl, cleaned_put, cleaned_by_ext, Stands}

-- ---- one part of the pages after another

pub cleans_none : (k : Asked) (ends : List ℕ → ℕ → End) (lo : ℕ) (p : List ℕ) → Cleans k ends lo lo p p
cleans_none k ends lo p = record { leaves = λ first c. sym (pages_none (cleaned_by k (ends first)) lo p); kept = λ first c. c }

pub cleans_join : (k : Asked) (ends : List ℕ → ℕ → End) (lo mid hi : ℕ) (p q r : List ℕ) → lo ≤ mid → mid ≤ hi → Cleans k ends lo mid p q → Cleans k ends mid hi q r → Cleans k ends lo hi p r
cleans_join k ends lo mid hi p q r a b x y = record {
  leaves = λ first c.
      y.leaves first (x.kept first c) ∙ ap (pages (cleaned_by k (ends first)) mid (hi - mid)) (x.leaves first c) ∙ pages_join (cleaned_by k (ends first)) lo mid hi p a b;
  kept = λ first c. y.kept first (x.kept first c);
}

-- where the walks end alike
pub cleans_ext : (k : Asked) (ends others : List ℕ → ℕ → End) (lo hi : ℕ) (p q : List ℕ)
    → ((first : List ℕ) → Cleaned k.ee first p → (x : ℕ) → lo ≤ x → x < hi → ends first x ≡ others first x) → Cleans k ends lo hi p q → Cleans k others lo hi p q
cleans_ext k ends others lo hi p q e y = record {
  leaves = λ first c.
      y.leaves first c ∙ pages_ext (cleaned_by k (ends first)) (cleaned_by k (others first)) (hi - lo) lo p (λ x s a b. cleaned_by_ext k (ends first) (others first) x s (e first c x a (omega arith)));
  kept = y.kept;
}

-- where no page's leaf is set
pub cleans_still : (k : Asked) (ends : List ℕ → ℕ → End) (lo hi : ℕ) (p : List ℕ)
    → ((first : List ℕ) → Cleaned k.ee first p → (x : ℕ) → lo ≤ x → x < hi → cleaned_by k (ends first) x p ≡ p) → Cleans k ends lo hi p p
cleans_still k ends lo hi p h = record {
  leaves = λ first c. sym (pages_still (cleaned_by k (ends first)) (hi - lo) lo p (λ x a b. h first c x a (omega arith)));
  kept = λ first c. c;
}

-- to an equal end, and to an equal pool
pub cleans_until : {k : Asked} {ends : List ℕ → ℕ → End} {lo mid hi : ℕ} {p q : List ℕ} → Cleans k ends lo mid p q → mid ≡ hi → Cleans k ends lo hi p q
cleans_until {k} {ends} {lo} {mid} {hi} {p} {q} c e = subst (λ (x : ℕ). Cleans k ends lo x p q) e c

pub cleans_to : {k : Asked} {ends : List ℕ → ℕ → End} {lo hi : ℕ} {p q r : List ℕ} → r ≡ q → Cleans k ends lo hi p q → Cleans k ends lo hi p r
cleans_to {k} {ends} {lo} {hi} {p} {q} {r} e c = subst (λ (x : List ℕ). Cleans k ends lo hi p x) (sym e) c

-- the pages of one entry of a table
pub cleans_entry : (k : Asked) (ws : Walks) (read : List ℕ → ℕ → Option ℕ) (left table a lo hi : ℕ) (p q : List ℕ) → a ≡ entry_for ws.page left table lo → OneEntry (pages_in ws.page left) lo hi
    → Cleans k (λ first. entry_end ws (read first) left a) lo hi p q → Cleans k (λ first. table_end ws (read first) left table) lo hi p q
cleans_entry k ws read left table a lo hi p q e one =
    cleans_ext k (λ first. entry_end ws (read first) left a) (λ first. table_end ws (read first) left table) lo hi p q
    (λ first c x u v. ap (λ (y : ℕ). entry_end ws (read first) left y x) e ∙ sym (table_entry ws (read first) left table lo hi one x u v))

-- ---- one page

fault_still : (k : Asked) (ends : ℕ → End) (x : ℕ) (s : List ℕ) (kind : FaultKind) (level : ℕ) → ends x ≡ fault kind level → cleaned_by k ends x s ≡ s
unfolding cleaned_by
fault_still k ends x s kind level e = ap (set_again k x s) e

leaf_set : (k : Asked) (ends : ℕ → End) (x : ℕ) (s : List ℕ) (a : ℕ) (l : Leaf) → ends x ≡ leaf a l
    → cleaned_by k ends x s ≡ pick (dirty l.value && whole_in k.from k.count (pages_in k.page l.left) x) (put k.ee s (a - k.base) (set_ap2 l.value)) s
unfolding cleaned_by
leaf_set k ends x s a l e = ap (set_again k x s) e

-- ---- what stands at an address, in the first pool and in this one

unreachable_first : (ee : Bool) (p q : List ℕ) (base a : ℕ) → length q ≡ length p → fetched ee q base a ≡ None → fetched ee p base a ≡ None
unfolding fetched
unreachable_first ee p q base a e = rw e (by (leb base a && leb (a + 8) (base + length p)))
  where
    by : (b : Bool) → pick b (Some (desc ee q (a - base))) None ≡ None → pick b (Some (desc ee p (a - base))) None ≡ None
    by true u = clash (cc)
    by false u = refl

-- ---- one entry

module _ (ee : Bool) (base limit : PhysAddr) (page from count : ℕ) (g : Paged page) (left a lo hi : ℕ) (q : List ℕ) where
  abbrev here : Asked
  here = asked ee base.0 page from count

  abbrev from_here : List ℕ → ℕ → End
  from_here first = entry_end (walks base limit page) (fetched ee first base.0) left a

  pub cleans_abort : fetched ee q base.0 a ≡ None → Cleans here from_here lo hi q q
  cleans_abort u =
      cleans_still here from_here lo hi q
      (λ first c x _ _. fault_still here (from_here first) x q _ _ (end_abort (walks base limit page) (fetched ee first base.0) left a x (unreachable_first ee first q base.0 a c.long u)))

  module _ (base8 : base.0 % 8 ≡ 0) (a8 : a % 8 ≡ 0) (w : ℕ) (found : fetched ee q base.0 a ≡ Some w) where
    at : ℕ
    at = a - base.0

    in_q : InPool ee q base.0 a w
    in_q = in_pool ee q base.0 a w found

    -- the entry in the first pool
    record First (first : List ℕ) : Type 0 where
      value : fetched ee first base.0 a ≡ Some (desc ee first at)
      fits : at + 8 ≤ length first
      again : Again (desc ee first at) w
      same : (l : ℕ) → decoded page limit.0 l (desc ee first at) ≡ decoded page limit.0 l w

    aligned : at % 8 ≡ 0
    unfolding at
    aligned = omega (arith, in_q.least)

    in_first : (first : List ℕ) → Cleaned ee first q → First first
    unfolding at
    in_first first c =
        let m : a + 8 ≤ base.0 + length first = rw c.long at in_q.most in
        let f : at + 8 ≤ length first = omega (arith, in_q.least) in
        let r : Again (desc ee first at) w = subst (Again (desc ee first at)) in_q.same (c.each at aligned f) in
        record { value = fetched_at ee first base.0 a in_q.least m; fits = f; again = r; same = λ l. sym (again_decoded page limit.0 l (desc ee first at) w g r) }

    pub cleans_fault : (kind : FaultKind) → decoded page limit.0 left w ≡ next.Fault kind → Cleans here from_here lo hi q q
    cleans_fault kind d =
        cleans_still here from_here lo hi q
        (λ first c x _ _.
        let f = in_first first c in
        fault_still here (from_here first) x q _ _ (end_fault_lem (walks base limit page) (fetched ee first base.0) left a x _ kind f.value (f.same left ∙ d)))

    pub cleans_table : (table : PhysAddr) → decoded page limit.0 left w ≡ next.Table table → 0 < left → (r : List ℕ)
        → Cleans here (λ first. table_end (walks base limit page) (fetched ee first base.0) (left - 1) table.0) lo hi q r → Cleans here from_here lo hi q r
    cleans_table table d z r =
        cleans_ext here (λ first. table_end (walks base limit page) (fetched ee first base.0) (left - 1) table.0) from_here lo hi q r
        (λ first c x _ _.
        let f = in_first first c in
        sym (end_table (walks base limit page) (fetched ee first base.0) left a x _ table f.value (f.same left ∙ d) z))

    module _ (d : decoded page limit.0 left w ≡ next.Leaf) (one : OneEntry (pages_in page left) lo hi) where
      -- a page of it, with what stands there in the first pool
      leaf_page : (first : List ℕ) → Cleaned ee first q → (x : ℕ) → lo ≤ x → x < hi → (s : List ℕ)
          → cleaned_by here (from_here first) x s ≡ pick (dirty (desc ee first at) && whole_in from count (pages_in page left) lo) (put ee s at (set_ap2 (desc ee first at))) s
      unfolding at
      leaf_page first c x p h s =
          let f = in_first first c in
          let v = desc ee first at in
          leaf_set here (from_here first) x s a (record { value = v; left = left; tables = no_tables }) (end_leaf (walks base limit page) (fetched ee first base.0) left a x v f.value (f.same left ∙ d))
          ∙ ap (λ (b : Bool). pick (dirty v && b) (put ee s at (set_ap2 v)) s) (whole_same from count (pages_in page left) x lo (one.same x p h))

      -- a leaf that is not set, or was already
      pub cleans_left : (dirty w && whole_in from count (pages_in page left) lo) ≡ false → Cleans here from_here lo hi q q
      unfolding at
      cleans_left n = cleans_still here from_here lo hi q (λ first c x p h. leaf_page first c x p h q ∙ again_split (desc ee first at) w (in_first first c).again (clean first) (already first c))
        where
          clean : (first : List ℕ) → w ≡ desc ee first at → pick (dirty (desc ee first at) && whole_in from count (pages_in page left) lo) (put ee q at (set_ap2 (desc ee first at))) q ≡ q
          clean first e = ap (λ (b : Bool). pick b (put ee q at (set_ap2 (desc ee first at))) q) (ap (λ (v : ℕ). dirty v && whole_in from count (pages_in page left) lo) (sym e) ∙ n)

          either : (b : Bool) (s t : List ℕ) → s ≡ t → pick b s t ≡ t
          either true s t e = e
          either false s t e = refl

          already : (first : List ℕ) → Cleaned ee first q → dirty (desc ee first at) ≡ true → w ≡ set_ap2 (desc ee first at)
              → pick (dirty (desc ee first at) && whole_in from count (pages_in page left) lo) (put ee q at (set_ap2 (desc ee first at))) q ≡ q
          already first c _ e =
              either (dirty (desc ee first at) && whole_in from count (pages_in page left) lo) (put ee q at (set_ap2 (desc ee first at))) q
              (ap (put ee q at) (sym e ∙ sym in_q.same) ∙ put_same ee q at c.bytes (omega (arith, in_q.least, in_q.most)))

      -- a dirty leaf that is reached whole
      module _ (y : (dirty w && whole_in from count (pages_in page left) lo) ≡ true) where
        set : List ℕ
        set = put ee q at (set_ap2 w)

        dirtied : dirty w ≡ true
        dirtied = (and_true (dirty w) (whole_in from count (pages_in page left) lo) y).0

        -- it stands in the first pool as it does here
        first_same : (first : List ℕ) → Cleaned ee first q → desc ee first at ≡ w
        first_same first c = sym (again_dirty (desc ee first at) w (in_first first c).again dirtied)

        first_set : (first : List ℕ) → Cleaned ee first q → (x : ℕ) → lo ≤ x → x < hi → (s : List ℕ) → cleaned_by here (from_here first) x s ≡ put ee s at (set_ap2 w)
        first_set first c x p h s =
            leaf_page first c x p h s
            ∙ ap (λ (v : ℕ). pick (dirty v && whole_in from count (pages_in page left) lo) (put ee s at (set_ap2 v)) s) (first_same first c)
            ∙ ap (λ (b : Bool). pick b (put ee s at (set_ap2 w)) s) y

        -- set twice it stays
        set_again_lem : Bytes q → put ee set at (set_ap2 w) ≡ set
        unfolding set at
        set_again_lem b =
            let room : at + 8 ≤ length q = omega (arith, in_q.least, in_q.most) in
            let small : set_ap2 w < 2 ^ 64 = set_small 7 w 64 (lit< tt) (subst (λ (v : ℕ). v < 2 ^ 64) in_q.same (desc_small ee q at b)) in
            ap (put ee set at) (sym (desc_put ee q at (set_ap2 w) room small)) ∙ put_same ee set at (bytes_put ee q at (set_ap2 w) b) (rw (length_put ee q at (set_ap2 w) room) room)

        pub cleans_set : Cleans here from_here lo hi q (put ee q (a - base.0) (set_ap2 w))
        unfolding set at
        cleans_set = record {
          leaves = λ first c.
              sym (pages_once (cleaned_by here (from_here first)) (hi - lo) lo q set (omega (arith, one.some)) (first_set first c lo (omega arith) one.some q)
              (λ x p h. first_set first c x p (omega arith) set ∙ set_again_lem c.bytes));
          kept = λ first c.
              subst (λ (v : ℕ). Cleaned ee first (put ee q at (set_ap2 v))) (first_same first c)
              (cleaned_put ee first q at c aligned (in_first first c).fits (ap dirty (first_same first c) ∙ dirtied));
        }

-- ---- a page of the last level, which is whole where it is asked for

module _ (ee : Bool) (base limit : PhysAddr) (page from count : ℕ) (g : Paged page) (a x : ℕ) (q : List ℕ) (able : Cleanable (asked ee base.0 page from count) a x (x + 1)) (w : ℕ)
    (found : fetched ee q base.0 a ≡ Some w) where
  page_left : leaf_dirty w (decoded page limit.0 0 w) ≡ false → Cleans (asked ee base.0 page from count) (λ first. entry_end (walks base limit page) (fetched ee first base.0) 0 a) x (x + 1) q q
  page_left = by (decoded page limit.0 0 w) refl
    where
      by : (n : Next) → decoded page limit.0 0 w ≡ n → leaf_dirty w n ≡ false → Cleans (asked ee base.0 page from count) (λ first. entry_end (walks base limit page) (fetched ee first base.0) 0 a) x (x + 1) q q
      by (next.Fault kind) d e = cleans_fault ee base limit page from count g 0 a x (x + 1) q able.base_aligned able.aligned w found kind d
      by (next.Table table) d e = absurd (let z : 0 < 0 = table_above page limit.0 0 w table d in omega arith)
      by next.Leaf d e =
          cleans_left ee base limit page from count g 0 a x (x + 1) q able.base_aligned able.aligned w found d (one_page (pages_in page 0) x)
          (ap (λ (b : Bool). b && whole_in from count (pages_in page 0) x) e)

  page_set : leaf_dirty w (decoded page limit.0 0 w) ≡ true
      → Cleans (asked ee base.0 page from count) (λ first. entry_end (walks base limit page) (fetched ee first base.0) 0 a) x (x + 1) q (put ee q (a - base.0) (set_ap2 w))
  page_set = by (decoded page limit.0 0 w) refl
    where
      by : (n : Next) → decoded page limit.0 0 w ≡ n → leaf_dirty w n ≡ true
          → Cleans (asked ee base.0 page from count) (λ first. entry_end (walks base limit page) (fetched ee first base.0) 0 a) x (x + 1) q (put ee q (a - base.0) (set_ap2 w))
      by (next.Fault kind) d e = differ (sym e)
      by (next.Table table) d e = differ (sym e)
      by next.Leaf d e =
          cleans_set ee base limit page from count g 0 a x (x + 1) q able.base_aligned able.aligned w found d (one_page (pages_in page 0) x)
          (rw (e, whole_page page from count x able.begin able.end))

  -- whether or not it is a dirty leaf
  abbrev Page : Bool → ℕ → Type 0
  Page b v = Cleans (asked ee base.0 page from count) (λ first. entry_end (walks base limit page) (fetched ee first base.0) 0 a) x (x + 1) q (pick b (put ee q (a - base.0) (set_ap2 v)) q)

  pub page_cleaned : Cleans (asked ee base.0 page from count) (λ first. entry_end (walks base limit page) (fetched ee first base.0) 0 a) x (x + 1) q (cleaned_at ee page limit.0 (a - base.0) q)
  page_cleaned = subst (λ (v : ℕ). Page (leaf_dirty v (decoded page limit.0 0 v)) v) (sym (in_pool ee q base.0 a w found).same) (by (leaf_dirty w (decoded page limit.0 0 w)) refl)
    where
      by : (b : Bool) → leaf_dirty w (decoded page limit.0 0 w) ≡ b → Page b w
      by true d = page_set d
      by false d = page_left d

-- ---- over the first pool

-- the leaves of its own walks stand in it
pub table_stands : (k : Asked) (ws : Walks) (p : List ℕ) (left table x : ℕ) → Paged ws.page → left ≤ 3 → k.base % 8 ≡ 0 → table % 8 ≡ 0 → Stands k p (table_end ws (fetched k.ee p k.base) left table x)
unfolding table_end
table_stands k ws p left table x g h b t =
    by (descend (context_for ws x) (fetched k.ee p k.base) (suc left) no_tables table).end (descend_good (context_for ws x) (fetched k.ee p k.base) g (suc left) no_tables table (omega arith) (lit< tt) t)
  where
    by : (e : End) → Good (context_for ws x) (fetched k.ee p k.base) e → Stands k p (untabled e)
    by (fault kind level) r = tt
    by (leaf a l) r =
        let i = in_pool k.ee p k.base a l.value r.value in
        (omega (arith, r.aligned, i.least), omega (arith, i.least, i.most), i.same)

-- as many bytes
pub cleans_long : {k : Asked} {ends : List ℕ → ℕ → End} {lo hi : ℕ} {p q : List ℕ} → Cleans k ends lo hi p q → Bytes p → length q ≡ length p
cleans_long {k} {p = p} c b = (c.kept p (cleaned_refl k.ee p b)).long
