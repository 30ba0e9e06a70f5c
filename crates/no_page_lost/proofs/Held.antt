-- A page whose leaf says dirty, and what a walk or an access leaves of that.
use Prim.Native.Nat.{ℕ}
use mathlib.Core.Bool.{Bool, true, false}
use mathlib.Core.List.{List}
use Rattle.std.specs.Prelude.{Option, None, Some, Ok, Err}
use mathlib.Core.Path.{◌≡◌, refl, sym, ap, subst, subst⁻¹, ◌∙◌}
use lib.Dec.{eqb}
use lib.ListN.{length}
use borrow.Author.Tests.{eqb-true, eq-eqb}
use Rattle.descriptor.specs.Bytes.{Bytes}
use Rattle.descriptor.specs.Bits.{pick}
use Rattle.descriptor.proofs.Tests.{clash}
use Rattle.vmsa.specs.Kinds.{writes}
use Rattle.vmsa.specs.Fields.{dbm}
use Rattle.vmsa.specs.Answers.{Result, success, dirtied_in}
use Rattle.vmsa.specs.declared.Regime.{Regime}
use Rattle.vmsa.specs.declared.Access.{Access}
use Rattle.vmsa.specs.declared.Leaf.{Leaf}
use Rattle.vmsa.specs.declared.Success.{Success}
use Rattle.checks.specs.Order.{Checked}
use Rattle.checks.specs.Order.{and_then, first_of, memory_rows, setting_rows, access_rows}
use Rattle.checks.proofs.Rows.{both}
use Rattle.lookup.specs.Trace.{leaf}
use Rattle.walk.specs.Walk.{traced, revalued}
use Rattle.gather.specs.Ends.{dirty}
use Rattle.harvest.specs.Harvest.{reached}
use Rattle.tlb.specs.Replies.{answered, updates}
use Rattle.tlb.specs.Walker.{Spot, lost, found, put_word, walk_from, walked, access_held, access_by, access_under}
use Rattle.tlb.specs.Ours.{offset_of, located, judged, stamped, ours}
use Rattle.tlb.proofs.Found.{where_found}
use Rattle.rule3.specs.Lawful.{restamped, Admitted}
use Rattle.rule3.proofs.Memory.{one, marks}
use Rattle.rule3.proofs.Agreement.{unmarked}
use Rattle.rules_harvest.specs.Leaves.{PageLeaf}
use Rattle.no_page_lost.proofs.Marks.{dirty_stamped, written_dirty}

-- the page reaches the descriptor at this offset of the memory, and that says dirty
pub record Held (R : Regime) (m : List ℕ) (page at : ℕ) : Type 0 where
  pub leaf : Leaf
  pub count : ℕ
  pub here : located R m page ≡ found at leaf count
  pub says : dirty leaf.value ≡ true

-- ---- one descriptor stamped

spot_held : (R : Regime) (m : List ℕ) (page at : ℕ) (u : Leaf) (n there v : ℕ) → located R m page ≡ restamped there v (found at u n) → (b : Bool) → eqb at there ≡ b
    → (b ≡ true → dirty v ≡ true) → dirty u.value ≡ true → Held R m page at
spot_held R m page at u n there v e true t h g = record { leaf = revalued u v; count = n; here = e ∙ ap (λ (b : Bool). found at (pick b (revalued u v) u) n) t; says = h refl }
spot_held R m page at u n there v e false t h g = record { leaf = u; count = n; here = e ∙ ap (λ (b : Bool). found at (pick b (revalued u v) u) n) t; says = g }

module _ (R : Regime) (m : List ℕ) (s : Admitted ours R m) (page at : ℕ) (h : Held R m page at) where
  stamped_held : (q : ℕ) (a : Access) {there : ℕ} {u : Leaf} {n : ℕ} → located R m q ≡ found there u n → Held R (put_word ours R m there (stamped (judged R u a) u.value)) page at
  stamped_held q a {there} {u} {n} e =
      let v = stamped (judged R u a) u.value in
      spot_held R (put_word ours R m there v) page at h.leaf h.count there v (marks R m s q (judged R u a) e page ∙ ap (restamped there v) h.here) (eqb at there) refl
      (λ t. dirty_stamped (judged R u a) u.value (subst (λ (x : ℕ). dirty x ≡ true) (same t) h.says)) h.says
    where
      same : eqb at there ≡ true → h.leaf.value ≡ u.value
      same t = one R m page q h.here (e ∙ ap (λ (x : ℕ). found x u n) (sym (eqb-true at there t)))

  landed_held : (q : ℕ) (a : Access) (x : Spot) → located R m q ≡ x → Held R (walk_from ours R m a x).memory page at
  landed_held q a (lost code level n) e = h
  landed_held q a (found there u n) e = by (updates (judged R u a))
    where
      by : (b : Bool) → Held R (pick b (put_word ours R m there (stamped (judged R u a) u.value)) m) page at
      by true = stamped_held q a e
      by false = h

  -- after a walk
  pub walked_held : (a : Access) → Held R (walked ours R m a).memory page at
  walked_held a = landed_held (ours.page R a) a (located R m (ours.page R a)) refl

  recall_held : (a : Access) (b : Bool) (o : Result) → Held R (pick b (walked ours R m a) (record { reply = answered o 0; memory = m; kept = None })).memory page at
  recall_held a true o = walked_held a
  recall_held a false o = h

  held_held : (a : Access) (k : Option Leaf) → Held R (access_held ours R m a k).memory page at
  held_held a None = walked_held a
  held_held a (Some l) = recall_held a (dirtied_in (judged R l a)) (judged R l a)

-- after an access, by whatever leaf is held of its page
pub access_held_lem : (R : Regime) (m : List ℕ) → first_of (setting_rows R) ≡ Ok tt → Bytes m → (page at : ℕ) → Held R m page at → (a : Access) (k : Option Leaf) → Held R (access_under ours R m a k).memory page at
access_held_lem R m v b page at h a k = by (and_then (first_of (memory_rows (length m) R)) (first_of (access_rows R a))) refl
  where
    by : (c : Checked) → and_then (first_of (memory_rows (length m) R)) (first_of (access_rows R a)) ≡ c → Held R (access_by ours R m a k c).memory page at
    by (Ok _) e = held_held R m (record { pool = (both (first_of (memory_rows (length m) R)) (first_of (access_rows R a)) e).0; regime = v; bytes = b }) page at h a k
    by (Err x) e = h

-- ---- a write

-- the leaf of a page, as the session's lookup finds it
pub leaf_is : (R : Regime) (m : List ℕ) (page : ℕ) (l : PageLeaf R m page) {at : ℕ} {u : Leaf} {n : ℕ} → located R m page ≡ found at u n
    → (offset_of R l.address ≡ at) × (l.value ≡ u.value)
unfolding reached traced
leaf_is R m page l {at} {u} {n} e =
    let w = where_found R m page e in
    let q : leaf w.address u ≡ leaf l.address (record { value = l.value; left = l.left; tables = l.tables }) = sym w.end ∙ l.reaches in
    let a : w.address ≡ l.address = cc in
    let v : u ≡ record { value = l.value; left = l.left; tables = l.tables } = cc in
    (ap (offset_of R) (sym a) ∙ w.offset, sym (ap (λ (x : Leaf). x.value) v))

module _ (R : Regime) (m : List ℕ) (s : Admitted ours R m) (a : Access) (w : writes a.kind ≡ true) (answer : Success) where
  abbrev page : ℕ
  page = ours.page R a

  marked : (at : ℕ) (u : Leaf) (k : ℕ) → located R m page ≡ found at u k → dirty (stamped (judged R u a) u.value) ≡ true → (b : Bool) → updates (judged R u a) ≡ b
      → Held R (pick b (put_word ours R m at (stamped (judged R u a) u.value)) m) page at
  marked at u k p g true e =
      let v = stamped (judged R u a) u.value in
      record {
        leaf = revalued u v;
        count = k;
        here = marks R m s page (judged R u a) p page ∙ ap (restamped at v) p ∙ ap (λ (b : Bool). found at (pick b (revalued u v) u) k) (eq-eqb at at refl);
        says = g;
      }
  marked at u k p g false e = record { leaf = u; count = k; here = p; says = subst (λ (v : ℕ). dirty v ≡ true) (unmarked (judged R u a) u.value e) g }

  -- a walk that writes leaves its page so, where the leaf has DBM set
  pub wrote_held : (l : PageLeaf R m page) → dbm l.value ≡ true → (n : ℕ) → (walked ours R m a).reply ≡ answered (success answer) n → Held R (walked ours R m a).memory page (offset_of R l.address)
  wrote_held l d n e = by (located R m page) refl e
    where
      by : (x : Spot) → located R m page ≡ x → (walk_from ours R m a x).reply ≡ answered (success answer) n → Held R (walk_from ours R m a x).memory page (offset_of R l.address)
      by (lost code level k) p q = clash (cc)
      by (found at u k) p q =
          let j : judged R u a ≡ success answer = cc in
          let i = leaf_is R m page l p in
          let g = written_dirty R a u w (subst (λ (v : ℕ). dbm v ≡ true) i.1 d) answer j in
          subst⁻¹ (λ (x : ℕ). Held R (walk_from ours R m a (found at u k)).memory (ours.page R a) x) i.0 (marked at u k p g (updates (judged R u a)) refl)
