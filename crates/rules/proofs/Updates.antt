-- What the updates of a leaf do to its bits, and what a leaf none of whose steps fails lets follow.
use Prim.Native.Nat.{ℕ, ◌/◌, ◌^◌, ◌<◌, ◌≤◌}
use mathlib.Core.Bool.{Bool, true, false, not, ◌&&◌, ◌||◌, and-false}
use mathlib.Core.List.{[], ◌∷◌}
use mathlib.Core.Logic.{◌⊎◌, inl, inr, ◌≢◌}
use Rattle.std.specs.Prelude.{None, Some}
use mathlib.Core.Path.{◌≡◌, refl, sym, ap, ◌∙◌}
use native.Mathlib.Omega.{arith}
use lib.Dec.{lit<}
use lib.Pow.{field as field_mod}
use borrow.Author.Tests.{not-true, not-false}
use Rattle.descriptor.specs.Bits.{bit, set_bit, clear_bit}
use Rattle.descriptor.proofs.Tests.{differ, and_true, or_false}
use Rattle.descriptor.proofs.BitLaws.{set_below, clear_below, set_bit_lem, clear_bit_lem, set_other, clear_other, set_small, clear_small}
use Rattle.geometry.specs.Geometry.{level_of}
use Rattle.vmsa.specs.Kinds.{is_fetch, is_probe, asks_write, writes}
use Rattle.vmsa.specs.Fields.{attribute_index, af, ap2, dbm, no_write_below}
use Rattle.vmsa.specs.declared.Regime.{Regime}
use Rattle.vmsa.specs.declared.Access.{Access}
use Rattle.vmsa.specs.declared.AccessKind.{AccessKind}
use Rattle.vmsa.specs.declared.AccessKind.TheVariants.{Read, Write, Update, Fetch, ProbeRead, ProbeWrite}
use Rattle.vmsa.specs.declared.Leaf.{Leaf}
use Rattle.vmsa.specs.declared.FaultKind.TheVariants.{AccessFlag, Permission, Alignment}
use Rattle.permission.specs.Permission.{writable, clean, may_read, may_write, permitted, flag_fails, alignment_fails, permission_fails}
use Rattle.decision.specs.Decision.{flag_due, dirty_due, updated}
use Rattle.walk.specs.Walk.{revalued}
use Rattle.rules.specs.Steps.{step, leaf_steps}
use Rattle.rules.proofs.StepLaws.{Fault, first_fault, no_fault}

-- ---- the attribute index, where a bit above it is set or cleared

pub index_set : (n v : ℕ) → 5 ≤ n → attribute_index (set_bit n v) ≡ attribute_index v
index_set n v h = sym (field_mod (set_bit n v) 3 2) ∙ ap (λ (x : ℕ). x / 2 ^ 2) (set_below n v 5 h) ∙ field_mod v 3 2

pub index_clear : (n v : ℕ) → 5 ≤ n → attribute_index (clear_bit n v) ≡ attribute_index v
index_clear n v h = sym (field_mod (clear_bit n v) 3 2) ∙ ap (λ (x : ℕ). x / 2 ^ 2) (clear_below n v 5 h) ∙ field_mod v 3 2

-- ---- the bits of an updated descriptor

module _ (v : ℕ) where
  pub updated_none : updated false false v ≡ v
  unfolding updated
  updated_none = refl

  pub updated_other : (f d : Bool) (n : ℕ) → n ≢ 10 → n ≢ 7 → bit n (updated f d v) ≡ bit n v
  unfolding updated
  updated_other true true n h k = clear_other 7 (set_bit 10 v) n k ∙ set_other 10 v n h
  updated_other true false n h k = set_other 10 v n h
  updated_other false true n h k = clear_other 7 v n k
  updated_other false false n h k = refl

  pub updated_af : (f d : Bool) → bit 10 (updated f d v) ≡ (f || bit 10 v)
  unfolding updated
  updated_af true true = clear_other 7 (set_bit 10 v) 10 (λ e. omega arith) ∙ set_bit_lem 10 v
  updated_af true false = set_bit_lem 10 v
  updated_af false true = clear_other 7 v 10 (λ e. omega arith)
  updated_af false false = refl

  pub updated_ap2 : (f d : Bool) → bit 7 (updated f d v) ≡ (not d && bit 7 v)
  unfolding updated
  updated_ap2 true true = clear_bit_lem 7 (set_bit 10 v)
  updated_ap2 true false = set_other 10 v 7 (λ e. omega arith)
  updated_ap2 false true = clear_bit_lem 7 v
  updated_ap2 false false = refl

  pub updated_small : (f d : Bool) → v < 2 ^ 64 → updated f d v < 2 ^ 64
  unfolding updated
  updated_small true true h = clear_small 7 (set_bit 10 v) 64 (lit< tt) (set_small 10 v 64 (lit< tt) h)
  updated_small true false h = set_small 10 v 64 (lit< tt) h
  updated_small false true h = clear_small 7 v 64 (lit< tt) h
  updated_small false false h = h

-- ---- kinds of access

pub writes_asks : (k : AccessKind) → writes k ≡ true → (is_probe k ≡ false) × (is_fetch k ≡ false) × (asks_write k ≡ true)
writes_asks Read e = differ (sym e)
writes_asks Write e = (refl, refl, refl)
writes_asks Update e = (refl, refl, refl)
writes_asks Fetch e = differ (sym e)
writes_asks ProbeRead e = differ (sym e)
writes_asks ProbeWrite e = differ (sym e)

asks_no_fetch : (k : AccessKind) → asks_write k ≡ true → is_fetch k ≡ false
asks_no_fetch Read e = refl
asks_no_fetch Write e = refl
asks_no_fetch Update e = refl
asks_no_fetch Fetch e = differ (sym e)
asks_no_fetch ProbeRead e = refl
asks_no_fetch ProbeWrite e = refl

pub probe_writes : (k : AccessKind) → is_probe k ≡ true → writes k ≡ false
probe_writes Read e = differ (sym e)
probe_writes Write e = differ (sym e)
probe_writes Update e = differ (sym e)
probe_writes Fetch e = differ (sym e)
probe_writes ProbeRead e = refl
probe_writes ProbeWrite e = refl

-- ---- when an update is due

module _ (r : Regime) (a : Access) (l : Leaf) where
  -- with HA on, from 0, and not by a probe
  pub flag_due_lem : flag_due r a l ≡ true → (r.ha ≡ true) × (af l.value ≡ false) × (is_probe a.kind ≡ false)
  unfolding flag_due
  flag_due_lem e =
      let s = and_true (r.ha && not (af l.value)) (not (is_probe a.kind)) e in
      let t = and_true r.ha (not (af l.value)) s.0 in
      (t.0, not-true (af l.value) t.1, not-true (is_probe a.kind) s.1)

  -- on a writable-clean leaf: from 1, with DBM, HA and HD, by a write or update
  pub dirty_due_lem : dirty_due r a l ≡ true
      → (r.ha ≡ true) × (r.hd ≡ true) × (dbm l.value ≡ true) × (writes a.kind ≡ true) × (ap2 l.value ≡ true)
  unfolding dirty_due clean writable
  dirty_due_lem e =
      let s = and_true (writes a.kind) (ap2 l.value && (not (no_write_below l.tables) && (not (ap2 l.value) || dbm l.value && r.ha && r.hd))) e in
      let t = and_true (ap2 l.value) (not (no_write_below l.tables) && (not (ap2 l.value) || dbm l.value && r.ha && r.hd)) s.1 in
      let u = and_true (not (no_write_below l.tables)) (not (ap2 l.value) || dbm l.value && r.ha && r.hd) t.1 in
      let w : (dbm l.value && r.ha && r.hd) ≡ true = rw t.0 at u.1 in
      let x = and_true (dbm l.value && r.ha) r.hd w in
      let y = and_true (dbm l.value) r.ha x.0 in
      (y.1, x.1, y.0, s.0, t.0)

  -- a probe changes nothing
  pub probe_due : is_probe a.kind ≡ true → (flag_due r a l ≡ false) × (dirty_due r a l ≡ false)
  unfolding flag_due dirty_due
  probe_due e = (rw e (and-false (r.ha && not (af l.value))), rw (probe_writes a.kind e))

  -- ---- a leaf none of whose steps fails

  pub leaf_clear : first_fault (leaf_steps r a l) ≡ None → (flag_fails r l ≡ false) × (alignment_fails r a l ≡ false) × (permission_fails r a l ≡ false)
  unfolding leaf_steps
  leaf_clear e = by (flag_fails r l) (alignment_fails r a l) (permission_fails r a l) e
    where
      by : (x y z : Bool) → first_fault (step x AccessFlag (level_of l.left) ∷ step y Alignment (level_of l.left) ∷ step z Permission (level_of l.left) ∷ []) ≡ None
          → (x ≡ false) × (y ≡ false) × (z ≡ false)
      by true y z q = no_fault (AccessFlag, level_of l.left) q
      by false true z q = no_fault (Alignment, level_of l.left) q
      by false false true q = no_fault (Permission, level_of l.left) q
      by false false false q = (refl, refl, refl)

  -- AF is 1 afterwards, but for a probe
  pub flag_after : flag_fails r l ≡ false → is_probe a.kind ≡ false → (flag_due r a l || af l.value) ≡ true
  unfolding flag_fails flag_due
  flag_after e p = rw p (by r.ha (af l.value) e)
    where
      by : (ha f : Bool) → (not f && not ha) ≡ false → (ha && not f && true || f) ≡ true
      by true true q = refl
      by true false q = refl
      by false true q = refl
      by false false q = differ q

  -- what asks for a write and is permitted finds the leaf writable; a write leaves AP[2] 0
  pub asks_writable : permission_fails r a l ≡ false → asks_write a.kind ≡ true → writable r l ≡ true
  unfolding permission_fails permitted may_write
  asks_writable e w =
      let s : not (may_read a.el0 l && writable r l) ≡ false = (or_false (not (may_read a.el0 l && writable r l)) false (rw (asks_no_fetch a.kind w, w) at e)).0 in
      (and_true (may_read a.el0 l) (writable r l) (not-false (may_read a.el0 l && writable r l) s)).1

  pub write_writable : permission_fails r a l ≡ false → writes a.kind ≡ true → writable r l ≡ true
  write_writable e w = asks_writable e (writes_asks a.kind w).2

  pub dirty_after : writable r l ≡ true → writes a.kind ≡ true → (not (dirty_due r a l) && ap2 l.value) ≡ false
  unfolding dirty_due clean
  dirty_after e w = rw (e, w) (by (ap2 l.value))
    where
      by : (b : Bool) → (not (true && (b && true)) && b) ≡ false
      by true = refl
      by false = refl

  -- ---- under a table with bit 62

  -- nothing may be written
  pub none_writable : no_write_below l.tables ≡ true → writable r l ≡ false
  unfolding writable
  none_writable e = rw e

  pub none_dirty : no_write_below l.tables ≡ true → dirty_due r a l ≡ false
  unfolding dirty_due clean
  none_dirty e = rw (none_writable e, and-false (ap2 l.value)) (and-false (writes a.kind))

  pub none_asks : no_write_below l.tables ≡ true → permission_fails r a l ≡ false → asks_write a.kind ≡ false
  none_asks e p = by (asks_write a.kind) refl
    where
      by : (b : Bool) → asks_write a.kind ≡ b → b ≡ false
      by true q = differ (sym (asks_writable p q) ∙ none_writable e)
      by false q = refl

  -- a leaf with W is left with it, where AP[2] is left 0
  pub still_writable : (v : ℕ) → writable r l ≡ true → ap2 v ≡ false → writable r (revalued l v) ≡ true
  unfolding writable
  still_writable v e z = rw z (by (not (no_write_below l.tables)) (not (ap2 l.value) || dbm l.value && r.ha && r.hd) e)
    where
      by : (x y : Bool) → (x && y) ≡ true → (x && (true || dbm v && r.ha && r.hd)) ≡ true
      by x y e = rw (and_true x y e).0

  -- ---- a leaf with AF 1 fails by step 7 or 8

  pub leaf_kind : af l.value ≡ true → (f : Fault) → first_fault (leaf_steps r a l) ≡ Some f
      → (f ≡ (Alignment, level_of l.left)) ⊎ (f ≡ (Permission, level_of l.left))
  unfolding leaf_steps flag_fails
  leaf_kind e f q = by (alignment_fails r a l) (permission_fails r a l) (rw e at q)
    where
      by : (y z : Bool) → first_fault (step false AccessFlag (level_of l.left) ∷ step y Alignment (level_of l.left) ∷ step z Permission (level_of l.left) ∷ []) ≡ Some f
          → (f ≡ (Alignment, level_of l.left)) ⊎ (f ≡ (Permission, level_of l.left))
      by true z p = inl (cc)
      by false true p = inr (cc)
      by false false p = no_fault f (sym p)
