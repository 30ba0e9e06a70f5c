-- A held leaf and the leaf in memory: equal, or AP[2] was cleared since where DBM, HA and HD hold. They are judged alike unless a write would make
-- the held one dirty.
use Prim.Native.Nat.{ℕ, ◌/◌, ◌%◌, ◌^◌, ◌≤◌}
use mathlib.Core.Bool.{Bool, true, false, not, ◌&&◌, ◌||◌}
use mathlib.Core.Path.{◌≡◌, refl, sym, ap, ap₂, ◌∙◌}
use native.Mathlib.Omega.{arith}
use lib.Dec.{lit≤, lit<}
use lib.Pow.{field as field_mod}
use Rattle.descriptor.specs.Bits.{pick}
use Rattle.descriptor.proofs.Tests.{and_true, differ}
use Rattle.descriptor.proofs.BitLaws.{clear_above, clear_bit_lem, clear_other}
use Rattle.vmsa.specs.Granules.{page_bits_of}
use Rattle.vmsa.specs.Limits.{address_limit}
use Rattle.geometry.specs.Geometry.{shift_of, span, cut}
use Rattle.geometry.proofs.Geometry.{shift_least, paged}
use Rattle.vmsa.specs.Answers.{Result, success, fault, refused, cacheable_in, dirtied_in}
use Rattle.vmsa.specs.Kinds.{is_probe, writes}
use Rattle.vmsa.specs.Fields.{attribute_index, ap1, ap2, shareability, af, nonglobal, dbm, pxn, uxn, clear_ap2, no_write_below}
use Rattle.vmsa.specs.declared.Regime.{Regime}
use Rattle.vmsa.specs.declared.Access.{Access}
use Rattle.vmsa.specs.declared.Leaf.{Leaf}
use Rattle.vmsa.specs.declared.FaultKind.{FaultKind}
use Rattle.vmsa.specs.declared.FaultKind.TheVariants.{AccessFlag, Alignment, Permission}
use Rattle.lookup.proofs.Decoding.{cut_same}
use Rattle.permission.specs.Permission.{attribute_of, writable, clean, user, uxn as uxn_of, pxn as pxn_of, flag_fails, alignment_fails, permission_fails}
use Rattle.permission.proofs.Effective.{permission_same}
use Rattle.decision.specs.Decision.{Decision, flag_due, dirty_due, updated, cacheable, output_of, failing, passing, decision}
use Rattle.rules.proofs.Updates.{updated_none, updated_af, index_clear}
use Rattle.tlb.specs.Replies.{updates}
use Rattle.walk.specs.Walk.{revalued}
use Rattle.tlb.specs.Ours.{judged, accessed_in, stamped}

-- ---- what a leaf answers, by the three tests

abbrev pub fault_of : Leaf → FaultKind → Result
fault_of l kind = (failing l 0 kind).result

abbrev pub success_of : Regime → Access → Leaf → Result
success_of r a l = (passing r a l 0).result

abbrev pub result_by : Regime → Access → Leaf → Bool → Bool → Bool → Result
result_by r a l x y z = pick x (fault_of l AccessFlag) (pick y (fault_of l Alignment) (pick z (fault_of l Permission) (success_of r a l)))

result_picks : (x y z : Bool) (f g h p : Decision) → (pick x f (pick y g (pick z h p))).result ≡ pick x f.result (pick y g.result (pick z h.result p.result))
result_picks true y z f g h p = refl
result_picks false true z f g h p = refl
result_picks false false true f g h p = refl
result_picks false false false f g h p = refl

pub judged_by : (r : Regime) (a : Access) (l : Leaf) → judged r l a ≡ result_by r a l (flag_fails r l) (alignment_fails r a l) (permission_fails r a l)
unfolding judged decision
judged_by r a l =
    result_picks (flag_fails r l) (alignment_fails r a l) (permission_fails r a l) (failing l 0 AccessFlag) (failing l 0 Alignment) (failing l 0 Permission) (passing r a l 0)

-- what holds of every fault and of a success holds of the answer
result_all : (P : Result → Type 0) (r : Regime) (a : Access) (l : Leaf) → ((k : FaultKind) → P (fault_of l k)) → P (success_of r a l) → (x y z : Bool) → P (result_by r a l x y z)
result_all P r a l f s true y z = f AccessFlag
result_all P r a l f s false true z = f Alignment
result_all P r a l f s false false true = f Permission
result_all P r a l f s false false false = s

judged_all : (P : Result → Type 0) (r : Regime) (a : Access) (l : Leaf) → ((k : FaultKind) → P (fault_of l k)) → P (success_of r a l) → P (judged r l a)
judged_all P r a l f s = rw (judged_by r a l) (result_all P r a l f s (flag_fails r l) (alignment_fails r a l) (permission_fails r a l))

-- ---- no update, no change; reads, fetches and probes

pub unmarked : (o : Result) (v : ℕ) → updates o ≡ false → stamped o v ≡ v
unfolding stamped
unmarked o v e = by o e
  where
    both_off : (x y : Bool) → (x || y) ≡ false → updated x y v ≡ v
    both_off false false q = updated_none v
    both_off false true q = differ q
    both_off true y q = differ q

    by : (o : Result) → updates o ≡ false → updated (accessed_in o) (dirtied_in o) v ≡ v
    by (success s) q = both_off s.accessed s.dirtied q
    by (fault f) q = updated_none v
    by (refused n) q = updated_none v

dirty_fault : (l : Leaf) (k : FaultKind) → dirtied_in (fault_of l k) ≡ false
unfolding failing
dirty_fault l k = refl

dirty_success : (r : Regime) (a : Access) (l : Leaf) → dirtied_in (success_of r a l) ≡ dirty_due r a l
unfolding passing
dirty_success r a l = refl

due_off : (r : Regime) (a : Access) (l : Leaf) → writes a.kind ≡ false → dirty_due r a l ≡ false
unfolding dirty_due
due_off r a l h = rw h

pub quiet : (r : Regime) (l : Leaf) (a : Access) → writes a.kind ≡ false → dirtied_in (judged r l a) ≡ false
quiet r l a h = judged_all (λ (o : Result). dirtied_in o ≡ false) r a l (dirty_fault l) (dirty_success r a l ∙ due_off r a l h)

-- ---- agreement

-- how the leaf in memory differs from the held one
data How (r : Regime) (v w : ℕ) : Type 0 where
  same : w ≡ v → How r v w
  cleared : ap2 v ≡ true → (dbm v && r.ha && r.hd) ≡ true → w ≡ clear_ap2 v → How r v w

pub record Agree (r : Regime) (h u : Leaf) : Type 0 where
  flag : af h.value ≡ true
  level : u.left ≡ h.left
  tables : u.tables ≡ h.tables
  how : How r h.value u.value

-- ---- a value with AP[2] cleared: every other field

module _ (v : ℕ) where
  af_cleared : af (clear_ap2 v) ≡ af v
  af_cleared = clear_other 7 v 10 (λ e. omega arith)

  ap1_cleared : ap1 (clear_ap2 v) ≡ ap1 v
  ap1_cleared = clear_other 7 v 6 (λ e. omega arith)

  nonglobal_cleared : nonglobal (clear_ap2 v) ≡ nonglobal v
  nonglobal_cleared = clear_other 7 v 11 (λ e. omega arith)

  pxn_cleared : pxn (clear_ap2 v) ≡ pxn v
  pxn_cleared = clear_other 7 v 53 (λ e. omega arith)

  uxn_cleared : uxn (clear_ap2 v) ≡ uxn v
  uxn_cleared = clear_other 7 v 54 (λ e. omega arith)

  index_cleared : attribute_index (clear_ap2 v) ≡ attribute_index v
  index_cleared = index_clear 7 v (lit≤ tt)

  shareability_cleared : shareability (clear_ap2 v) ≡ shareability v
  shareability_cleared = ap (λ (x : ℕ). x % 2 ^ 2) (clear_above 7 v 8 (lit< tt))

  address_cleared : clear_ap2 v % address_limit / 4096 ≡ v % address_limit / 4096
  address_cleared = field_mod (clear_ap2 v) 36 12 ∙ ap (λ (x : ℕ). x % 2 ^ 36) (clear_above 7 v 12 (lit< tt)) ∙ sym (field_mod v 36 12)

cut_cleared : (p v left : ℕ) → 12 ≤ p → cut (clear_ap2 v) (span p left) ≡ cut v (span p left)
unfolding span
cut_cleared p v left h = cut_same (clear_ap2 v) v (shift_of p left) (shift_least p left h) (address_cleared v)

-- ---- the tests on such a leaf

module _ (r : Regime) (a : Access) (v left sum : ℕ) (e : ap2 v ≡ true) (g : (dbm v && r.ha && r.hd) ≡ true) where
  old : Leaf
  old = record { value = v; left = left; tables = sum }

  new : Leaf
  new = record { value = clear_ap2 v; left = left; tables = sum }

  -- both are writable unless a table takes that away
  writable_old : writable r old ≡ (not (no_write_below sum) && true)
  unfolding writable old
  writable_old = rw (e, g)

  writable_new : writable r new ≡ (not (no_write_below sum) && true)
  unfolding writable new
  writable_new = rw (clear_bit_lem 7 v)

  writable_cleared : writable r new ≡ writable r old
  writable_cleared = writable_new ∙ sym writable_old

  user_cleared : user new ≡ user old
  unfolding user old new
  user_cleared = rw (ap1_cleared v)

  uxn_leaf : uxn_of new ≡ uxn_of old
  unfolding uxn_of old new
  uxn_leaf = rw (uxn_cleared v)

  pxn_leaf : pxn_of new ≡ pxn_of old
  unfolding pxn_of old new
  pxn_leaf = rw (pxn_cleared v)

  attribute_cleared : attribute_of r new ≡ attribute_of r old
  unfolding attribute_of old new
  attribute_cleared = rw (index_cleared v)

  flag_cleared : flag_fails r new ≡ flag_fails r old
  unfolding flag_fails old new
  flag_cleared = rw (af_cleared v)

  alignment_cleared : alignment_fails r a new ≡ alignment_fails r a old
  unfolding alignment_fails
  alignment_cleared = rw attribute_cleared

  permission_cleared : permission_fails r a new ≡ permission_fails r a old
  permission_cleared = permission_same r a new old writable_cleared user_cleared uxn_leaf pxn_leaf attribute_cleared

  due_cleared : flag_due r a new ≡ flag_due r a old
  unfolding flag_due new old
  due_cleared = rw (af_cleared v)

  clean_new : clean r new ≡ false
  unfolding clean new
  clean_new = rw (clear_bit_lem 7 v)

  dirty_new : dirty_due r a new ≡ false
  unfolding dirty_due
  dirty_new = rw clean_new (and_off (writes a.kind))
    where
      and_off : (b : Bool) → (b && false) ≡ false
      and_off true = refl
      and_off false = refl

  fault_cleared : (k : FaultKind) → fault_of new k ≡ fault_of old k
  unfolding failing new old
  fault_cleared k = rw (af_cleared v)

  success_cleared : dirty_due r a old ≡ false → success_of r a new ≡ success_of r a old
  unfolding passing output_of cacheable new old
  success_cleared d =
      rw (dirty_new, d, due_cleared, attribute_cleared, af_cleared v, nonglobal_cleared v, shareability_cleared v, cut_cleared (page_bits_of r) v left (paged r.granule).least)

  judged_cleared : dirtied_in (judged r old a) ≡ false → judged r new a ≡ judged r old a
  judged_cleared d =
      judged_by r a new ∙ rw (flag_cleared, alignment_cleared, permission_cleared)
      (by (flag_fails r old) (alignment_fails r a old) (permission_fails r a old) (rw (judged_by r a old) at d) ∙ sym (judged_by r a old))
    where
      by : (x y z : Bool) → dirtied_in (result_by r a old x y z) ≡ false → result_by r a new x y z ≡ result_by r a old x y z
      by true y z q = fault_cleared AccessFlag
      by false true z q = fault_cleared Alignment
      by false false true q = fault_cleared Permission
      by false false false q = success_cleared (sym (dirty_success r a old) ∙ q)

pub judged_cleared_at : (r : Regime) (a : Access) (v left sum : ℕ) → ap2 v ≡ true → (dbm v && r.ha && r.hd) ≡ true
    → dirtied_in (judged r (record { value = v; left = left; tables = sum }) a) ≡ false
    → judged r (record { value = clear_ap2 v; left = left; tables = sum }) a ≡ judged r (record { value = v; left = left; tables = sum }) a
unfolding old new
judged_cleared_at r a v left sum e g d = judged_cleared r a v left sum e g d

-- ---- the laws of agreement

-- a leaf is its value, its level and its tables
agree_by : (r : Regime) (a : Access) (v w left sum : ℕ) → How r v w → dirtied_in (judged r (record { value = v; left = left; tables = sum }) a) ≡ false
    → judged r (record { value = w; left = left; tables = sum }) a ≡ judged r (record { value = v; left = left; tables = sum }) a
agree_by r a v w left sum (same e) d = rw e
agree_by r a v w left sum (cleared e g q) d = rw q (judged_cleared_at r a v left sum e g d)

pub agree_same : (r : Regime) (h u : Leaf) (a : Access) → Agree r h u → dirtied_in (judged r h a) ≡ false → judged r u a ≡ judged r h a
agree_same r h u a k d =
    ap₂ (λ (n s : ℕ). judged r (record { value = u.value; left = n; tables = s }) a) k.level k.tables
    ∙ agree_by r a h.value u.value h.left h.tables k.how d

-- with AF set no flag is due
flag_off : (r : Regime) (a : Access) (l : Leaf) → af l.value ≡ true → flag_due r a l ≡ false
unfolding flag_due
flag_off r a l e = rw e (by r.ha)
  where
    by : (b : Bool) → ((b && false) && not (is_probe a.kind)) ≡ false
    by true = refl
    by false = refl

updates_fault : (l : Leaf) (k : FaultKind) → updates (fault_of l k) ≡ false
unfolding failing
updates_fault l k = refl

updates_success : (r : Regime) (a : Access) (l : Leaf) → updates (success_of r a l) ≡ (flag_due r a l || dirty_due r a l)
unfolding passing
updates_success r a l = refl

still_by : (r : Regime) (a : Access) (l : Leaf) → af l.value ≡ true → (x y z : Bool) → dirtied_in (result_by r a l x y z) ≡ false → updates (result_by r a l x y z) ≡ false
still_by r a l e true y z d = updates_fault l AccessFlag
still_by r a l e false true z d = updates_fault l Alignment
still_by r a l e false false true d = updates_fault l Permission
still_by r a l e false false false d = updates_success r a l ∙ rw (flag_off r a l e, sym (dirty_success r a l) ∙ d)

pub agree_still : (r : Regime) (h u : Leaf) (a : Access) → Agree r h u → dirtied_in (judged r h a) ≡ false → updates (judged r h a) ≡ false
agree_still r h u a k d =
    rw (judged_by r a h) (still_by r a h k.flag (flag_fails r h) (alignment_fails r a h) (permission_fails r a h) (rw (judged_by r a h) at d))

-- the leaf as a walk left it has AF set where it may be remembered
accessed_fault : (l : Leaf) (k : FaultKind) → accessed_in (fault_of l k) ≡ false
unfolding failing
accessed_fault l k = refl

accessed_success : (r : Regime) (a : Access) (l : Leaf) → accessed_in (success_of r a l) ≡ flag_due r a l
unfolding passing
accessed_success r a l = refl

cache_fault : (l : Leaf) (k : FaultKind) → cacheable_in (fault_of l k) ≡ af l.value
unfolding failing
cache_fault l k = refl

cache_success : (r : Regime) (a : Access) (l : Leaf) → cacheable_in (success_of r a l) ≡ (af l.value || flag_due r a l)
unfolding passing cacheable
cache_success r a l = refl

or_swap : (x y : Bool) → (x || y) ≡ (y || x)
or_swap true true = refl
or_swap true false = refl
or_swap false true = refl
or_swap false false = refl

abbrev Flagged : ℕ → Result → Type 0
Flagged v o = cacheable_in o ≡ true → af (updated (accessed_in o) (dirtied_in o) v) ≡ true

flagged_fault : (l : Leaf) (k : FaultKind) → Flagged l.value (fault_of l k)
flagged_fault l k e = updated_af l.value (accessed_in (fault_of l k)) (dirtied_in (fault_of l k)) ∙ rw (accessed_fault l k) (sym (cache_fault l k) ∙ e)

flagged_success : (r : Regime) (a : Access) (l : Leaf) → Flagged l.value (success_of r a l)
flagged_success r a l e =
    updated_af l.value (accessed_in (success_of r a l)) (dirtied_in (success_of r a l)) ∙ rw (accessed_success r a l) (or_swap (flag_due r a l) (af l.value) ∙ sym (cache_success r a l) ∙ e)

flagged : (r : Regime) (a : Access) (l : Leaf) → cacheable_in (judged r l a) ≡ true → af (stamped (judged r l a) l.value) ≡ true
unfolding stamped
flagged r a l = judged_all (Flagged l.value) r a l (flagged_fault l) (flagged_success r a l)

pub agree_self : (r : Regime) (u : Leaf) (a : Access) → cacheable_in (judged r u a) ≡ true
    → Agree r (revalued u (stamped (judged r u a) u.value)) (revalued u (stamped (judged r u a) u.value))
agree_self r u a e = record { flag = flagged r a u e; level = refl; tables = refl; how = same refl }

-- ---- a leaf that agrees, after an update of its descriptor

-- the answer of a leaf with AF set: no flag, and a dirty update only where it is writable-clean
abbrev Marks : Regime → Leaf → Result → Type 0
Marks r l o = (accessed_in o ≡ false) × (dirtied_in o ≡ true → clean r l ≡ true)

marks_fault : (r : Regime) (l : Leaf) (k : FaultKind) → Marks r l (fault_of l k)
marks_fault r l k = (accessed_fault l k, λ d. differ (sym d ∙ dirty_fault l k))

clean_due : (r : Regime) (a : Access) (l : Leaf) → dirty_due r a l ≡ true → clean r l ≡ true
unfolding dirty_due
clean_due r a l d = (and_true (writes a.kind) (clean r l) d).1

marks_success : (r : Regime) (a : Access) (l : Leaf) → af l.value ≡ true → Marks r l (success_of r a l)
marks_success r a l e = (accessed_success r a l ∙ flag_off r a l e, λ d. clean_due r a l (sym (dirty_success r a l) ∙ d))

marks : (r : Regime) (a : Access) (l : Leaf) → af l.value ≡ true → Marks r l (judged r l a)
marks r a l e = judged_all (Marks r l) r a l (marks_fault r l) (marks_success r a l e)

clean_is : (r : Regime) (l : Leaf) → clean r l ≡ true → (ap2 l.value ≡ true) × ((dbm l.value && r.ha && r.hd) ≡ true)
unfolding clean writable
clean_is r l e =
    let t = and_true (ap2 l.value) (not (no_write_below l.tables) && (not (ap2 l.value) || dbm l.value && r.ha && r.hd)) e in
    let u = and_true (not (no_write_below l.tables)) (not (ap2 l.value) || dbm l.value && r.ha && r.hd) t.1 in
    (t.0, rw t.0 at u.1)

agree_flag : (r : Regime) (v w : ℕ) → af v ≡ true → How r v w → af w ≡ true
agree_flag r v w e (same q) = rw q e
agree_flag r v w e (cleared p g q) = rw q (af_cleared v ∙ e)

-- one more update of the descriptor
how_marked : (r : Regime) (v w : ℕ) → How r v w → (d : Bool) → (d ≡ true → (ap2 w ≡ true) × ((dbm w && r.ha && r.hd) ≡ true)) → How r v (updated false d w)
unfolding updated
how_marked r v w k false h = k
how_marked r v w (same q) true h = let t = h refl in cleared (rw q at t.0) (rw q at t.1) (rw q)
how_marked r v w (cleared p g q) true h = differ (sym (h refl).0 ∙ rw q (clear_bit_lem 7 v))

pub agree_mark : (r : Regime) (h u v : Leaf) (a : Access) → Agree r h u → v.value ≡ u.value → Agree r h (revalued u (stamped (judged r v a) v.value))
unfolding stamped
agree_mark r h u v a k q =
    let e : af v.value ≡ true = rw q (agree_flag r h.value u.value k.flag k.how) in
    let m = marks r a v e in
    record {
      flag = k.flag;
      level = k.level;
      tables = k.tables;
      how = rw m.0 (how_marked r h.value v.value (rw q k.how) (dirtied_in (judged r v a)) (λ d. clean_is r v (m.1 d)));
    }
