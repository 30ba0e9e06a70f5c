-- An entry's sum is its four lowest bits: the others have no say in what the entry answers.
use Prim.Native.Nat.{ℕ, ◌/◌, ◌%◌}
use mathlib.Core.Bool.{Bool, true, false, ◌&&◌}
use mathlib.Core.List.{List}
use Rattle.std.specs.Prelude.{Option, None, Some, Ok, Err}
use mathlib.Core.Path.{◌≡◌, refl, sym, ap, ◌∙◌}
use native.Mathlib.Omega.{arith}
use lib.Dec.{leb, eqb}
use lib.ListN.{length}
use Rattle.descriptor.specs.Bits.{pick}
use Rattle.vmsa.specs.Words.{flag}
use Rattle.vmsa.specs.Fields.{sum_count, no_write_below, no_user_below, uxn_below, pxn_below}
use Rattle.vmsa.specs.declared.Regime.{Regime}
use Rattle.vmsa.specs.declared.Access.{Access}
use Rattle.vmsa.specs.declared.Leaf.{Leaf}
use Rattle.vmsa.specs.declared.FaultKind.{FaultKind}
use Rattle.vmsa.specs.declared.FaultKind.TheVariants.{AccessFlag, Permission, Alignment}
use Rattle.checks.specs.Order.{Checked}
use Rattle.permission.specs.Permission.{attribute_of, writable, clean, user, uxn, pxn, flag_fails, alignment_fails, permission_fails}
use Rattle.permission.proofs.Effective.{permission_same}
use Rattle.decision.specs.Decision.{flag_due, dirty_due, cacheable, output_of, failing, passing}
use Rattle.tlb.specs.declared.Entry.{Entry as EntryStruct}
use Rattle.checks.specs.Order.{and_then}
use Rattle.tlb.specs.Walker.{empty, holds, held_in, recall, access_by, access_in}
use Rattle.tlb.specs.Ours.{judged, ours}
use Rattle.tlb.specs.Entries.{entry_view}
use Rattle.rule3.proofs.Agreement.{fault_of, success_of, result_by, judged_by}
use Rattle.rules_c.specs.Spare.{entry_spare0}

-- ---- the tests of a sum

module _ (s : ℕ) where
  low_write : no_write_below (s % sum_count) ≡ no_write_below s
  low_write = ap (λ (x : ℕ). eqb x 1) (let e : s % sum_count / 8 % 2 ≡ s / 8 % 2 = omega arith in e)

  low_user : no_user_below (s % sum_count) ≡ no_user_below s
  low_user = ap (λ (x : ℕ). eqb x 1) (let e : s % sum_count / 4 % 2 ≡ s / 4 % 2 = omega arith in e)

  low_uxn : uxn_below (s % sum_count) ≡ uxn_below s
  low_uxn = ap (λ (x : ℕ). eqb x 1) (let e : s % sum_count / 2 % 2 ≡ s / 2 % 2 = omega arith in e)

  low_pxn : pxn_below (s % sum_count) ≡ pxn_below s
  low_pxn = ap (λ (x : ℕ). eqb x 1) (let e : s % sum_count / 1 % 2 ≡ s / 1 % 2 = omega arith in e)

-- ---- a leaf with these four bits alone

abbrev low : Leaf → Leaf
low l = record { value = l.value; left = l.left; tables = l.tables % sum_count }

module _ (r : Regime) (a : Access) (l : Leaf) where
  writable_low : writable r (low l) ≡ writable r l
  unfolding writable
  writable_low = rw (low_write l.tables)

  user_low : user (low l) ≡ user l
  unfolding user
  user_low = rw (low_user l.tables)

  uxn_low : uxn (low l) ≡ uxn l
  unfolding uxn
  uxn_low = rw (low_uxn l.tables)

  pxn_low : pxn (low l) ≡ pxn l
  unfolding pxn
  pxn_low = rw (low_pxn l.tables)

  permission_low : permission_fails r a (low l) ≡ permission_fails r a l
  unfolding attribute_of
  permission_low = permission_same r a (low l) l writable_low user_low uxn_low pxn_low refl

  dirty_low : dirty_due r a (low l) ≡ dirty_due r a l
  unfolding dirty_due clean
  dirty_low = rw writable_low

  flag_low : flag_fails r (low l) ≡ flag_fails r l
  unfolding flag_fails
  flag_low = refl

  alignment_low : alignment_fails r a (low l) ≡ alignment_fails r a l
  unfolding alignment_fails attribute_of
  alignment_low = refl

  fault_low : (k : FaultKind) → fault_of (low l) k ≡ fault_of l k
  unfolding failing
  fault_low k = refl

  success_low : success_of r a (low l) ≡ success_of r a l
  unfolding passing output_of attribute_of flag_due cacheable
  success_low = rw dirty_low

  judged_low : judged r (low l) a ≡ judged r l a
  judged_low =
      judged_by r a (low l) ∙ rw (flag_low, alignment_low, permission_low) (by (flag_fails r l) (alignment_fails r a l) (permission_fails r a l)) ∙ sym (judged_by r a l)
    where
      by : (x y z : Bool) → result_by r a (low l) x y z ≡ result_by r a l x y z
      by true y z = fault_low AccessFlag
      by false true z = fault_low Alignment
      by false false true = fault_low Permission
      by false false false = success_low

-- ---- an access by an entry

lows : Option Leaf → Option Leaf
lows None = None
lows (Some l) = Some (low l)

held_spare : (e : EntryStruct) (page : ℕ) → held_in (entry_view (entry_spare0 e)) page ≡ lows (held_in (entry_view e) page)
unfolding lows
held_spare e page = by (flag e.held && leb e.left 3)
  where
    same : (b : Bool) → pick b (Some (low (record { value = e.value; left = e.left; tables = e.tables }))) None ≡ lows (pick b (Some (record { value = e.value; left = e.left; tables = e.tables })) None)
    same true = refl
    same false = refl

    by : (b : Bool) → held_in (pick b (holds e.page (low (record { value = e.value; left = e.left; tables = e.tables }))) empty) page ≡ lows (held_in (pick b (holds e.page (record { value = e.value; left = e.left; tables = e.tables })) empty) page)
    by true = same (eqb e.page page)
    by false = refl

access_low : (r : Regime) (m : List ℕ) (a : Access) (h : Option Leaf) (c : Checked) → access_by ours r m a (lows h) c ≡ access_by ours r m a h c
unfolding lows
access_low r m a None c = refl
access_low r m a (Some l) (Ok _) = ap (recall ours r m a) (judged_low r a l)
access_low r m a (Some l) (Err x) = refl

pub access_spare : (g : Option Regime) (m : List ℕ) (a : Access) (e : EntryStruct) → access_in ours g m a (entry_view (entry_spare0 e)) ≡ access_in ours g m a (entry_view e)
access_spare None m a e = refl
access_spare (Some r) m a e =
    let c = and_then (ours.memory_check r (length m)) (ours.access_check r a) in
    ap (λ (h : Option Leaf). access_by ours r m a h c) (held_spare e (ours.page r a)) ∙ access_low r m a (held_in (entry_view e) (ours.page r a)) c
