-- A leaf under tables, and the leaf that says by itself what they take away: steps 6 to 8 fail alike.
use Prim.Native.Nat.{ℕ}
use mathlib.Core.Bool.{Bool, true, false, not, ◌&&◌, ◌||◌}
use mathlib.Core.Path.{◌≡◌, refl, ap, ◌∙◌}
use native.Mathlib.Omega.{arith}
use lib.Dec.{lit≤}
use Rattle.descriptor.specs.Bits.{pick, bit, set_bit}
use Rattle.descriptor.proofs.BitLaws.{set_bit_lem, clear_bit_lem, set_other, clear_other}
use Rattle.vmsa.specs.Fields.{attribute_index, ap1, ap2, af, dbm, pxn as pxn_in, uxn as uxn_in, no_write_below, no_user_below, uxn_below, pxn_below}
use Rattle.vmsa.specs.declared.Regime.{Regime}
use Rattle.vmsa.specs.declared.Access.{Access}
use Rattle.vmsa.specs.declared.Leaf.{Leaf}
use Rattle.permission.specs.Permission.{attribute_of, writable, user, uxn, pxn, flag_fails, alignment_fails}
use Rattle.permission.proofs.Effective.{permission_same}
use Rattle.rules.specs.Steps.{leaf_steps}
use Rattle.rules.specs.Tables.{without_write, without_user, with_uxn, with_pxn, changed_if, restricted_value, restricted}
use Rattle.rules.proofs.Updates.{index_set, index_clear}

-- ---- one change, where a test holds

-- what it leaves
unchanged : {A : Type 0} (T : ℕ → A) (b : Bool) (change : ℕ → ℕ) (v : ℕ) → T (change v) ≡ T v → T (changed_if b change v) ≡ T v
unchanged T true change v e = e
unchanged T false change v e = refl

-- what it settles
settled : (T : ℕ → Bool) (b : Bool) (change : ℕ → ℕ) (v : ℕ) (c : Bool) → T (change v) ≡ c → T (changed_if b change v) ≡ pick b c (T v)
settled T true change v c e = e
settled T false change v c e = refl

-- ---- the four, one after another

module _ (sum v : ℕ) where
  abbrev first : ℕ
  first = changed_if (pxn_below sum) with_pxn v

  abbrev second : ℕ
  second = changed_if (uxn_below sum) with_uxn first

  abbrev third : ℕ
  third = changed_if (no_user_below sum) without_user second

  -- a part of the value that the first, the first two and the first three leave
  past_first : {A : Type 0} (T : ℕ → A) → ((x : ℕ) → T (with_pxn x) ≡ T x) → T first ≡ T v
  past_first T p = unchanged T (pxn_below sum) with_pxn v (p v)

  past_second : {A : Type 0} (T : ℕ → A) → ((x : ℕ) → T (with_pxn x) ≡ T x) → ((x : ℕ) → T (with_uxn x) ≡ T x) → T second ≡ T v
  past_second T p u = unchanged T (uxn_below sum) with_uxn first (u first) ∙ past_first T p

  past_third : {A : Type 0} (T : ℕ → A) → ((x : ℕ) → T (with_pxn x) ≡ T x) → ((x : ℕ) → T (with_uxn x) ≡ T x) → ((x : ℕ) → T (without_user x) ≡ T x) → T third ≡ T v
  past_third T p u n = unchanged T (no_user_below sum) without_user second (n second) ∙ past_second T p u

  -- a bit that the last leaves
  past_last : (n : ℕ) → (n ≡ 51 → ⊥) → (n ≡ 7 → ⊥) → bit n (changed_if (no_write_below sum) without_write third) ≡ bit n third
  past_last n h k = unchanged (bit n) (no_write_below sum) without_write third (clear_other 51 (set_bit 7 third) n h ∙ set_other 7 third n k)

  index_kept : attribute_index (restricted_value sum v) ≡ attribute_index v
  unfolding restricted_value
  index_kept =
      unchanged attribute_index (no_write_below sum) without_write third (index_clear 51 (set_bit 7 third) (lit≤ tt) ∙ index_set 7 third (lit≤ tt))
      ∙ past_third attribute_index (λ x. index_set _ x (lit≤ tt)) (λ x. index_set _ x (lit≤ tt)) (λ x. index_clear _ x (lit≤ tt))

  af_kept : af (restricted_value sum v) ≡ af v
  unfolding restricted_value
  af_kept =
      past_last 10 (λ e. omega arith) (λ e. omega arith)
      ∙ past_third af (λ x. set_other _ x 10 (λ e. omega arith)) (λ x. set_other _ x 10 (λ e. omega arith)) (λ x. clear_other _ x 10 (λ e. omega arith))

  ap2_settled : ap2 (restricted_value sum v) ≡ pick (no_write_below sum) true (ap2 v)
  unfolding restricted_value
  ap2_settled =
      settled ap2 (no_write_below sum) without_write third true (clear_other _ (set_bit 7 third) 7 (λ e. omega arith) ∙ set_bit_lem 7 third)
      ∙ ap (pick (no_write_below sum) true)
      (past_third ap2 (λ x. set_other _ x 7 (λ e. omega arith)) (λ x. set_other _ x 7 (λ e. omega arith)) (λ x. clear_other _ x 7 (λ e. omega arith)))

  dbm_settled : dbm (restricted_value sum v) ≡ pick (no_write_below sum) false (dbm v)
  unfolding restricted_value
  dbm_settled =
      settled dbm (no_write_below sum) without_write third false (clear_bit_lem 51 (set_bit 7 third))
      ∙ ap (pick (no_write_below sum) false)
      (past_third dbm (λ x. set_other _ x 51 (λ e. omega arith)) (λ x. set_other _ x 51 (λ e. omega arith)) (λ x. clear_other _ x 51 (λ e. omega arith)))

  ap1_settled : ap1 (restricted_value sum v) ≡ pick (no_user_below sum) false (ap1 v)
  unfolding restricted_value
  ap1_settled =
      past_last 6 (λ e. omega arith) (λ e. omega arith)
      ∙ settled ap1 (no_user_below sum) without_user second false (clear_bit_lem 6 second)
      ∙ ap (pick (no_user_below sum) false) (past_second ap1 (λ x. set_other _ x 6 (λ e. omega arith)) (λ x. set_other _ x 6 (λ e. omega arith)))

  uxn_settled : uxn_in (restricted_value sum v) ≡ pick (uxn_below sum) true (uxn_in v)
  unfolding restricted_value
  uxn_settled =
      past_last 54 (λ e. omega arith) (λ e. omega arith)
      ∙ unchanged uxn_in (no_user_below sum) without_user second (clear_other _ second 54 (λ e. omega arith))
      ∙ settled uxn_in (uxn_below sum) with_uxn first true (set_bit_lem 54 first)
      ∙ ap (pick (uxn_below sum) true) (past_first uxn_in (λ x. set_other _ x 54 (λ e. omega arith)))

  pxn_settled : pxn_in (restricted_value sum v) ≡ pick (pxn_below sum) true (pxn_in v)
  unfolding restricted_value
  pxn_settled =
      past_last 53 (λ e. omega arith) (λ e. omega arith)
      ∙ unchanged pxn_in (no_user_below sum) without_user second (clear_other _ second 53 (λ e. omega arith))
      ∙ unchanged pxn_in (uxn_below sum) with_uxn first (set_other _ first 53 (λ e. omega arith))
      ∙ settled pxn_in (pxn_below sum) with_pxn v true (set_bit_lem 53 v)

-- ---- the tests of steps 6 to 8

or_set : (b x : Bool) → (x || b) ≡ (pick b true x || false)
or_set true true = refl
or_set true false = refl
or_set false true = refl
or_set false false = refl

and_cleared : (b x : Bool) → (x && not b) ≡ (pick b false x && true)
and_cleared true true = refl
and_cleared true false = refl
and_cleared false true = refl
and_cleared false false = refl

module _ (r : Regime) (a : Access) (l : Leaf) where
  writable_same : writable r l ≡ writable r (restricted l)
  unfolding writable
  writable_same = rw (ap2_settled l.tables l.value, dbm_settled l.tables l.value) (by (no_write_below l.tables))
    where
      by : (b : Bool) → (not b && (not (ap2 l.value) || dbm l.value && r.ha && r.hd)) ≡ (true && (not (pick b true (ap2 l.value)) || pick b false (dbm l.value) && r.ha && r.hd))
      by true = refl
      by false = refl

  user_same : user l ≡ user (restricted l)
  unfolding user
  user_same = rw (ap1_settled l.tables l.value) (and_cleared (no_user_below l.tables) (ap1 l.value))

  uxn_same : uxn l ≡ uxn (restricted l)
  unfolding uxn
  uxn_same = rw (uxn_settled l.tables l.value) (or_set (uxn_below l.tables) (uxn_in l.value))

  pxn_same : pxn l ≡ pxn (restricted l)
  unfolding pxn
  pxn_same = rw (pxn_settled l.tables l.value) (or_set (pxn_below l.tables) (pxn_in l.value))

  attribute_same : attribute_of r l ≡ attribute_of r (restricted l)
  unfolding attribute_of
  attribute_same = rw (index_kept l.tables l.value)

  flag_same : flag_fails r l ≡ flag_fails r (restricted l)
  unfolding flag_fails
  flag_same = rw (af_kept l.tables l.value)

  alignment_same : alignment_fails r a l ≡ alignment_fails r a (restricted l)
  unfolding alignment_fails
  alignment_same = rw attribute_same

  pub restricted_steps : leaf_steps r a l ≡ leaf_steps r a (restricted l)
  unfolding leaf_steps
  restricted_steps =
      rw (flag_same, alignment_same, permission_same r a l (restricted l) writable_same user_same uxn_same pxn_same attribute_same)
