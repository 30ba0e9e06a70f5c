-- A walk that was started and is fed by a reader: what it has named, and how it ends, beside the plain walk over that reader.
use Prim.Native.Nat.{ℕ, ◌+◌}
use mathlib.Core.List.{List, [], ◌∷◌, ◌++◌}
use mathlib.Core.Path.{◌≡◌, refl, sym, ap, subst⁻¹, ◌∙◌}
use native.Mathlib.Nat.{min-eq_left, le_refl}
use native.Mathlib.Omega.{arith}
use lib.ListN.{length}
use Rattle.vmsa.specs.Fields.{no_tables}
use Rattle.vmsa.specs.declared.Regime.{Regime}
use Rattle.vmsa.specs.declared.Access.{Access}
use Rattle.vmsa.specs.declared.PhysAddr.{PhysAddr}
use Rattle.vmsa.specs.declared.Refusal.{Refusal}
use Rattle.checks.specs.Order.{Checked}
use Rattle.std.specs.Prelude.{Ok, Err, Option}
use Rattle.checks.specs.Order.{start_check}
use Rattle.lookup.specs.Steps.{First}
use Rattle.lookup.specs.Trace.{fault, Trace, end_under_hpd, under_hpd}
use Rattle.lookup.specs.Steps.{context_of, range_of, left_at_first, first_table, locate, entry_at}
use Rattle.lookup.proofs.Levels.{locate_first}
use Rattle.stepwise.specs.declared.Wanting.{Wanting}
use Rattle.stepwise.specs.Stepwise.{Ended, Progress, wanting, ended, conclusion, declined, wanting_entry, begun, start, left_at}
use Rattle.stepwise.proofs.Laws.{start_refused, start_begun}
use Rattle.rules_stepwise.specs.Feeds.{Offer, Functions, Offering, Fed, addresses, Reads, Plain, along, plain_by, plain_over}
use Rattle.rules_stepwise.proofs.Lefts.{entry_trace, descend_entry, rest_of}
use Rattle.rules_stepwise.proofs.Chains.{before, Along, stops, goes_along}

module _ (r : Regime) (a : Access) (read : ℕ → Option ℕ) where
  pub plain_refused : (x : Refusal) → start_check r a ≡ Err x → plain_over r a read ≡ record { visited = []; end = declined x }
  unfolding plain_over
  plain_refused x k = ap (plain_by r a read) k

  pub plain_walked : start_check r a ≡ Ok tt → plain_over r a read ≡ along r a (locate r read a.address.0)
  unfolding plain_over
  plain_walked k = ap (plain_by r a read) k

  -- beside the plain walk: all of it, or the first part
  abbrev pub Beside : List Offer → Progress → Type 0
  Beside offers (wanting w) = (rest : List ℕ) × ((plain_over r a read).visited ≡ addresses offers ++ (w.address.0 ∷ rest))
  Beside offers (ended e) = (addresses offers ≡ (plain_over r a read).visited) × (e ≡ (plain_over r a read).end)

  -- ---- the walk at its first descriptor
  module _ (root : PhysAddr) where
    abbrev w₀ : Wanting
    w₀ = wanting_entry r a (left_at_first r a.address.0) no_tables root.0

    first_left_lem : left_at w₀ ≡ left_at_first r a.address.0
    unfolding left_at
    first_left_lem = min-eq_left (le_refl (left_at_first r a.address.0))

    before_none : before w₀ ≡ 0
    before_none = let e = first_left_lem in omega (arith, e)

    all_before : first_table r a.address.0 ≡ Ok root → locate r read a.address.0 ≡ under_hpd (range_of r a.address.0).hpd (rest_of w₀ read)
    all_before f =
        let c = context_of r a.address.0 in
        let left = left_at_first r a.address.0 in
        locate_first r read a.address.0 (Ok root) f
        ∙ ap (under_hpd (range_of r a.address.0).hpd)
        (descend_entry c read left no_tables root.0 ∙ ap (λ (n : ℕ). entry_trace c read n no_tables (entry_at c left root.0)) (sym first_left_lem))

    from_first_lem : start_check r a ≡ Ok tt → first_table r a.address.0 ≡ Ok root → (offers : List Offer) (p : Progress) → Along w₀ read offers p → Beside offers p
    from_first_lem k f offers (wanting w) h = (_, ap (λ (x : Plain). x.visited) (plain_walked k) ∙ ap (λ (t : Trace). t.visited) (all_before f) ∙ h)
    from_first_lem k f offers (ended e) h =
        let q = plain_walked k ∙ ap (along r a) (all_before f) in
        let n : before w₀ + length (rest_of w₀ read).visited ≡ length (rest_of w₀ read).visited = let z = before_none in omega (arith, z) in (
          h.0 ∙ ap (λ (x : Plain). x.visited) (sym q),
          h.1 ∙ ap (λ (m : ℕ). conclusion r a m (end_under_hpd (range_of r a.address.0).hpd (rest_of w₀ read).end)) n ∙ ap (λ (x : Plain). x.end) (sym q),
        )

module _ {S : Type 0} (see : S → Progress) (F : Functions S) (L : Offering see F) (r : Regime) (a : Access) (read : ℕ → Option ℕ) where
  -- a walk that has ended at its start
  at_once : {s u : S} {offers : List Offer} (e : Ended) → see s ≡ ended e → Fed see F s offers u → Beside r a read [] (ended e) → Beside r a read offers (see u)
  at_once {u = u} e q f h =
      let y = stops see F L e q f in
      subst⁻¹ (λ (l : List Offer). Beside r a read l (see u)) y.0 (subst⁻¹ (λ (p : Progress). Beside r a read [] p) y.1 h)

  pub beside : {s u : S} {offers : List Offer} → see s ≡ start r a → Fed see F s offers u → Reads read offers → Beside r a read offers (see u)
  beside {s = s} {u = u} {offers = offers} q f z = by (start_check r a) refl
    where
      on_first : start_check r a ≡ Ok tt → (x : First) → first_table r a.address.0 ≡ x → see s ≡ begun r a x → Beside r a read offers (see u)
      on_first k (Err kind) e g =
          let h = plain_walked r a read k ∙ ap (along r a) (locate_first r read a.address.0 (Err kind) e) in
          at_once (conclusion r a 0 (fault kind 0)) g f (ap (λ (x : Plain). x.visited) (sym h), ap (λ (x : Plain). x.end) (sym h))
      on_first k (Ok root) e g = from_first_lem r a read root k e offers (see u) (goes_along see F L read _ g k f z)

      by : (x : Checked) → start_check r a ≡ x → Beside r a read offers (see u)
      by (Err x) k =
          let h = plain_refused r a read x k in
          at_once (declined x) (q ∙ start_refused r a x k) f (ap (λ (y : Plain). y.visited) (sym h), ap (λ (y : Plain). y.end) (sym h))
      by (Ok _) k = on_first k (first_table r a.address.0) refl (q ∙ start_begun r a k)
