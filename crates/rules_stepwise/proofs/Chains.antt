-- Every walk that is fed, by any functions that do what the rules say of an offer: how long it lasts, and over a reader, what it names and how it ends.
use Prim.Native.Nat.{ℕ, suc, ◌+◌, ◌-◌, ◌≤◌, zero-le}
use mathlib.Core.Bool.{Bool}
use mathlib.Core.List.{List, [], ◌∷◌, ◌++◌}
use Rattle.std.specs.Prelude.{None, Some, Ok, Err, Option}
use mathlib.Core.Path.{◌≡◌, refl, sym, ap, subst, subst⁻¹, ◌∙◌}
use native.Mathlib.Omega.{arith}
use lib.ListN.{length}
use Rattle.descriptor.proofs.Tests.{clash}
use Rattle.vmsa.specs.declared.PhysAddr.{PhysAddr}
use Rattle.vmsa.specs.declared.Refusal.{Refusal}
use Rattle.checks.specs.Order.{Checked}
use Rattle.checks.specs.Order.{start_check}
use Rattle.checks.proofs.Accept.{start_accepted}
use Rattle.lookup.specs.declared.Next.TheVariants as next
use Rattle.lookup.specs.Trace.{End, Trace, ended as ended_trace, end_under_hpd, visit}
use Rattle.lookup.specs.Steps.{range_of}
use Rattle.lookup.proofs.Reach.{first_low}
use Rattle.stepwise.specs.declared.Wanting.{Wanting}
use Rattle.stepwise.specs.Stepwise.{Ended, Progress, wanting, ended, conclusion, declined, left_at_start, left_at, reads_at, offered}
use Rattle.rules_stepwise.specs.Feeds.{Offer, named, Functions, Offering, Fed, none_yet, more, addresses, Reads}
use Rattle.rules_stepwise.proofs.Lefts.{says_at, below, Left, refused, aborted, faulted, deeper, reached, left_by_lem, left_most, left_above, left_below, rest_of, rest_aborted, rest_faulted, rest_reached, rest_deeper}

-- a walk names the address of the descriptor that it wants
some_is : {x y : ℕ} → Some x ≡ Some y → x ≡ y
some_is e = cc

-- what is still before a walk, where HPD of its range is asked; and the descriptors read before it
abbrev pub hpd_of : Wanting → Bool
hpd_of w = (range_of w.regime w.access.address.0).hpd

abbrev pub before : Wanting → ℕ
before w = left_at_start w - left_at w

abbrev pub end_of : Wanting → (ℕ → Option ℕ) → ℕ → Ended
end_of w read reads = conclusion w.regime w.access reads (end_under_hpd (hpd_of w) (rest_of w read).end)

-- where a walk that was at w has come to, these offers having been made
abbrev pub Along : Wanting → (ℕ → Option ℕ) → List Offer → Progress → Type 0
Along w read offers (wanting w') = (rest_of w read).visited ≡ addresses offers ++ (rest_of w' read).visited
Along w read offers (ended e) = (addresses offers ≡ (rest_of w read).visited) × (e ≡ end_of w read (before w + length (rest_of w read).visited))

-- one offer, and the end
module _ (w : Wanting) (read : ℕ → Option ℕ) (o : Option ℕ) where
  abbrev at : ℕ
  at = w.address.0

  one : (e : End) → rest_of w read ≡ visit at (ended_trace e) → Along w read (record { address = at; word = o } ∷ []) (ended (conclusion w.regime w.access (reads_at w) (end_under_hpd (hpd_of w) e)))
  unfolding reads_at
  one e q = (
    ap (λ (t : Trace). t.visited) (sym q),
    subst⁻¹ (λ (t : Trace). conclusion w.regime w.access (suc (before w)) (end_under_hpd (hpd_of w) e) ≡ conclusion w.regime w.access (before w + length t.visited) (end_under_hpd (hpd_of w) t.end)) q
        (ap (λ (n : ℕ). conclusion w.regime w.access n (end_under_hpd (hpd_of w) e)) (let z : suc (before w) ≡ before w + 1 = omega arith in z)),
  )

  -- and one offer more, where a table follows
  onto : (v : ℕ) (table : PhysAddr) → rest_of w read ≡ visit at (rest_of (below w v table) read) → before (below w v table) ≡ suc (before w) → (offers : List Offer) (p : Progress)
      → Along (below w v table) read offers p → Along w read (record { address = at; word = o } ∷ offers) p
  onto v table q n offers (wanting x) h = ap (λ (t : Trace). t.visited) q ∙ ap (λ (l : List ℕ). at ∷ l) h
  onto v table q n offers (ended e) h =
      let t = rest_of (below w v table) read in
      let k : before (below w v table) + length t.visited ≡ before w + suc (length t.visited) = omega (arith, n) in (
        ap (λ (l : List ℕ). at ∷ l) h.0 ∙ ap (λ (x : Trace). x.visited) (sym q),
        subst⁻¹ (λ (x : Trace). e ≡ conclusion w.regime w.access (before w + length x.visited) (end_under_hpd (hpd_of w) x.end)) q
            (h.1 ∙ ap (λ (m : ℕ). conclusion w.regime w.access m (end_under_hpd (hpd_of w) t.end)) k),
      )

  deeper_before : (v : ℕ) (table : PhysAddr) → says_at w v ≡ next.Table table → before (below w v table) ≡ suc (before w)
  deeper_before v table d =
      let b = left_below w v table d in
      let z = left_above w v table d in
      let m = left_most w in
      ap (λ (n : ℕ). left_at_start w - n) b ∙ (let y : left_at_start w - (left_at w - 1) ≡ suc (left_at_start w - left_at w) = omega arith in y)

module _ {S : Type 0} (see : S → Progress) (F : Functions S) (L : Offering see F) where
  -- after an end nothing is offered
  pub stops : {s u : S} {offers : List Offer} (e : Ended) → see s ≡ ended e → Fed see F s offers u → (offers ≡ []) × (see u ≡ ended e)
  stops e q none_yet = (refl, q)
  stops e q (more h f rest) = clash (let z : None ≡ Some _ = sym (ap named q) ∙ h in cc)

  -- ---- how long it lasts

  abbrev pub Lasts : ℕ → List Offer → Progress → Type 0
  Lasts n offers p = (length offers ≤ suc n) × ((x : ℕ) → named p ≡ Some x → length offers ≤ n)

  one_last : {t u : S} {offers : List Offer} (n : ℕ) (x : Offer) (e : Ended) → see t ≡ ended e → Fed see F t offers u → Lasts n (x ∷ offers) (see u)
  one_last n x e q f =
      let h = stops e q f in (
        subst⁻¹ (λ (l : List Offer). length (x ∷ l) ≤ suc n) h.0 (let z : 1 ≤ suc n = omega arith in z),
        λ y k. clash (let z : None ≡ Some y = sym (ap named h.1) ∙ k in cc),
      )

  lasts : {s u : S} {offers : List Offer} (w : Wanting) → see s ≡ wanting w → Fed see F s offers u → Lasts (left_at w) offers (see u)
  lasts w q none_yet = (zero-le, λ x h. zero-le)
  lasts {u = u} w q (more {t = t} {a = a} {n = n} {o = o} {offers = offers} h f rest) = by (λ w' g. lasts w' g rest) (offered w o) (L.goes _ o t n f w q).0 (left_by_lem w o)
    where
      by : ((w' : Wanting) → see t ≡ wanting w' → Lasts (left_at w') offers (see u)) → (p : Progress) → see t ≡ p → Left w o p → Lasts (left_at w) (record { address = a; word = o } ∷ offers) (see u)
      by again p g (refused x c) = one_last (left_at w) (record { address = a; word = o }) (declined x) g rest
      by again p g (aborted c e) = one_last (left_at w) (record { address = a; word = o }) _ g rest
      by again p g (faulted c v e kind d) = one_last (left_at w) (record { address = a; word = o }) _ g rest
      by again p g (reached c v e d) = one_last (left_at w) (record { address = a; word = o }) _ g rest
      by again p g (deeper c v e table d) =
          let i = again (below w v table) g in
          let b = left_below w v table d in
          let z = left_above w v table d in
          (let k = i.0 in omega arith, λ x y. let k = i.1 x y in omega arith)

  -- of a walk that a start would refuse: no longer than its first offer
  refused_lasts : {s u : S} {offers : List Offer} (w : Wanting) → see s ≡ wanting w → (x : Refusal) → start_check w.regime w.access ≡ Err x → Fed see F s offers u → Lasts 0 offers (see u)
  refused_lasts w q x k none_yet = (zero-le, λ y h. zero-le)
  refused_lasts {u = u} w q x k (more {t = t} {a = a} {n = n} {o = o} {offers = offers} h f rest) = by (offered w o) (L.goes _ o t n f w q).0 (left_by_lem w o)
    where
      no : start_check w.regime w.access ≡ Ok tt → ⊥
      no c = let z : Err x ≡ Ok tt = sym k ∙ c in clash (cc)

      by : (p : Progress) → see t ≡ p → Left w o p → Lasts 0 (record { address = a; word = o } ∷ offers) (see u)
      by p g (refused y c) = one_last 0 (record { address = a; word = o }) (declined y) g rest
      by p g (aborted c e) = absurd (no c)
      by p g (faulted c v e kind d) = absurd (no c)
      by p g (reached c v e d) = absurd (no c)
      by p g (deeper c v e table d) = absurd (no c)

  -- any walk at all: at most four offers, and three where it wants one more
  pub lasts_any : {s u : S} {offers : List Offer} → Fed see F s offers u → Lasts 3 offers (see u)
  lasts_any {s = s} {u = u} {offers = offers} f = by (see s) refl
    where
      accepted : (w : Wanting) → see s ≡ wanting w → (x : Checked) → start_check w.regime w.access ≡ x → Lasts 3 offers (see u)
      accepted w q (Err x) k = let l = refused_lasts w q x k f in (let z = l.0 in omega arith, λ y h. let z = l.1 y h in omega arith)
      accepted w q (Ok _) k =
          let l = lasts w q f in
          let m = left_most w in
          let n = first_low w.regime w.access.address.0 (start_accepted w.regime w.access k).0 in
          (let z = l.0 in omega arith, λ y h. let z = l.1 y h in omega arith)

      by : (p : Progress) → see s ≡ p → Lasts 3 offers (see u)
      by (ended e) q = let h = stops e q f in (subst⁻¹ (λ (l : List Offer). length l ≤ 4) h.0 zero-le, λ y k. clash (let z : None ≡ Some y = sym (ap named h.1) ∙ k in cc))
      by (wanting w) q = accepted w q (start_check w.regime w.access) refl

  -- ---- over a reader

  pub goes_along : {s u : S} {offers : List Offer} (read : ℕ → Option ℕ) (w : Wanting) → see s ≡ wanting w → start_check w.regime w.access ≡ Ok tt → Fed see F s offers u → Reads read offers
      → Along w read offers (see u)
  goes_along read w q k none_yet z = subst⁻¹ (λ (p : Progress). Along w read [] p) q refl
  goes_along {u = u} read w q k (more {t = t} {a = a} {n = n} {o = o} {offers = offers} h f rest) z =
      subst (λ (x : ℕ). Along w read (record { address = x; word = o } ∷ offers) (see u)) here
      (by (λ w' g j. goes_along read w' g j rest z.1) (offered w o) (L.goes _ o t n f w q).0 (left_by_lem w o))
    where
      here : w.address.0 ≡ a
      here = some_is (sym (ap named q) ∙ h)

      was : o ≡ read w.address.0
      was = z.0 ∙ ap read (sym here)

      last : (e : Ended) → see t ≡ ended e → Along w read (record { address = w.address.0; word = o } ∷ []) (ended e) → Along w read (record { address = w.address.0; word = o } ∷ offers) (see u)
      last e g j =
          let y = stops e g rest in
          subst⁻¹ (λ (l : List Offer). Along w read (record { address = w.address.0; word = o } ∷ l) (see u)) y.0
          (subst⁻¹ (λ (p : Progress). Along w read (record { address = w.address.0; word = o } ∷ []) p) y.1 j)

      by : ((w' : Wanting) → see t ≡ wanting w' → start_check w'.regime w'.access ≡ Ok tt → Along w' read offers (see u)) → (p : Progress) → see t ≡ p → Left w o p
          → Along w read (record { address = w.address.0; word = o } ∷ offers) (see u)
      by again p g (refused x c) = clash (let y : Err x ≡ Ok tt = sym c ∙ k in cc)
      by again p g (aborted c e) = last _ g (one w read o _ (rest_aborted w read (sym was ∙ e)))
      by again p g (faulted c v e kind d) = last _ g (one w read o _ (rest_faulted w read v (sym was ∙ e) kind d))
      by again p g (reached c v e d) = last _ g (one w read o _ (rest_reached w read v (sym was ∙ e) d))
      by again p g (deeper c v e table d) = onto w read o v table (rest_deeper w read v (sym was ∙ e) table d) (deeper_before w read o v table d) offers (see u) (again (below w v table) g k)
