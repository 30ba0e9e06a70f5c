-- The promises, of any functions that do what the rules say of an offer.
use Prim.Native.Nat.{ℕ}
use mathlib.Core.List.{List, [], ◌∷◌, ◌++◌}
use Rattle.std.specs.Prelude.{None, Some, Ok, Err, Option}
use mathlib.Core.Path.{◌≡◌, refl, sym, ap, subst, ◌∙◌}
use Rattle.descriptor.proofs.Tests.{clash}
use Rattle.vmsa.specs.Answers.{refused as refused_with, number_of}
use Rattle.vmsa.specs.Fields.{no_tables}
use Rattle.vmsa.specs.declared.Regime.{Regime}
use Rattle.vmsa.specs.declared.Access.{Access}
use Rattle.vmsa.specs.declared.FaultKind.TheVariants.{ExternalAbort}
use Rattle.geometry.specs.Geometry.{level_of}
use Rattle.checks.specs.Order.{Checked}
use Rattle.checks.specs.Order.{start_rows, start_check}
use Rattle.lookup.specs.Steps.{First}
use Rattle.lookup.specs.Trace.{End, fault, leaf}
use Rattle.lookup.specs.Steps.{left_at_first, first_table}
use Rattle.stepwise.specs.declared.Wanting.{Wanting}
use Rattle.stepwise.specs.Stepwise.{Ended, Progress, wanting, ended, conclusion, declined, wanting_entry, begun, start, left_at, reads_at, leaf_at, ended_at, offered}
use Rattle.stepwise.proofs.Laws.{start_refused, start_begun}
use Rattle.rules.specs.Rule1.{FirstNumber}
use Rattle.rules.proofs.Refusals.{first_refuses, refuses_first}
use Rattle.rules.specs.Tables.{reader_of}
use Rattle.rules_stepwise.specs.Feeds.{Offer, named, Functions, Offering, Fed, none_yet, more, addresses, Reads, Plain, plain_over}
use Rattle.rules_stepwise.specs.Promised.{elsewhere, Agree, Ends, Walks}
use Rattle.rules_stepwise.proofs.Lefts.{below, Left, refused, aborted, faulted, deeper, reached, left_by_lem}
use Rattle.rules_stepwise.proofs.Chains.{stops, lasts_any}
use Rattle.rules_stepwise.proofs.Starts.{Beside, beside}
use Rattle.rules_stepwise.proofs.Agreeing.{agree_same, plain_elsewhere}
use Rattle.rules_stepwise.proofs.Ended.{Fine, fine_refused, fine_fault, fine_leaf, conclusion_answers}
use Rattle.rules_stepwise.proofs.Pools.{IsWalk, plain_walk}

module _ {S : Type 0} (see : S → Progress) (F : Functions S) (L : Offering see F) where
  pub ends : Ends see F
  ends = record {
    four = λ s t offers f. (lasts_any see F L f).0;
    wants = λ s t offers f a h. (lasts_any see F L f).1 a h;
    late = λ s e q o t n f. L.late s o t n f e q;
    accepted = λ s a h o t n f. by s a h o t n f (see s) refl;
  }
    where
      by : (s : S) (a : ℕ) → named (see s) ≡ Some a → (o : Option ℕ) (t : S) (n : ℕ) → F s o t n → (p : Progress) → see s ≡ p → n ≡ 0
      by s a h o t n f (wanting w) q = (L.goes s o t n f w q).1
      by s a h o t n f (ended e) q = clash (let z : None ≡ Some a = sym (ap named q) ∙ h in cc)

  -- a walk that goes on ends in no refusal
  answers : {s u : S} {offers : List Offer} (w : Wanting) → see s ≡ wanting w → start_check w.regime w.access ≡ Ok tt → Fed see F s offers u → (e : Ended) → see u ≡ ended e → (k : ℕ) → e.result ≡ refused_with k → ⊥
  answers w q c none_yet e h k x = clash (let z : wanting w ≡ ended e = sym q ∙ h in cc)
  answers {u = u} w q c (more {t = t} {a = a} {n = n} {o = o} {offers = offers} m f rest) e h k x = by (λ w' g d. answers w' g d rest e h k x) (offered w o) (L.goes _ o t n f w q).0 (left_by_lem w o)
    where
      last : (y : End) → see t ≡ ended_at w y → ⊥
      last y g =
          let z : ended (conclusion w.regime w.access (reads_at w) y) ≡ ended e = sym (stops see F L (conclusion w.regime w.access (reads_at w) y) g rest).1 ∙ h in
          let d : conclusion w.regime w.access (reads_at w) y ≡ e = cc in
          conclusion_answers w.regime w.access (reads_at w) y k (ap (λ (v : Ended). v.result) d ∙ x)

      by : ((w' : Wanting) → see t ≡ wanting w' → start_check w'.regime w'.access ≡ Ok tt → ⊥) → (p : Progress) → see t ≡ p → Left w o p → ⊥
      by again p g (refused y d) = clash (let z : Err y ≡ Ok tt = sym d ∙ c in cc)
      by again p g (aborted d y) = last (fault ExternalAbort (level_of (left_at w))) g
      by again p g (faulted d v y kind z) = last (fault kind (level_of (left_at w))) g
      by again p g (reached d v y z) = last (leaf w.address.0 (leaf_at w v)) g
      by again p g (deeper d v y table z) = again (below w v table) g c

  -- what its end says
  fed_fine : {s u : S} {offers : List Offer} (w : Wanting) → see s ≡ wanting w → Fed see F s offers u → (e : Ended) → see u ≡ ended e → Fine w.regime w.access e
  fed_fine w q none_yet e h = clash (let z : wanting w ≡ ended e = sym q ∙ h in cc)
  fed_fine {u = u} w q (more {t = t} {a = a} {n = n} {o = o} {offers = offers} m f rest) e h = by (λ w' g. fed_fine w' g rest e h) (offered w o) (L.goes _ o t n f w q).0 (left_by_lem w o)
    where
      last : (y : Ended) → see t ≡ ended y → Fine w.regime w.access y → Fine w.regime w.access e
      last y g k =
          let z : ended y ≡ ended e = sym (stops see F L y g rest).1 ∙ h in
          let d : y ≡ e = cc in
          subst (Fine w.regime w.access) d k

      by : ((w' : Wanting) → see t ≡ wanting w' → Fine w'.regime w'.access e) → (p : Progress) → see t ≡ p → Left w o p → Fine w.regime w.access e
      by again p g (refused y d) = last (declined y) g (fine_refused w.regime w.access y)
      by again p g (aborted d y) = last (conclusion w.regime w.access (reads_at w) (fault ExternalAbort (level_of (left_at w)))) g (fine_fault w.regime w.access (reads_at w) ExternalAbort (level_of (left_at w)))
      by again p g (faulted d v y kind z) = last (conclusion w.regime w.access (reads_at w) (fault kind (level_of (left_at w)))) g (fine_fault w.regime w.access (reads_at w) kind (level_of (left_at w)))
      by again p g (reached d v y z) = last (conclusion w.regime w.access (reads_at w) (leaf w.address.0 (leaf_at w v))) g (fine_leaf w (reads_at w) v z)
      by again p g (deeper d v y table z) = again (below w v table) g

  module _ (r : Regime) (a : Access) (s : S) (q : see s ≡ start r a) where
    started_fine : (t : S) (offers : List Offer) → Fed see F s offers t → (e : Ended) → see t ≡ ended e → Fine r a e
    started_fine t offers f e h = by (start_check r a) refl
      where
        over : (y : Ended) → see s ≡ ended y → Fine r a y → Fine r a e
        over y g k =
            let z : ended y ≡ ended e = sym (stops see F L y g f).1 ∙ h in
            let d : y ≡ e = cc in
            subst (Fine r a) d k

        first_by : (y : First) → see s ≡ begun r a y → Fine r a e
        first_by (Err kind) g = over (conclusion r a 0 (fault kind 0)) g (fine_fault r a 0 kind 0)
        first_by (Ok root) g = fed_fine (wanting_entry r a (left_at_first r a.address.0) no_tables root.0) g f e h

        by : (y : Checked) → start_check r a ≡ y → Fine r a e
        by (Err y) c = over (declined y) (q ∙ start_refused r a y c) (fine_refused r a y)
        by (Ok _) c = first_by (first_table r a.address.0) (q ∙ start_begun r a c)

    -- what a start that is not refused gives
    on_first : start_check r a ≡ Ok tt → (f : First) → see s ≡ begun r a f → (e : Ended) → see s ≡ ended e → (k : ℕ) → e.result ≡ refused_with k → ⊥
    on_first c (Err kind) g e h k x =
        let z : ended (conclusion r a 0 (fault kind 0)) ≡ ended e = sym g ∙ h in
        let d : conclusion r a 0 (fault kind 0) ≡ e = cc in
        conclusion_answers r a 0 (fault kind 0) k (ap (λ (v : Ended). v.result) d ∙ x)
    on_first c (Ok root) g e h k x = clash (let z : begun r a (Ok root) ≡ ended e = sym g ∙ h in cc)

    refused_by : (k : ℕ) (e : Ended) → see s ≡ ended e → e.result ≡ refused_with k → FirstNumber (start_rows r a) k
    unfolding start_check
    refused_by k e h x = by (start_check r a) refl
      where
        by : (y : Checked) → start_check r a ≡ y → FirstNumber (start_rows r a) k
        by (Err y) c =
            let z : ended (declined y) ≡ ended e = sym (q ∙ start_refused r a y c) ∙ h in
            let d : declined y ≡ e = cc in
            let n : refused_with (number_of y) ≡ refused_with k = ap (λ (v : Ended). v.result) d ∙ x in
            (y, refuses_first (start_rows r a) y c, (cc))
        by (Ok _) c = absurd (on_first c (first_table r a.address.0) (q ∙ start_begun r a c) e h k x)

    refused_at : (k : ℕ) → FirstNumber (start_rows r a) k → (e : Ended) × (see s ≡ ended e) × (e.result ≡ refused_with k)
    unfolding start_check
    refused_at k y = (declined y.0, q ∙ start_refused r a y.0 (first_refuses y.1), ap refused_with y.2)

    fed_answers : (x : Offer) (offers : List Offer) (t : S) → Fed see F s (x ∷ offers) t → (e : Ended) → see t ≡ ended e → (k : ℕ) → e.result ≡ refused_with k → ⊥
    fed_answers x offers t f e h k z = by (start_check r a) refl
      where
        -- a walk that has ended at its start is offered nothing
        over : (y : Ended) → see s ≡ ended y → ⊥
        over y g = clash (let d : (x ∷ offers) ≡ [] = (stops see F L y g f).0 in cc)

        first_by : start_check r a ≡ Ok tt → (y : First) → see s ≡ begun r a y → ⊥
        first_by c (Err kind) g = over (conclusion r a 0 (fault kind 0)) g
        first_by c (Ok root) g = answers (wanting_entry r a (left_at_first r a.address.0) no_tables root.0) g c f e h k z

        by : (y : Checked) → start_check r a ≡ y → ⊥
        by (Err y) c = over (declined y) (q ∙ start_refused r a y c)
        by (Ok _) c = first_by c (first_table r a.address.0) (q ∙ start_begun r a c)

    at_end : (read : ℕ → Option ℕ) (t : S) (offers : List Offer) → Fed see F s offers t → Reads read offers → (e : Ended) → see t ≡ ended e → Beside r a read offers (ended e)
    at_end read t offers f z e h = subst (λ (p : Progress). Beside r a read offers p) h (beside see F L r a read q f z)

    before_end : (read : ℕ → Option ℕ) (t : S) (offers : List Offer) → Fed see F s offers t → Reads read offers → (x : ℕ) → named (see t) ≡ Some x
        → (p : Progress) → see t ≡ p → (rest : List ℕ) × ((plain_over r a read).visited ≡ addresses offers ++ (x ∷ rest))
    before_end read t offers f z x h (wanting w) g =
        let b : Beside r a read offers (wanting w) = subst (λ (p : Progress). Beside r a read offers p) g (beside see F L r a read q f z) in
        let y : w.address.0 ≡ x = let k : Some w.address.0 ≡ Some x = sym (ap named g) ∙ h in cc in
        (b.0, subst (λ (n : ℕ). (plain_over r a read).visited ≡ addresses offers ++ (n ∷ b.0)) y b.1)
    before_end read t offers f z x h (ended e) g = clash (let k : None ≡ Some x = sym (ap named g) ∙ h in cc)

    pub walks : Walks see F r a s
    walks = record {
      refusals = λ k. (λ x. refused_by k x.0 x.1 x.2, refused_at k);
      later = fed_answers;
      update = λ t offers f e h. (started_fine t offers f e h).0;
      below = λ t offers f e h. (started_fine t offers f e h).1;
      all = λ read t offers f z e h. (at_end read t offers f z e h).0;
      first = λ read t offers f z x h. before_end read t offers f z x h (see t) refl;
      end = λ read t offers f z e h. (at_end read t offers f z e h).1;
      pool = λ m g k t offers f z e h. subst (IsWalk r a m) (sym (at_end (reader_of r m) t offers f z e h).1) (plain_walk r a m g k);
      unheard = λ p ee read t offers f z e h.
          let b = at_end read t offers f z e h in
          let w = sym (plain_elsewhere r p ee read read a (agree_same read (plain_over (elsewhere r p ee) a read).visited)) in
          (b.0 ∙ ap (λ (x : Plain). x.visited) w, b.1 ∙ ap (λ (x : Plain). x.end) w);
      alike = λ read read2 t t2 offers offers2 f z f2 z2 k e e2 h h2.
          let b = at_end read t offers f z e h in
          let b2 = at_end read2 t2 offers2 f2 z2 e2 h2 in
          let p = plain_elsewhere r r.pool r.ee read read2 a (subst (Agree read read2) b.0 k) in
          (b.0 ∙ ap (λ (x : Plain). x.visited) p ∙ sym b2.0, b.1 ∙ ap (λ (x : Plain). x.end) p ∙ sym b2.1);
    }
