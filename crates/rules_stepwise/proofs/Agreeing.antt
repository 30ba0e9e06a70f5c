-- What has a say in the plain walk over a reader: what the reader has where the walk looks; and neither the pool nor EE.
use Prim.Native.Nat.{ℕ, zero, suc}
use mathlib.Core.Bool.{Bool}
use mathlib.Core.List.{List, [], ◌∷◌}
use mathlib.Core.Path.{◌≡◌, refl, sym, ap, subst, ◌∙◌}
use lib.ListN.{length}
use Rattle.vmsa.specs.Fields.{no_tables, with_table}
use Rattle.vmsa.specs.declared.Regime.{Regime}
use Rattle.vmsa.specs.declared.Pool.{Pool}
use Rattle.vmsa.specs.declared.PhysAddr.{PhysAddr}
use Rattle.vmsa.specs.declared.Access.{Access}
use Rattle.vmsa.specs.declared.FaultKind.TheVariants.{ExternalAbort}
use Rattle.geometry.specs.Geometry.{level_of}
use Rattle.refusals.specs.Tests.{sizes_bad, roots_bad, dirty_state_bad, crossing}
use Rattle.checks.specs.Order.{Checked}
use Rattle.std.specs.Prelude.{Ok, Err, Option, Some, None}
use Rattle.checks.specs.Order.{start_check}
use Rattle.lookup.specs.declared.Context.{Context}
use Rattle.lookup.specs.declared.Next.{Next}
use Rattle.lookup.specs.declared.Next.TheVariants as next
use Rattle.lookup.specs.Steps.{First}
use Rattle.lookup.specs.Trace.{End, fault, leaf, Trace, ended, visit, under_hpd}
use Rattle.lookup.specs.Steps.{decoded, context, onward, on_word, followed, entry_at, entered, descend, range_of, context_of, left_at_first, first_table, locate}
use Rattle.lookup.proofs.Levels.{from_first, locate_first}
use Rattle.rules.proofs.Orders.{decision_elsewhere}
use Rattle.stepwise.specs.Stepwise.{conclusion}
use Rattle.rules_stepwise.specs.Feeds.{Plain, along, plain_over}
use Rattle.rules_stepwise.specs.Promised.{elsewhere, Agree}
use Rattle.rules_stepwise.proofs.Starts.{plain_refused, plain_walked}

pub agree_same : (read : ℕ → Option ℕ) (addresses : List ℕ) → Agree read read addresses
agree_same read [] = tt
agree_same read (a ∷ rest) = (refl, agree_same read rest)

-- ---- the levels: another pool, and a reader that has the same wherever they look

module _ (c : Context) (base : PhysAddr) (read read2 : ℕ → Option ℕ) where
  abbrev moved : Context
  moved = context base c.limit c.input c.page

  -- what goes on at a table, where it visits no address at which the readers differ
  Same : (ℕ → ℕ → Trace) → (ℕ → ℕ → Trace) → Type 0
  Same go go2 = (s t : ℕ) → Agree read read2 (go s t).visited → go s t ≡ go2 s t

  same_onward : (go go2 : ℕ → ℕ → Trace) → Same go go2 → (sum left a v : ℕ) (x : Next) → Agree read read2 (onward go sum left a v x).visited → onward go sum left a v x ≡ onward go2 sum left a v x
  unfolding Same
  same_onward go go2 h sum left a v (next.Fault kind) k = refl
  same_onward go go2 h sum left a v (next.Table table) k = h (with_table sum v) table.0 k
  same_onward go go2 h sum left a v next.Leaf k = refl

  same_word : (go go2 : ℕ → ℕ → Trace) → Same go go2 → (sum left a : ℕ) (x : Option ℕ) → Agree read read2 (on_word (ended (fault ExternalAbort (level_of left))) (followed moved go sum left a) x).visited
      → on_word (ended (fault ExternalAbort (level_of left))) (followed moved go sum left a) x ≡ on_word (ended (fault ExternalAbort (level_of left))) (followed c go2 sum left a) x
  unfolding followed
  same_word go go2 h sum left a (Some v) k = same_onward go go2 h sum left a v (decoded c.page c.limit.0 left v) k
  same_word go go2 h sum left a None k = refl

  same_descend : (n : ℕ) → Same (descend moved read n) (descend c read2 n)
  unfolding Same descend entered entry_at
  same_descend zero s t k = refl
  same_descend (suc left) s t k =
      let a = entry_at c left t in
      let z = ended (fault ExternalAbort (level_of left)) in
      ap (visit a)
      (same_word (descend moved read left) (descend c read2 left) (same_descend left) s left a (read a) k.1
      ∙ ap (on_word z (followed c (descend c read2 left) s left a)) k.0)

-- ---- the whole walk

module _ (r : Regime) (p : Pool) (ee : Bool) where
  -- neither the checks nor steps 1 and 2 ask the pool or EE
  check_elsewhere : (a : Access) → start_check (elsewhere r p ee) a ≡ start_check r a
  unfolding start_check sizes_bad roots_bad dirty_state_bad crossing
  check_elsewhere a = refl

  first_elsewhere : (a : ℕ) → first_table (elsewhere r p ee) a ≡ first_table r a
  unfolding first_table range_of
  first_elsewhere a = refl

  conclusion_elsewhere : (a : Access) (n : ℕ) (e : End) → conclusion (elsewhere r p ee) a n e ≡ conclusion r a n e
  conclusion_elsewhere a n (fault kind level) = refl
  conclusion_elsewhere a n (leaf at l) = rw (decision_elsewhere r p ee a l n)

  module _ (read read2 : ℕ → Option ℕ) where
    from_elsewhere : (a : ℕ) (f : First) → Agree read read2 (from_first (elsewhere r p ee) read a f).visited
        → under_hpd (range_of (elsewhere r p ee) a).hpd (from_first (elsewhere r p ee) read a f) ≡ under_hpd (range_of r a).hpd (from_first r read2 a f)
    unfolding Same range_of context_of
    from_elsewhere a (Err kind) k = refl
    from_elsewhere a (Ok root) k = ap (under_hpd (range_of r a).hpd) (same_descend (context_of r a) p.address read read2 (suc (left_at_first r a)) no_tables root.0 k)

    locate_elsewhere : (a : ℕ) → Agree read read2 (locate (elsewhere r p ee) read a).visited → locate (elsewhere r p ee) read a ≡ locate r read2 a
    locate_elsewhere a k =
        let h = locate_first (elsewhere r p ee) read a (first_table r a) (first_elsewhere a) in
        h ∙ from_elsewhere a (first_table r a) (subst (λ (t : Trace). Agree read read2 t.visited) h k) ∙ sym (locate_first r read2 a (first_table r a) refl)

    pub plain_elsewhere : (a : Access) → Agree read read2 (plain_over (elsewhere r p ee) a read).visited → plain_over (elsewhere r p ee) a read ≡ plain_over r a read2
    plain_elsewhere a k = by (start_check r a) refl
      where
        by : (x : Checked) → start_check r a ≡ x → plain_over (elsewhere r p ee) a read ≡ plain_over r a read2
        by (Err x) e = plain_refused (elsewhere r p ee) a read x (check_elsewhere a ∙ e) ∙ sym (plain_refused r a read2 x e)
        by (Ok _) e =
            let h = plain_walked (elsewhere r p ee) a read (check_elsewhere a ∙ e) in
            let t = locate r read2 a.address.0 in
            h ∙ ap (along (elsewhere r p ee) a) (locate_elsewhere a.address.0 (subst (λ (y : Plain). Agree read read2 y.visited) h k))
            ∙ (λ i. record { visited = t.visited; end = conclusion_elsewhere a (length t.visited) t.end i }) ∙ sym (plain_walked r a read2 e)
