-- The first failing step of the list, and the trace of steps 1 to 5: the step is the fault that ends the trace, or the first that fails of its leaf's.
use Prim.Native.Nat.{ℕ, zero, suc}
use mathlib.Core.Bool.{Bool, true, false, not, ◌||◌}
use mathlib.Core.List.{List, [], ◌∷◌}
use Rattle.std.specs.Prelude.{Option, None, Some}
use mathlib.Core.Path.{◌≡◌, refl, sym, subst}
use native.Mathlib.Omega.{arith}
use lib.Dec.{leb, eqb}
use Rattle.descriptor.specs.Bits.{pick, bit}
use Rattle.descriptor.proofs.Tests.{differ, and_true}
use Rattle.vmsa.specs.Granules.{page_bits_of}
use Rattle.vmsa.specs.Fields.{no_tables, with_table}
use Rattle.geometry.specs.Geometry.{level_of, first_left, output_limit}
use Rattle.vmsa.specs.declared.Regime.{Regime}
use Rattle.vmsa.specs.declared.Access.{Access}
use Rattle.vmsa.specs.declared.FaultKind.{FaultKind}
use Rattle.vmsa.specs.declared.FaultKind.TheVariants.{AddressSize, Translation, ExternalAbort}
use Rattle.lookup.specs.declared.Next.TheVariants as next
use Rattle.lookup.specs.declared.Context.{Context}
use Rattle.lookup.specs.Trace.{End, fault, leaf, Trace, ended, end_under_hpd}
use Rattle.lookup.specs.Steps.{invalid, is_table, address_in, decoded, pool_reader, onward, on_word, followed, entry_at, entered, descend, range_of, outside, context_of, lookup, locate}
use Rattle.walk.specs.Walk.{traced}
use Rattle.rules.specs.Steps.{Step, step, AllPass, FirstFails, done, pass, here, later, leaf_steps, leaf_under, descriptor_steps, entry_steps, level_steps, walk_steps}

-- the fault of the first step that fails
abbrev pub Fault : Type 0
Fault = FaultKind × ℕ

abbrev pub first_fault : List Step → Option Fault
first_fault [] = None
first_fault (s ∷ steps) = pick s.fails (Some (s.kind, s.level)) (first_fault steps)

pub passes_none : {steps : List Step} → AllPass steps → first_fault steps ≡ None
passes_none done = refl
passes_none (pass p) = passes_none p

pub fails_some : {steps : List Step} {k : FaultKind} {l : ℕ} → FirstFails steps k l → first_fault steps ≡ Some (k, l)
fails_some here = refl
fails_some (later f) = fails_some f

-- there is a fault, or there is none
pub no_fault : {A : Type 0} (f : Fault) → ◌≡◌ {A = Option Fault} (Some f) None → A
no_fault f e = absurd (let z : ◌≡◌ {A = ℕ} 0 1 = cc in omega arith)

pub none_passes : (steps : List Step) → first_fault steps ≡ None → AllPass steps
none_passes [] e = done
none_passes (s ∷ steps) e = by s.fails e (none_passes steps)
  where
    by : (b : Bool) → pick b (Some (s.kind, s.level)) (first_fault steps) ≡ None → (first_fault steps ≡ None → AllPass steps) → AllPass (step b s.kind s.level ∷ steps)
    by true q k = no_fault (s.kind, s.level) q
    by false q k = pass (k q)

pub some_fails : (steps : List Step) (k : FaultKind) (l : ℕ) → first_fault steps ≡ Some (k, l) → FirstFails steps k l
some_fails [] k l e = no_fault (k, l) (sym e)
some_fails (s ∷ steps) k l e = by s.fails s.kind s.level e (some_fails steps k l)
  where
    by : (b : Bool) (kind : FaultKind) (level : ℕ) → pick b (Some (kind, level)) (first_fault steps) ≡ Some (k, l) → (first_fault steps ≡ Some (k, l) → FirstFails steps k l)
        → FirstFails (step b kind level ∷ steps) k l
    by true kind level q h =
        let p : ◌≡◌ {A = Fault} (kind, level) (k, l) = cc in
        subst (λ (x : Fault). FirstFails (step true kind level ∷ steps) x.0 x.1) p here
    by false kind level q h = later (h q)

-- ---- the steps of a lookup, and where they end

module _ (r : Regime) (a : Access) where
  -- the fault that an end of steps 1 to 5 comes to
  abbrev pub end_fault : End → Option Fault
  end_fault (fault kind level) = Some (kind, level)
  end_fault (leaf at l) = first_fault (leaf_steps r a l)

  hpd : Bool
  hpd = (range_of r a.address.0).hpd

  module _ (c : Context) where
    descriptor_steps_lem : (below : ℕ → ℕ → List Step) (goes : ℕ → ℕ → Trace) (sum left at v : ℕ) → ((s t : ℕ) → is_table left v ≡ true → first_fault (below s t) ≡ end_fault (end_under_hpd hpd (goes s t).end))
        → first_fault (descriptor_steps r a c below sum left v) ≡ end_fault (end_under_hpd hpd (followed c goes sum left at v).end)
    unfolding descriptor_steps followed decoded hpd
    descriptor_steps_lem below goes sum left at v h = by (invalid c.page left v) (leb c.limit.0 (address_in c.page left v)) (is_table left v) refl
      where
        by : (i x t : Bool) → is_table left v ≡ t
            → first_fault
            (step i Translation (level_of left)
            ∷ step x AddressSize (level_of left)
            ∷ pick t (below (with_table sum v) (address_in c.page left v)) (leaf_steps r a (leaf_under r a sum left v)))
            ≡ end_fault (end_under_hpd (range_of r a.address.0).hpd
            (onward goes sum left at v (pick i (next.Fault Translation) (pick x (next.Fault AddressSize) (pick t (next.Table (record { 0 = address_in c.page left v })) next.Leaf)))
            ).end)
        by true x t e = refl
        by false true t e = refl
        by false false true e = h (with_table sum v) (address_in c.page left v) e
        by false false false e = refl

    no_table : (v : ℕ) → is_table 0 v ≡ true → ⊥
    unfolding is_table
    no_table v e = differ (sym (and_true (bit 1 v) (not (eqb 0 0)) e).1)

    module _ (read : ℕ → Option ℕ) where
      entry_steps_lem : (below : ℕ → ℕ → List Step) (goes : ℕ → ℕ → Trace) (left sum table : ℕ)
          → ((v s t : ℕ) → is_table left v ≡ true → first_fault (below s t) ≡ end_fault (end_under_hpd hpd (goes s t).end))
          → first_fault (entry_steps r a c below sum left (read (entry_at c left table))) ≡ end_fault (end_under_hpd hpd (entered c read goes left sum table).end)
      unfolding entered
      entry_steps_lem below goes left sum table h = by (read (entry_at c left table))
        where
          by : (w : Option ℕ)
              → first_fault (entry_steps r a c below sum left w)
              ≡ end_fault (end_under_hpd hpd (on_word (ended (fault ExternalAbort (level_of left))) (followed c goes sum left (entry_at c left table)) w).end)
          by (Some v) = descriptor_steps_lem below goes sum left (entry_at c left table) v (h v)
          by None = refl

      -- any number of levels from a table on
      level_steps_lem : (n sum table : ℕ) → first_fault (level_steps r a c read (suc n) sum table) ≡ end_fault (end_under_hpd hpd (descend c read (suc n) sum table).end)
      unfolding level_steps descend
      level_steps_lem zero sum table = entry_steps_lem (level_steps r a c read zero) (descend c read zero) zero sum table (λ v s t e. absurd (no_table v e))
      level_steps_lem (suc n) sum table = entry_steps_lem (level_steps r a c read (suc n)) (descend c read (suc n)) (suc n) sum table (λ v s t e. level_steps_lem n s t)

  -- step 1, and what follows it
  range_steps : (off beyond : Bool) (steps : List Step) (t : Trace) → first_fault steps ≡ end_fault (end_under_hpd hpd t.end)
      → first_fault (step off Translation 0 ∷ step beyond AddressSize 0 ∷ steps)
      ≡ end_fault (end_under_hpd hpd (pick off (ended (fault Translation 0)) (pick beyond (ended (fault AddressSize 0)) t)).end)
  range_steps true beyond steps t h = refl
  range_steps false true steps t h = refl
  range_steps false false steps t h = h

  pub walk_steps_lem : (pool : List ℕ) → first_fault (walk_steps r a pool) ≡ end_fault (traced r pool a.address.0).end
  unfolding walk_steps traced lookup locate hpd
  walk_steps_lem pool =
      let range = range_of r a.address.0 in
      let c = context_of r a.address.0 in
      let read = pool_reader r pool in
      let n = first_left (page_bits_of r) range.tsz in
      let root = range.root.0 in
      range_steps (range.disabled || outside range.tsz a.address.0) (leb (output_limit r.output) root) (level_steps r a c read (suc n) no_tables root)
      (descend c read (suc n) no_tables root) (level_steps_lem c read n no_tables root)
