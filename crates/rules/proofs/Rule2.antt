-- Rule 2 holds.
use Prim.Native.Nat.{ℕ, ◌+◌, ◌^◌, ◌<◌, ◌≤◌}
use mathlib.Core.Bool.{Bool, true, false, not, ◌&&◌, ◌||◌, or_comm}
use mathlib.Core.List.{List}
use mathlib.Core.Logic.{◌⊎◌, inl, inr, ◌↔◌}
use Rattle.std.specs.Prelude.{Option, None, Some, Ok}
use mathlib.Core.Path.{◌≡◌, refl, sym, ap, ◌∙◌}
use native.Mathlib.Omega.{arith}
use lib.ListN.{length, get_or}
use Rattle.descriptor.specs.Bytes.{Bytes, desc, put}
use Rattle.descriptor.specs.Bits.{pick, bit}
use Rattle.descriptor.proofs.Tests.{differ, pick_both}
use Rattle.descriptor.proofs.Laws.{desc_put}
use Rattle.geometry.specs.Geometry.{level_of, output_bits, output_limit}
use Rattle.vmsa.specs.Granules.{page_bits_of}
use Rattle.vmsa.specs.Kinds.{asks_write, writes}
use Rattle.vmsa.specs.Fields.{af, ap2, no_write_below, no_user_below, uxn_below, pxn_below}
use Rattle.vmsa.proofs.Tables.{with_write, with_user, with_uxn_lem, with_pxn_lem}
use Rattle.vmsa.specs.Answers.{Faulted, success, fault as faulted, code_of}
use Rattle.vmsa.specs.declared.Regime.{Regime}
use Rattle.vmsa.specs.declared.Access.{Access}
use Rattle.vmsa.specs.declared.Success.{Success}
use Rattle.vmsa.specs.declared.FaultKind.{FaultKind}
use Rattle.vmsa.specs.declared.FaultKind.TheVariants.{Permission, Alignment}
use Rattle.checks.specs.Order.{walk_check}
use Rattle.lookup.specs.Trace.{End, fault, leaf}
use Rattle.lookup.specs.Steps.{context_of, pool_reader}
use Rattle.lookup.proofs.Decoding.{is_leaf, output_below}
use Rattle.lookup.proofs.Reach.{locate_visited}
use Rattle.permission.specs.Permission.{attribute_of, writable}
use Rattle.decision.specs.Decision.{flag_due, dirty_due, updated, cacheable, output_of}
use Rattle.walk.specs.Walk.{walk, traced, pool_bytes}
use Rattle.walk.proofs.Ends.{ready}
use Rattle.rules.specs.Steps.{AllPass, FirstFails, leaf_steps}
use Rattle.rules.specs.Tables.{trace_of, InSum}
use Rattle.rules.specs.Rule2.{steps_of, LeafOf, offset, value_after, leaf_after, SumOf, Placed, Right, FlagUpdate, DirtyUpdate, Marked, Rule2}
use Rattle.walk.proofs.Parts.{get_d_put}
use Rattle.descriptor.proofs.Numbers.{desc_small}
use Rattle.geometry.proofs.Geometry.{least_output, paged}
use Rattle.rules.proofs.StepLaws.{Fault, first_fault, passes_none, fails_some, none_passes, some_fails}
use Rattle.rules.proofs.Outcomes.{end_cacheable}
use Rattle.rules.proofs.Updates.{updated_none, updated_other, updated_af, updated_ap2, updated_small, writes_asks, flag_due_lem, dirty_due_lem, probe_due, leaf_clear, flag_after, write_writable, dirty_after, none_dirty, none_asks, still_writable, leaf_kind}
use Rattle.rules.proofs.Tables.{sum_four, sum_bit, bare_walk_lem}
use Rattle.rules.proofs.Restricted.{restricted_steps}
use Rattle.rules.proofs.Orders.{other_order_lem}
use Rattle.rules.proofs.Walks.{reads_of, leaf_in, told, updated_leaf, passed_leaf, leaf_first, passed_result, failed_result, failed_bytes, success_taken, fault_taken, success_none, success_leaf, fault_of, fault_some, leaf_found, leaf_placed, success_told, success_bytes}

module _ (r : Regime) (a : Access) (m : List ℕ) where
  all_or_first : AllPass (steps_of r a m) ⊎ ((k : FaultKind) × (l : ℕ) × FirstFails (steps_of r a m) k l)
  all_or_first = by (first_fault (steps_of r a m)) refl
    where
      by : (o : Option Fault) → first_fault (steps_of r a m) ≡ o → AllPass (steps_of r a m) ⊎ ((k : FaultKind) × (l : ℕ) × FirstFails (steps_of r a m) k l)
      by None q = inl (none_passes (steps_of r a m) q)
      by (Some f) q = inr (f.0, f.1, some_fails (steps_of r a m) f.0 f.1 q)

  success_all : walk_check (length m) r a ≡ Ok tt → ((s : Success) × ((walk r a m).result ≡ success s)) ↔ AllPass (steps_of r a m)
  success_all c = (
    λ w. none_passes (steps_of r a m) (success_none r a m w.0 w.1),
    λ p. let q = passes_none p in
        let l = passed_leaf r a m q in
        (told r a (leaf_in l) (reads_of r a m), passed_result r a m c q l),
  )

  fault_first : walk_check (length m) r a ≡ Ok tt → (k : FaultKind) (l : ℕ) → FirstFails (steps_of r a m) k l
      → (f : Faulted) × ((walk r a m).result ≡ faulted f) × (f.code ≡ code_of k l) × (f.level ≡ l) × ((walk r a m).bytes ≡ m)
  fault_first c k l h =
      let q = fails_some h in
      (fault_of r a m (k, l), failed_result r a m c (k, l) q, refl, refl, failed_bytes r a m c (k, l) q)

  reads_most : walk_check (length m) r a ≡ Ok tt → reads_of r a m ≤ 4
  unfolding traced
  reads_most c = locate_visited r (pool_reader r (pool_bytes r.pool m)) a.address.0 (ready (length m) r a c).sized

  -- ---- faults

  fault_counts : (f : Faulted) → (walk r a m).result ≡ faulted f → (f.reads ≡ reads_of r a m) × (f.reads ≤ 4)
  fault_counts f e =
      let q : f.reads ≡ reads_of r a m = ap (λ (x : Faulted). x.reads) (fault_some r a m f e).2 in
      (q, rw q (reads_most (fault_taken r a m f e)))

  fault_remembered : (f : Faulted) → (walk r a m).result ≡ faulted f
      → (f.cacheable ≡ true) ↔ ((l : LeafOf r a m) × (af l.value ≡ true)
      × (FirstFails (steps_of r a m) Alignment (level_of l.left) ⊎ FirstFails (steps_of r a m) Permission (level_of l.left)))
  fault_remembered f e =
      let g = fault_some r a m f e in
      let q : f.cacheable ≡ end_cacheable (trace_of r a m).end = ap (λ (x : Faulted). x.cacheable) g.2 in
      (λ h. by g.0 g.1 (trace_of r a m).end refl (sym q ∙ h), λ w. q ∙ ap end_cacheable w.0.reached ∙ w.1)
    where
      kinds : (g : Fault) (l : LeafOf r a m) → first_fault (steps_of r a m) ≡ Some g → (g ≡ (Alignment, level_of l.left)) ⊎ (g ≡ (Permission, level_of l.left))
          → FirstFails (steps_of r a m) Alignment (level_of l.left) ⊎ FirstFails (steps_of r a m) Permission (level_of l.left)
      kinds g l p (inl i) = inl (some_fails (steps_of r a m) Alignment (level_of l.left) (p ∙ ap Some i))
      kinds g l p (inr i) = inr (some_fails (steps_of r a m) Permission (level_of l.left) (p ∙ ap Some i))

      by : (g : Fault) → first_fault (steps_of r a m) ≡ Some g → (x : End) → (trace_of r a m).end ≡ x → end_cacheable x ≡ true
          → (l : LeafOf r a m) × (af l.value ≡ true)
          × (FirstFails (steps_of r a m) Alignment (level_of l.left) ⊎ FirstFails (steps_of r a m) Permission (level_of l.left))
      by g p (fault kind level) i h = differ (sym h)
      by g p (leaf address x) i h =
          let l : LeafOf r a m = record { address = address; value = x.value; left = x.left; tables = x.tables; reached = i } in
          let j : first_fault (leaf_steps r a (leaf_in l)) ≡ Some g = leaf_first r a m l ∙ p in
          (l, h, kinds g l p (leaf_kind r a (leaf_in l) h g j))

  -- ---- a success

  -- what a leaf's sum says
  leaf_sums : (l : LeafOf r a m) → SumOf l
  leaf_sums l =
      let bit_of = sum_bit r a m l.address (leaf_in l) l.reached in
      record {
        no_write = bit_of no_write_below 62 with_write refl;
        no_user = bit_of no_user_below 61 with_user refl;
        uxn = bit_of uxn_below 60 with_uxn_lem refl;
        pxn = bit_of pxn_below 59 with_pxn_lem refl;
        four = sum_four r a m l.address (leaf_in l) l.reached;
      }

  module _ (s : Success) (e : (walk r a m).result ≡ success s) where
    -- with bit 62 in the sum
    is_read_only : InSum 62 r a m → (asks_write a.kind ≡ false) × (s.dirtied ≡ false)
    is_read_only i =
        let l = success_leaf r a m s e in
        let h = (leaf_sums l).no_write.1 i in
        let c = leaf_clear r a (leaf_in l) (leaf_first r a m l ∙ success_none r a m s e) in
        (none_asks r a (leaf_in l) h c.2, ap (λ (x : Success). x.dirtied) (success_told r a m s e l) ∙ none_dirty r a (leaf_in l) h)

    success_counts : (s.reads ≡ reads_of r a m) × (s.reads ≤ 4)
    success_counts =
        let l = success_leaf r a m s e in
        let q : s.reads ≡ reads_of r a m = ap (λ (x : Success). x.reads) (success_told r a m s e l) in
        (q, rw q (reads_most (success_taken r a m s e)))

    module _ (l : LeafOf r a m) where
      is_right : Right l s
      unfolding output_of attribute_of
      is_right =
          let q = success_told r a m s e l in
          record {
            output = ap (λ (x : Success). x.output.0) q;
            attribute = ap (λ (x : Success). x.attribute) q;
            shareability = ap (λ (x : Success). x.shareability) q;
            nonglobal = ap (λ (x : Success). x.nonglobal) q;
            level = ap (λ (x : Success). x.level) q;
          }

      output_small : s.output.0 < output_limit r.output
      unfolding output_limit context_of
      output_small =
          let f = leaf_found r a m (success_taken r a m s e) l in
          rw is_right.output (output_below (page_bits_of r) (output_bits r.output) l.left l.value a.address.0 (paged r.granule).most (least_output r.output)
          (is_leaf (page_bits_of r) (2 ^ output_bits r.output) l.left l.value f.reached.leads))

      fits : offset l + 8 ≤ length m
      fits =
          let c = success_taken r a m s e in
          let f = (ready (length m) r a c).fits in
          let p = (leaf_placed r a m c l).most in
          omega arith

      same_bytes : (i : ℕ) → (i < offset l) ⊎ (offset l + 8 ≤ i) → get_or (walk r a m).bytes i 0 ≡ get_or m i 0
      same_bytes i o =
          let v = updated_leaf r a (leaf_in l) in
          rw (success_bytes r a m s e l)
          (pick_both (λ (x : List ℕ). get_or x i 0 ≡ get_or m i 0) (flag_due r a (leaf_in l) || dirty_due r a (leaf_in l)) (put r.ee m (offset l) v) m
          (get_d_put r.ee m (offset l) v fits i o) refl)

      -- the leaf's descriptor afterwards, and its bits
      module _ (h : Bytes m) where
        leaf_after_lem : value_after l ≡ updated_leaf r a (leaf_in l)
        leaf_after_lem = rw (success_bytes r a m s e l) (by (flag_due r a (leaf_in l)) (dirty_due r a (leaf_in l)))
          where
            place : Placed l
            place = leaf_placed r a m (success_taken r a m s e) l

            small : l.value < 2 ^ 64
            small = rw (← place.value) (desc_small r.ee m (offset l) h)

            by : (f d : Bool) → desc r.ee (pick (f || d) (put r.ee m (offset l) (updated f d l.value)) m) (offset l) ≡ updated f d l.value
            by true d = desc_put r.ee m (offset l) (updated true d l.value) fits (updated_small l.value true d small)
            by false true = desc_put r.ee m (offset l) (updated false true l.value) fits (updated_small l.value false true small)
            by false false = place.value ∙ sym (updated_none l.value)

        af_after : af (value_after l) ≡ (flag_due r a (leaf_in l) || af l.value)
        af_after = ap af leaf_after_lem ∙ updated_af l.value (flag_due r a (leaf_in l)) (dirty_due r a (leaf_in l))

        ap2_after : ap2 (value_after l) ≡ (not (dirty_due r a (leaf_in l)) && ap2 l.value)
        ap2_after = ap ap2 leaf_after_lem ∙ updated_ap2 l.value (flag_due r a (leaf_in l)) (dirty_due r a (leaf_in l))

        flag_update : FlagUpdate r a l.value (value_after l) s.accessed
        flag_update = rw (ap (λ (x : Success). x.accessed) (success_told r a m s e l)) (by (flag_due r a (leaf_in l)) refl)
          where
            by : (b : Bool) → flag_due r a (leaf_in l) ≡ b → FlagUpdate r a l.value (value_after l) b
            by true q = let d = flag_due_lem r a (leaf_in l) q in FlagUpdate.set d.0 d.2 d.1 (af_after ∙ rw q)
            by false q = FlagUpdate.kept (af_after ∙ rw q)

        dirty_update : DirtyUpdate r a l.value (value_after l) s.dirtied
        dirty_update = rw (ap (λ (x : Success). x.dirtied) (success_told r a m s e l)) (by (dirty_due r a (leaf_in l)) refl)
          where
            by : (b : Bool) → dirty_due r a (leaf_in l) ≡ b → DirtyUpdate r a l.value (value_after l) b
            by true q = let d = dirty_due_lem r a (leaf_in l) q in DirtyUpdate.cleared d.0 d.1 d.2 d.3 d.4 (ap2_after ∙ rw q)
            by false q = DirtyUpdate.kept (ap2_after ∙ rw q)

        is_marked : Marked l s
        unfolding cacheable
        is_marked = record {
          bytes = same_bytes;
          bits = λ n x y. ap (bit n) leaf_after_lem ∙ updated_other l.value (flag_due r a (leaf_in l)) (dirty_due r a (leaf_in l)) n x y;
          flag = flag_update;
          dirty = dirty_update;
          accessed = λ p. af_after ∙ flag_after r a (leaf_in l) (leaf_clear r a (leaf_in l) (leaf_first r a m l ∙ success_none r a m s e)).0 p;
          probe = λ p. let d = probe_due r a (leaf_in l) p in success_bytes r a m s e l ∙ rw (d.0, d.1);
          cacheable = ap (λ (x : Success). x.cacheable) (success_told r a m s e l) ∙ or_comm (af l.value) (flag_due r a (leaf_in l)) ∙ sym af_after;
        }

        is_written : writes a.kind ≡ true → (af (value_after l) ≡ true) × (ap2 (value_after l) ≡ false) × (writable r (leaf_after l) ≡ true)
        is_written w =
            let c = leaf_clear r a (leaf_in l) (leaf_first r a m l ∙ success_none r a m s e) in
            let k = write_writable r a (leaf_in l) c.2 w in
            let z = ap2_after ∙ dirty_after r a (leaf_in l) k w in
            (is_marked.accessed (writes_asks a.kind w).0, z, still_writable r a (leaf_in l) (value_after l) k z)

pub rule2 : Rule2
rule2 = record {
  decided = all_or_first;
  succeeds = success_all;
  faults = fault_first;
  leaf = success_leaf;
  placed = leaf_placed;
  right = is_right;
  marked = λ r a m s e h l. is_marked r a m s e l h;
  written = λ r a m s e h w l. is_written r a m s e l h w;
  sum = leaf_sums;
  restricts = restricted_steps;
  bare = bare_walk_lem;
  read_only = is_read_only;
  orders = other_order_lem;
  below = λ r a m s e. output_small r a m s e (success_leaf r a m s e);
  success_reads = success_counts;
  fault_reads = fault_counts;
  fault_cacheable = fault_remembered;
}
