-- One level of the lookup as the code hands it on; and steps 1 and 2. The laws first_off, first_beyond, first_go and context_is are kept, since the documents name them.
use Prim.Native.Nat.{ℕ, suc, ◌-◌, ◌%◌, ◌^◌, ◌<◌, ◌≤◌}
use mathlib.Core.Bool.{Bool, true, false, not, ◌||◌}
use mathlib.Core.List.{List}
use mathlib.Core.Path.{◌≡◌, refl, ap, ◌∙◌}
use native.Mathlib.Nat.{pos_of_ne-zero}
use native.Mathlib.Omega.{arith}
use lib.Dec.{eqb}
use borrow.Author.Tests.{eqb-false, not-true, le-leb, lt-leb}
use Rattle.std.specs.Prelude.{Option, Some, None, Err, Ok}
use Rattle.descriptor.specs.Bits.{pick, bit}
use Rattle.descriptor.proofs.Tests.{and_true}
use Rattle.vmsa.specs.Fields.{no_tables, with_table}
use Rattle.vmsa.specs.Granules.{page_bits_of}
use Rattle.geometry.specs.Geometry.{level_of, first_left, output_limit}
use Rattle.vmsa.specs.declared.Regime.{Regime}
use Rattle.vmsa.specs.declared.Range.{Range}
use Rattle.vmsa.specs.declared.PhysAddr.{PhysAddr}
use Rattle.vmsa.specs.declared.FaultKind.{FaultKind}
use Rattle.vmsa.specs.declared.FaultKind.TheVariants.{ExternalAbort, Translation, AddressSize}
use Rattle.lookup.specs.declared.Next.TheVariants as next
use Rattle.lookup.specs.declared.Context.{Context}
use Rattle.lookup.specs.Trace.{fault, Trace, ended, under_hpd}
use Rattle.lookup.specs.Steps.{First, is_table, decoded, fetched, pool_reader, followed, context, entry_at, entered, descend, range_of, outside, context_of, no_range, root_beyond, left_at_first, first_table, lookup, locate}
use Rattle.lookup.specs.Packing.{kind_number, leaf_number, joined, packed}

-- a table has a level below it
pub table_left : (left v : ℕ) → is_table left v ≡ true → 0 < left
unfolding is_table
table_left left v e = pos_of_ne-zero (eqb-false left 0 (not-true (eqb left 0) (and_true (bit 1 v) (not (eqb left 0)) e).1))

pub down_up : (left : ℕ) → 0 < left → suc (left - 1) ≡ left
down_up left h = omega arith

module _ (c : Context) (below : ℕ → ℕ → Trace) (sum left a v : ℕ) where
  pub fault_packed : (kind : FaultKind) → decoded c.page c.limit.0 left v ≡ next.Fault kind
      → packed (followed c below sum left a v) ≡ joined (level_of left) (kind_number kind) 0 0
  unfolding packed followed
  fault_packed kind e = rw e

  pub table_packed : (table : PhysAddr) → decoded c.page c.limit.0 left v ≡ next.Table table → packed (followed c below sum left a v) ≡ packed (below (with_table sum v) table.0)
  unfolding followed
  table_packed table e = rw e

  pub leaf_packed : decoded c.page c.limit.0 left v ≡ next.Leaf → packed (followed c below sum left a v) ≡ joined (level_of left) leaf_number sum a
  unfolding packed followed
  leaf_packed e = rw e

module _ (c : Context) (read : ℕ → Option ℕ) (left sum table : ℕ) where
  pub abort_packed : read (entry_at c left table) ≡ None
      → packed (descend c read (suc left) sum table) ≡ joined (level_of left) (kind_number ExternalAbort) 0 0
  unfolding packed descend entered
  abort_packed e = rw e

  pub value_packed : (v : ℕ) → read (entry_at c left table) ≡ Some v
      → packed (descend c read (suc left) sum table) ≡ packed (followed c (descend c read left) sum left (entry_at c left table) v)
  unfolding packed descend entered
  value_packed v e = rw e

-- ---- steps 1 and 2, from what the code computed of them

module _ (r : Regime) (a : ℕ) (range : Range) (e : range ≡ range_of r a) where
  pub first_off : (range.disabled || outside range.tsz a) ≡ true → Err Translation ≡ first_table r a
  unfolding first_table
  first_off h = rw (rw e at h)

  pub first_beyond : (range.disabled || outside range.tsz a) ≡ false → output_limit r.output ≤ range.root.0 → Err AddressSize ≡ first_table r a
  unfolding first_table
  first_beyond h q = rw (rw e at h, le-leb (output_limit r.output) (range_of r a).root.0 (rw e at q))

  pub first_go : (range.disabled || outside range.tsz a) ≡ false → range.root.0 < output_limit r.output → Ok range.root ≡ first_table r a
  unfolding first_table
  first_go h q = rw (rw e at h, lt-leb (output_limit r.output) (range_of r a).root.0 (rw e at q), e)

  pub context_is : (limit power page : ℕ) → limit ≡ output_limit r.output → power ≡ 2 ^ (64 - range.tsz) → page ≡ page_bits_of r
      → context r.pool.address (record { 0 = limit }) (record { 0 = a % power }) page ≡ context_of r a
  unfolding context_of
  context_is limit power page el ep eg = rw (el, ep, eg, e)

-- ---- what follows them

-- from the first table on
abbrev pub from_first : Regime → (ℕ → Option ℕ) → ℕ → First → Trace
from_first r read a (Err kind) = ended (fault kind 0)
from_first r read a (Ok root) = descend (context_of r a) read (suc (left_at_first r a)) no_tables root.0

pub lookup_first : (r : Regime) (read : ℕ → Option ℕ) (a : ℕ) → lookup r read a ≡ from_first r read a (first_table r a)
unfolding lookup first_table
lookup_first r read a = by (no_range r a) (root_beyond r a)
  where
    by : (off beyond : Bool) → pick off (ended (fault Translation 0)) (pick beyond (ended (fault AddressSize 0)) (descend (context_of r a) read (suc (left_at_first r a)) no_tables (range_of r a).root.0))
        ≡ from_first r read a (pick off (Err Translation) (pick beyond (Err AddressSize) (Ok (range_of r a).root)))
    by true beyond = refl
    by false true = refl
    by false false = refl

pub locate_first : (r : Regime) (read : ℕ → Option ℕ) (a : ℕ) (f : First) → first_table r a ≡ f → locate r read a ≡ under_hpd (range_of r a).hpd (from_first r read a f)
unfolding locate
locate_first r read a f e = ap (under_hpd (range_of r a).hpd) (lookup_first r read a ∙ ap (from_first r read a) e)

-- over a pool, from what the code computed of the range, the context and the first level
pub locate_go : (r : Regime) (pool : List ℕ) (a : ℕ) (range : Range) → range ≡ range_of r a → (root : PhysAddr) → first_table r a ≡ Ok root → (c : Context) → c ≡ context_of r a
    → (left : ℕ) → left ≡ first_left c.page range.tsz → locate r (pool_reader r pool) a ≡ under_hpd range.hpd (descend c (fetched r.ee pool c.base.0) (suc left) no_tables root.0)
unfolding context_of
locate_go r pool a range e root f c k left q = locate_first r (pool_reader r pool) a (Ok root) f ∙ rw (q, k, e)
