-- The digits of a packed lookup, and what they say of every lookup that the number stands for.
use Prim.Native.Nat.{ℕ, suc, ◌+◌, ◌-◌, ◌/◌, ◌%◌, ◌≤◌, ◌<◌, suc-le-suc}
use mathlib.Core.Bool.{Bool}
use mathlib.Core.List.{List}
use mathlib.Core.Path.{◌≡◌, refl, ap, ◌∙◌}
use native.Mathlib.Nat.{add-zero, zero-add}
use native.Mathlib.Omega.{arith}
use lib.Dec.{lit≤, lit<}
use lib.ListN.{length}
use Rattle.std.specs.Prelude.{Result, Ok}
use Rattle.descriptor.specs.Bytes.{desc}
use Rattle.descriptor.specs.Bits.{pick}
use Rattle.geometry.specs.Geometry.{level_of}
use Rattle.vmsa.specs.Fields.{table_bits, sum_count, no_tables}
use Rattle.vmsa.proofs.Tables.{no_bits}
use Rattle.vmsa.specs.declared.FaultKind.{FaultKind}
use Rattle.vmsa.specs.declared.FaultKind.TheVariants.{AddressSize, Translation, AccessFlag, Permission, ExternalAbort, Alignment}
use Rattle.lookup.specs.declared.LeafAt.{LeafAt}
use Rattle.lookup.specs.declared.FaultAt.{FaultAt}
use Rattle.lookup.specs.declared.Located.{Located}
use Rattle.lookup.specs.declared.Context.{Context}
use Rattle.lookup.specs.Trace.{End, fault, leaf, ended, end_under_hpd, under_hpd, shown_end, shown}
use Rattle.lookup.specs.Steps.{fetched, descend}
use Rattle.lookup.specs.Packing.{kind_number, kind_numbered, leaf_number, joined, packed_end, packed, end_level, Backed, Packs}
use Rattle.lookup.proofs.Reach.{in_pool, descend_reads, descend_backed}

-- the number that the cycle hands back stands for the lookup from that table on
abbrev pub descent : (c : Context) (ee : Bool) (pool : List ℕ) (base left table first n : ℕ) → left ≤ 3 → first ≡ level_of left → n ≡ packed (descend c (fetched ee pool base) (suc left) (table_bits 0) table)
    → Packs ee pool base first n
descent c ee pool base left table first n h e q = record {
  trace = descend c (fetched ee pool base) (suc left) no_tables table;
  same = q ∙ ap (λ (sum : ℕ). packed (descend c (fetched ee pool base) (suc left) sum table)) no_bits;
  reads = rw e (descend_reads c (fetched ee pool base) left no_tables table h);
  end = descend_backed c ee pool base (suc left) no_tables table (suc-le-suc h) (lit< tt);
}

-- ---- the digits

abbrev pub level_in : ℕ → ℕ
level_in n = n % 4

abbrev pub number_in : ℕ → ℕ
number_in n = n / 4 % 8

-- the tables' sum, and the leaf descriptor's address
abbrev pub sum_in : ℕ → ℕ
sum_in n = n / 4 / 8 % sum_count

abbrev pub place_in : ℕ → ℕ
place_in n = n / 4 / 8 / sum_count

record Digits (n level number tables address : ℕ) : Type 0 where
  pub level_is : level_in n ≡ level
  pub number_is : number_in n ≡ number
  pub tables_is : sum_in n ≡ tables
  pub address_is : place_in n ≡ address

digits : (n level number tables address : ℕ) → n ≡ joined level number tables address → level ≤ 3 → number ≤ 6 → tables < sum_count → Digits n level number tables address
unfolding joined
digits n level number tables address e l k t = record { level_is = omega arith; number_is = omega arith; tables_is = omega arith; address_is = omega arith }

kind_back : (kind : FaultKind) → (kind_number kind ≤ 5) × (kind_numbered (kind_number kind) ≡ kind)
unfolding kind_numbered
kind_back AddressSize = (lit≤ tt, refl)
kind_back Translation = (lit≤ tt, refl)
kind_back AccessFlag = (lit≤ tt, refl)
kind_back Permission = (lit≤ tt, refl)
kind_back ExternalAbort = (lit≤ tt, refl)
kind_back Alignment = (lit≤ tt, refl)

pub level_le : (left : ℕ) → level_of left ≤ 3
unfolding level_of
level_le left = omega arith

level_back : (left : ℕ) → left ≤ 3 → level_of (level_of left) ≡ left
unfolding level_of
level_back left h = omega arith

-- ---- the lookup, from the digits

-- a read for each level, from the first on
abbrev pub reads_from : ℕ → ℕ → ℕ
reads_from first level = level + 1 - first

reads_from_lem : (k first level : ℕ) → k + first ≡ suc level → reads_from first level ≡ k
reads_from_lem k first level e = omega arith

module _ (ee : Bool) (pool : List ℕ) (base : ℕ) (hpd : Bool) (first n : ℕ) where
  -- the leaf that they say
  abbrev pub leaf_in : Result LeafAt FaultAt
  leaf_in = Ok (record {
    address = record { 0 = place_in n };
    leaf = record { value = desc ee pool (place_in n - base); left = level_of (level_in n); tables = pick hpd 0 (sum_in n) };
  })

  fault_by : (e : End) → n ≡ packed_end e → Backed ee pool base e → (number_in n ≡ leaf_number → ⊥) → shown_end (fault (kind_numbered (number_in n)) (level_in n)) ≡ shown_end (end_under_hpd hpd e)
  fault_by (fault kind level) q w x =
      let d = digits n level (kind_number kind) 0 0 q w (omega (arith, (kind_back kind).0)) (lit< tt) in
      rw (d.level_is, d.number_is, (kind_back kind).1)
  fault_by (leaf a l) q w x = absurd (x (digits n (level_of l.left) leaf_number l.tables a q (level_le l.left) (lit≤ tt) w.1).number_is)

  leaf_by : (e : End) → n ≡ packed_end e → Backed ee pool base e → number_in n ≡ leaf_number
      → (base ≤ place_in n) × (place_in n + 8 ≤ base + length pool) × (leaf_in ≡ shown_end (end_under_hpd hpd e))
  leaf_by (fault kind level) q w x =
      absurd (let z = (kind_back kind).0 in let d = (digits n level (kind_number kind) 0 0 q w (omega arith) (lit< tt)).number_is in omega arith)
  leaf_by (leaf a l) q w x =
      let d = digits n (level_of l.left) leaf_number l.tables a q (level_le l.left) (lit≤ tt) w.1 in
      let i = in_pool ee pool base a l.value w.2 in
      rw (d.level_is, d.tables_is, d.address_is, i.same, level_back l.left w.0) (i.least, i.most, refl)

  -- the level in the number is that of the end
  level_by_lem : (e : End) → n ≡ packed_end e → Backed ee pool base e → level_in n ≡ end_level e
  level_by_lem (fault kind level) q w = (digits n level (kind_number kind) 0 0 q w (omega (arith, (kind_back kind).0)) (lit< tt)).level_is
  level_by_lem (leaf a l) q w = (digits n (level_of l.left) leaf_number l.tables a q (level_le l.left) (lit≤ tt) w.1).level_is

  module _ (p : Packs ee pool base first n) where
    same : n ≡ packed_end p.trace.end
    unfolding packed
    same = p.same

    pub first_most : first ≤ level_in n + 1
    first_most = let e = level_by_lem p.trace.end same p.end in let r = p.reads in omega arith

    reads_back : reads_from first (level_in n) ≡ length p.trace.visited
    reads_back = rw (level_by_lem p.trace.end same p.end) (reads_from_lem (length p.trace.visited) first (end_level p.trace.end) p.reads)

    pub fault_unpacked : (number_in n ≡ leaf_number → ⊥) → shown (reads_from first (level_in n)) (ended (fault (kind_numbered (number_in n)) (level_in n))) ≡ shown 0 (under_hpd hpd p.trace)
    unfolding shown
    fault_unpacked x = rw (add-zero (reads_from first (level_in n)), reads_back, zero-add (length p.trace.visited), fault_by p.trace.end same p.end x)

    pub leaf_unpacked : number_in n ≡ leaf_number
        → (base ≤ place_in n) × (place_in n + 8 ≤ base + length pool) × (◌≡◌ {A = Located} (record { end = leaf_in; reads = reads_from first (level_in n) }) (shown 0 (under_hpd hpd p.trace)))
    unfolding shown
    leaf_unpacked x =
        let l = leaf_by p.trace.end same p.end x in
        (l.0, l.1, rw (reads_back, zero-add (length p.trace.visited), l.2))
