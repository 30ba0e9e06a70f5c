-- A lookup depends on the page of its address alone.
use Prim.Native.Nat.{ℕ, zero, suc, ◌+◌, ◌*◌, ◌-◌, ◌/◌, ◌%◌, ◌^◌, ◌≤◌}
use mathlib.Core.Bool.{Bool, true, false, ◌||◌}
use mathlib.Core.Path.{◌≡◌, refl, sym, ap, ◌∙◌, fun_ext}
use native.Mathlib.Omega.{arith}
use lib.Dec.{leb, eqb}
use lib.Pow.{shr-shr, field}
use Rattle.std.specs.Prelude.{Option}
use Rattle.descriptor.specs.Bits.{pick}
use Rattle.vmsa.specs.Limits.{tsz_most, Sized}
use Rattle.vmsa.specs.Granules.{page_bits_of}
use Rattle.geometry.proofs.Geometry.{paged}
use Rattle.geometry.specs.Geometry.{level_of, page_size, page_of, shift_of, span, stride_bits, first_left, output_limit}
use Rattle.vmsa.specs.declared.Regime.{Regime}
use Rattle.vmsa.specs.declared.Range.{Range}
use Rattle.vmsa.specs.declared.PhysAddr.{PhysAddr}
use Rattle.vmsa.specs.declared.FaultKind.TheVariants.{ExternalAbort, Translation, AddressSize}
use Rattle.vmsa.specs.Fields.{no_tables}
use Rattle.lookup.specs.declared.Context.{Context}
use Rattle.lookup.specs.Trace.{fault, Trace, ended, visit, under_hpd}
use Rattle.lookup.specs.Steps.{on_word, followed, entry_at, entered, descend, upper, range_of, outside, context_of, lookup, locate}

-- a cut at bit n above the page bits sees the page alone
pub cut_page : (p a b n : ℕ) → p ≤ n → a / 2 ^ p ≡ b / 2 ^ p → a / 2 ^ n ≡ b / 2 ^ n
cut_page p a b n h e =
    let q : n ≡ p + (n - p) = omega arith in
    let step : (x : ℕ) → x / 2 ^ n ≡ x / 2 ^ p / 2 ^ (n - p) = λ x. ap (λ (j : ℕ). x / 2 ^ j) q ∙ sym (shr-shr x p (n - p)) in
    step a ∙ rw e (sym (step b))

pub mod_page : (p a b n : ℕ) → p ≤ n → a / 2 ^ p ≡ b / 2 ^ p → a % 2 ^ n / 2 ^ p ≡ b % 2 ^ n / 2 ^ p
mod_page p a b n h e =
    let q : n ≡ (n - p) + p = omega arith in
    let step : (x : ℕ) → x % 2 ^ n / 2 ^ p ≡ x / 2 ^ p % 2 ^ (n - p) = λ x. ap (λ (j : ℕ). x % 2 ^ j / 2 ^ p) q ∙ field x (n - p) p in
    step a ∙ rw e (sym (step b))

-- ---- any number of levels

module _ (base limit : PhysAddr) (p : ℕ) where
  abbrev with_input : ℕ → Context
  with_input i = record { base = base; limit = limit; input = record { 0 = i }; page = p }

  entry_page : (i j left t : ℕ) → i / 2 ^ p ≡ j / 2 ^ p → entry_at (with_input i) left t ≡ entry_at (with_input j) left t
  unfolding entry_at span shift_of
  entry_page i j left t e = ap (λ (x : ℕ). t + 8 * (x % 2 ^ stride_bits p)) (cut_page p i j (p + (p - 3) * left) (omega arith) e)

  descend_page : (read : ℕ → Option ℕ) (i j : ℕ) → i / 2 ^ p ≡ j / 2 ^ p → (n s t : ℕ) → descend (with_input i) read n s t ≡ descend (with_input j) read n s t
  unfolding descend entered followed
  descend_page read i j e zero s t = refl
  descend_page read i j e (suc n) s t =
      let below : descend (with_input i) read n ≡ descend (with_input j) read n = fun_ext (λ u. fun_ext (descend_page read i j e n u)) in
      ap (λ (f : ℕ → ℕ → Trace). entered (with_input i) read f n s t) below ∙ same (descend (with_input j) read n)
    where
      same : (f : ℕ → ℕ → Trace) → entered (with_input i) read f n s t ≡ entered (with_input j) read f n s t
      same f = ap (λ (x : ℕ). visit x (on_word (ended (fault ExternalAbort (level_of n))) (followed (with_input j) f s n x) (read x))) (entry_page i j n t e)

-- ---- steps 1 to 5

module _ (r : Regime) (a b : ℕ) (e : a / 2 ^ page_bits_of r ≡ b / 2 ^ page_bits_of r) where
  page_most : page_bits_of r ≤ 16
  page_most = (paged r.granule).most

  upper_page_lem : upper a ≡ upper b
  unfolding upper
  upper_page_lem = ap (λ (x : ℕ). eqb (x % 2) 1) (cut_page (page_bits_of r) a b 55 (omega (arith, page_most)) e)

  range_page : range_of r a ≡ range_of r b
  unfolding range_of
  range_page = rw upper_page_lem

  outside_page : (t : ℕ) → t ≤ tsz_most → outside t a ≡ outside t b
  unfolding outside
  outside_page t h = rw (upper_page_lem, cut_page (page_bits_of r) a b (64 - t) (omega (arith, page_most)) e)

  descent : Range → (ℕ → Option ℕ) → ℕ → Trace
  descent range read x =
      descend (record { base = r.pool.address; limit = record { 0 = output_limit r.output }; input = record { 0 = x % 2 ^ (64 - range.tsz) }; page = page_bits_of r }) read (suc (first_left (page_bits_of r) range.tsz)) no_tables
      range.root.0

  descent_page : (range : Range) (read : ℕ → Option ℕ) → range.tsz ≤ tsz_most → descent range read a ≡ descent range read b
  unfolding descent
  descent_page range read h =
      descend_page r.pool.address (record { 0 = output_limit r.output }) (page_bits_of r) read (a % 2 ^ (64 - range.tsz)) (b % 2 ^ (64 - range.tsz))
      (mod_page (page_bits_of r) a b (64 - range.tsz) (omega (arith, page_most)) e) (suc (first_left (page_bits_of r) range.tsz)) no_tables range.root.0

  opened : (read : ℕ → Option ℕ) (x : ℕ) (range : Range) → range_of r x ≡ range
      → locate r read x
      ≡ under_hpd range.hpd (pick (range.disabled || outside range.tsz x) (ended (fault Translation 0))
      (pick (leb (output_limit r.output) range.root.0) (ended (fault AddressSize 0)) (descent range read x)))
  unfolding lookup locate context_of descent
  opened read x range q = rw q

range_most : (r : Regime) (a : ℕ) → Sized r → (range_of r a).tsz ≤ tsz_most
unfolding range_of
range_most r a z = by (upper a)
  where
    by : (b : Bool) → (pick b r.range1 r.range0).tsz ≤ tsz_most
    by true = z.most1
    by false = z.most0

pub locate_page : (r : Regime) (read : ℕ → Option ℕ) (a b : ℕ) → Sized r → page_of (page_bits_of r) a ≡ page_of (page_bits_of r) b → locate r read a ≡ locate r read b
unfolding page_of page_size
locate_page r read a b z e =
    let range = range_of r b in
    let h : range.tsz ≤ tsz_most = range_most r b z in
    opened r a b e read a range (range_page r a b e)
    ∙ rw (outside_page r a b e range.tsz h, descent_page r a b e range read h) (sym (opened r a b e read b range refl))
