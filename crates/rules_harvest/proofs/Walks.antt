-- The leaf of a page is the plain walk's, and what it maps is its span.
use Prim.Native.Nat.{ℕ, ◌*◌, ◌-◌, ◌/◌}
use mathlib.Core.Bool.{true}
use mathlib.Core.List.{List}
use mathlib.Core.Path.{◌≡◌, sym, ap, ◌∙◌}
use lib.Pow.{shr-shr, shl-shr}
use Rattle.descriptor.proofs.Tests.{clash}
use Rattle.vmsa.specs.Granules.{page_bits_of}
use Rattle.vmsa.specs.declared.Regime.{Regime}
use Rattle.vmsa.specs.declared.FaultKind.TheVariants.{Translation}
use Rattle.geometry.specs.Geometry.{page_size, page_of, stride_bits, shift_of, span}
use Rattle.checks.proofs.Accept.{settled, walk_accepted}
use Rattle.lookup.specs.Trace.{fault, leaf, Trace}
use Rattle.lookup.specs.Steps.{pool_reader, range_of, lookup, locate}
use Rattle.lookup.proofs.Page.{locate_page}
use Rattle.walk.specs.Walk.{pool_bytes, traced}
use Rattle.gather.specs.Ends.{pages_in}
use Rattle.harvest.specs.Harvest.{reached}
use Rattle.rules_harvest.specs.Walks.{HarvestLeaves}
use Rattle.rules_harvest.proofs.Spans.{span_shares}

-- a page is that of its first address
first_address : (p x : ℕ) → page_of p (x * page_size p) ≡ x
unfolding page_of page_size
first_address p x = shl-shr x p

-- an address by the span is its page by the pages of the span
by_span : (p left a : ℕ) → a / span p left ≡ page_of p a / pages_in p left
unfolding page_of page_size span shift_of pages_in stride_bits
by_span p left a = sym (shr-shr a p ((p - 3) * left))

page_by_span : (p left x : ℕ) → x * page_size p / span p left ≡ x / pages_in p left
page_by_span p left x = by_span p left (x * page_size p) ∙ ap (λ (y : ℕ). y / pages_in p left) (first_address p x)

-- a disabled range ends each walk in a fault
off_fault : (r : Regime) (pool : List ℕ) (page : ℕ) → (range_of r (page * page_size (page_bits_of r))).disabled ≡ true → reached r pool page ≡ fault Translation 0
unfolding reached locate lookup
off_fault r pool page e = rw e

pub harvest_leaves_lem : HarvestLeaves
unfolding reached traced
harvest_leaves_lem = record {
  walked = λ r a m e.
      let p = page_bits_of r in
      ap (λ (t : Trace). t.end)
      (locate_page r (pool_reader r (pool_bytes r.pool m)) a.address.0 (page_of p a.address.0 * page_size p) (walk_accepted _ r a e).0.sized (sym (first_address p (page_of p a.address.0))));
  spans = λ r m page l address.
      let u = by_span (page_bits_of r) l.left address in
      let v = page_by_span (page_bits_of r) l.left page in
      (λ h. u ∙ h ∙ sym v, λ h. sym u ∙ h ∙ v);
  shared = λ r m e page l q h.
      let p = page_bits_of r in
      span_shares r (settled _ r e).sized (page * page_size p) (q * page_size p) (pool_reader r (pool_bytes r.pool m)) l.address _ l.reaches
      (page_by_span p l.left page ∙ sym h ∙ sym (page_by_span p l.left q));
  disabled = λ r m page e l. clash (let z : fault Translation 0 ≡ leaf _ _ = sym (off_fault r (pool_bytes r.pool m) page e) ∙ l.reaches in cc);
}
