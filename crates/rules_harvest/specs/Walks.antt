-- The words in which a harvest is spoken of (Leaves.antt) are the plain walk's own: the leaf of a page is that of an access anywhere in the page (rule 2), and what it maps is its span.
use Rattle.std.specs.Prelude.{ℕ, ◌*◌, ◌/◌, true, List, ◌↔◌, ◌≡◌, length, Ok}
use Rattle.vmsa.specs.Granules.{page_bits_of}
use Rattle.vmsa.specs.declared.Regime.{Regime}
use Rattle.vmsa.specs.declared.Access.{Access}
use Rattle.geometry.specs.Geometry.{page_size, page_of, span}
use Rattle.checks.specs.Order.{regime_check, walk_check}
use Rattle.lookup.specs.Steps.{range_of}
use Rattle.walk.specs.Walk.{pool_bytes}
use Rattle.rules.specs.Tables.{trace_of}
use Rattle.harvest.specs.Harvest.{reached}
use Rattle.rules_harvest.specs.Leaves.{PageLeaf, Maps}

pub record HarvestLeaves : Type 0 where
  -- an access that is not refused ends steps 1 to 5 as its page does: in the page's leaf, or in the same fault
  pub walked : (r : Regime) (a : Access) (m : List ℕ) → walk_check (length m) r a ≡ Ok tt
      → (trace_of r a m).end ≡ reached r (pool_bytes r.pool m) (page_of (page_bits_of r) a.address.0)
  -- a leaf maps the page of an address exactly where the address lies in the leaf's span, around the page that reaches it
  pub spans : (r : Regime) (m : List ℕ) (page : ℕ) (l : PageLeaf r m page) (address : ℕ)
      → Maps l (page_of (page_bits_of r) address) ↔ (address / span (page_bits_of r) l.left ≡ page * page_size (page_bits_of r) / span (page_bits_of r) l.left)
  -- and every page that it maps reaches it
  pub shared : (r : Regime) (m : List ℕ) → regime_check (length m) r ≡ Ok tt → (page : ℕ) (l : PageLeaf r m page) (q : ℕ) → Maps l q
      → reached r (pool_bytes r.pool m) q ≡ reached r (pool_bytes r.pool m) page
  -- no page of a disabled range reaches a leaf
  pub disabled : (r : Regime) (m : List ℕ) (page : ℕ) → (range_of r (page * page_size (page_bits_of r))).disabled ≡ true → PageLeaf r m page → ⊥
