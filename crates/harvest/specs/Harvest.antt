-- The harvest of dirty pages (RULES 17): a map of the pages whose leaves say dirty, and these leaves set again.
use Rattle.std.specs.Prelude.{ℕ, ◌+◌, ◌*◌, Bool, List, length, Ok, Err}
use Rattle.vmsa.specs.Granules.{page_bits_of}
use Rattle.geometry.specs.Geometry.{page_size}
use Rattle.vmsa.specs.declared.Regime.{Regime}
use Rattle.checks.specs.Order.{Checked}
use Rattle.checks.specs.Order.{harvest_check}
use Rattle.lookup.specs.Trace.{End}
use Rattle.lookup.specs.Steps.{pool_reader, locate}
use Rattle.walk.specs.Walk.{pool_bytes, with_pool_bytes}
use Rattle.bitmap.specs.Map.{mapped}
use Rattle.gather.specs.Ends.{dirty_end}
use Rattle.clean.specs.Clean.{pages, Asked, asked, cleaned_by}

-- how steps 1 to 5 end for a page over a pool (RULES 6): by the page's first address
unfoldable pub reached : Regime → List ℕ → ℕ → End
reached r pool page = (locate r (pool_reader r pool) (page * page_size (page_bits_of r))).end

-- bit n of the map: page first + n reaches a leaf with AF and DBM set and AP[2] clear
unfoldable pub reports : Regime → List ℕ → ℕ → ℕ → Bool
reports r pool first n = dirty_end (reached r pool (first + n))

-- the pages asked for, and the pool that they are walked in
abbrev pub asked_of : Regime → ℕ → ℕ → Asked
asked_of r first count = asked r.ee r.pool.address.0 (page_bits_of r) first count

-- the pool with each such leaf set again that a page reaches with all the leaf's pages among those asked for: page after page, each by its walk over the pool at entry
unfoldable pub clean_pool : Regime → ℕ → ℕ → List ℕ → List ℕ
clean_pool r first count pool = pages (cleaned_by (asked_of r first count) (reached r pool)) first count pool

-- what a harvest leaves: what it hands back, in whatever form A; the memory; and the map
pub record Harvested (A : Type 0) : Type 0 where
  pub reply : A
  pub memory : List ℕ
  pub map : List ℕ

abbrev pub harvested : {A : Type 0} → A → List ℕ → List ℕ → Harvested A
harvested reply memory map = record { reply = reply; memory = memory; map = map }

-- a refusal changes neither memory nor map
abbrev pub harvest_by : Regime → ℕ → ℕ → List ℕ → List ℕ → Checked → Harvested Checked
harvest_by r first count memory map (Err x) = harvested (Err x) memory map
harvest_by r first count memory map (Ok _) =
    harvested (Ok tt) (with_pool_bytes r.pool memory (clean_pool r first count (pool_bytes r.pool memory))) (mapped (reports r (pool_bytes r.pool memory) first) count map)

-- count pages from page first on, over the lent memory and the lent map
unfoldable pub harvest : Regime → ℕ → ℕ → List ℕ → List ℕ → Harvested Checked
harvest r first count memory map = harvest_by r first count memory map (harvest_check (length memory) r first count (length map))
