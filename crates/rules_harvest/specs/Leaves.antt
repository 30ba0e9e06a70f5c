-- The leaves that a harvest speaks of (RULES 17.2 and 17.3), in words of the walk: the leaf of a page, what makes it dirty, and which pages it maps.
use Rattle.std.specs.Prelude.{ℕ, ◌+◌, ◌-◌, ◌/◌, ◌<◌, ◌≤◌, true, false, List, ◌≡◌}
use Rattle.vmsa.specs.Granules.{page_bits_of}
use Rattle.vmsa.specs.Fields.{af, ap2, dbm}
use Rattle.vmsa.specs.declared.Regime.{Regime}
use Rattle.lookup.specs.Trace.{leaf}
use Rattle.walk.specs.Walk.{pool_bytes}
use Rattle.gather.specs.Ends.{pages_in}
use Rattle.harvest.specs.Harvest.{reached}

-- the leaf that a page reaches by steps 1 to 5 (RULES 6): the address and value of its descriptor, the levels left below it, and the sum of the tables above it
pub record PageLeaf (r : Regime) (m : List ℕ) (page : ℕ) : Type 0 where
  pub address : ℕ
  pub value : ℕ
  pub left : ℕ
  pub tables : ℕ
  pub reaches : reached r (pool_bytes r.pool m) page ≡ leaf address (record { value = value; left = left; tables = tables })

-- where its descriptor lies in the memory
abbrev pub offset : {r : Regime} {m : List ℕ} {page : ℕ} → PageLeaf r m page → ℕ
offset {r} l = r.pool.start + (l.address - r.pool.address.0)

-- it says dirty: AF and DBM set, AP[2] clear
pub record SaysDirty (value : ℕ) : Type 0 where
  pub accessed : af value ≡ true
  pub modifier : dbm value ≡ true
  pub written : ap2 value ≡ false

-- a page that a harvest reports: it reaches such a leaf
abbrev pub Dirty : Regime → List ℕ → ℕ → Type 0
Dirty r m page = (l : PageLeaf r m page) × SaysDirty l.value

-- a page among count pages from first on
abbrev pub AskedFor : ℕ → ℕ → ℕ → Type 0
AskedFor first count page = (first ≤ page) × (page < first + count)

-- page q lies in what the leaf of a page maps
abbrev pub Maps : {r : Regime} {m : List ℕ} {page : ℕ} → PageLeaf r m page → ℕ → Type 0
Maps {r} {m} {page} l q = q / pages_in (page_bits_of r) l.left ≡ page / pages_in (page_bits_of r) l.left

-- reached whole: every page that the leaf maps there is asked for
abbrev pub Whole : ℕ → ℕ → {r : Regime} {m : List ℕ} {page : ℕ} → PageLeaf r m page → Type 0
Whole first count l = (q : ℕ) → Maps l q → AskedFor first count q

-- a leaf that is set again: a page that is asked for reaches it whole, and it says dirty
pub record SetAgain (r : Regime) (first count : ℕ) (m : List ℕ) : Type 0 where
  pub page : ℕ
  pub asked : AskedFor first count page
  pub leaf : PageLeaf r m page
  pub dirty : SaysDirty leaf.value
  pub whole : Whole first count leaf
