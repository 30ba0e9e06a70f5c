-- The order in which a call is checked: the first test that applies gives the refusal (RULES 5.3).
use Rattle.std.specs.Prelude.{ℕ, Bool, List, [], ◌∷◌, ◌++◌, Ok, Err, Result, ⊤}
use Rattle.descriptor.specs.Bits.{pick}
use Rattle.vmsa.specs.declared.Regime.{Regime}
use Rattle.vmsa.specs.declared.Pool.{Pool}
use Rattle.vmsa.specs.declared.Access.{Access}
use Rattle.vmsa.specs.declared.Refusal.{Refusal}
use Rattle.vmsa.specs.declared.Refusal.TheVariants.{MemoryPool, PoolAddress, Sizes, Root, Attributes, DirtyState, AccessSize, PageCrossing, StoreAddress, PageRange, MapLength}
use Rattle.refusals.specs.Tests.{memory_pool_bad, pool_address_bad, sizes_bad, roots_bad, attributes_bad, dirty_state_bad, access_size_bad, crossing, store_address_bad, page_range_bad, map_length_bad}

-- what the checks of a call say: it is accepted, or refused
abbrev pub Checked : Type 0
Checked = Result ⊤ Refusal

-- the refusal of the first test that applies, or else what the rest says
abbrev pub first_before : List (Bool × Refusal) → Checked → Checked
first_before [] rest = rest
first_before (row ∷ rows) rest = pick row.0 (Err row.1) (first_before rows rest)

abbrev pub first_of : List (Bool × Refusal) → Checked
first_of rows = first_before rows (Ok tt)

-- one check, and then another
abbrev pub and_then : Checked → Checked → Checked
and_then (Ok _) next = next
and_then (Err x) next = Err x

-- the memory and the pool
abbrev pub memory_rows : ℕ → Regime → List (Bool × Refusal)
memory_rows n r = (memory_pool_bad n r, MemoryPool) ∷ []

-- the settings of a regime that do not speak of its pool
abbrev pub table_rows : Regime → List (Bool × Refusal)
table_rows r = (sizes_bad r, Sizes) ∷ (roots_bad r, Root) ∷ (attributes_bad r.attributes, Attributes) ∷ (dirty_state_bad r, DirtyState) ∷ []

-- all but the memory
abbrev pub setting_rows : Regime → List (Bool × Refusal)
setting_rows r = (pool_address_bad r, PoolAddress) ∷ table_rows r

-- setting a regime over n bytes of memory
abbrev pub regime_rows : ℕ → Regime → List (Bool × Refusal)
regime_rows n r = memory_rows n r ++ setting_rows r

-- an access
abbrev pub access_rows : Regime → Access → List (Bool × Refusal)
access_rows r a = (access_size_bad a, AccessSize) ∷ (crossing r a, PageCrossing) ∷ []

-- a store
abbrev pub store_rows : Pool → ℕ → List (Bool × Refusal)
store_rows pool address = (store_address_bad pool address, StoreAddress) ∷ []

-- a plain walk
abbrev pub walk_rows : ℕ → Regime → Access → List (Bool × Refusal)
walk_rows n r a = regime_rows n r ++ access_rows r a

-- a walk a descriptor at a time, which has no pool
abbrev pub start_rows : Regime → Access → List (Bool × Refusal)
start_rows r a = table_rows r ++ access_rows r a

-- the pages of a harvest, and its map of so many bytes
abbrev pub asked_rows : Regime → ℕ → ℕ → ℕ → List (Bool × Refusal)
asked_rows r first count bytes = (page_range_bad r first count, PageRange) ∷ (map_length_bad count bytes, MapLength) ∷ []

-- a harvest
abbrev pub harvest_rows : ℕ → Regime → ℕ → ℕ → ℕ → List (Bool × Refusal)
harvest_rows n r first count bytes = regime_rows n r ++ asked_rows r first count bytes

unfoldable pub tables_check : Regime → Checked
tables_check r = first_of (table_rows r)

unfoldable pub regime_check : ℕ → Regime → Checked
regime_check n r = first_of (regime_rows n r)

unfoldable pub access_check : Regime → Access → Checked
access_check r a = first_of (access_rows r a)

unfoldable pub walk_check : ℕ → Regime → Access → Checked
walk_check n r a = first_of (walk_rows n r a)

unfoldable pub start_check : Regime → Access → Checked
start_check r a = first_of (start_rows r a)

unfoldable pub asked_check : Regime → ℕ → ℕ → ℕ → Checked
asked_check r first count bytes = first_of (asked_rows r first count bytes)

unfoldable pub harvest_check : ℕ → Regime → ℕ → ℕ → ℕ → Checked
harvest_check n r first count bytes = first_of (harvest_rows n r first count bytes)

-- an access and a store in a session that has a regime
unfoldable pub session_access_check : ℕ → Regime → Access → Checked
session_access_check n r a = first_of (memory_rows n r ++ access_rows r a)

unfoldable pub session_store_check : ℕ → Regime → ℕ → Checked
session_store_check n r address = first_of (memory_rows n r ++ store_rows r.pool address)
