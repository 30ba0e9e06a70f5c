-- The steps of the walk as one list (RULES 6, with the tables of 6.11): each with its test, and the fault and level that it gives where it fails.
use Rattle.std.specs.Prelude.{ℕ, zero, suc, Bool, true, false, ◌||◌, List, [], ◌∷◌, leb, Option, Some, None}
use Rattle.descriptor.specs.Bits.{pick}
use Rattle.vmsa.specs.Granules.{page_bits_of}
use Rattle.vmsa.specs.Fields.{no_tables, with_table}
use Rattle.geometry.specs.Geometry.{level_of, first_left, output_limit}
use Rattle.vmsa.specs.declared.Regime.{Regime}
use Rattle.vmsa.specs.declared.Access.{Access}
use Rattle.vmsa.specs.declared.Leaf.{Leaf}
use Rattle.vmsa.specs.declared.FaultKind.{FaultKind}
use Rattle.vmsa.specs.declared.FaultKind.TheVariants.{AddressSize, Translation, AccessFlag, Permission, ExternalAbort, Alignment}
use Rattle.lookup.specs.declared.Context.{Context}
use Rattle.lookup.specs.Steps.{invalid, is_table, address_in, pool_reader, entry_at, range_of, outside, context_of}
use Rattle.lookup.specs.Trace.{leaf_under_hpd}
use Rattle.permission.specs.Permission.{flag_fails, alignment_fails, permission_fails}

pub record Step : Type 0 where
  pub fails : Bool
  pub kind : FaultKind
  pub level : ℕ

abbrev pub step : Bool → FaultKind → ℕ → Step
step fails kind level = record { fails = fails; kind = kind; level = level }

-- no step fails
pub data AllPass : List Step → Type 0 where
  done : AllPass []
  pass : {kind : FaultKind} {level : ℕ} {steps : List Step} → AllPass steps → AllPass (step false kind level ∷ steps)

-- the first step that fails gives this fault at this level
pub data FirstFails : List Step → FaultKind → ℕ → Type 0 where
  here : {kind : FaultKind} {level : ℕ} {steps : List Step} → FirstFails (step true kind level ∷ steps) kind level
  later : {kind k : FaultKind} {level l : ℕ} {steps : List Step} → FirstFails steps k l → FirstFails (step false kind level ∷ steps) k l

-- 6: AF clear and HA off. 7: misaligned on Device memory. 8: not permitted, or a fetch from Device memory. All at the leaf's level
unfoldable pub leaf_steps : Regime → Access → Leaf → List Step
leaf_steps r a l =
    step (flag_fails r l) AccessFlag (level_of l.left)
    ∷ step (alignment_fails r a l) Alignment (level_of l.left)
    ∷ step (permission_fails r a l) Permission (level_of l.left)
    ∷ []

-- the leaf v under the tables on the way, which count where HPD of the address's range is off (RULES 6.11)
abbrev pub leaf_under : Regime → Access → ℕ → ℕ → ℕ → Leaf
leaf_under r a sum left v = leaf_under_hpd (range_of r a.address.0).hpd (record { value = v; left = left; tables = sum })

-- 4: the descriptor v is invalid at its level. 5: its address is beyond the output size. Then a table's steps, a level lower and its bits in the sum, or a leaf's
unfoldable pub descriptor_steps : Regime → Access → Context → (ℕ → ℕ → List Step) → ℕ → ℕ → ℕ → List Step
descriptor_steps r a c below sum left v =
    step (invalid c.page left v) Translation (level_of left)
    ∷ step (leb c.limit.0 (address_in c.page left v)) AddressSize (level_of left)
    ∷ pick (is_table left v) (below (with_table sum v) (address_in c.page left v)) (leaf_steps r a (leaf_under r a sum left v))

-- 3: a descriptor that is not wholly in the pool ends the walk
abbrev pub entry_steps : Regime → Access → Context → (ℕ → ℕ → List Step) → ℕ → ℕ → Option ℕ → List Step
entry_steps r a c below sum left (Some v) = step false ExternalAbort (level_of left) ∷ descriptor_steps r a c below sum left v
entry_steps r a c below sum left None = step true ExternalAbort (level_of left) ∷ []

-- 3 to 8, n levels from a table on, those above it having this sum; the last level has no tables, so nothing is below it
unfoldable pub level_steps : Regime → Access → Context → (ℕ → Option ℕ) → ℕ → ℕ → ℕ → List Step
level_steps r a c read zero sum table = []
level_steps r a c read (suc left) sum table = entry_steps r a c (level_steps r a c read left) sum left (read (entry_at c left table))

-- 1: the range is disabled or the address is outside it; the root is beyond the output size. 2: from the first level on
unfoldable pub walk_steps : Regime → Access → List ℕ → List Step
walk_steps r a pool =
    let range = range_of r a.address.0 in
    step (range.disabled || outside range.tsz a.address.0) Translation 0
    ∷ step (leb (output_limit r.output) range.root.0) AddressSize 0
    ∷ level_steps r a (context_of r a.address.0) (pool_reader r pool) (suc (first_left (page_bits_of r) range.tsz)) no_tables range.root.0
