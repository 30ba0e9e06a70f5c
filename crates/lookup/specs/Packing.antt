-- How a lookup ends as one number, which passes from level to level in a register. A form of the code: no rule speaks of it.
use Rattle.std.specs.Prelude.{ℕ, suc, ◌+◌, ◌*◌, ◌≤◌, ◌<◌, Bool, List, [], ◌∷◌, ◌≡◌, length, get_or, Some}
use Rattle.vmsa.specs.Fields.{sum_count}
use Rattle.geometry.specs.Geometry.{level_of}
use Rattle.vmsa.specs.declared.FaultKind.{FaultKind}
use Rattle.vmsa.specs.declared.FaultKind.TheVariants.{AddressSize, Translation, AccessFlag, Permission, ExternalAbort, Alignment}
use Rattle.lookup.specs.Trace.{End, fault, leaf, Trace}
use Rattle.lookup.specs.Steps.{fetched}

-- the number of a fault kind, and the kind of a number
abbrev pub kind_number : FaultKind → ℕ
kind_number AddressSize = 0
kind_number Translation = 1
kind_number AccessFlag = 2
kind_number Permission = 3
kind_number ExternalAbort = 4
kind_number Alignment = 5

unfoldable pub kind_numbered : ℕ → FaultKind
kind_numbered n = get_or (AddressSize ∷ Translation ∷ AccessFlag ∷ Permission ∷ ExternalAbort ∷ []) n Alignment

-- the number of a leaf, next to those of the fault kinds
abbrev pub leaf_number : ℕ
leaf_number = 6

-- from the lowest digit up: the level (below 4), the number of the fault kind or of a leaf (below 8), the tables' sum (below sum_count), the leaf descriptor's address
unfoldable pub joined : ℕ → ℕ → ℕ → ℕ → ℕ
joined level number tables address = level + 4 * (number + 8 * (tables + sum_count * address))

-- the end of a trace in one number; a leaf's value is left out, and the reads follow from the level
abbrev pub packed_end : End → ℕ
packed_end (fault kind level) = joined level (kind_number kind) 0 0
packed_end (leaf a l) = joined (level_of l.left) leaf_number l.tables a

unfoldable pub packed : Trace → ℕ
packed t = packed_end t.end

-- the level at which a lookup ends
abbrev pub end_level : End → ℕ
end_level (fault kind level) = level
end_level (leaf a l) = level_of l.left

-- an end at one of the four levels; a leaf's sum has four bits, and its value stands at its address in the pool
abbrev pub Backed : Bool → List ℕ → ℕ → End → Type 0
Backed ee pool base (fault kind level) = level ≤ 3
Backed ee pool base (leaf a l) = (l.left ≤ 3) × (l.tables < sum_count) × (fetched ee pool base a ≡ Some l.value)

-- a lookup over the pool that the number n stands for: one descriptor was visited at each level, from the first on
pub record Packs (ee : Bool) (pool : List ℕ) (base first n : ℕ) : Type 0 where
  pub trace : Trace
  pub same : n ≡ packed trace
  pub reads : length trace.visited + first ≡ suc (end_level trace.end)
  pub end : Backed ee pool base trace.end
