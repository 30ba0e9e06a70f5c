-- The formulas of the geometry give the tables of RULES 6.2, for every granule. (That a walk's index has these bits: `index_bits_lem` in lookup.)
use Prim.Native.Nat.{ℕ, zero, suc, ◌+◌, ◌-◌}
use mathlib.Core.Bool.{Bool, true, false}
use mathlib.Core.List.{List, [], ◌∷◌, ◌++◌, map}
use mathlib.Core.Path.{◌≡◌, refl}
use lib.ListN.{replicate}
use Rattle.vmsa.specs.Granules.{page_bits}
use Rattle.vmsa.specs.Limits.{tsz_least, tsz_most}
use Rattle.vmsa.specs.declared.Granule.{Granule}
use Rattle.vmsa.specs.declared.Granule.TheVariants.{Kib4, Kib16, Kib64}
use Rattle.geometry.specs.Geometry.{level_of, stride_bits, shift_of, index_bits, block_at, first_left}

-- n numbers from a on, and from n down to 0
abbrev from : ℕ → ℕ → List ℕ
from zero a = []
from (suc n) a = a ∷ from n (a + 1)

abbrev down_from : ℕ → List ℕ
down_from zero = zero ∷ []
down_from (suc n) = suc n ∷ down_from n

-- a level: its number, the highest and the lowest address bit of its index, and whether it has blocks
pub record Level : Type 0 where
  pub number : ℕ
  pub highest : ℕ
  pub lowest : ℕ
  pub blocks : Bool

abbrev level : ℕ → ℕ → ℕ → Bool → Level
level n high low b = record { number = n; highest = high; lowest = low; blocks = b }

-- a granule: its levels, and the first level for each T
pub record Granulation : Type 0 where
  pub levels : List Level
  pub first : List ℕ

abbrev granulation : List Level → List ℕ → Granulation
granulation levels first = record { levels = levels; first = first }

-- by the formulas, for page bits p and the smallest T, whose addresses have the most bits
abbrev level_by : ℕ → ℕ → Level
level_by p left = level (level_of left) (shift_of p left + index_bits p tsz_least left - 1) (shift_of p left) (block_at p left)

abbrev pub granulation_by : Granule → Granulation
granulation_by g =
    granulation (map (level_by (page_bits g)) (down_from (first_left (page_bits g) tsz_least)))
    (map (λ (t : ℕ). level_of (first_left (page_bits g) t)) (from (tsz_most + 1 - tsz_least) tsz_least))

-- as the rules have them; a run of T with one first level is a replicate
pub granulations : map granulation_by (Kib4 ∷ Kib16 ∷ Kib64 ∷ [])
    ≡ granulation (level 0 47 39 false ∷ level 1 38 30 true ∷ level 2 29 21 true ∷ level 3 20 12 false ∷ []) (replicate 9 0 ++ replicate 9 1 ++ replicate 6 2)
    ∷ granulation (level 0 47 47 false ∷ level 1 46 36 false ∷ level 2 35 25 true ∷ level 3 24 14 false ∷ []) (replicate 1 0 ++ replicate 11 1 ++ replicate 11 2 ++ replicate 1 3)
    ∷ granulation (level 1 47 42 false ∷ level 2 41 29 true ∷ level 3 28 16 false ∷ []) (replicate 6 1 ++ replicate 13 2 ++ replicate 5 3)
    ∷ []
unfolding level_of stride_bits shift_of index_bits block_at first_left
granulations = refl
