-- Each limit, named once.
use Rattle.std.specs.Prelude.{ℕ, ◌≤◌, ◌^◌}
use Rattle.vmsa.specs.declared.Regime.{Regime}

-- the most bytes of lent memory (RULES 2.1)
abbrev pub memory_limit : ℕ
memory_limit = 16777216

-- the most bytes of a pool (RULES 2.2)
abbrev pub pool_limit : ℕ
pool_limit = 1048576

-- physical addresses are below this (RULES 5.1, rows 2 and 4)
abbrev pub address_limit : ℕ
address_limit = 2 ^ 48

-- the size field T of a range, and the output size code (RULES 3.1)
abbrev pub tsz_least : ℕ
tsz_least = 16

abbrev pub tsz_most : ℕ
tsz_most = 39

abbrev pub output_most : ℕ
output_most = 5

-- the most pages of a harvest (RULES 17.1)
abbrev pub harvest_limit : ℕ
harvest_limit = 65536

-- what row 3 leaves of a regime
pub record Sized (r : Regime) : Type 0 where
  pub least0 : tsz_least ≤ r.range0.tsz
  pub most0 : r.range0.tsz ≤ tsz_most
  pub least1 : tsz_least ≤ r.range1.tsz
  pub most1 : r.range1.tsz ≤ tsz_most
  pub output : r.output ≤ output_most
