-- The translation granule (RULES 3.1): the size of a page and of a table, by its page bits.
use Rattle.std.specs.Prelude.{ℕ, ◌≤◌}
use Rattle.vmsa.specs.declared.Regime.{Regime}
use Rattle.vmsa.specs.declared.Granule.{Granule}
use Rattle.vmsa.specs.declared.Granule.TheVariants.{Kib4, Kib16, Kib64}

-- how many low bits of an address lie within a page
abbrev pub page_bits : Granule → ℕ
page_bits Kib4 = 12
page_bits Kib16 = 14
page_bits Kib64 = 16

-- those of a regime
abbrev pub page_bits_of : Regime → ℕ
page_bits_of r = page_bits r.granule

-- what holds of the page bits of every granule, and all that the facts of the walk ask of them
pub record Paged (p : ℕ) : Type 0 where
  pub least : 12 ≤ p
  pub most : p ≤ 16
