-- A regime with one setting changed, and the regime to start from (RULES 3.2).
use Rattle.std.specs.Prelude.{ℕ, Bool, true, false}
use Rattle.vmsa.specs.declared.Regime.{Regime}
use Rattle.vmsa.specs.declared.Pool.{Pool}
use Rattle.vmsa.specs.declared.Range.{Range}
use Rattle.vmsa.specs.declared.Granule.{Granule}
use Rattle.vmsa.specs.declared.Granule.TheVariants.{Kib4}
use Rattle.vmsa.specs.Limits.{tsz_least, output_most}

-- a disabled range, whose tables' bits would count
abbrev pub disabled_range : Range
disabled_range = record { root = record { 0 = 0 }; tsz = tsz_least; disabled = true; hpd = false }

-- no pool yet, both ranges disabled, 48 bits of output, no updates, little-endian descriptors, granules of 4 KiB, Device memory only
abbrev pub initial : Regime
initial = record {
  pool = record { start = 0; length = 0; address = record { 0 = 0 } };
  range0 = disabled_range;
  range1 = disabled_range;
  output = output_most;
  ha = false;
  hd = false;
  wxn = false;
  ee = false;
  granule = Kib4;
  attributes = 0;
}

abbrev pub with_pool : Regime → Pool → Regime
with_pool r x = record { pool = x; range0 = r.range0; range1 = r.range1; output = r.output; ha = r.ha; hd = r.hd; wxn = r.wxn; ee = r.ee; granule = r.granule; attributes = r.attributes }

abbrev pub with_range0 : Regime → Range → Regime
with_range0 r x = record { pool = r.pool; range0 = x; range1 = r.range1; output = r.output; ha = r.ha; hd = r.hd; wxn = r.wxn; ee = r.ee; granule = r.granule; attributes = r.attributes }

abbrev pub with_range1 : Regime → Range → Regime
with_range1 r x = record { pool = r.pool; range0 = r.range0; range1 = x; output = r.output; ha = r.ha; hd = r.hd; wxn = r.wxn; ee = r.ee; granule = r.granule; attributes = r.attributes }

-- a range with its HPD changed
abbrev pub range_with_hpd : Range → Bool → Range
range_with_hpd g x = record { root = g.root; tsz = g.tsz; disabled = g.disabled; hpd = x }

abbrev pub with_hpd0 : Regime → Bool → Regime
with_hpd0 r x = with_range0 r (range_with_hpd r.range0 x)

abbrev pub with_hpd1 : Regime → Bool → Regime
with_hpd1 r x = with_range1 r (range_with_hpd r.range1 x)

abbrev pub with_output : Regime → ℕ → Regime
with_output r x = record { pool = r.pool; range0 = r.range0; range1 = r.range1; output = x; ha = r.ha; hd = r.hd; wxn = r.wxn; ee = r.ee; granule = r.granule; attributes = r.attributes }

abbrev pub with_ha : Regime → Bool → Regime
with_ha r x = record { pool = r.pool; range0 = r.range0; range1 = r.range1; output = r.output; ha = x; hd = r.hd; wxn = r.wxn; ee = r.ee; granule = r.granule; attributes = r.attributes }

abbrev pub with_hd : Regime → Bool → Regime
with_hd r x = record { pool = r.pool; range0 = r.range0; range1 = r.range1; output = r.output; ha = r.ha; hd = x; wxn = r.wxn; ee = r.ee; granule = r.granule; attributes = r.attributes }

abbrev pub with_wxn : Regime → Bool → Regime
with_wxn r x = record { pool = r.pool; range0 = r.range0; range1 = r.range1; output = r.output; ha = r.ha; hd = r.hd; wxn = x; ee = r.ee; granule = r.granule; attributes = r.attributes }

abbrev pub with_ee : Regime → Bool → Regime
with_ee r x = record { pool = r.pool; range0 = r.range0; range1 = r.range1; output = r.output; ha = r.ha; hd = r.hd; wxn = r.wxn; ee = x; granule = r.granule; attributes = r.attributes }

abbrev pub with_granule : Regime → Granule → Regime
with_granule r x = record { pool = r.pool; range0 = r.range0; range1 = r.range1; output = r.output; ha = r.ha; hd = r.hd; wxn = r.wxn; ee = r.ee; granule = x; attributes = r.attributes }

abbrev pub with_attributes : Regime → ℕ → Regime
with_attributes r x = record { pool = r.pool; range0 = r.range0; range1 = r.range1; output = r.output; ha = r.ha; hd = r.hd; wxn = r.wxn; ee = r.ee; granule = r.granule; attributes = x }
