-- A regime as numbers (RULES 15.1).
use Rattle.std.specs.Prelude.{ℕ, Bool, not, [], ◌∷◌, eqb, get_or}
use Rattle.std.specs.Int.{from_bool}
use Rattle.vmsa.specs.declared.Granule.{Granule}
use Rattle.vmsa.specs.declared.Granule.TheVariants.{Kib4, Kib16, Kib64}
use Rattle.vmsa.specs.declared.Regime.{Regime}
use Rattle.vmsa.specs.declared.RegimeWords.{RegimeWords}

-- any byte but 0 is true; false is 0, true is 1
abbrev pub flag : ℕ → Bool
flag b = not (eqb b 0)

abbrev pub flag_byte : Bool → ℕ
flag_byte b = from_bool b

-- the number of a granule, as in Arm's field TG0; a number that is none of them is taken as 4 KiB
abbrev pub granule_number : Granule → ℕ
granule_number Kib4 = 0
granule_number Kib64 = 1
granule_number Kib16 = 2

unfoldable pub granule_numbered : ℕ → Granule
granule_numbered n = get_or (Kib4 ∷ Kib64 ∷ Kib16 ∷ []) n Kib4

unfoldable pub regime_of : RegimeWords → Regime
regime_of w = record {
  pool = record { start = w.start; length = w.length; address = record { 0 = w.address } };
  range0 = record { root = record { 0 = w.root0 }; tsz = w.tsz0; disabled = flag w.disabled0; hpd = flag w.hpd0 };
  range1 = record { root = record { 0 = w.root1 }; tsz = w.tsz1; disabled = flag w.disabled1; hpd = flag w.hpd1 };
  output = w.output;
  ha = flag w.ha;
  hd = flag w.hd;
  wxn = flag w.wxn;
  ee = flag w.ee;
  granule = granule_numbered w.granule;
  attributes = w.attributes;
}

unfoldable pub regime_words : Regime → RegimeWords
regime_words r = record {
  start = r.pool.start;
  length = r.pool.length;
  address = r.pool.address.0;
  root0 = r.range0.root.0;
  root1 = r.range1.root.0;
  attributes = r.attributes;
  tsz0 = r.range0.tsz;
  tsz1 = r.range1.tsz;
  disabled0 = flag_byte r.range0.disabled;
  disabled1 = flag_byte r.range1.disabled;
  output = r.output;
  ha = flag_byte r.ha;
  hd = flag_byte r.hd;
  wxn = flag_byte r.wxn;
  hpd0 = flag_byte r.range0.hpd;
  hpd1 = flag_byte r.range1.hpd;
  ee = flag_byte r.ee;
  granule = granule_number r.granule;
  spare32 = 0;
}

-- the same numbers, the spare one put to 0 (RULES 15.5)
abbrev pub regime_spare0 : RegimeWords → RegimeWords
regime_spare0 g = record {
  start = g.start;
  length = g.length;
  address = g.address;
  root0 = g.root0;
  root1 = g.root1;
  attributes = g.attributes;
  tsz0 = g.tsz0;
  tsz1 = g.tsz1;
  disabled0 = g.disabled0;
  disabled1 = g.disabled1;
  output = g.output;
  ha = g.ha;
  hd = g.hd;
  wxn = g.wxn;
  hpd0 = g.hpd0;
  hpd1 = g.hpd1;
  ee = g.ee;
  granule = g.granule;
  spare32 = 0;
}
