-- A regime comes back from its numbers.
use Prim.Native.Nat.{ℕ, suc}
use mathlib.Core.List.{[], ◌∷◌, map}
use mathlib.Core.Bool.{Bool, true, false}
use mathlib.Core.Path.{◌≡◌, refl}
use Rattle.vmsa.specs.declared.Regime.{Regime}
use Rattle.vmsa.specs.declared.Granule.{Granule}
use Rattle.vmsa.specs.declared.Granule.TheVariants.{Kib4, Kib16, Kib64}
use Rattle.vmsa.specs.Words.{flag, flag_byte, granule_number, granule_numbered, regime_of, regime_words}

pub flag_byte_lem : (b : Bool) → flag (flag_byte b) ≡ b
flag_byte_lem true = refl
flag_byte_lem false = refl

pub granule_number_lem : (g : Granule) → granule_numbered (granule_number g) ≡ g
unfolding granule_numbered
granule_number_lem Kib4 = refl
granule_number_lem Kib16 = refl
granule_number_lem Kib64 = refl

-- as TG0 has them: 0, 1, 2; and every number from 3 on is taken as 4 KiB
pub granules_numbered : map granule_numbered (0 ∷ 1 ∷ 2 ∷ []) ≡ Kib4 ∷ Kib64 ∷ Kib16 ∷ []
unfolding granule_numbered
granules_numbered = refl

pub granule_other : (n : ℕ) → granule_numbered (suc (suc (suc n))) ≡ Kib4
unfolding granule_numbered
granule_other n = refl

pub regime_words_lem : (r : Regime) → regime_of (regime_words r) ≡ r
unfolding regime_of regime_words
regime_words_lem r = rw (flag_byte_lem r.range0.disabled, flag_byte_lem r.range1.disabled, flag_byte_lem r.ha, flag_byte_lem r.hd, flag_byte_lem r.wxn, flag_byte_lem r.range0.hpd, flag_byte_lem r.range1.hpd, flag_byte_lem r.ee, granule_number_lem r.granule)
