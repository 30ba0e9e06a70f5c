-- The page of an access and its entry, for each granule, in numbers (RULES 4.3 and 10.2).
use Prim.Native.Nat.{ℕ}
use mathlib.Core.Bool.{true}
use mathlib.Core.List.{[], ◌∷◌, map}
use mathlib.Core.Path.{◌≡◌, refl}
use Rattle.geometry.specs.Geometry.{page_size, page_of}
use Rattle.vmsa.specs.Settings.{initial, with_granule}
use Rattle.vmsa.specs.declared.Access.{Access}
use Rattle.vmsa.specs.declared.AccessKind.TheVariants.{Read}
use Rattle.vmsa.specs.declared.Granule.{Granule}
use Rattle.vmsa.specs.declared.Granule.TheVariants.{Kib4, Kib16, Kib64}
use Rattle.tlb.specs.Ours.{ours}
use Rattle.tlb.specs.Walker.{entry_of}

abbrev at : Access
at = record { address = record { 0 = 0x12345ABC }; size = 4; el0 = true; kind = Read }

abbrev placed : Granule → ℕ × ℕ
placed g = (ours.page (with_granule initial g) at, entry_of (ours.page (with_granule initial g) at))

pub pages : map placed (Kib4 ∷ Kib16 ∷ Kib64 ∷ []) ≡ (0x12345, 0x05) ∷ (0x48D1, 0x11) ∷ (0x1234, 0x34) ∷ []
unfolding page_of page_size
pages = refl
