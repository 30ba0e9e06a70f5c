-- A struct behind a `&mut`, of numbers alone, that a walk reads and writes where it lies: beside `Denote/Steps.antt`'s `opens` and `closes`, for any such struct.
--     val s                 the machine value of the struct s.        IsAt s v    v is the machine value of s, as is known of a struct that is owned
--     lent s, Lent s        a `&mut` at the struct s, and what it owns.        Cell v, Open h    once it is open: the struct's cell, and the borrow, which was at h
--     opened, closed        it is opened, and closed at the struct that then lies in the cell
-- Assumes `Logic`.
use mathlib.Core.Path.{refl}
use Prim.Native.Nat.{ℕ}
use mathlib.Core.List.{List, [], ◌∷◌}
use seplogic.Ra.Ura.{Ura}
use base.Fraction.{full_share}
use lib.Dec.{T as Holds}
use mir.Syntax.{Lifetime}
use mir.Val.{Val, WT, has_ty, vptr}
use base.Fml.{GName, Lft, Share, Fml, fsep, flft, fobs, fauth, fobor}
use types.Logic.{Logic}
use types.Kit.{Goal, Item, Seq, Soaks, Step, step, ‵, ◌$◌, move, drop, fsplit3, fjoin3, feq_i}
use types.SemTy.{Body}
use denote.Laws.{Is, shows}
use denote.Memory.{cell_at, mem}
use denote.Ref.{MutBor, MutRef}
use denote.Steps.{opens, closes, owned, peeks}
use denote.Struct.Declared.{Declared, fields, shape, row}
use denote.Struct.Steps.{spelt}
use denote.Struct.Struct.{Plains, layout}
use denote.Struct.Laws as LL

module _ (T : Declared) (L : LL.Laws T) where
  abbrev pub val : T.D → Val
  val = LL.val T L

  abbrev pub IsAt : T.D → Val → Type 0
  IsAt s v = Is (row T) s (v ∷ [])

  -- the machine value has the struct's type
  pub typed : {M : Type 1} {𝓤 : Ura M} (𝓛 : Logic 𝓤) (s : T.D) (v : Val) → IsAt s v → Holds (has_ty (layout (shape T)) v) × WT v
  typed 𝓛 s v is = ((LL.lawful T L 𝓛).typed s (v ∷ []) is).0

  module _ (b o : ℕ) where
    abbrev pub lent : GName → T.D → MutBor T.D
    lent γ s = record { ref_ptr = (b, o); ghost_name = γ; now = s }

    abbrev pub Lent : Lifetime → Lft → GName → T.D → Fml
    Lent ℓ κ γ s = (MutRef ℓ κ (row T)).own_val (lent γ s) (vptr b o ∷ [])

    abbrev pub Cell : Val → Fml
    Cell v = cell_at full_share (row T).mir (v ∷ []) b o

    abbrev pub Open : Lft → Share → GName → T.D → Fml
    Open κ q γ h = fsep (fobor κ q (Body (mem (row T)) b o γ)) (fsep (fobs γ ((row T).coded.code h)) (fauth γ ((row T).coded.code h)))

  module _ {M : Type 1} {𝓤 : Ura M} {𝓛 : Logic 𝓤} {K : Type 0} {Γ : List (Item 𝓤)} {G : Goal 𝓤 𝓛.H} where
    pub opened : K → Soaks G → (ℓ : Lifetime) (κ : Lft) (q : Share) (b o : ℕ) (γ : GName) (h : T.D)
        → (IsAt h (val h) → Seq K 𝓛 (‵ ((row T).own_val h (val h ∷ [])) ∷ ‵ (Cell b o (val h)) ∷ ‵ (Open b o κ q γ h) ∷ Γ) G) → Seq K 𝓛 (‵ (Lent b o ℓ κ γ h) ∷ ‵ (flft κ q) ∷ Γ) G
    opened t z ℓ κ q b o γ h k =
        fsplit3 t $ drop t $ opens t z (row T) {h = h} b o (λ vs. spelt t (row T) (Is (row T)) (shows 𝓛 (row T)) (LL.vals T L) (LL.tells T L) full_share h vs b o $
        move t (2 ∷ 3 ∷ 4 ∷ []) $ fjoin3 t $ move t (2 ∷ 1 ∷ 0 ∷ []) $ peeks t (row T) (Is (row T)) (shows 𝓛 (row T)) h (val h ∷ []) k)

    pub closed : K → Soaks G → Plains (fields T) → (ℓ : Lifetime) (κ : Lft) (q : Share) (b o : ℕ) (γ : GName) (h s : T.D) (v : Val) → IsAt s v
        → Step K 𝓛 (‵ (Lent b o ℓ κ γ s) ∷ ‵ (flft κ q) ∷ Γ) G (‵ (Cell b o v) ∷ ‵ (Open b o κ q γ h) ∷ Γ) G
    closed t z pl ℓ κ q b o γ h s v is = step (λ k.
        move t (1 ∷ []) $ fsplit3 t $ owned t (row T) (Is (row T)) (LL.makes T pl 𝓛) s (v ∷ []) is $ move t (4 ∷ 0 ∷ []) $ closes t z (row T) s (v ∷ []) b o $
        feq_i t (List Val) (vptr b o ∷ []) (vptr b o ∷ []) refl $ fjoin3 t $ k)
