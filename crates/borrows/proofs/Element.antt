-- An element of an array as a part of a context's entry, so that it is read and written where the array lies: beside `Types/Part.antt`'s `sub`, which does the same for a field of a struct.
--     element s k          the address of element k of an array at an address, where an element has s bytes: that address, and k * s beside it
--     item n us k l e p    element k of the array that p finds, whose elements' machine values are us; it lies at `Denote/Index.antt`'s `place`
-- It says nothing of this crate. Assumes `Logic`.
use mathlib.Core.Path.{◌≡◌, ◌∙◌, sym, ap, subst}
use Prim.Native.Nat.{ℕ, zero, suc, ◌+◌, ◌*◌, ◌<◌}
use native.Mathlib.Nat.{not-suc-le-zero, le_of_suc-le-suc}
use mathlib.Core.List.{List, [], ◌∷◌}
use lib.ListN.{length, get_or, set, length-set}
use seplogic.Ra.Ura.{Ura}
use mir.Syntax.{Ty, Opd as Operand, op2, offset, w64, ty_array}
use mir.Val.{Val, vunit, vint, vptr, vstruct, of_list}
use base.Logic.{SProp, ent, sep, wand, all, all_e, apply∗}
use base.Fml.{Share, fat}
use prog.Memory.{size}
use prog.Model.{elems}
use prog.Wp.{Env}
use types.Logic.{Logic}
use types.Kit.{Item, ‵, raw, mean, ◌⊛◌, ◌$◌, ◌∵◌, !, qed, move, use1, use2, split, frame, each as for_each, assume, done}
use types.Run.{Opd, Rv, bin}
use types.Part.{Part}
use denote.Index.{place, place_is}
use Rattle.descriptor.proofs.Lists.{set_same}

module _ {M : Type 1} {𝓤 : Ura M} (𝓛 : Logic 𝓤) (q : Share) (τ : Ty) (b : ℕ) where
  open 𝓛 use {H}

  abbrev Back : List Val → ℕ → ℕ → Val → SProp 𝓤
  Back us k o w = wand 𝓤 (H.at q τ b (place (size τ) o k) w) (elems 𝓤 H q τ b o (set us k w))

  -- one element out of a row, with the way back
  elem_of : (us : List Val) (k o : ℕ) → k < length us → ent 𝓤 (elems 𝓤 H q τ b o us) (sep 𝓤 (H.at q τ b (place (size τ) o k) (get_or us k vunit)) (all 𝓤 (Back us k o)))
  elem_of [] k o l = absurd (not-suc-le-zero l)
  elem_of (u ∷ us) zero o l =
      qed 𝓛 ((‵ (fat q τ b o u) ⊛ raw (elems 𝓤 H q τ b (o + size τ) us)) ∷ []) ∵ split ! $ frame ! $ for_each ! (Back (u ∷ us) zero o) (λ w. assume ! (‵ (fat q τ b o w)) $ done !)
  elem_of (u ∷ us) (suc k) o l =
      qed 𝓛 ((‵ (fat q τ b o u) ⊛ raw (elems 𝓤 H q τ b (o + size τ) us)) ∷ []) ∵ split ! $ move ! (1 ∷ []) $
      use1 𝓛 (‵ (fat q τ b (place (size τ) (o + size τ) k) (get_or us k vunit)) ⊛ raw (all 𝓤 (Back us k (o + size τ)))) (elem_of us k (o + size τ) (le_of_suc-le-suc l)) $ split ! $ frame ! $
      for_each ! (Back (u ∷ us) (suc k) o) (λ w. assume ! (‵ (fat q τ b (place (size τ) (o + size τ) k) w)) $ move ! (1 ∷ []) $ use1 𝓛 (raw (Back us k (o + size τ) w)) (all_e 𝓤 (Back us k (o + size τ)) w) $ move ! (1 ∷ 0 ∷ []) $
      use2 𝓛 (raw (elems 𝓤 H q τ b (o + size τ) (set us k w))) (apply∗ 𝓤 (H.at q τ b (place (size τ) (o + size τ) k) w) (elems 𝓤 H q τ b (o + size τ) (set us k w))) $ move ! (1 ∷ 0 ∷ []) $ done !)

module _ {M : Type 1} {𝓤 : Ura M} {𝓛 : Logic 𝓤} {K : Type 0} where
  open 𝓛 use {H}

  pub element : K → {Γ : List (Item 𝓤)} {E : Env 𝓤 H} {x y : Operand} {b o : ℕ} (s k : ℕ) → Opd K 𝓛 Γ E x (vptr b o) → Opd K 𝓛 Γ E y (vint w64 (k * s)) → Rv K 𝓛 Γ E (op2 offset x y) (vptr b (place s o k))
  element t {Γ} {E} {x} {y} {b} {o} s k at by = subst (λ (n : ℕ). Rv K 𝓛 Γ E (op2 offset x y) (vptr b n)) (sym (place_is s o k)) (bin t at by tt)

  pub item : K → {i : Item 𝓤} {q : Share} {τ : Ty} {b o : ℕ} {back : Val → Item 𝓤} (n : ℕ) (us : List Val) (k : ℕ) → k < length us → length us ≡ n
      → Part K 𝓛 i q (ty_array τ n) b o (vstruct (of_list us)) back → Part K 𝓛 i q τ b (place (size τ) o k) (get_or us k vunit) (λ u. back (vstruct (of_list (set us k u))))
  item t {i} {q} {τ} {b} {o} {back} n us k l e p = record {
    out = qed 𝓛 (i ∷ []) ∵ use1 𝓛 (‵ (fat q (ty_array τ n) b o (vstruct (of_list us))) ⊛ raw (all 𝓤 Entry)) p.out $ split ! $
        use1 𝓛 (raw (elems 𝓤 H q τ b o us)) (𝓛.laws.at_elems q τ n b o us) $
        use1 𝓛 (‵ (fat q τ b (place (size τ) o k) (get_or us k vunit)) ⊛ raw (all 𝓤 (Back 𝓛 q τ b us k o))) (elem_of 𝓛 q τ b us k o l) $ split ! $ frame ! $
        for_each ! (λ (u : Val). wand 𝓤 (H.at q τ b (place (size τ) o k) u) (mean 𝓛 (back (vstruct (of_list (set us k u)))))) (λ u. assume {P = mean 𝓛 (back (vstruct (of_list (set us k u))))} ! (‵ (fat q τ b (place (size τ) o k) u)) $
        -- [the element's cell with u; the way back to the row; the way back to the entry]
        move ! (1 ∷ []) $ use1 𝓛 (raw (Back 𝓛 q τ b us k o u)) (all_e 𝓤 (Back 𝓛 q τ b us k o) u) $ move ! (1 ∷ 0 ∷ []) $
        use2 𝓛 (raw (elems 𝓤 H q τ b o (set us k u))) (apply∗ 𝓤 (H.at q τ b (place (size τ) o k) u) (elems 𝓤 H q τ b o (set us k u))) $
        use1 𝓛 (‵ (fat q (ty_array τ n) b o (vstruct (of_list (set us k u))))) (subst (λ (m : ℕ). ent 𝓤 (elems 𝓤 H q τ b o (set us k u)) (H.at q (ty_array τ m) b o (vstruct (of_list (set us k u))))) (length-set us k u ∙ e) (𝓛.laws.elems_at q τ b o (set us k u))) $
        move ! (1 ∷ []) $ use1 𝓛 (raw (Entry (vstruct (of_list (set us k u))))) (all_e 𝓤 Entry (vstruct (of_list (set us k u)))) $ move ! (1 ∷ 0 ∷ []) $
        use2 𝓛 (back (vstruct (of_list (set us k u)))) (apply∗ 𝓤 (H.at q (ty_array τ n) b o (vstruct (of_list (set us k u)))) (mean 𝓛 (back (vstruct (of_list (set us k u)))))) $ done !);
    same = ap (λ (vs : List Val). back (vstruct (of_list vs))) (set_same us k vunit) ∙ p.same;
  }
    where
      Entry : Val → SProp 𝓤
      Entry w = wand 𝓤 (H.at q (ty_array τ n) b o w) (mean 𝓛 (back w))
