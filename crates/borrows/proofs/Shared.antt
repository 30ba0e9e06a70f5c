-- A struct behind a `&`, of numbers alone, that a walk reads whole: beside `Denote/Steps.antt`'s `looks` and `shuts`, for any such struct.
--     looked    what the reference and its token own is opened: a share of the struct's cell
--     shut      and shut again, which gives the token back
--     read_out  `let x = *r;`: it is opened, copied to local i, and shut. The reference is local j; n is as in `Numbered.antt`, for what stands behind the borrow and its token
-- It says nothing of this crate. Assumes `Logic`.
use mathlib.Core.Path.{◌≡◌, refl, sym, subst}
use Prim.Native.Nat.{ℕ, zero, suc}
use mathlib.Core.List.{List, [], ◌∷◌}
use lib.Dec.{T as Holds}
use seplogic.Ra.Ura.{Ura}
use base.Fraction.{full_share}
use mir.Syntax.{Ty, Lifetime, Body, place, deref, copy, rv_opd, assign, seq}
use mir.Val.{WT, has_ty, vptr}
use base.Fml.{Fml, Lft, Share, fat, froom, flft}
use prog.Wp.{Env, Calls, Loops, spot_of}
use types.Logic.{Logic}
use types.Kit.{Goal, Item, Post, runs, Seq, Soaks, Step, step, ‵, nth, put, ◌$◌, move, drop, use1, fsplit}
use types.Run.{look, stop, hop, from, load, of_opd}
use denote.Laws.{Is, shows}
use denote.Memory.{cell_at, part_at}
use denote.Opens.{Shut}
use denote.Ref.{Bor, ShrRef, shr_vals}
use denote.Steps.{looks, shuts, owned, peeks}
use denote.Struct.Declared.{Declared, fields, shape, row}
use denote.Struct.Steps.{spelt}
use denote.Struct.Struct.{Plains, layout}
use denote.Struct.Laws as LL
use Rattle.borrows.proofs.Calls.{sets}
use Rattle.borrows.proofs.Numbered.{lies}

module _ (T : Declared) (L : LL.Laws T) where
  abbrev Cell : Share → Bor T.D → Fml
  Cell s x = fat s (layout (shape T)) x.ref_ptr.0 x.ref_ptr.1 (LL.val T L x.now)

  -- what shuts it
  abbrev Open : {M : Type 1} {𝓤 : Ura M} (𝓛 : Logic 𝓤) → Lft → Share → Share → Bor T.D → Item 𝓤
  Open 𝓛 κ q s x = Shut 𝓛 κ q (part_at (row T) s x.now x.ref_ptr.0 x.ref_ptr.1)

  abbrev IsNow : Bor T.D → Type 0
  IsNow x = Is (row T) x.now (LL.vals T L x.now)

  module _ {M : Type 1} {𝓤 : Ura M} {𝓛 : Logic 𝓤} {K : Type 0} {Γ : List (Item 𝓤)} {G : Goal 𝓤 𝓛.H} where
    pub looked : K → Soaks G → LL.Copyables T.parts → (ℓ : Lifetime) (κ : Lft) (q : Share) (x : Bor T.D) → ((s : Share) → IsNow x → Seq K 𝓛 (‵ (Cell s x) ∷ Open 𝓛 κ q s x ∷ Γ) G)
        → Seq K 𝓛 (‵ ((ShrRef ℓ κ (row T)).own_val x (shr_vals x)) ∷ ‵ (flft κ q) ∷ Γ) G
    looked t z cs ℓ κ q x k =
        fsplit t $ drop t $ looks t z (row T) (LL.copied T cs 𝓛).opens x.now x.ref_ptr.0 x.ref_ptr.1 (λ s vs.
        spelt t (row T) (Is (row T)) (shows 𝓛 (row T)) (LL.vals T L) (LL.tells T L) s x.now vs x.ref_ptr.0 x.ref_ptr.1 $ move t (1 ∷ []) $ peeks t (row T) (Is (row T)) (shows 𝓛 (row T)) x.now (LL.vals T L x.now) (λ is.
        -- [what the struct owns; the share of its cell; what shuts it; the borrow]
        drop t $ move t (2 ∷ []) $ drop t $ use1 𝓛 (‵ (Cell s x)) (𝓛.laws.raw_at s (layout (shape T)) x.ref_ptr.0 x.ref_ptr.1 (LL.val T L x.now)) $ k s is))

    pub shut : K → Soaks G → Plains (fields T) → (κ : Lft) (q s : Share) (x : Bor T.D) → IsNow x → Step K 𝓛 (‵ (flft κ q) ∷ Γ) G (‵ (Cell s x) ∷ Open 𝓛 κ q s x ∷ Γ) G
    shut t z pl κ q s x is = step (λ k.
        use1 𝓛 (‵ (cell_at s (row T).mir (LL.vals T L x.now) x.ref_ptr.0 x.ref_ptr.1)) (𝓛.laws.at_raw s (layout (shape T)) x.ref_ptr.0 x.ref_ptr.1 (LL.val T L x.now)) $ owned t (row T) (Is (row T)) (LL.makes T pl 𝓛) x.now _ is $ move t (1 ∷ 0 ∷ []) $ shuts t z (row T) s x.now (LL.vals T L x.now) x.ref_ptr.0 x.ref_ptr.1 $ k)

  module _ {M : Type 1} {𝓤 : Ura M} {𝓛 : Logic 𝓤} {K : Type 0} {Γ : List (Item 𝓤)} {C : Calls 𝓤 𝓛.H} {Λ : Loops 𝓤 𝓛.H} {E : Env 𝓤 𝓛.H} {rest : Body} {post : Post 𝓤 𝓛.H} where
    open 𝓛 use {H}

    pub read_out : K → LL.Copyables T.parts → Plains (fields T) → (ℓ : Lifetime) (κ : Lft) (q : Share) (x : Bor T.D) {i j : ℕ} (n : ℕ)
        → nth 𝓛 (lies E n j) Γ ≡ ‵ (fat full_share (spot_of 𝓤 H E j).0 (spot_of 𝓤 H E j).1 zero (vptr x.ref_ptr.0 x.ref_ptr.1))
        → nth 𝓛 (lies E n i) Γ ≡ ‵ (froom (spot_of 𝓤 H E i).0 (spot_of 𝓤 H E i).1 zero) → (spot_of 𝓤 H E i).0 ≡ layout (shape T)
        → (IsNow x → Seq K 𝓛 (‵ (flft κ q) ∷ put 𝓛 (lies E n i) (‵ (fat full_share (spot_of 𝓤 H E i).0 (spot_of 𝓤 H E i).1 zero (LL.val T L x.now))) Γ) (runs C Λ E rest post))
        → Seq K 𝓛 (‵ ((ShrRef ℓ κ (row T)).own_val x (shr_vals x)) ∷ ‵ (flft κ q) ∷ Γ) (runs C Λ E (seq (assign (place i []) (rv_opd (copy (place j (deref (layout (shape T)) ∷ []))))) rest) post)
    read_out t cs pl ℓ κ q x {i} {j} n ref room e k = looked t tt cs ℓ κ q x (λ s is.
        sets t (of_opd t (load t (from t (hop t (look t (suc (suc (lies E n j))) ref) (stop t))) (look t 0 refl))) (suc (suc (lies E n i))) room
        (subst (λ (τ : Ty). Holds (has_ty τ (LL.val T L x.now)) × WT (LL.val T L x.now)) (sym e) ((LL.lawful T L 𝓛).typed x.now _ is).0) $ shut t tt pl κ q s x is $ k is)
