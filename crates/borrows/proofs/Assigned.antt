-- A struct behind a `&mut`, of numbers alone, that a walk copies out or writes whole: over `Mutable.antt`.
--     copied_out            `let x = *r;`: it is opened, copied to local i, and closed as it was. The reference is local j, and n as in `written`
--     written               `*r = x;`: it is opened, the struct s stored in the place of the old one, and closed. The reference is local j; n is as in `Numbered.antt`, for what stands behind the borrow and its token
-- Assumes `Logic`.
use mathlib.Core.Path.{◌≡◌, refl, sym, subst}
use Prim.Native.Nat.{ℕ, zero, suc}
use mathlib.Core.List.{List, [], ◌∷◌}
use seplogic.Ra.Ura.{Ura}
use base.Fraction.{full_share}
use lib.Dec.{T as Holds}
use mir.Syntax.{Ty, Lifetime, Opd as Operand, Body as Code, place, deref, copy, rv_opd, assign, seq}
use mir.Val.{WT, has_ty, vptr}
use base.Fml.{Lft, Share, fat, froom, flft}
use prog.Wp.{Env, Calls, Loops, spot_of}
use types.Logic.{Logic}
use types.Kit.{Item, Post, runs, Seq, Step, step, ‵, nth, put, ◌$◌, drop}
use types.Run.{Opd, look, look_raw, store_raw, stop, hop, from, load, of_opd, assigns}
use denote.Ref.{MutBor}
use denote.Struct.Declared.{Declared, fields, shape}
use denote.Struct.Struct.{Plains, layout}
use denote.Struct.Laws as LL
use Rattle.borrows.proofs.Calls.{sets}
use Rattle.borrows.proofs.Mutable.{val, IsAt, typed, Lent, Cell, Open, opened, closed}
use Rattle.borrows.proofs.Numbered.{lies}

module _ (T : Declared) (L : LL.Laws T) where
  module _ {M : Type 1} {𝓤 : Ura M} {𝓛 : Logic 𝓤} {K : Type 0} {Γ : List (Item 𝓤)} {C : Calls 𝓤 𝓛.H} {Λ : Loops 𝓤 𝓛.H} {E : Env 𝓤 𝓛.H} {rest : Code} {post : Post 𝓤 𝓛.H} where
    open 𝓛 use {H}

    pub copied_out : K → Plains (fields T) → (ℓ : Lifetime) (κ : Lft) (q : Share) (r : MutBor T.D) {i j : ℕ} (n : ℕ)
        → nth 𝓛 (lies E n j) Γ ≡ ‵ (fat full_share (spot_of 𝓤 H E j).0 (spot_of 𝓤 H E j).1 zero (vptr r.ref_ptr.0 r.ref_ptr.1))
        → nth 𝓛 (lies E n i) Γ ≡ ‵ (froom (spot_of 𝓤 H E i).0 (spot_of 𝓤 H E i).1 zero) → (spot_of 𝓤 H E i).0 ≡ layout (shape T)
        → (IsAt T L r.now (val T L r.now) → Seq K 𝓛 (‵ (Lent T L r.ref_ptr.0 r.ref_ptr.1 ℓ κ r.ghost_name r.now) ∷ ‵ (flft κ q) ∷ put 𝓛 (lies E n i) (‵ (fat full_share (spot_of 𝓤 H E i).0 (spot_of 𝓤 H E i).1 zero (val T L r.now))) Γ) (runs C Λ E rest post))
        → Seq K 𝓛 (‵ (Lent T L r.ref_ptr.0 r.ref_ptr.1 ℓ κ r.ghost_name r.now) ∷ ‵ (flft κ q) ∷ Γ) (runs C Λ E (seq (assign (place i []) (rv_opd (copy (place j (deref (layout (shape T)) ∷ []))))) rest) post)
    copied_out t pl ℓ κ q r {i} {j} n ref room e k = opened T L t tt ℓ κ q r.ref_ptr.0 r.ref_ptr.1 r.ghost_name r.now (λ is. drop t $
        sets t (of_opd t (load t (from t (hop t (look t (suc (suc (lies E n j))) ref) (stop t))) (look_raw t 0 refl))) (suc (suc (lies E n i))) room
        (subst (λ (τ : Ty). Holds (has_ty τ (val T L r.now)) × WT (val T L r.now)) (sym e) (typed T L 𝓛 r.now (val T L r.now) is)) $
        closed T L t tt pl ℓ κ q r.ref_ptr.0 r.ref_ptr.1 r.ghost_name r.now r.now (val T L r.now) is $ k is)

    pub written : K → Plains (fields T) → (ℓ : Lifetime) (κ : Lft) (q : Share) (r : MutBor T.D) {j : ℕ} {x : Operand} (n : ℕ) (s : T.D) → IsAt T L s (val T L s)
        → nth 𝓛 (lies E n j) Γ ≡ ‵ (fat full_share (spot_of 𝓤 H E j).0 (spot_of 𝓤 H E j).1 zero (vptr r.ref_ptr.0 r.ref_ptr.1))
        → Opd K 𝓛 (‵ (Cell T L r.ref_ptr.0 r.ref_ptr.1 (val T L r.now)) ∷ ‵ (Open T L r.ref_ptr.0 r.ref_ptr.1 κ q r.ghost_name r.now) ∷ Γ) E x (val T L s)
        → Step K 𝓛 (‵ (Lent T L r.ref_ptr.0 r.ref_ptr.1 ℓ κ r.ghost_name s) ∷ ‵ (flft κ q) ∷ Γ) (runs C Λ E rest post) (‵ (Lent T L r.ref_ptr.0 r.ref_ptr.1 ℓ κ r.ghost_name r.now) ∷ ‵ (flft κ q) ∷ Γ)
        (runs C Λ E (seq (assign (place j (deref (layout (shape T)) ∷ [])) (rv_opd x)) rest) post)
    written t pl ℓ κ q r {j} n s is ref x = step (λ k. opened T L t tt ℓ κ q r.ref_ptr.0 r.ref_ptr.1 r.ghost_name r.now (λ _. drop t $
        assigns t (of_opd t x) (from t (hop t (look t (suc (suc (lies E n j))) ref) (stop t))) (store_raw t 0 refl (typed T L 𝓛 s (val T L s) is)) $
        closed T L t tt pl ℓ κ q r.ref_ptr.0 r.ref_ptr.1 r.ghost_name r.now s (val T L s) is $ k))
