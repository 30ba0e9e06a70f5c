-- The lent session as a whole, out of its borrow and back: what walks by hand of this crate share. Kept, since the documents name it; no proof needs it today.
--     sval s, IsSession s      the machine value of the session s, and that it is one
--     Borrow r s               what the `&mut Session` r owns, at the session s
--     Cell r s, Open r         once it is open: the session's cell, with s in it, and the borrow
--     apart                    at entry: what the session's borrow owns and its token, and what the other parameters own and theirs
--     taken                    `let before = *session;`: the borrow is opened, and the session copied to a local
--     put_back                 `*session = x;`: the session x is stored where the old one lay, and the borrow closed at it
-- In the last two the reference is local 1, and lies at entry n of what stands behind the borrow in the context.
-- Assumes `Logic`.
use mathlib.Core.Path.{◌≡◌, refl, sym, subst}
use Prim.Native.Nat.{ℕ, zero, suc}
use mathlib.Core.List.{List, [], ◌∷◌}
use seplogic.Ra.Ura.{Ura}
use base.Fraction.{full_share}
use lib.Dec.{T}
use mir.Syntax.{Ty, Body, Opd as Operand, named, place, deref, copy, rv_opd, assign, seq}
use mir.Val.{Val, WT, has_ty, vptr}
use base.Fml.{Lft, Share, Fml, fsep, fat, froom, flft}
use prog.Wp.{Env, Calls, Loops, spot_of}
use types.Logic.{Logic}
use types.Kit.{Goal, Item, Post, runs, Seq, Step, step, ‵, ◌⊛◌, nth, put, ◌$◌, move, split, fsplit}
use types.Run.{Opd, look, look_raw, store_raw, stop, hop, from, load, of_opd, assigns}
use denote.Ref.{MutBor}
use Rattle.session.specs.declared.Session.{Session}
use Rattle.session.specs.contracts.Session as S
use Rattle.session.proofs.Session.TheLaws as S'
use Rattle.borrows.proofs.Calls.{sets}
use Rattle.borrows.proofs.Mutable as mutable

abbrev pub sval : Session → Val
sval = mutable.val S.the_type S'.the_laws

abbrev pub IsSession : Session → Type 0
IsSession s = mutable.IsAt S.the_type S'.the_laws s (sval s)

-- the machine value has the session's type
pub typed : {M : Type 1} {𝓤 : Ura M} (𝓛 : Logic 𝓤) (s : Session) → IsSession s → T (has_ty S'.mir (sval s)) × WT (sval s)
typed 𝓛 s is = mutable.typed S.the_type S'.the_laws 𝓛 s (sval s) is

module _ {M : Type 1} {𝓤 : Ura M} {𝓛 : Logic 𝓤} {K : Type 0} {Γ : List (Item 𝓤)} {G : Goal 𝓤 𝓛.H} where
  pub apart : K → {P Q : Fml} {i j : Item 𝓤} → Step K 𝓛 (‵ P ∷ i ∷ ‵ Q ∷ j ∷ Γ) G ((i ⊛ j) ∷ ‵ (fsep P Q) ∷ Γ) G
  apart t = step (λ s. split t $ move t (2 ∷ []) $ fsplit t $ move t (0 ∷ 2 ∷ []) $ s)

module _ (κ : Lft) (q : Share) (r : MutBor Session) where
  abbrev pub Borrow : Session → Fml
  Borrow s = mutable.Lent S.the_type S'.the_laws r.ref_ptr.0 r.ref_ptr.1 (named 0) κ r.ghost_name s

  abbrev pub Cell : Session → Fml
  Cell s = mutable.Cell S.the_type S'.the_laws r.ref_ptr.0 r.ref_ptr.1 (sval s)

  abbrev pub Open : Fml
  Open = mutable.Open S.the_type S'.the_laws r.ref_ptr.0 r.ref_ptr.1 κ q r.ghost_name r.now

  module _ {M : Type 1} {𝓤 : Ura M} {𝓛 : Logic 𝓤} {K : Type 0} {Γ : List (Item 𝓤)} {C : Calls 𝓤 𝓛.H} {Λ : Loops 𝓤 𝓛.H} {E : Env 𝓤 𝓛.H} {rest : Body} {post : Post 𝓤 𝓛.H} where
    -- the local i, at entry p, is room for a session
    open 𝓛 use {H}

    pub taken : K → {i : ℕ} (n p : ℕ) → nth 𝓛 n Γ ≡ ‵ (fat full_share (spot_of 𝓤 H E 1).0 (spot_of 𝓤 H E 1).1 zero (vptr r.ref_ptr.0 r.ref_ptr.1))
        → nth 𝓛 p Γ ≡ ‵ (froom (spot_of 𝓤 H E i).0 (spot_of 𝓤 H E i).1 zero) → (spot_of 𝓤 H E i).0 ≡ S'.mir
        → (IsSession r.now → Seq K 𝓛 (‵ ((S.the_row).own_val r.now (sval r.now ∷ [])) ∷ ‵ (Cell r.now) ∷ ‵ Open ∷ put 𝓛 p (‵ (fat full_share (spot_of 𝓤 H E i).0 (spot_of 𝓤 H E i).1 zero (sval r.now))) Γ) (runs C Λ E rest post))
        → Seq K 𝓛 (‵ (Borrow r.now) ∷ ‵ (flft κ q) ∷ Γ) (runs C Λ E (seq (assign (place i []) (rv_opd (copy (place 1 (deref S'.mir ∷ []))))) rest) post)
    taken t n p ref room e k = mutable.opened S.the_type S'.the_laws t tt (named 0) κ q r.ref_ptr.0 r.ref_ptr.1 r.ghost_name r.now (λ is.
        sets t (of_opd t (load t (from t (hop t (look t (suc (suc (suc n))) ref) (stop t))) (look_raw t 1 refl))) (suc (suc (suc p))) room
        (subst (λ (τ : Ty). T (has_ty τ (sval r.now)) × WT (sval r.now)) (sym e) (typed 𝓛 r.now is)) $ k is)

    pub put_back : K → {x : Operand} (n : ℕ) (s : Session) → IsSession s → nth 𝓛 n Γ ≡ ‵ (fat full_share (spot_of 𝓤 H E 1).0 (spot_of 𝓤 H E 1).1 zero (vptr r.ref_ptr.0 r.ref_ptr.1))
        → Opd K 𝓛 (‵ (Cell r.now) ∷ ‵ Open ∷ Γ) E x (sval s)
        → Step K 𝓛 (‵ (Borrow s) ∷ ‵ (flft κ q) ∷ Γ) (runs C Λ E rest post) (‵ (Cell r.now) ∷ ‵ Open ∷ Γ) (runs C Λ E (seq (assign (place 1 (deref S'.mir ∷ [])) (rv_opd x)) rest) post)
    put_back t n s is ref x = step (λ k.
        assigns t (of_opd t x) (from t (hop t (look t (suc (suc n)) ref) (stop t))) (store_raw t 0 refl (typed 𝓛 s is)) $
        mutable.closed S.the_type S'.the_laws t tt S'.the_plain (named 0) κ q r.ref_ptr.0 r.ref_ptr.1 r.ghost_name r.now s (sval s) is $ k)
