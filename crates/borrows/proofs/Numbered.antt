-- Steps of a walk by the number that the MIR gives a local. The context is n entries, and then the function's locals, the last one first, as `Locals.antt`'s `allocated` puts them. So local i lies at `lies E n i`, and a step is told n alone.
--     param                      at entry, where n is 0: an argument is stored in its local
--     local, part, points        an operand that is a local, or field k of one; what field 0 of one points to, as the bytes of a slice
--     behind, behind_is          an operand that is field k of the struct that a local points to, whose cell is entry p; and the place of that field
--     sets_behind                that field is given a value
--     gets, gets_anew, takes     a local that was room is given a value; one that held something is; a call's result lands in one that was room
--     fetch                      of what stands behind the locals k entries, from entry j on, are brought to the head
--     leaves, leaves_within      the function returns: its result is read, and its locals are given back. Within a branch, where those of the numbers rs hold nothing yet
-- Assumes `Logic`.
use mathlib.Core.Path.{◌≡◌, refl, sym, subst}
use Prim.Native.Nat.{ℕ, zero, suc, ◌+◌, ◌-◌, ◌*◌}
use mathlib.Core.List.{List, [], ◌∷◌}
use mathlib.Core.Option.{some as found}
use lib.ListN.{length, replicate}
use lib.Dec.{T}
use seplogic.Ra.Ura.{Ura}
use base.Fraction.{full_share}
use mir.Syntax.{Sym, Ty, Tys, Body, Rv as RValue, place, field, deref, copy, assign, seq, return, ty_struct}
use mir.Val.{Val, Vals, WT, has_ty, vptr, vstruct, vcons}
use mir.Fields.{get_v, set_v}
use base.Logic.{SProp, via}
use base.Fml.{Share, fat, froom}
use prog.Memory.{field_at}
use prog.Wp.{Env, Calls, Loops, spot_of, at_return, returns as returnsᴼ}
use types.Logic.{Logic}
use types.Kit.{Item, Post, Goal, prop, runs, lands, passes, at_ret, post, Step, step, ‵, ⋆, nth, put, sel, sel⊢, ◌$◌, by}
use types.Run.{Finds, Opd, Rv, look, init, store, stop, hop, fld, from, load, land, assigns, pass1, returns_within}
use types.Part.{Part, whole, sub, look_in, store_in}
use Rattle.borrows.proofs.Calls.{copied, field_of, pointed, sets}
use Rattle.borrows.proofs.Locals.{HeldBut, cells_but, Held, cells, front, behind as rest_of, released_but}

abbrev pub lies : List (Ty × ℕ) → ℕ → ℕ → ℕ
lies E n i = n + 2 * (length E - suc i)

-- an entry j is a struct's cell: its field k
within : {M : Type 1} {𝓤 : Ura M} {𝓛 : Logic 𝓤} {K : Type 0} {j : Item 𝓤} → K → (k : ℕ) {s : Share} {ν : Sym} {τs : Tys} {b o d : ℕ} {τ : Ty} {vs : Vals} → j ≡ ‵ (fat s (ty_struct ν τs) b o (vstruct vs))
    → field_at zero τs k ≡ found (τ, d) → Part K 𝓛 j s τ b (o + d) (get_v vs k) (λ u. ‵ (fat s (ty_struct ν τs) b o (vstruct (set_v vs k u))))
within {𝓛 = 𝓛} {K = K} t k {s} {ν} {τs} {b} {o} {vs = vs} cell e = sub t k e (subst (λ (i : Item _). Part K 𝓛 i s (ty_struct ν τs) b o (vstruct vs) (λ u. ‵ (fat s (ty_struct ν τs) b o u))) (sym cell) (whole t))

module _ {M : Type 1} {𝓤 : Ura M} {𝓛 : Logic 𝓤} {K : Type 0} {Γ : List (Item 𝓤)} where
  open 𝓛 use {H}

  pub param : K → {τ : Ty} {b : ℕ} {E : Env 𝓤 H} {v : Val} {vs : List Val} {G : Goal 𝓤 H} → nth 𝓛 (2 * length E) Γ ≡ ‵ (froom τ b zero) → T (has_ty τ v) × WT v
      → Step K 𝓛 (put 𝓛 (2 * length E) (‵ (fat full_share τ b zero v)) Γ) (passes E vs G) Γ (passes ((τ, b) ∷ E) (v ∷ vs) G)
  param t {E = E} at wt = pass1 t (init t (2 * length E) at wt)

  module _ {E : Env 𝓤 H} {i : ℕ} where
    pub local : K → (n : ℕ) {q : Share} {v : Val} → nth 𝓛 (lies E n i) Γ ≡ ‵ (fat q (spot_of 𝓤 H E i).0 (spot_of 𝓤 H E i).1 zero v) → Opd K 𝓛 Γ E (copy (place i [])) v
    local t n at = copied t (lies E n i) at

    pub part : K → (n k : ℕ) {q : Share} {ν : Sym} {τs : Tys} {l d : ℕ} {τ : Ty} {vs : Vals} → nth 𝓛 (lies E n i) Γ ≡ ‵ (fat q (ty_struct ν τs) l zero (vstruct vs)) → spot_of 𝓤 H E i ≡ (ty_struct ν τs, l, zero)
        → field_at zero τs k ≡ found (τ, d) → Opd K 𝓛 Γ E (copy (place i (field k ∷ []))) (get_v vs k)
    part t n k at is e = field_of t (lies E n i) k at is e

    pub points : K → (n : ℕ) {q : Share} {ν : Sym} {τs : Tys} {l d b o : ℕ} {τ σ : Ty} {vs : Vals} → nth 𝓛 (lies E n i) Γ ≡ ‵ (fat q (ty_struct ν τs) l zero (vstruct (vcons (vptr b o) vs)))
        → spot_of 𝓤 H E i ≡ (ty_struct ν τs, l, zero) → field_at zero τs 0 ≡ found (τ, d) → Finds K 𝓛 Γ E (place i (field 0 ∷ deref σ ∷ [])) (σ, b, o)
    points t n at is e = pointed t (lies E n i) at is e

    pub behind_is : K → (n k : ℕ) {q : Share} {ν : Sym} {τs : Tys} {b o d : ℕ} {τ : Ty} → nth 𝓛 (lies E n i) Γ ≡ ‵ (fat q (spot_of 𝓤 H E i).0 (spot_of 𝓤 H E i).1 zero (vptr b o))
        → field_at zero τs k ≡ found (τ, d) → Finds K 𝓛 Γ E (place i (deref (ty_struct ν τs) ∷ field k ∷ [])) (τ, b, o + d)
    behind_is t n k at e = from t (hop t (look t (lies E n i) at) (fld t e (stop t)))

    pub behind : K → (n p k : ℕ) {q s : Share} {ν : Sym} {τs : Tys} {b o d : ℕ} {τ : Ty} {vs : Vals} → nth 𝓛 (lies E n i) Γ ≡ ‵ (fat q (spot_of 𝓤 H E i).0 (spot_of 𝓤 H E i).1 zero (vptr b o))
        → nth 𝓛 p Γ ≡ ‵ (fat s (ty_struct ν τs) b o (vstruct vs)) → field_at zero τs k ≡ found (τ, d) → Opd K 𝓛 Γ E (copy (place i (deref (ty_struct ν τs) ∷ field k ∷ []))) (get_v vs k)
    behind t n p k at cell e = load t (behind_is t n k at e) (look_in t p (within t k cell e))

    module _ {C : Calls 𝓤 H} {Λ : Loops 𝓤 H} {q : Post 𝓤 H} {rest : Body} {v : Val} where
      pub gets : K → {rv : RValue} → Rv K 𝓛 Γ E rv v → (n : ℕ) → nth 𝓛 (lies E n i) Γ ≡ ‵ (froom (spot_of 𝓤 H E i).0 (spot_of 𝓤 H E i).1 zero) → T (has_ty (spot_of 𝓤 H E i).0 v) × WT v
          → Step K 𝓛 (put 𝓛 (lies E n i) (‵ (fat full_share (spot_of 𝓤 H E i).0 (spot_of 𝓤 H E i).1 zero v)) Γ) (runs C Λ E rest q) Γ (runs C Λ E (seq (assign (place i []) rv) rest) q)
      gets t r n at wt = sets t r (lies E n i) at wt

      pub gets_anew : K → {rv : RValue} → Rv K 𝓛 Γ E rv v → (n : ℕ) {u : Val} → nth 𝓛 (lies E n i) Γ ≡ ‵ (fat full_share (spot_of 𝓤 H E i).0 (spot_of 𝓤 H E i).1 zero u) → T (has_ty (spot_of 𝓤 H E i).0 v) × WT v
          → Step K 𝓛 (put 𝓛 (lies E n i) (‵ (fat full_share (spot_of 𝓤 H E i).0 (spot_of 𝓤 H E i).1 zero v)) Γ) (runs C Λ E rest q) Γ (runs C Λ E (seq (assign (place i []) rv) rest) q)
      gets_anew t r n at wt = assigns t r (from t (stop t)) (store t (lies E n i) at wt)

      pub sets_behind : K → {rv : RValue} → Rv K 𝓛 Γ E rv v → (n p k : ℕ) {s : Share} {ν : Sym} {τs : Tys} {b o d : ℕ} {τ : Ty} {vs : Vals} → nth 𝓛 (lies E n i) Γ ≡ ‵ (fat s (spot_of 𝓤 H E i).0 (spot_of 𝓤 H E i).1 zero (vptr b o))
          → nth 𝓛 p Γ ≡ ‵ (fat full_share (ty_struct ν τs) b o (vstruct vs)) → field_at zero τs k ≡ found (τ, d) → T (has_ty τ v) × WT v
          → Step K 𝓛 (put 𝓛 p (‵ (fat full_share (ty_struct ν τs) b o (vstruct (set_v vs k v)))) Γ) (runs C Λ E rest q) Γ (runs C Λ E (seq (assign (place i (deref (ty_struct ν τs) ∷ field k ∷ [])) rv) rest) q)
      sets_behind t r n p k at cell e wt = assigns t r (behind_is t n k at e) (store_in t p (within t k cell e) wt)

      pub takes : K → (n : ℕ) → nth 𝓛 (lies E n i) Γ ≡ ‵ (froom (spot_of 𝓤 H E i).0 (spot_of 𝓤 H E i).1 zero) → T (has_ty (spot_of 𝓤 H E i).0 v) × WT v
          → Step K 𝓛 (put 𝓛 (lies E n i) (‵ (fat full_share (spot_of 𝓤 H E i).0 (spot_of 𝓤 H E i).1 zero v)) Γ) (runs C Λ E rest q) Γ (lands C Λ E (place i []) v rest q)
      takes t n at wt = land t (from t (stop t)) (init t (lies E n i) at wt)

  module _ {C : Calls 𝓤 H} {Λ : Loops 𝓤 H} {E : Env 𝓤 H} where
    pub fetch : K → {q : Post 𝓤 H} {b : Body} (n j k : ℕ) → Step K 𝓛 (sel 𝓛 (replicate k (n + 2 * length E + j)) Γ) (runs C Λ E b q) Γ (runs C Λ E b q)
    fetch t n j k = step (λ s. by t (via 𝓤 (⋆ 𝓛 (sel 𝓛 (replicate k (n + 2 * length E + j)) Γ)) (sel⊢ 𝓛 (replicate k (n + 2 * length E + j)) Γ) s.prf))

    pub leaves_within : K → (Kf : Val → SProp 𝓤) {q : Post 𝓤 H} {s : Share} {r : Val} (n : ℕ) (rs : List ℕ) (vs : HeldBut 𝓤 H rs zero E) → post 𝓤 H q returnsᴼ ≡ at_return 𝓤 H E Kf returnsᴼ
        → nth 𝓛 (lies E n zero) Γ ≡ ‵ (fat s (spot_of 𝓤 H E zero).0 (spot_of 𝓤 H E zero).1 zero r) → rest_of 𝓤 n Γ ≡ cells_but 𝓤 H rs zero E vs [] → Step K 𝓛 (front 𝓤 n Γ) (prop (Kf r)) Γ (runs C Λ E return q)
    leaves_within t Kf n rs vs e at all = step (λ s. returns_within t Kf e (look t (lies E n zero) at) $ released_but t n rs vs all $ s)

    pub leaves : K → {Kf : Val → SProp 𝓤} {s : Share} {r : Val} (n : ℕ) (vs : Held 𝓤 H E)
        → nth 𝓛 (lies E n zero) Γ ≡ ‵ (fat s (spot_of 𝓤 H E zero).0 (spot_of 𝓤 H E zero).1 zero r) → rest_of 𝓤 n Γ ≡ cells 𝓤 H E vs [] → Step K 𝓛 (front 𝓤 n Γ) (prop (Kf r)) Γ (runs C Λ E return (at_ret E Kf))
    leaves t {Kf = Kf} n vs at all = leaves_within t Kf n [] vs refl at all
