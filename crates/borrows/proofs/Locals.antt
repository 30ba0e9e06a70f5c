-- A function's locals, all at once.
--     allocated     at entry: a block for each local, and room in it. In the context the last local stands first
--     released      at the return: all are given back, whatever they hold. They are what stands behind the first n entries of the context, the last local first
--     released_but  the same, where those of the numbers rs hold nothing yet
-- Assumes `Logic`.
use mathlib.Core.Path.{◌≡◌, subst}
use Prim.Native.Nat.{ℕ, zero, suc}
use mathlib.Core.Bool.{Bool, true, false, ◌||◌}
use mathlib.Core.List.{List, [], ◌∷◌}
use lib.Dec.{eqb}
use seplogic.Ra.Ura.{Ura}
use base.Fraction.{full_share}
use mir.Syntax.{Ty, Local, local}
use mir.Val.{Val}
use base.Logic.{SProp, ent, sep, emp, id⊢, via, comm∗, assoc∗, assoc', mono_l, mono_r, fst∗, emp∗}
use base.Fml.{Fml, fat, froom, fdies}
use prog.Wp.{Heap, Env, release}
use types.Logic.{Logic, sem}
use types.Kit.{Goal, Item, allocs, frees, Seq, Step, step, ‵, raw, mean, ⋆, push, pop, ◌$◌, ◌∵◌, !, qed, move, use1, join, frame, done}
use types.Run.{alloc1, alloc0}

-- ---- at entry
abbrev pub Blocks : List Local → Type 0
Blocks [] = Unit {0}
Blocks (l ∷ ls) = ℕ × Blocks ls

module _ {M : Type 1} (𝓤 : Ura M) (H : Heap 𝓤) where
  abbrev pub env : (ls : List Local) → Blocks ls → Env 𝓤 H
  env [] bs = []
  env (local τ h ∷ ls) bs = (τ, bs.0) ∷ env ls bs.1

module _ {M : Type 1} (𝓤 : Ura M) where
  abbrev pub rooms : (ls : List Local) → Blocks ls → List (Item 𝓤) → List (Item 𝓤)
  rooms [] bs Γ = Γ
  rooms (local τ h ∷ ls) bs Γ = rooms ls bs.1 (‵ (froom τ bs.0 zero) ∷ ‵ (fdies τ bs.0) ∷ Γ)

module _ {M : Type 1} {𝓤 : Ura M} {𝓛 : Logic 𝓤} {K : Type 0} where
  open 𝓛 use {H}

  pub allocated : K → {Γ : List (Item 𝓤)} {G : Env 𝓤 H → Goal 𝓤 H} (ls : List Local) → ((bs : Blocks ls) → Seq K 𝓛 (rooms 𝓤 ls bs Γ) (G (env 𝓤 H ls bs))) → Seq K 𝓛 Γ (allocs ls G)
  allocated t [] k = alloc0 t $ k tt
  allocated t {Γ = Γ} (local τ h ∷ ls) k = alloc1 t (λ b. allocated t {Γ = ‵ (froom τ b zero) ∷ ‵ (fdies τ b) ∷ Γ} ls (λ bs. k (b, bs)))

-- ---- at the return
abbrev among : List ℕ → ℕ → Bool
among [] i = false
among (r ∷ rs) i = eqb r i || among rs i

abbrev Value : Bool → Type 0
Value true = Unit {0}
Value false = Val

-- a local, of which there is room alone, or which holds a value
abbrev cell : (b : Bool) → Ty × ℕ → Value b → Fml
cell true e v = froom e.0 e.1 zero
cell false e v = fat full_share e.0 e.1 zero v

module _ {M : Type 1} (𝓤 : Ura M) (H : Heap 𝓤) where
  -- what each local holds, but for those of the numbers rs, of which there is room alone. The first local is number i
  abbrev pub HeldBut : List ℕ → ℕ → Env 𝓤 H → Type 0
  HeldBut rs i [] = Unit {0}
  HeldBut rs i (e ∷ E) = Value (among rs i) × HeldBut rs (suc i) E

  abbrev pub cells_but : (rs : List ℕ) (i : ℕ) (E : Env 𝓤 H) → HeldBut rs i E → List (Item 𝓤) → List (Item 𝓤)
  cells_but rs i [] vs Γ = Γ
  cells_but rs i (e ∷ E) vs Γ = cells_but rs (suc i) E vs.1 (‵ (cell (among rs i) e vs.0) ∷ ‵ (fdies e.0 e.1) ∷ Γ)

  -- what each local holds
  abbrev pub Held : Env 𝓤 H → Type 0
  Held E = HeldBut [] zero E

  abbrev pub cells : (E : Env 𝓤 H) → Held E → List (Item 𝓤) → List (Item 𝓤)
  cells E = cells_but [] zero E

-- the first n entries, and what stands behind them
module _ {M : Type 1} (𝓤 : Ura M) where
  abbrev pub front : ℕ → List (Item 𝓤) → List (Item 𝓤)
  front zero Γ = []
  front (suc n) [] = []
  front (suc n) (i ∷ Γ) = i ∷ front n Γ

  abbrev pub behind : ℕ → List (Item 𝓤) → List (Item 𝓤)
  behind zero Γ = Γ
  behind (suc n) [] = []
  behind (suc n) (i ∷ Γ) = behind n Γ

module _ {M : Type 1} {𝓤 : Ura M} (𝓛 : Logic 𝓤) where
  open 𝓛 use {H}

  halves : (n : ℕ) (Γ : List (Item 𝓤)) → ent 𝓤 (⋆ 𝓛 Γ) (sep 𝓤 (⋆ 𝓛 (front 𝓤 n Γ)) (⋆ 𝓛 (behind 𝓤 n Γ)))
  halves zero Γ = emp∗ 𝓤 (⋆ 𝓛 Γ)
  halves (suc n) [] = emp∗ 𝓤 (⋆ 𝓛 [])
  halves (suc n) (i ∷ Γ) =
      let F : SProp 𝓤 = ⋆ 𝓛 (front 𝓤 n Γ) in
      let B : SProp 𝓤 = ⋆ 𝓛 (behind 𝓤 n Γ) in
      via 𝓤 (sep 𝓤 (mean 𝓛 i) (⋆ 𝓛 Γ)) (pop 𝓛 i Γ)
      (via 𝓤 (sep 𝓤 (mean 𝓛 i) (sep 𝓤 F B)) (mono_r 𝓤 (mean 𝓛 i) (halves n Γ))
      (via 𝓤 (sep 𝓤 (sep 𝓤 (mean 𝓛 i) F) B) (assoc' 𝓤 (mean 𝓛 i) F B) (mono_l 𝓤 B (push 𝓛 i (front 𝓤 n Γ)))))

  -- what is given back for one local
  abbrev GivenBack : Ty × ℕ → SProp 𝓤
  GivenBack e = sep 𝓤 (H.room e.0 e.1 zero) (H.dies e.0 e.1)

  mono : (E : Env 𝓤 H) {P Q : SProp 𝓤} → ent 𝓤 P Q → ent 𝓤 (release 𝓤 H E P) (release 𝓤 H E Q)
  mono [] h = h
  mono (e ∷ E) h = mono_r 𝓤 (GivenBack e) (mono E h)

  out : (E : Env 𝓤 H) (P Q : SProp 𝓤) → ent 𝓤 (release 𝓤 H E (sep 𝓤 P Q)) (sep 𝓤 P (release 𝓤 H E Q))
  out [] P Q = id⊢ 𝓤 (sep 𝓤 P Q)
  out (e ∷ E) P Q =
      let B : SProp 𝓤 = GivenBack e in
      let R : SProp 𝓤 = release 𝓤 H E Q in
      via 𝓤 (sep 𝓤 B (sep 𝓤 P R)) (mono_r 𝓤 B (out E P Q))
      (via 𝓤 (sep 𝓤 (sep 𝓤 B P) R) (assoc' 𝓤 B P R) (via 𝓤 (sep 𝓤 (sep 𝓤 P B) R) (mono_l 𝓤 R (comm∗ 𝓤 B P)) (assoc∗ 𝓤 P B R)))

  room_of : (b : Bool) (e : Ty × ℕ) (v : Value b) → ent 𝓤 (sem 𝓛 (cell b e v)) (H.room e.0 e.1 zero)
  room_of true e v = id⊢ 𝓤 (H.room e.0 e.1 zero)
  room_of false e v = 𝓛.laws.at_room e.0 e.1 zero v

  one : (b : Bool) (e : Ty × ℕ) (v : Value b) (P : SProp 𝓤) (Γ : List (Item 𝓤))
      → ent 𝓤 (sep 𝓤 P (⋆ 𝓛 (‵ (cell b e v) ∷ ‵ (fdies e.0 e.1) ∷ Γ))) (sep 𝓤 (GivenBack e) (sep 𝓤 P (⋆ 𝓛 Γ)))
  one b e v P Γ =
      qed 𝓛 (raw P ∷ ‵ (cell b e v) ∷ ‵ (fdies e.0 e.1) ∷ Γ) ∵ move ! (1 ∷ 2 ∷ []) $
      use1 𝓛 (‵ (froom e.0 e.1 zero)) (room_of b e v) $ join ! $ frame ! $ frame ! $ done !

  all : (rs : List ℕ) (i : ℕ) (E : Env 𝓤 H) (vs : HeldBut 𝓤 H rs i E) (P : SProp 𝓤) (Γ : List (Item 𝓤))
      → ent 𝓤 (sep 𝓤 P (⋆ 𝓛 (cells_but 𝓤 H rs i E vs Γ))) (release 𝓤 H E (sep 𝓤 P (⋆ 𝓛 Γ)))
  all rs i [] vs P Γ = id⊢ 𝓤 (sep 𝓤 P (⋆ 𝓛 Γ))
  all rs i (e ∷ E) vs P Γ =
      via 𝓤 (release 𝓤 H E (sep 𝓤 P (⋆ 𝓛 (‵ (cell (among rs i) e vs.0) ∷ ‵ (fdies e.0 e.1) ∷ Γ)))) (all rs (suc i) E vs.1 P _)
      (via 𝓤 (release 𝓤 H E (sep 𝓤 (GivenBack e) (sep 𝓤 P (⋆ 𝓛 Γ)))) (mono E (one (among rs i) e vs.0 P Γ)) (out E (GivenBack e) (sep 𝓤 P (⋆ 𝓛 Γ))))

module _ {M : Type 1} {𝓤 : Ura M} {𝓛 : Logic 𝓤} {K : Type 0} {Γ : List (Item 𝓤)} {E : Env 𝓤 𝓛.H} {G : Goal 𝓤 𝓛.H} where
  open 𝓛 use {H}

  pub released_but : K → (n : ℕ) (rs : List ℕ) (vs : HeldBut 𝓤 H rs zero E) → behind 𝓤 n Γ ≡ cells_but 𝓤 H rs zero E vs [] → Step K 𝓛 (front 𝓤 n Γ) G Γ (frees E G)
  released_but t n rs vs e = step (λ s.
      let F : SProp 𝓤 = ⋆ 𝓛 (front 𝓤 n Γ) in record {
        prf = via 𝓤 (sep 𝓤 F (⋆ 𝓛 (cells_but 𝓤 H rs zero E vs []))) (subst (λ (Δ : List (Item 𝓤)). ent 𝓤 (⋆ 𝓛 Γ) (sep 𝓤 F (⋆ 𝓛 Δ))) e (halves 𝓛 n Γ))
            (via 𝓤 (release 𝓤 H E (sep 𝓤 F (emp 𝓤))) (all 𝓛 rs zero E vs F []) (mono 𝓛 E (via 𝓤 F (fst∗ 𝓤 F (emp 𝓤)) s.prf)));
      })

  pub released : K → (n : ℕ) (vs : Held 𝓤 H E) → behind 𝓤 n Γ ≡ cells 𝓤 H E vs [] → Step K 𝓛 (front 𝓤 n Γ) G Γ (frees E G)
  released t n vs e = released_but t n [] vs e
