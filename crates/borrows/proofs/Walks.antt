-- What the walks by hand of functions over references share.
--     apart1 .. apart4          at entry, the tokens and what the references own, one beside the other; of the parameters behind them nothing is kept
--     apart2_1                  the same of three references, where two parameters of which nothing is kept stand before the third
--     together1 .. together4    at exit, the tokens as one
--     hands                     what a callee asks: what its first parameter owns, what the others own, and their tokens
--     forks                     a branch that may return, and what comes after it
--     meets                     from a walk of a function to its theorem; `proved` where it calls one other
--     given_up                  a memory that is given back as it is: what says its last bytes
-- Assumes `Logic`.
use mathlib.Core.Path.{◌≡◌}
use Prim.Native.Nat.{ℕ}
use mathlib.Core.Bool.{Bool, not}
use mathlib.Core.List.{List, [], ◌∷◌}
use lib.ListN.{length}
use lib.Dec.{T}
use seplogic.Ra.Ura.{Ura}
use mir.Syntax.{Fn, Opd as Operand, Body as Code, Lifetime, seq, cond, skip}
use mir.Val.{vbool}
use base.Logic.{ent, sep, emp}
use base.Fml.{GName, Lft, Fml, ftrue, fsep, fres}
use prog.Routine.{Callee, Routine, Env as Calling}
use prog.Model.{Model}
use prog.Wp.{Env, Calls, Loops, Wp, WpFn, Closed, after_seq}
use types.Logic.{Logic, sem}
use contract.Running.{Running, tables, tables_of}
use types.Kit.{Goal, Item, Post, post, any_q, runs, Seq, Step, step, ‵, raw, ◌⊛◌, mean, ◌$◌, ◌∵◌, !, qed, move, keep, drop, use1, use3, split, join, frame, fsplit, fjoin, done}
use types.Run.{Opd, first, branches, skips}
use sound.WpLaws.{FmC, fm_of, WpFn-mono}
use denote.Builtin.{u8}
use denote.Slice.{slice_val, MutSlice, finally, res-finally, coded_holeys, heres}
use denote.Steps.{nothing}
use denote.Triple.Statement.{Contract, Triple}
use denote.Triple.Clauses.{Ended, Clauses, closing}
use denote.Triple.Spec.{Meets, triple_of}
use denote.Triple.Table.{entered, cited}
use denote.Triple.Walked.{Stays, AllGo, Walks, walk_Meets}

module _ {M : Type 1} {𝓤 : Ura M} {𝓛 : Logic 𝓤} {K : Type 0} {Γ : List (Item 𝓤)} {G : Goal 𝓤 𝓛.H} where
  -- the first token, and what the first reference owns, out of all
  next : K → {P Q : Fml} {i j : Item 𝓤} → Step K 𝓛 (j ∷ ‵ Q ∷ ‵ P ∷ i ∷ Γ) G ((i ⊛ j) ∷ ‵ (fsep P Q) ∷ Γ) G
  next t = step (λ s. split t $ move t (2 ∷ []) $ fsplit t $ move t (3 ∷ 1 ∷ 0 ∷ 2 ∷ []) $ s)

module _ {M : Type 1} {𝓤 : Ura M} {𝓛 : Logic 𝓤} {K : Type 0} {Γ : List (Item 𝓤)} {G : Goal 𝓤 𝓛.H} where
  pub apart1 : K → {P Z : Fml} {i : Item 𝓤} → Step K 𝓛 (‵ P ∷ i ∷ Γ) G ((i ⊛ ‵ ftrue) ∷ ‵ (fsep P Z) ∷ Γ) G
  apart1 t = step (λ s. next t $ drop t $ drop t $ s)

  pub together1 : K → {i : Item 𝓤} → Step K 𝓛 ((i ⊛ ‵ ftrue) ∷ Γ) G (i ∷ Γ) G
  together1 t = step (λ s. nothing t $ move t (1 ∷ 0 ∷ []) $ join t $ s)

  pub hands : K → {P Q : Fml} {i : Item 𝓤} → Step K 𝓛 (raw (sep 𝓤 (sep 𝓤 (mean 𝓛 i) (sem 𝓛 (fsep P Q))) (emp 𝓤)) ∷ Γ) G (‵ P ∷ ‵ Q ∷ i ∷ Γ) G
  hands t {P} {Q} {i} = use3 𝓛 (raw (sep 𝓤 (sep 𝓤 (mean 𝓛 i) (sem 𝓛 (fsep P Q))) (emp 𝓤))) (qed 𝓛 (‵ P ∷ ‵ Q ∷ i ∷ []) ∵ fjoin ! $ move ! (1 ∷ 0 ∷ []) $ join ! $ frame ! $ done !)

module _ {M : Type 1} {𝓤 : Ura M} {𝓛 : Logic 𝓤} {K : Type 0} {Γ : List (Item 𝓤)} {G : Goal 𝓤 𝓛.H} where
  pub apart2 : K → {P Q Z : Fml} {i j : Item 𝓤} → Step K 𝓛 (‵ P ∷ i ∷ ‵ Q ∷ j ∷ Γ) G ((i ⊛ (j ⊛ ‵ ftrue)) ∷ ‵ (fsep P (fsep Q Z)) ∷ Γ) G
  apart2 t = step (λ s. next t $ apart1 t $ move t (2 ∷ 3 ∷ []) $ s)

  pub together2 : K → {i j : Item 𝓤} → Step K 𝓛 ((i ⊛ (j ⊛ ‵ ftrue)) ∷ Γ) G (i ∷ j ∷ Γ) G
  together2 t = step (λ s. move t (1 ∷ []) $ together1 t $ move t (1 ∷ 0 ∷ []) $ join t $ s)

module _ {M : Type 1} {𝓤 : Ura M} {𝓛 : Logic 𝓤} {K : Type 0} {Γ : List (Item 𝓤)} {G : Goal 𝓤 𝓛.H} where
  pub apart3 : K → {P Q R Z : Fml} {i j k : Item 𝓤} → Step K 𝓛 (‵ P ∷ i ∷ ‵ Q ∷ j ∷ ‵ R ∷ k ∷ Γ) G ((i ⊛ (j ⊛ (k ⊛ ‵ ftrue))) ∷ ‵ (fsep P (fsep Q (fsep R Z))) ∷ Γ) G
  apart3 t = step (λ s. next t $ apart2 t $ move t (4 ∷ 5 ∷ []) $ s)

  pub apart2_1 : K → {P Q X Y R Z : Fml} {i j k : Item 𝓤}
      → Step K 𝓛 (‵ P ∷ i ∷ ‵ Q ∷ j ∷ ‵ R ∷ k ∷ Γ) G ((i ⊛ (j ⊛ (k ⊛ ‵ ftrue))) ∷ ‵ (fsep P (fsep Q (fsep X (fsep Y (fsep R Z))))) ∷ Γ) G
  apart2_1 t = step (λ s. next t $ next t $ move t (1 ∷ []) $ fsplit t $ drop t $ fsplit t $ drop t $ move t (1 ∷ []) $ apart1 t $ move t (4 ∷ 5 ∷ 2 ∷ 3 ∷ []) $ s)

  pub together3 : K → {i j k : Item 𝓤} → Step K 𝓛 ((i ⊛ (j ⊛ (k ⊛ ‵ ftrue))) ∷ Γ) G (i ∷ j ∷ k ∷ Γ) G
  together3 t = step (λ s. move t (1 ∷ 2 ∷ []) $ together2 t $ move t (1 ∷ 0 ∷ []) $ join t $ s)

module _ {M : Type 1} {𝓤 : Ura M} {𝓛 : Logic 𝓤} {K : Type 0} {Γ : List (Item 𝓤)} {G : Goal 𝓤 𝓛.H} where
  pub apart4 : K → {P Q R S Z : Fml} {i j k l : Item 𝓤}
      → Step K 𝓛 (‵ P ∷ i ∷ ‵ Q ∷ j ∷ ‵ R ∷ k ∷ ‵ S ∷ l ∷ Γ) G ((i ⊛ (j ⊛ (k ⊛ (l ⊛ ‵ ftrue)))) ∷ ‵ (fsep P (fsep Q (fsep R (fsep S Z)))) ∷ Γ) G
  apart4 t = step (λ s. next t $ apart3 t $ move t (6 ∷ 7 ∷ []) $ s)

  pub together4 : K → {i j k l : Item 𝓤} → Step K 𝓛 ((i ⊛ (j ⊛ (k ⊛ (l ⊛ ‵ ftrue)))) ∷ Γ) G (i ∷ j ∷ k ∷ l ∷ Γ) G
  together4 t = step (λ s. move t (1 ∷ 2 ∷ 3 ∷ []) $ together3 t $ move t (1 ∷ 0 ∷ []) $ join t $ s)

module _ {M : Type 1} {𝓤 : Ura M} (𝓛 : Logic 𝓤) (𝓜 : Model 𝓤 𝓛.H) (𝓡 : Running 𝓤 𝓛.H 𝓜) where
  open 𝓛 use {H}

  pub meets : (T : Ended) (hs : Stays T.signature.params T.kept) → AllGo 𝓛 T.signature.lifetimes T.signature.params T.kept hs
      → (c : Clauses 𝓤 T) (env : Calling) (k : Callee) (f : Fn) → Closed 𝓤 H (tables 𝓤 H 𝓜 𝓡 env).C (tables 𝓤 H 𝓜 𝓡 env).Λ k f
      → (FmC 𝓤 H 𝓛.laws (tables 𝓤 H 𝓜 𝓡 env).C → Walks 𝓛 T hs (WpFn 𝓤 H (tables 𝓤 H 𝓜 𝓡 env).C (tables 𝓤 H 𝓜 𝓡 env).Λ f) c)
      → Meets 𝓛 T.signature (𝓡.run (env k)) (closing 𝓛 T c)
  unfolding tables_of
  meets T hs gs c env k f unfolded walks =
      entered 𝓤 H (triple_of 𝓛 T.signature (closing 𝓛 T c)) (tables 𝓤 H 𝓜 𝓡 env).C (tables 𝓤 H 𝓜 𝓡 env).Λ k f unfolded
      (walk_Meets 𝓛 T hs gs c (WpFn 𝓤 H (tables 𝓤 H 𝓜 𝓡 env).C (tables 𝓤 H 𝓜 𝓡 env).Λ f) (WpFn-mono 𝓤 H 𝓛.laws (tables_of 𝓤 H 𝓜 (tables 𝓤 H 𝓜 𝓡 env)) f)
      (walks (fm_of 𝓤 H 𝓛.laws (tables_of 𝓤 H 𝓜 (tables 𝓤 H 𝓜 𝓡 env)))))

  -- one callee, of the key k', the routine r' and the contract c'
  pub proved : (T : Ended) (hs : Stays T.signature.params T.kept) → AllGo 𝓛 T.signature.lifetimes T.signature.params T.kept hs
      → (c : Clauses 𝓤 T) (env : Calling) (k : Callee) (f : Fn) → Closed 𝓤 H (tables 𝓤 H 𝓜 𝓡 env).C (tables 𝓤 H 𝓜 𝓡 env).Λ k f
      → (c' : Contract 𝓤) (k' : Callee) (r' : Routine) → env k' ≡ r' → Triple 𝓤 (𝓡.run r') c'
      → ((C : Calls 𝓤 H) (Λ : Loops 𝓤 H) → FmC 𝓤 H 𝓛.laws C → Triple 𝓤 (C k') c' → Walks 𝓛 T hs (WpFn 𝓤 H C Λ f) c)
      → Meets 𝓛 T.signature (𝓡.run (env k)) (closing 𝓛 T c)
  proved T hs gs c env k f unfolded c' k' r' calls met walks =
      meets T hs gs c env k f unfolded (λ fm. walks (tables 𝓤 H 𝓜 𝓡 env).C (tables 𝓤 H 𝓜 𝓡 env).Λ fm (cited 𝓤 H c' 𝓜 𝓡 env k' r' calls met))

-- a branch that may return, and what comes after it
module _ {M : Type 1} {𝓤 : Ura M} {𝓛 : Logic 𝓤} {K : Type 0} {Γ : List (Item 𝓤)} {E : Env 𝓤 𝓛.H} {C : Calls 𝓤 𝓛.H} {Λ : Loops 𝓤 𝓛.H} {q : Post 𝓤 𝓛.H} where
  open 𝓛 use {H}

  pub forks : K → {c : Operand} {x y : Code} {t : Bool} → Opd K 𝓛 Γ E c (vbool t) → (T t → Seq K 𝓛 Γ (runs C Λ E x (any_q (after_seq 𝓤 H (Wp 𝓤 H C Λ E y (post 𝓤 H q)) (post 𝓤 H q))))) → (T (not t) → Seq K 𝓛 Γ (runs C Λ E y q))
      → Seq K 𝓛 Γ (runs C Λ E (seq (cond c x skip) y) q)
  forks k o held failed = first k $ branches k o held (λ z. skips k $ record { prf = (failed z).prf })

module _ {M : Type 1} {𝓤 : Ura M} (𝓛 : Logic 𝓤) (ℓ : Lifetime) (κ : Lft) (γ : GName) (b o : ℕ) (m : List ℕ) where
  pub given_up : ent 𝓤 (sem 𝓛 ((MutSlice ℓ κ u8).own_val (record { ref_ptr = (b, o); ghost_name = γ; now = m }) (slice_val (b, o) (length m) ∷ []))) (sem 𝓛 (finally u8 γ m))
  given_up =
      qed 𝓛 (‵ ((MutSlice ℓ κ u8).own_val (record { ref_ptr = (b, o); ghost_name = γ; now = m }) (slice_val (b, o) (length m) ∷ [])) ∷ []) ∵ fsplit ! $ move ! (1 ∷ []) $ fsplit ! $
      use1 𝓛 (‵ (fres γ ((coded_holeys u8).code (heres u8 m)))) (𝓛.names.obs-res γ ((coded_holeys u8).code (heres u8 m))) $
      use1 𝓛 (‵ (finally u8 γ m)) (res-finally 𝓛 ℓ κ u8 γ m) $ keep ! (0 ∷ []) $ done !
