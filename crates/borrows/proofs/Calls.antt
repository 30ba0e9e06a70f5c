-- Steps of a walk that calls another function: what the callee is handed, and what it gives back.
--     copied, field_of      an operand that is a local, or field k of one: the local lies at entry n of the context
--     pointed               what field 0 of a local points to, as the bytes of a slice
--     sets                  a local that was room, at entry n, is given a value
--     Value, a_struct, a_number     a value that owns nothing; a struct of numbers is one, and a number
--     asks xs               what a callee asks that takes the values xs alone: it is had for nothing
--     lends met xs ys       what a callee asks that is lent something, between the values xs and ys: what the borrow owns and its token stand at the head; met, what it requires
--     lends_both met xs ys zs     the same of one that is lent two things: xs before them, ys between them, zs after them
--     Gave, gave            what a callee gives that changes nothing of what it was lent: its result x, of which φ holds
--     GaveMemory, gave_memory     what a callee gives that was lent the memory for good: x, and the memory's last bytes l, of which φ holds
--     GaveBoth, gave_both         the same of one that was lent two memories
-- Assumes `Logic`.
use mathlib.Core.Path.{◌≡◌, refl, sym, ap, subst}
use Prim.Native.Nat.{ℕ, zero, suc, ◌+◌}
use mathlib.Core.List.{List, [], ◌∷◌}
use mathlib.Core.Option.{some as found}
use lib.ListN.{length}
use lib.Dec.{T}
use seplogic.Ra.Ura.{Ura}
use base.Fraction.{full_share}
use mir.Syntax.{Width, Sym, Ty, Tys, Step as PlaceStep, Place, Body, Rv as RValue, place, field, deref, copy, assign, seq, ty_struct}
use mir.Val.{Val, Vals, WT, has_ty, vptr, vstruct, vcons}
use mir.Fields.{get_v}
use base.Logic.{SProp, ent, sep, emp}
use base.Fml.{GName, Share, Fml, ftrue, fsep, feq, fat, froom}
use prog.Memory.{field_at}
use prog.Wp.{Env, Spot, Calls, Loops, spot_of}
use types.Logic.{Logic, sem}
use contract.Monad.{fact}
use types.Kit.{Item, Post, Goal, runs, lands, Seq, Step, step, ‵, raw, ◌⊛◌, some, later, mean, nth, put, ◌$◌, ◌∵◌, !, qed, move, drop, use0, use1, use2, split, join, pick, await, regoal, fsplit, fjoin, feq_l, frame, done}
use types.Run.{Reads, Walks, Finds, Opd, Rv, look, init, stop, hop, fld, from, load, assigns}
use types.Part.{Part, whole, sub, look_in}
use denote.RattleType.{RattleType}
use denote.Laws.{Is, Tells, shows}
use denote.Plain.{UInt, uint_vals, uint_Makes}
use denote.Builtin.{u8}
use denote.Slice.{finally}
use denote.Steps.{only, facts, heard, nothing}
use denote.Struct.Declared.{Declared, fields, row}
use denote.Struct.Struct.{Plains}
use denote.Struct.Laws as LL

-- ---- what a callee is handed
module _ {M : Type 1} {𝓤 : Ura M} {𝓛 : Logic 𝓤} {K : Type 0} {Γ : List (Item 𝓤)} where
  -- entry n is a struct: what its field k holds
  open 𝓛 use {H}

  reads : K → (n k : ℕ) {q : Share} {ν : Sym} {τs : Tys} {l : ℕ} {vs : Vals} {τ : Ty} {d : ℕ} → nth 𝓛 n Γ ≡ ‵ (fat q (ty_struct ν τs) l zero (vstruct vs)) → field_at zero τs k ≡ found (τ, d)
      → Reads K 𝓛 Γ τ l (zero + d) (get_v vs k)
  reads t n k {q} {ν} {τs} {l} {vs} at e = look_in t n (sub t k e (subst (λ (j : Item 𝓤). Part K 𝓛 j q (ty_struct ν τs) l zero (vstruct vs) (λ u. ‵ (fat q (ty_struct ν τs) l zero u))) (sym at) (whole t)))

  module _ {E : Env 𝓤 H} {i : ℕ} where
    pub copied : K → (n : ℕ) {q : Share} {v : Val} → nth 𝓛 n Γ ≡ ‵ (fat q (spot_of 𝓤 H E i).0 (spot_of 𝓤 H E i).1 zero v) → Opd K 𝓛 Γ E (copy (place i [])) v
    copied t n at = load t (from t (stop t)) (look t n at)

    -- the local is a struct: where its field k lies
    finds : K → {k l d : ℕ} {ν : Sym} {τs : Tys} {τ : Ty} {st : List PlaceStep} {sp : Spot 𝓤 H} → spot_of 𝓤 H E i ≡ (ty_struct ν τs, l, zero) → field_at zero τs k ≡ found (τ, d)
        → Walks K 𝓛 Γ E (τ, l, zero + d) st sp → Finds K 𝓛 Γ E (place i (field k ∷ st)) sp
    finds t {k} {st = st} {sp = sp} is e w = from t (subst (λ (at : Spot 𝓤 H). Walks K 𝓛 Γ E at (field k ∷ st) sp) (sym is) (fld t e w))

    pub field_of : K → (n k : ℕ) {q : Share} {ν : Sym} {τs : Tys} {l d : ℕ} {τ : Ty} {vs : Vals} → nth 𝓛 n Γ ≡ ‵ (fat q (ty_struct ν τs) l zero (vstruct vs)) → spot_of 𝓤 H E i ≡ (ty_struct ν τs, l, zero)
        → field_at zero τs k ≡ found (τ, d) → Opd K 𝓛 Γ E (copy (place i (field k ∷ []))) (get_v vs k)
    field_of t n k at is e = load t (finds t is e (stop t)) (reads t n k at e)

    pub pointed : K → (n : ℕ) {q : Share} {ν : Sym} {τs : Tys} {l d b o : ℕ} {τ σ : Ty} {vs : Vals} → nth 𝓛 n Γ ≡ ‵ (fat q (ty_struct ν τs) l zero (vstruct (vcons (vptr b o) vs)))
        → spot_of 𝓤 H E i ≡ (ty_struct ν τs, l, zero) → field_at zero τs 0 ≡ found (τ, d) → Finds K 𝓛 Γ E (place i (field 0 ∷ deref σ ∷ [])) (σ, b, o)
    pointed t n at is e = finds t is e (hop t (reads t n 0 at e) (stop t))

    pub sets : K → {C : Calls 𝓤 H} {Λ : Loops 𝓤 H} {q : Post 𝓤 H} {rv : RValue} {rest : Body} {v : Val} → Rv K 𝓛 Γ E rv v → (n : ℕ) → nth 𝓛 n Γ ≡ ‵ (froom (spot_of 𝓤 H E i).0 (spot_of 𝓤 H E i).1 zero)
        → T (has_ty (spot_of 𝓤 H E i).0 v) × WT v
        → Step K 𝓛 (put 𝓛 n (‵ (fat full_share (spot_of 𝓤 H E i).0 (spot_of 𝓤 H E i).1 zero v)) Γ) (runs C Λ E rest q) Γ (runs C Λ E (seq (assign (place i []) rv) rest) q)
    sets t r n at wt = assigns t r (from t (stop t)) (init t n at wt)

-- a value that owns nothing: its type, the value itself, its machine values, and that what it owns is had for nothing
pub record Value {M : Type 1} {𝓤 : Ura M} (𝓛 : Logic 𝓤) : Type 2 where
  pub type : RattleType
  pub it : type.Denot
  pub vals : List Val
  pub had : ent 𝓤 (emp 𝓤) (sem 𝓛 (type.own_val it vals))

module _ {M : Type 1} {𝓤 : Ura M} (𝓛 : Logic 𝓤) where
  abbrev pub a_struct : (T : Declared) (L : LL.Laws T) → Plains (fields T) → (x : T.D) → Is (row T) x (LL.vals T L x) → Value 𝓛
  a_struct T L pl x is = record { type = row T; it = x; vals = LL.vals T L x; had = LL.makes T pl 𝓛 x (LL.vals T L x) is }

  abbrev pub a_number : (w : Width) (n : ℕ) → Is (UInt w) n (uint_vals w n) → Value 𝓛
  a_number w n is = record { type = UInt w; it = n; vals = uint_vals w n; had = uint_Makes 𝓛 w n (uint_vals w n) is }

-- what the values xs own, and then F
abbrev pub Beside : {M : Type 1} {𝓤 : Ura M} {𝓛 : Logic 𝓤} → List (Value 𝓛) → Fml → Fml
Beside [] F = F
Beside (x ∷ xs) F = fsep (x.type.own_val x.it x.vals) (Beside xs F)

beside : {M : Type 1} {𝓤 : Ura M} {𝓛 : Logic 𝓤} {K : Type 0} {Γ : List (Item 𝓤)} {G : Goal 𝓤 𝓛.H} → K → (xs : List (Value 𝓛)) {F : Fml} → Step K 𝓛 (‵ (Beside xs F) ∷ Γ) G (‵ F ∷ Γ) G
beside t [] = step (λ s. s)
beside {𝓛 = 𝓛} t (x ∷ xs) = step (λ s. beside t xs $ use0 𝓛 (‵ (x.type.own_val x.it x.vals)) x.had $ fjoin t $ s)

module _ {M : Type 1} {𝓤 : Ura M} {𝓛 : Logic 𝓤} {K : Type 0} {Γ : List (Item 𝓤)} {G : Goal 𝓤 𝓛.H} where
  pub asks : K → (xs : List (Value 𝓛)) → Step K 𝓛 (raw (sep 𝓤 (sep 𝓤 (emp 𝓤) (sem 𝓛 (Beside xs ftrue))) (emp 𝓤)) ∷ Γ) G Γ G
  asks t xs = use0 𝓛 (raw (sep 𝓤 (sep 𝓤 (emp 𝓤) (sem 𝓛 (Beside xs ftrue))) (emp 𝓤))) (qed 𝓛 [] ∵ nothing ! $ beside ! xs $ nothing ! $ join ! $ frame ! $ done !)

  -- its tokens i, what its parameters own, and what it requires, which is had for nothing
  asked : K → {F : Fml} {i : Item 𝓤} {R : SProp 𝓤} → ent 𝓤 (emp 𝓤) R → Step K 𝓛 (raw (sep 𝓤 (sep 𝓤 (mean 𝓛 i) (sem 𝓛 F)) R) ∷ Γ) G (i ∷ ‵ F ∷ Γ) G
  asked t {F} {i} {R} met = use2 𝓛 (raw (sep 𝓤 (sep 𝓤 (mean 𝓛 i) (sem 𝓛 F)) R)) (qed 𝓛 (i ∷ ‵ F ∷ []) ∵ join ! $ use0 𝓛 (raw R) met $ move ! (1 ∷ 0 ∷ []) $ frame ! $ done !)

module _ {M : Type 1} {𝓤 : Ura M} {𝓛 : Logic 𝓤} {K : Type 0} {Γ : List (Item 𝓤)} {G : Goal 𝓤 𝓛.H} where
  pub lends : K → {P : Fml} {i : Item 𝓤} {R : SProp 𝓤} → ent 𝓤 (emp 𝓤) R → (xs ys : List (Value 𝓛))
      → Step K 𝓛 (raw (sep 𝓤 (sep 𝓤 (sep 𝓤 (mean 𝓛 i) (emp 𝓤)) (sem 𝓛 (Beside xs (fsep P (Beside ys ftrue))))) R) ∷ Γ) G (‵ P ∷ i ∷ Γ) G
  lends t {i = i} met xs ys = step (λ s. nothing t $ beside t ys $ move t (1 ∷ 0 ∷ []) $ fjoin t $ beside t xs $ nothing t $ move t (2 ∷ 0 ∷ []) $ join t $ asked t {i = i ⊛ ‵ ftrue} met $ s)

  pub lends_both : K → {P Q : Fml} {i j : Item 𝓤} {R : SProp 𝓤} → ent 𝓤 (emp 𝓤) R → (xs ys zs : List (Value 𝓛))
      → Step K 𝓛 (raw (sep 𝓤 (sep 𝓤 (sep 𝓤 (mean 𝓛 i) (sep 𝓤 (mean 𝓛 j) (emp 𝓤))) (sem 𝓛 (Beside xs (fsep P (Beside ys (fsep Q (Beside zs ftrue))))))) R) ∷ Γ) G (‵ P ∷ i ∷ ‵ Q ∷ j ∷ Γ) G
  lends_both t {i = i} {j = j} met xs ys zs = step (λ s.
      nothing t $ beside t zs $ move t (3 ∷ 0 ∷ []) $ fjoin t $ beside t ys $ move t (1 ∷ 0 ∷ []) $ fjoin t $ beside t xs $
      -- [what the parameters own; the token of the first; that of the second]
      nothing t $ move t (3 ∷ 0 ∷ []) $ join t $ move t (2 ∷ 0 ∷ []) $ join t $ asked t {i = i ⊛ (j ⊛ ‵ ftrue)} met $ s)

-- ---- what a callee gives back
-- what a contract binds of n parameters of which it says nothing, and then X; what it says of them, and then F
abbrev pub Silent : ℕ → Type 0 → Type 0
Silent zero X = X
Silent (suc n) X = Unit {0} × Silent n X

abbrev pub silent : ℕ → Fml → Fml
silent zero F = F
silent (suc n) F = fsep ftrue (silent n F)

-- of k parameters, the memory, and n more: its last bytes
abbrev pub Lasts : ℕ → ℕ → Type 0
Lasts k n = Silent k (List ℕ × Silent n (Unit {0}))

abbrev pub bytes : (k n : ℕ) → Lasts k n → List ℕ
bytes zero n ws = ws.0
bytes (suc k) n ws = bytes k n ws.1

-- of k parameters, a memory, n more, another memory, and j more: the last bytes of the first, and of the second
abbrev pub LastsBoth : ℕ → ℕ → ℕ → Type 0
LastsBoth k n j = Silent k (List ℕ × Lasts n j)

abbrev pub bytes1 : (k n j : ℕ) → LastsBoth k n j → List ℕ
bytes1 zero n j ws = ws.0
bytes1 (suc k) n j ws = bytes1 k n j ws.1

abbrev pub bytes2 : (k n j : ℕ) → LastsBoth k n j → List ℕ
bytes2 zero n j ws = bytes n j ws.1
bytes2 (suc k) n j ws = bytes2 k n j ws.1

-- what it says of k parameters and a memory, which was m and whose last bytes are l, and then F
abbrev pub lasts : ℕ → GName → List ℕ → List ℕ → Fml → Fml
lasts k γ m l F = silent k (fsep (fsep (finally u8 γ l) (feq ℕ (length l) (length m))) F)

module _ {M : Type 1} (𝓤 : Ura M) (R : RattleType) (tokens : Item 𝓤) (v : Val) where
  -- the callee has n parameters
  abbrev pub Gave : ℕ → (R.Denot → Type 0) → Item 𝓤
  Gave n φ = later (some (λ (x : R.Denot). (tokens ⊛ ‵ (R.own_val x (v ∷ []))) ⊛ some (λ (_ : Silent n (Unit {0})). ‵ (silent n ftrue) ⊛ raw (fact 𝓤 (φ x)))))

  -- it has k parameters before the memory, which was m, and n after it
  abbrev pub GaveMemory : ℕ → GName → List ℕ → ℕ → (R.Denot → List ℕ → Type 0) → Item 𝓤
  GaveMemory k γ m n φ = later (some (λ (x : R.Denot). (tokens ⊛ ‵ (R.own_val x (v ∷ []))) ⊛ some (λ (ws : Lasts k n).
      ‵ (lasts k γ m (bytes k n ws) (silent n ftrue)) ⊛ raw (fact 𝓤 (φ x (bytes k n ws))))))

  -- n between the two memories, and j after them
  abbrev pub GaveBoth : ℕ → GName → List ℕ → ℕ → GName → List ℕ → ℕ → (R.Denot → List ℕ → List ℕ → Type 0) → Item 𝓤
  GaveBoth k γ m n γ' m' j φ = later (some (λ (x : R.Denot). (tokens ⊛ ‵ (R.own_val x (v ∷ []))) ⊛ some (λ (ws : LastsBoth k n j).
      ‵ (lasts k γ m (bytes1 k n j ws) (lasts n γ' m' (bytes2 k n j ws) (silent j ftrue))) ⊛ raw (fact 𝓤 (φ x (bytes1 k n j ws) (bytes2 k n j ws))))))

module _ {M : Type 1} {𝓤 : Ura M} {𝓛 : Logic 𝓤} {K : Type 0} {G : Goal 𝓤 𝓛.H} where
  past : K → {Γ : List (Item 𝓤)} (k : ℕ) {F : Fml} → Step K 𝓛 (‵ F ∷ Γ) G (‵ (silent k F) ∷ Γ) G
  past t zero = step (λ s. s)
  past t (suc k) = step (λ s. fsplit t $ drop t $ past t k $ s)

  -- the last bytes, as long as the memory was, out of what is said of the parameters
  lasting : K → {Γ : List (Item 𝓤)} (k : ℕ) (γ : GName) (m l : List ℕ) {F : Fml} → (length l ≡ length m → Seq K 𝓛 (‵ F ∷ ‵ (finally u8 γ l) ∷ Γ) G) → Seq K 𝓛 (‵ (lasts k γ m l F) ∷ Γ) G
  lasting t k γ m l next = past t k $ fsplit t $ fsplit t $ move t (1 ∷ []) $ feq_l t (λ long. move t (1 ∷ []) $ next long)

-- the machine value of a result x is `val x`
module _ {M : Type 1} {𝓤 : Ura M} {𝓛 : Logic 𝓤} {K : Type 0} {C : Calls 𝓤 𝓛.H} {Λ : Loops 𝓤 𝓛.H} {E : Env 𝓤 𝓛.H} {d : Place} {rest : Body} {q : Post 𝓤 𝓛.H} (R : RattleType) (val : R.Denot → Val) (tells : Tells R (Is R) (λ x. val x ∷ [])) where
  spelt : K → {x : R.Denot} {v : Val} {Γ : List (Item 𝓤)} → (Is R x (val x ∷ []) → Seq K 𝓛 Γ (lands C Λ E d (val x) rest q)) → Seq K 𝓛 (‵ (R.own_val x (v ∷ [])) ∷ Γ) (lands C Λ E d v rest q)
  spelt t {x} {v} k = facts t R (Is R) (shows 𝓛 R) x (v ∷ []) (λ is.
      regoal t (λ (u : Val). lands C Λ E d u rest q) (ap only (tells x (v ∷ []) is)) refl $ k (subst (Is R x) (tells x (v ∷ []) is) is))

  pub gave : K → {Γ : List (Item 𝓤)} {P : SProp 𝓤} {v : Val} (tokens : Item 𝓤) (n : ℕ) (φ : R.Denot → Type 0) → ent 𝓤 P (mean 𝓛 (Gave 𝓤 R tokens v n φ))
      → ((x : R.Denot) → φ x → Is R x (val x ∷ []) → Seq K 𝓛 (tokens ∷ Γ) (lands C Λ E d (val x) rest q)) → Seq K 𝓛 (raw P ∷ Γ) (lands C Λ E d v rest q)
  gave t {v = v} tokens n φ given next = use1 𝓛 (Gave 𝓤 R tokens v n φ) given $ await t tt $ pick t (λ x. split t $ move t (1 ∷ []) $ pick t (λ _. split t $ drop t $ heard t (φ x) (λ e.
      split t $ move t (1 ∷ []) $ spelt t (λ is. next x e is))))

  pub gave_memory : K → {Γ : List (Item 𝓤)} {P : SProp 𝓤} {v : Val} (tokens : Item 𝓤) (k : ℕ) (γ : GName) (m : List ℕ) (n : ℕ) (φ : R.Denot → List ℕ → Type 0) → ent 𝓤 P (mean 𝓛 (GaveMemory 𝓤 R tokens v k γ m n φ))
      → ((x : R.Denot) (l : List ℕ) → φ x l → length l ≡ length m → Is R x (val x ∷ []) → Seq K 𝓛 (tokens ∷ ‵ (finally u8 γ l) ∷ Γ) (lands C Λ E d (val x) rest q)) → Seq K 𝓛 (raw P ∷ Γ) (lands C Λ E d v rest q)
  gave_memory t {v = v} tokens k γ m n φ given next = use1 𝓛 (GaveMemory 𝓤 R tokens v k γ m n φ) given $ await t tt $ pick t (λ x. split t $ move t (1 ∷ []) $ pick t (λ ws. split t $ move t (1 ∷ []) $ heard t (φ x (bytes k n ws)) (λ e.
      lasting t k γ m (bytes k n ws) (λ long. drop t $ move t (1 ∷ []) $ split t $ move t (1 ∷ []) $ spelt t (λ is. next x (bytes k n ws) e long is)))))

  pub gave_both : K → {Γ : List (Item 𝓤)} {P : SProp 𝓤} {v : Val} (tokens : Item 𝓤) (k : ℕ) (γ : GName) (m : List ℕ) (n : ℕ) (γ' : GName) (m' : List ℕ) (j : ℕ) (φ : R.Denot → List ℕ → List ℕ → Type 0)
      → ent 𝓤 P (mean 𝓛 (GaveBoth 𝓤 R tokens v k γ m n γ' m' j φ))
      → ((x : R.Denot) (l l' : List ℕ) → φ x l l' → length l ≡ length m → length l' ≡ length m' → Is R x (val x ∷ []) → Seq K 𝓛 (tokens ∷ ‵ (finally u8 γ l) ∷ ‵ (finally u8 γ' l') ∷ Γ) (lands C Λ E d (val x) rest q))
      → Seq K 𝓛 (raw P ∷ Γ) (lands C Λ E d v rest q)
  gave_both t {v = v} tokens k γ m n γ' m' j φ given next = use1 𝓛 (GaveBoth 𝓤 R tokens v k γ m n γ' m' j φ) given $ await t tt $ pick t (λ x. split t $ move t (1 ∷ []) $ pick t (λ ws. split t $ move t (1 ∷ []) $ heard t (φ x (bytes1 k n j ws) (bytes2 k n j ws)) (λ e.
      lasting t k γ m (bytes1 k n j ws) (λ long. lasting t n γ' m' (bytes2 k n j ws) (λ long'. drop t $ move t (2 ∷ 1 ∷ []) $ split t $ move t (1 ∷ []) $ spelt t (λ is. next x (bytes1 k n j ws) (bytes2 k n j ws) e long long' is))))))
