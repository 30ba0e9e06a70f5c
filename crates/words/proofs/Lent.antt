-- What the walks over a lent session share, beside the crate `borrows`. Kept, since the documents name it; no proof needs it today.
--     sval s, IsSession s       the machine value of the session s, and that it is one, as is known of a session that is owned
--     Borrow r s                what the `&mut Session` r owns, at the session s
--     Cell r s, Open r          once it is open: the session's cell by its fields, with s in it, and the borrow
--     opened, closed            it is opened, and closed at the session that then lies in the cell
--     regime_lies ..            which byte of a session each field starts at
--     regime_is, set_is         what is known of its regime, and of whether that is set; regime_typed, set_typed: their machine values have their types
--     IsEntry, entry_is, put_is, same_is     what is known of an entry; of one of a session's; of a session with another in its place; of one whose entries are all the same
--     emptied_is                what is known of a session with every entry emptied
--     entry_of, puts_entry      `session.entries[i]` as an operand, and given another entry. Local a holds its address, and the cell is entry p
--     calls_empty               `Entry::empty` is called, and the empty entry lands; `EmptyC` is its contract
-- Assumes `Logic`.
use mathlib.Core.Path.{◌≡◌, refl, sym, ◌∙◌, subst}
use Prim.Native.Nat.{ℕ, zero, suc, ◌+◌, ◌<◌}
use native.Mathlib.Nat.{not-suc-le-zero, le_of_suc-le-suc}
use mathlib.Core.List.{List, [], ◌∷◌, map}
use mathlib.Core.Option.{some as found}
use lib.ListN.{length, get_or, set, replicate, length-set, length-map}
use seplogic.Ra.Ura.{Ura}
use base.Fraction.{full_share}
use lib.Dec.{T}
use mir.Syntax.{Ty, Tys, Place, Opd as Operand, Body as Code, place, deref, copy, rv_opd, assign, seq, call, named, w8, w16, w32, tnil, tcons, ty_int, ty_struct, ty_array}
use mir.Val.{Val, WT, has_ty, vunit, vint, vptr, vstruct, vnil, vcons, of_list}
use base.Logic.{SProp, id⊢}
use base.Fml.{Lft, Share, Fml, ftrue, fat, flft}
use prog.Memory.{Memory, field_at}
use prog.Routine.{Routine}
use prog.Wp.{Env, Calls, Loops, spot_of}
use types.Logic.{Logic}
use contract.Monad.{Fun}
use types.Kit.{Goal, Item, Post, runs, lands, Seq, Soaks, Step, step, ‵, nth, put, ◌$◌, drop, use1}
use types.Run.{Reads, Writes, Opd, look, stop, hop, from, load, of_opd, assigns, no_more}
use types.Part.{Part, whole, sub, look_in, store_in}
use sound.WpLaws.{FmC}
use denote.Laws.{Is}
use denote.Ref.{MutBor}
use denote.Shadow.{shadow}
use denote.Array.{each}
use denote.Index.{place as element_at}
use denote.Plain.{uint_Lawful}
use denote.Builtin.{u8, u16, u32}
use denote.Steps.{only}
use denote.Struct.Declared.{shape}
use denote.Struct.Laws as LL
use denote.Triple.Statement.{Contract, Triple}
use denote.Triple.Call.{calls_at}
use denote.Triple.Spec.{triple_of}
use Rattle.descriptor.proofs.Lists.{map_set}
use Rattle.vmsa.specs.declared.RegimeWords.{RegimeWords}
use Rattle.tlb.specs.declared.Entry.{Entry}
use Rattle.session.specs.declared.Session.{Session}
use Rattle.tlb.specs.Walker.{entry_count}
use Rattle.tlb.specs.Entries.{no_entry}
use Rattle.session.specs.View.{with_entries, with_entry, emptied}
use Rattle.vmsa.specs.contracts.RegimeWords as R
use Rattle.vmsa.proofs.RegimeWords.TheLaws as R'
use Rattle.tlb.specs.contracts.Entry as E
use Rattle.tlb.proofs.Entry.TheLaws as E'
use Rattle.tlb.specs.contracts.Entry.empty as empty
use Rattle.tlb.proofs.Entry.empty.Symbol.{name as #empty}
use Rattle.session.specs.contracts.Session as S
use Rattle.session.proofs.Session.TheLaws as S'
use Rattle.borrows.proofs.Numbered.{lies}
use Rattle.borrows.proofs.Calls.{asks, gave}
use Rattle.borrows.proofs.Element.{item}
use Rattle.borrows.proofs.Mutable as mutable

-- ---- a session's machine value, by its fields
abbrev pub eval : Entry → Val
eval = LL.val E.the_type E'.the_laws

abbrev pub IsEntry : Entry → Type 0
IsEntry e = Is E.the_row e (eval e ∷ [])

abbrev pub rval : RegimeWords → Val
rval = LL.val R.the_type R'.the_laws

abbrev pub sval : Session → Val
sval = mutable.val S.the_type S'.the_laws

abbrev pub IsSession : Session → Type 0
IsSession s = mutable.IsAt S.the_type S'.the_laws s (sval s)

-- the machine value has the session's type
pub typed : {M : Type 1} {𝓤 : Ura M} (𝓛 : Logic 𝓤) (s : Session) → IsSession s → T (has_ty S'.mir (sval s)) × WT (sval s)
typed 𝓛 s is = mutable.typed S.the_type S'.the_laws 𝓛 s (sval s) is

module _ (s : Session) (is : IsSession s) where
  pub regime_is : Is R.the_row s.regime (rval s.regime ∷ [])
  regime_is = (LL.owed S.the_type S'.the_laws s (sval s ∷ []) is).0

  pub set_is : Is u8 s.set (vint w8 s.set ∷ [])
  set_is = (LL.owed S.the_type S'.the_laws s (sval s ∷ []) is).1.1.0

  module _ {M : Type 1} {𝓤 : Ura M} (𝓛 : Logic 𝓤) where
    pub regime_typed : T (has_ty R'.mir (rval s.regime)) × WT (rval s.regime)
    regime_typed = ((LL.lawful R.the_type R'.the_laws 𝓛).typed s.regime _ regime_is).0

    pub set_typed : T (has_ty (ty_int w8) (vint w8 s.set)) × WT (vint w8 s.set)
    set_typed = ((uint_Lawful 𝓛 w8).typed s.set _ set_is).0

-- the machine values of entries
abbrev evals : List Entry → List Val
evals = map eval

abbrev field_tys : Tys
field_tys = tcons R'.mir (tcons (ty_array E'.mir entry_count) (tcons (ty_int w8) (tcons (ty_int w8) (tcons (ty_int w16) (tcons (ty_int w32) tnil)))))

abbrev laid_ty : Ty
laid_ty = ty_struct (shape S.the_type).name field_tys

-- the session s, with entries of the machine values us
abbrev laid : Session → List Val → Val
laid s us = vstruct (vcons (rval s.regime) (vcons (vstruct (of_list us)) (vcons (vint w8 s.set) (vcons (vint w8 s.spare8) (vcons (vint w16 s.spare16) (vcons (vint w32 s.spare32) vnil))))))

pub regime_lies : field_at zero field_tys 0 ≡ found (R'.mir, 0)
regime_lies = refl

pub entries_lie : field_at zero field_tys 1 ≡ found (ty_array E'.mir entry_count, 64)
entries_lie = refl

pub set_lies : field_at zero field_tys 2 ≡ found (ty_int w8, 1600)
set_lies = refl

pub spare8_lies : field_at zero field_tys 3 ≡ found (ty_int w8, 1601)
spare8_lies = refl

pub spare16_lies : field_at zero field_tys 4 ≡ found (ty_int w16, 1602)
spare16_lies = refl

pub spare32_lies : field_at zero field_tys 5 ≡ found (ty_int w32, 1604)
spare32_lies = refl

-- ---- the session's borrow
module _ (κ : Lft) (q : Share) (r : MutBor Session) where
  abbrev pub Borrow : Session → Fml
  Borrow s = mutable.Lent S.the_type S'.the_laws r.ref_ptr.0 r.ref_ptr.1 (named 0) κ r.ghost_name s

  abbrev pub Open : Fml
  Open = mutable.Open S.the_type S'.the_laws r.ref_ptr.0 r.ref_ptr.1 κ q r.ghost_name r.now

module _ (r : MutBor Session) where
  abbrev pub Cell : Session → Fml
  Cell s = fat full_share laid_ty r.ref_ptr.0 r.ref_ptr.1 (laid s (evals s.entries))

module _ {M : Type 1} {𝓤 : Ura M} {𝓛 : Logic 𝓤} {K : Type 0} {Γ : List (Item 𝓤)} {G : Goal 𝓤 𝓛.H} where
  pub opened : K → Soaks G → (κ : Lft) (q : Share) (r : MutBor Session) → (IsSession r.now → Seq K 𝓛 (‵ (Cell r r.now) ∷ ‵ (Open κ q r) ∷ Γ) G) → Seq K 𝓛 (‵ (Borrow κ q r r.now) ∷ ‵ (flft κ q) ∷ Γ) G
  opened t z κ q r k = mutable.opened S.the_type S'.the_laws t z (named 0) κ q r.ref_ptr.0 r.ref_ptr.1 r.ghost_name r.now (λ is. drop t $
      use1 𝓛 (‵ (Cell r r.now)) (𝓛.laws.raw_at full_share laid_ty r.ref_ptr.0 r.ref_ptr.1 (laid r.now (evals r.now.entries))) $ k is)

  pub closed : K → Soaks G → (κ : Lft) (q : Share) (r : MutBor Session) (s : Session) → IsSession s → Step K 𝓛 (‵ (Borrow κ q r s) ∷ ‵ (flft κ q) ∷ Γ) G (‵ (Cell r s) ∷ ‵ (Open κ q r) ∷ Γ) G
  closed t z κ q r s is = step (λ k.
      use1 𝓛 (‵ (mutable.Cell S.the_type S'.the_laws r.ref_ptr.0 r.ref_ptr.1 (sval s))) (𝓛.laws.at_raw full_share laid_ty r.ref_ptr.0 r.ref_ptr.1 (laid s (evals s.entries))) $
      mutable.closed S.the_type S'.the_laws t z S'.the_plain (named 0) κ q r.ref_ptr.0 r.ref_ptr.1 r.ghost_name r.now s (sval s) is $ k)

-- ---- one entry of a session
entry_at_lem : (es : List Entry) (k : ℕ) → k < length es → get_or (evals es) k vunit ≡ eval (get_or es k no_entry)
entry_at_lem [] k l = absurd (not-suc-le-zero l)
entry_at_lem (e ∷ es) zero l = refl
entry_at_lem (e ∷ es) (suc k) l = entry_at_lem es k (le_of_suc-le-suc l)

evals_set : (es : List Entry) (k : ℕ) (e : Entry) → set (evals es) k (eval e) ≡ evals (set es k e)
evals_set es k e = sym (map_set eval es k e)

abbrev Each : List Entry → List Val → Type 0
Each es us = shadow (each (E.the_row).Denot (E.the_row).own_val es us)

each_told : (es : List Entry) (us : List Val) → Each es us → us ≡ evals es
each_told [] [] s = refl
each_told [] (u ∷ us) s = absurd s
each_told (e ∷ es) [] s = absurd s
each_told (e ∷ es) (u ∷ us) s = λ i. only (LL.tells E.the_type E'.the_laws e (u ∷ []) s.0 i) ∷ each_told es us s.1 i

each_put : (es : List Entry) (k : ℕ) (e : Entry) → Each es (evals es) → IsEntry e → Each (set es k e) (evals (set es k e))
each_put [] k e s i = s
each_put (x ∷ es) zero e s i = (i, s.1)
each_put (x ∷ es) (suc k) e s i = (s.0, each_put es k e s.1 i)

module _ (s : Session) (is : IsSession s) where
  sixty_four : length s.entries ≡ entry_count
  sixty_four = (LL.owed S.the_type S'.the_laws s (sval s ∷ []) is).1.0.1.0.1

  evals_long : length (evals s.entries) ≡ entry_count
  evals_long = length-map s.entries eval ∙ sixty_four

  all_entries : Each s.entries (evals s.entries)
  all_entries =
      let h = (LL.owed S.the_type S'.the_laws s (sval s ∷ []) is).1.0 in
      subst (Each s.entries) (each_told s.entries h.0 h.1.1) h.1.1

  pub entry_is : (k : ℕ) → k < entry_count → IsEntry (get_or s.entries k no_entry)
  entry_is k l = by s.entries k (subst (λ (n : ℕ). k < n) (sym sixty_four) l) all_entries
    where
      by : (es : List Entry) (k : ℕ) → k < length es → Each es (evals es) → IsEntry (get_or es k no_entry)
      by [] k l h = absurd (not-suc-le-zero l)
      by (e ∷ es) zero l h = h.0
      by (e ∷ es) (suc k) l h = by es k (le_of_suc-le-suc l) h.1

  pub put_is : (k : ℕ) (e : Entry) → IsEntry e → IsSession (with_entry s k e)
  put_is k e i =
      let h = LL.owed S.the_type S'.the_laws s (sval s ∷ []) is in
      LL.owes S.the_type S'.the_laws (with_entry s k e)
      (h.0, ((evals (set s.entries k e), ((refl, length-set s.entries k e ∙ sixty_four), each_put s.entries k e all_entries i)), h.1.1))

-- where it lies, as a part of the session's cell
module _ (r : MutBor Session) (is : IsSession r.now) (k : ℕ) (l : k < entry_count) where
  abbrev pub spot : ℕ
  spot = element_at 24 (r.ref_ptr.1 + 64) k

  abbrev us : List Val
  us = evals r.now.entries

  abbrev Back : {M : Type 1} (𝓤 : Ura M) → Val → Item 𝓤
  Back 𝓤 u = ‵ (fat full_share laid_ty r.ref_ptr.0 r.ref_ptr.1 (laid r.now (set us k u)))

  module _ {M : Type 1} {𝓤 : Ura M} {𝓛 : Logic 𝓤} {K : Type 0} where
    open 𝓛 use {H}

    entry_part : K → {j : Item 𝓤} → j ≡ ‵ (Cell r r.now) → Part K 𝓛 j full_share E'.mir r.ref_ptr.0 spot (get_or us k vunit) (Back 𝓤)
    entry_part t cell = subst (λ (i : Item 𝓤). Part K 𝓛 i full_share E'.mir r.ref_ptr.0 spot (get_or us k vunit) (Back 𝓤)) (sym cell)
        (item t entry_count us k (subst (λ (n : ℕ). k < n) (sym (evals_long r.now is)) l) (evals_long r.now is) (sub t 1 entries_lie (whole t)))

    module _ {Γ : List (Item 𝓤)} {Δ : Env 𝓤 H} {a : ℕ} where
      pub entry_of : K → (n p : ℕ) {s : Share} → nth 𝓛 (lies Δ n a) Γ ≡ ‵ (fat s (spot_of 𝓤 H Δ a).0 (spot_of 𝓤 H Δ a).1 zero (vptr r.ref_ptr.0 spot)) → nth 𝓛 p Γ ≡ ‵ (Cell r r.now)
          → Opd K 𝓛 Γ Δ (copy (place a (deref E'.mir ∷ []))) (eval (get_or r.now.entries k no_entry))
      entry_of t n p at cell = load t (from t (hop t (look t (lies Δ n a) at) (stop t)))
          (subst (λ (v : Val). Reads K 𝓛 Γ E'.mir r.ref_ptr.0 spot v) (entry_at_lem r.now.entries k (subst (λ (n : ℕ). k < n) (sym (sixty_four r.now is)) l)) (look_in t p (entry_part t cell)))

      pub puts_entry : K → {C : Calls 𝓤 H} {Λ : Loops 𝓤 H} {q : Post 𝓤 H} {rest : Code} {x : Operand} (e : Entry) → IsEntry e → Opd K 𝓛 Γ Δ x (eval e) → (n p : ℕ) {s : Share}
          → nth 𝓛 (lies Δ n a) Γ ≡ ‵ (fat s (spot_of 𝓤 H Δ a).0 (spot_of 𝓤 H Δ a).1 zero (vptr r.ref_ptr.0 spot)) → nth 𝓛 p Γ ≡ ‵ (Cell r r.now)
          → Step K 𝓛 (put 𝓛 p (‵ (Cell r (with_entry r.now k e))) Γ) (runs C Λ Δ rest q) Γ (runs C Λ Δ (seq (assign (place a (deref E'.mir ∷ [])) (rv_opd x)) rest) q)
      puts_entry t e ie x n p at cell = assigns t (of_opd t x) (from t (hop t (look t (lies Δ n a) at) (stop t)))
          (subst (λ (vs : List Val). Writes K 𝓛 Γ E'.mir r.ref_ptr.0 spot (eval e) (put 𝓛 p (‵ (fat full_share laid_ty r.ref_ptr.0 r.ref_ptr.1 (laid r.now vs))) Γ)) (evals_set r.now.entries k e)
          (store_in t p (entry_part t cell) ((LL.lawful E.the_type E'.the_laws 𝓛).typed e _ ie).0))

-- ---- entries that are all the same
all_same : (n : ℕ) (e : Entry) → IsEntry e → Each (replicate n e) (evals (replicate n e))
all_same zero e i = tt
all_same (suc n) e i = (i, all_same n e i)

-- what is known of the numbers after the entries
abbrev pub AreNumbers : Session → Type 0
AreNumbers s = Is u8 s.set (vint w8 s.set ∷ []) × (Is u8 s.spare8 (vint w8 s.spare8 ∷ []) × (Is u16 s.spare16 (vint w16 s.spare16 ∷ []) × (Is u32 s.spare32 (vint w32 s.spare32 ∷ []) × Unit {0})))

pub same_is : (s : Session) (e : Entry) → Is R.the_row s.regime (rval s.regime ∷ []) → IsEntry e → AreNumbers s → IsSession (with_entries s (replicate entry_count e))
same_is s e ir ie ns = LL.owes S.the_type S'.the_laws (with_entries s (replicate entry_count e)) (ir, ((evals (replicate entry_count e), ((refl, refl), all_same entry_count e ie)), ns))

pub emptied_is : (s : Session) → IsSession s → IsEntry no_entry → IsSession (emptied s)
emptied_is s is ie = same_is s no_entry (regime_is s is) ie (LL.owed S.the_type S'.the_laws s (sval s ∷ []) is).1.1

module _ {M : Type 1} {𝓤 : Ura M} (𝓛 : Logic 𝓤) (at_mem : Memory → SProp 𝓤) (run : Routine → Fun 𝓤) where
  abbrev pub EmptyC : Contract 𝓤
  EmptyC = triple_of 𝓛 empty.signature (empty.spec 𝓛 at_mem run)

module _ {M : Type 1} {𝓤 : Ura M} {𝓛 : Logic 𝓤} {K : Type 0} {Γ : List (Item 𝓤)} {Δ : Env 𝓤 𝓛.H} {C : Calls 𝓤 𝓛.H} {Λ : Loops 𝓤 𝓛.H} {q : Post 𝓤 𝓛.H} {d : Place} {rest : Code} where
  open 𝓛 use {H}

  pub calls_empty : K → (at_mem : Memory → SProp 𝓤) (run : Routine → Fun 𝓤) → FmC 𝓤 H 𝓛.laws C → Triple 𝓤 (C #empty) (EmptyC 𝓛 at_mem run)
      → (IsEntry no_entry → Seq K 𝓛 Γ (lands C Λ Δ d (eval no_entry) rest q)) → Seq K 𝓛 Γ (runs C Λ Δ (seq (call #empty [] d) rest) q)
  calls_empty t at_mem run fm known k = asks t [] $ calls_at t fm (EmptyC 𝓛 at_mem run) known ((tt, tt, tt, tt, tt), tt) (no_more t) (λ v.
      gave E.the_row eval (LL.tells E.the_type E'.the_laws) t (‵ ftrue) 0 (λ e. e ≡ no_entry) (id⊢ 𝓤 _) (λ e none ie. drop t $ subst (λ (x : Entry). IsEntry x → Seq K 𝓛 Γ (lands C Λ Δ d (eval x) rest q)) (sym none) k ie))
