-- What each function promises, from its own contract: `..-tells`, that its ensures clause says what specs/Says.antt has, at every model of the
-- logic; `..-free`, that its requires clause asks nothing. A contract that says less breaks a law here.
use Prim.Native.Nat.{ℕ}
use mathlib.Core.List.{List}
use mathlib.Core.Path.{◌≡◌, sym, ap, subst⁻¹, ◌∙◌}
use base.Logic.{ent, emp, id⊢}
use contract.Lifetimes.{Lfts}
use contract.Monad.{fact}
use denote.Ref.{Bor, MutBor, at_last}
use denote.Triple.Clauses.{ClausesAt}
use borrow.Fn.World.{World as LogicModel}
use Rattle.vmsa.specs.Answers.{view}
use Rattle.vmsa.specs.declared.Regime.{Regime}
use Rattle.vmsa.specs.declared.Access.{Access}
use Rattle.vmsa.specs.declared.Answer.{Answer}
use Rattle.vmsa.specs.declared.PhysAddr.{PhysAddr}
use Rattle.checks.specs.Order.{Checked}
use Rattle.tlb.specs.Replies.{Reply, reply_of, reply_to}
use Rattle.tlb.proofs.Access.{AnAnswer, reply_settles}
use Rattle.session.specs.declared.Session.{Session as SessionStruct}
use Rattle.session.specs.Model.{Handed, handed}
use Rattle.session.specs.View.{session_view}
use Rattle.session.proofs.Calls.{access_answer}
use Rattle.session.proofs.Promises.{reply_one}
use Rattle.harvest.specs.Harvest.{Harvested}
use Rattle.lent.specs.Says.{SetSays, AccessSays, StoreSays, DropSays, HarvestSays}
use Rattle.lent.specs.contracts.set_regime as SetRegime
use Rattle.lent.specs.contracts.access as AccessOf
use Rattle.lent.specs.contracts.store as Store
use Rattle.lent.specs.contracts.invalidate_all as InvalidateAll
use Rattle.lent.specs.contracts.harvest as Harvest

-- what lies behind a `&` has one value, before the call and after it
module _ (W : LogicModel) (lives : Lfts 2) (session : MutBor SessionStruct) (memory : Bor (List ℕ)) (r : Regime) where
  abbrev pub set_clauses : ClausesAt W.𝓤 SetRegime.ended lives
  set_clauses = SetRegime.clauses W.𝓛 W.𝓜.mem W.𝓡.run lives (session, (memory, (r, tt)))

  pub set_tells : (session' : SessionStruct) (x : Checked)
      → ent W.𝓤 (set_clauses.ensures tt x (at_last session session', (memory, (r, tt)))) (fact W.𝓤 (SetSays session.now memory.now r session' memory.now x))
  set_tells session' x = id⊢ W.𝓤 _

  pub set_free : ent W.𝓤 (emp W.𝓤) (set_clauses.requires tt)
  set_free = id⊢ W.𝓤 _

module _ (W : LogicModel) (lives : Lfts 2) (session : MutBor SessionStruct) (memory : MutBor (List ℕ)) where
  module _ (a : Access) where
    abbrev pub access_clauses : ClausesAt W.𝓤 AccessOf.ended lives
    access_clauses = AccessOf.clauses W.𝓛 W.𝓜.mem W.𝓡.run lives (session, (memory, (a, tt)))

    pub access_tells : (session' : SessionStruct) (memory' : List ℕ) (x : Answer)
        → ent W.𝓤 (access_clauses.ensures tt x (at_last session session', (at_last memory memory', (a, tt)))) (fact W.𝓤 (AccessSays session.now memory.now a session' memory' x))
    access_tells session' memory' x = id⊢ W.𝓤 _

    pub access_free : ent W.𝓤 (emp W.𝓤) (access_clauses.requires tt)
    access_free = id⊢ W.𝓤 _

  module _ (address : PhysAddr) (value : ℕ) where
    abbrev pub store_clauses : ClausesAt W.𝓤 Store.ended lives
    store_clauses = Store.clauses W.𝓛 W.𝓜.mem W.𝓡.run lives (session, (memory, (address, (value, tt))))

    pub store_tells : (session' : SessionStruct) (memory' : List ℕ) (x : Checked)
        → ent W.𝓤 (store_clauses.ensures tt x (at_last session session', (at_last memory memory', (address, (value, tt))))) (fact W.𝓤 (StoreSays session.now memory.now address value session' memory' x))
    store_tells session' memory' x = id⊢ W.𝓤 _

    pub store_free : ent W.𝓤 (emp W.𝓤) (store_clauses.requires tt)
    store_free = id⊢ W.𝓤 _

module _ (W : LogicModel) (lives : Lfts 1) (session : MutBor SessionStruct) where
  abbrev pub drop_clauses : ClausesAt W.𝓤 InvalidateAll.ended lives
  drop_clauses = InvalidateAll.clauses W.𝓛 W.𝓜.mem W.𝓡.run lives (session, tt)

  pub drop_tells : (session' : SessionStruct)
      → ent W.𝓤 (drop_clauses.ensures tt tt (at_last session session', tt)) (fact W.𝓤 (DropSays session.now session'))
  drop_tells session' = id⊢ W.𝓤 _

  pub drop_free : ent W.𝓤 (emp W.𝓤) (drop_clauses.requires tt)
  drop_free = id⊢ W.𝓤 _

module _ (W : LogicModel) (lives : Lfts 3) (session : MutBor SessionStruct) (memory : MutBor (List ℕ)) (first count : ℕ) (map : MutBor (List ℕ)) where
  abbrev pub harvest_clauses : ClausesAt W.𝓤 Harvest.ended lives
  harvest_clauses = Harvest.clauses W.𝓛 W.𝓜.mem W.𝓡.run lives (session, (memory, (first, (count, (map, tt)))))

  pub harvest_tells : (session' : SessionStruct) (memory' map' : List ℕ) (x : Checked)
      → ent W.𝓤 (harvest_clauses.ensures tt x (at_last session session', (at_last memory memory', (first, (count, (at_last map map', tt)))))) (fact W.𝓤 (HarvestSays session.now memory.now first count map.now session' memory' map' x))
  harvest_tells session' memory' map' x = id⊢ W.𝓤 _

  pub harvest_free : ent W.𝓤 (emp W.𝓤) (harvest_clauses.requires tt)
  harvest_free = id⊢ W.𝓤 _

-- ---- and that is one result, each part of it: no two results meet a contract

module _ (s : SessionStruct) (m : List ℕ) (s' t' : SessionStruct) (m' n' : List ℕ) where
  checked_one : (x y : Checked) → handed s' m' (reply_to x) ≡ handed t' n' (reply_to y) → (s' ≡ t') × (m' ≡ n') × (x ≡ y)
  checked_one x y e =
      (ap (λ (t : Handed SessionStruct Reply). t.session) e, ap (λ (t : Handed SessionStruct Reply). t.memory) e, reply_one x y (ap (λ (t : Handed SessionStruct Reply). t.reply) e))

  pub set_one : (r : Regime) (x y : Checked) → SetSays s m r s' m' x → SetSays s m r t' n' y → (s' ≡ t') × (m' ≡ n') × (x ≡ y)
  set_one r x y h k = checked_one x y (h ∙ sym k)

  pub store_one : (address : PhysAddr) (value : ℕ) (x y : Checked) → StoreSays s m address value s' m' x → StoreSays s m address value t' n' y → (s' ≡ t') × (m' ≡ n') × (x ≡ y)
  store_one address value x y h k = checked_one x y (h ∙ sym k)

  pub access_one : (a : Access) (x y : Answer) → AccessSays s m a s' m' x → AccessSays s m a t' n' y → (s' ≡ t') × (m' ≡ n') × (x ≡ y)
  access_one a x y h k =
      let e = h ∙ sym k in
      let low : AnAnswer (reply_of (view x)) = subst⁻¹ AnAnswer (ap (λ (t : Handed SessionStruct Reply). t.reply) h) (access_answer (session_view s) m a) in (
        ap (λ (t : Handed SessionStruct Reply). t.session) e,
        ap (λ (t : Handed SessionStruct Reply). t.memory) e,
        reply_settles x y low (ap (λ (t : Handed SessionStruct Reply). t.reply) e),
      )

  pub harvest_one : (first count : ℕ) (map map' others : List ℕ) (x y : Checked) → HarvestSays s m first count map s' m' map' x → HarvestSays s m first count map t' n' others y
      → (s' ≡ t') × (m' ≡ n') × (map' ≡ others) × (x ≡ y)
  harvest_one first count map map' others x y h k =
      let e = h ∙ sym k in (
        ap (λ (t : SessionStruct × Harvested Checked). t.0) e,
        ap (λ (t : SessionStruct × Harvested Checked). t.1.memory) e,
        ap (λ (t : SessionStruct × Harvested Checked). t.1.map) e,
        ap (λ (t : SessionStruct × Harvested Checked). t.1.reply) e,
      )
