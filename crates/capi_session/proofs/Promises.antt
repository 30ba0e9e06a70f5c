-- What each C function of a session promises, from its own contract: `.._tells`, that its ensures clause says what specs/Says.antt has, at every model of
-- the logic; `.._free`, that its requires clause asks nothing. A contract that says less breaks a law here.
use Prim.Native.Nat.{ℕ}
use mathlib.Core.List.{List}
use base.Logic.{ent, emp, id⊢}
use contract.Lifetimes.{Lfts}
use contract.Monad.{fact}
use denote.Ref.{Bor, MutBor, at_last}
use denote.Triple.Clauses.{ClausesAt}
use borrow.Fn.World.{World as LogicModel}
use Rattle.vmsa.specs.declared.RegimeWords.{RegimeWords}
use Rattle.session.specs.declared.Session.{Session as SessionStruct}
use Rattle.words.specs.declared.AccessWords.{AccessWords}
use Rattle.words.specs.declared.AnswerWords.{AnswerWords}
use Rattle.capi_session.specs.Says.{EmptySays, SetSays, AccessSays, StoreSays, DropSays}
use Rattle.capi_session.specs.contracts.vmsa_session_empty as Empty
use Rattle.capi_session.specs.contracts.vmsa_session_set_regime as SetRegime
use Rattle.capi_session.specs.contracts.vmsa_session_access as AccessOf
use Rattle.capi_session.specs.contracts.vmsa_session_store as Store
use Rattle.capi_session.specs.contracts.vmsa_session_invalidate_all as InvalidateAll

module _ (W : LogicModel) (lives : Lfts 1) (session : MutBor SessionStruct) where
  abbrev pub empty_clauses : ClausesAt W.𝓤 Empty.ended lives
  empty_clauses = Empty.clauses W.𝓛 W.𝓜.mem W.𝓡.run lives (session, tt)

  pub empty_tells : (session' : SessionStruct)
      → ent W.𝓤 (empty_clauses.ensures tt tt (at_last session session', tt)) (fact W.𝓤 (EmptySays session'))
  empty_tells session' = id⊢ W.𝓤 _

  pub empty_free : ent W.𝓤 (emp W.𝓤) (empty_clauses.requires tt)
  empty_free = id⊢ W.𝓤 _

module _ (W : LogicModel) (lives : Lfts 3) (session : MutBor SessionStruct) (memory : Bor (List ℕ)) (regime : Bor RegimeWords) where
  abbrev pub set_clauses : ClausesAt W.𝓤 SetRegime.ended lives
  set_clauses = SetRegime.clauses W.𝓛 W.𝓜.mem W.𝓡.run lives (session, (memory, (regime, tt)))

  pub set_tells : (session' : SessionStruct) (n : ℕ)
      → ent W.𝓤 (set_clauses.ensures tt n (at_last session session', (memory, (regime, tt)))) (fact W.𝓤 (SetSays session.now memory.now regime.now session' memory.now n))
  set_tells session' n = id⊢ W.𝓤 _

  pub set_free : ent W.𝓤 (emp W.𝓤) (set_clauses.requires tt)
  set_free = id⊢ W.𝓤 _

module _ (W : LogicModel) (lives : Lfts 4) (session : MutBor SessionStruct) (memory : MutBor (List ℕ)) (a : Bor AccessWords) (answer : MutBor AnswerWords) where
  abbrev pub access_clauses : ClausesAt W.𝓤 AccessOf.ended lives
  access_clauses = AccessOf.clauses W.𝓛 W.𝓜.mem W.𝓡.run lives (session, (memory, (a, (answer, tt))))

  pub access_tells : (session' : SessionStruct) (memory' : List ℕ) (w : AnswerWords)
      → ent W.𝓤 (access_clauses.ensures tt tt (at_last session session', (at_last memory memory', (a, (at_last answer w, tt))))) (fact W.𝓤 (AccessSays session.now memory.now a.now session' memory' w))
  access_tells session' memory' w = id⊢ W.𝓤 _

  pub access_free : ent W.𝓤 (emp W.𝓤) (access_clauses.requires tt)
  access_free = id⊢ W.𝓤 _

module _ (W : LogicModel) (lives : Lfts 2) (session : MutBor SessionStruct) (memory : MutBor (List ℕ)) (address value : ℕ) where
  abbrev pub store_clauses : ClausesAt W.𝓤 Store.ended lives
  store_clauses = Store.clauses W.𝓛 W.𝓜.mem W.𝓡.run lives (session, (memory, (address, (value, tt))))

  pub store_tells : (session' : SessionStruct) (memory' : List ℕ) (n : ℕ)
      → ent W.𝓤 (store_clauses.ensures tt n (at_last session session', (at_last memory memory', (address, (value, tt))))) (fact W.𝓤 (StoreSays session.now memory.now address value session' memory' n))
  store_tells session' memory' n = id⊢ W.𝓤 _

  pub store_free : ent W.𝓤 (emp W.𝓤) (store_clauses.requires tt)
  store_free = id⊢ W.𝓤 _

module _ (W : LogicModel) (lives : Lfts 1) (session : MutBor SessionStruct) where
  abbrev pub drop_clauses : ClausesAt W.𝓤 InvalidateAll.ended lives
  drop_clauses = InvalidateAll.clauses W.𝓛 W.𝓜.mem W.𝓡.run lives (session, tt)

  pub drop_tells : (session' : SessionStruct)
      → ent W.𝓤 (drop_clauses.ensures tt tt (at_last session session', tt)) (fact W.𝓤 (DropSays session.now session'))
  drop_tells session' = id⊢ W.𝓤 _

  pub drop_free : ent W.𝓤 (emp W.𝓤) (drop_clauses.requires tt)
  drop_free = id⊢ W.𝓤 _
