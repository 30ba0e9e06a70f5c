-- What each C function of a harvest promises, from its own contract: `.._tells`, that its ensures clause says what specs/Says.antt has, at every model of
-- the logic; `.._free`, that its requires clause asks nothing. A contract that says less breaks a law here.
use Prim.Native.Nat.{ℕ}
use mathlib.Core.List.{List}
use base.Logic.{ent, emp, id⊢}
use contract.Lifetimes.{Lfts}
use contract.Monad.{fact}
use denote.Ref.{Bor, MutBor, at_last}
use denote.Triple.Clauses.{ClausesAt}
use borrow.Fn.World.{World as LogicModel}
use Rattle.vmsa.specs.declared.RegimeWords.{RegimeWords}
use Rattle.session.specs.declared.Session.{Session as SessionStruct}
use Rattle.capi_harvest.specs.Says.{HarvestSays, SessionHarvestSays}
use Rattle.capi_harvest.specs.contracts.vmsa_harvest as Harvest
use Rattle.capi_harvest.specs.contracts.vmsa_session_harvest as SessionHarvest

module _ (W : LogicModel) (lives : Lfts 3) (memory : MutBor (List ℕ)) (regime : Bor RegimeWords) (first count : ℕ) (map : MutBor (List ℕ)) where
  abbrev pub harvest_clauses : ClausesAt W.𝓤 Harvest.ended lives
  harvest_clauses = Harvest.clauses W.𝓛 W.𝓜.mem W.𝓡.run lives (memory, (regime, (first, (count, (map, tt)))))

  pub harvest_tells : (memory' map' : List ℕ) (n : ℕ)
      → ent W.𝓤 (harvest_clauses.ensures tt n (at_last memory memory', (regime, (first, (count, (at_last map map', tt)))))) (fact W.𝓤 (HarvestSays memory.now regime.now first count map.now memory' map' n))
  harvest_tells memory' map' n = id⊢ W.𝓤 _

  pub harvest_free : ent W.𝓤 (emp W.𝓤) (harvest_clauses.requires tt)
  harvest_free = id⊢ W.𝓤 _

module _ (W : LogicModel) (lives : Lfts 3) (session : MutBor SessionStruct) (memory : MutBor (List ℕ)) (first count : ℕ) (map : MutBor (List ℕ)) where
  abbrev pub session_harvest_clauses : ClausesAt W.𝓤 SessionHarvest.ended lives
  session_harvest_clauses = SessionHarvest.clauses W.𝓛 W.𝓜.mem W.𝓡.run lives (session, (memory, (first, (count, (map, tt)))))

  pub session_harvest_tells : (session' : SessionStruct) (memory' map' : List ℕ) (n : ℕ)
      → ent W.𝓤 (session_harvest_clauses.ensures tt n (at_last session session', (at_last memory memory', (first, (count, (at_last map map', tt))))))
      (fact W.𝓤 (SessionHarvestSays session.now memory.now first count map.now session' memory' map' n))
  session_harvest_tells session' memory' map' n = id⊢ W.𝓤 _

  pub session_harvest_free : ent W.𝓤 (emp W.𝓤) (session_harvest_clauses.requires tt)
  session_harvest_free = id⊢ W.𝓤 _
