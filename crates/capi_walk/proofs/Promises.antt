-- What vmsa_walk promises, from its own contract: `walk_tells`, that its ensures clause says what specs/Says.antt has, at every model of the
-- logic; `walk_free`, that its requires clause asks nothing. A contract that says less breaks a law here.
use Prim.Native.Nat.{ℕ}
use mathlib.Core.List.{List}
use base.Logic.{ent, emp, id⊢}
use contract.Lifetimes.{Lfts}
use contract.Monad.{fact}
use denote.Ref.{Bor, MutBor, at_last}
use denote.Triple.Clauses.{ClausesAt}
use borrow.Fn.World.{World as LogicModel}
use Rattle.vmsa.specs.declared.RegimeWords.{RegimeWords}
use Rattle.words.specs.declared.AccessWords.{AccessWords}
use Rattle.words.specs.declared.AnswerWords.{AnswerWords}
use Rattle.capi_walk.specs.Says.{WalkSays}
use Rattle.capi_walk.specs.contracts.vmsa_walk as Walk

module _ (W : LogicModel) (lives : Lfts 4) (memory : MutBor (List ℕ)) (regime : Bor RegimeWords) (a : Bor AccessWords) (answer : MutBor AnswerWords) where
  abbrev pub walk_clauses : ClausesAt W.𝓤 Walk.ended lives
  walk_clauses = Walk.clauses W.𝓛 W.𝓜.mem W.𝓡.run lives (memory, (regime, (a, (answer, tt))))

  pub walk_tells : (memory' : List ℕ) (w : AnswerWords)
      → ent W.𝓤 (walk_clauses.ensures tt tt (at_last memory memory', (regime, (a, (at_last answer w, tt))))) (fact W.𝓤 (WalkSays memory.now regime.now a.now memory' w))
  walk_tells memory' w = id⊢ W.𝓤 _

  pub walk_free : ent W.𝓤 (emp W.𝓤) (walk_clauses.requires tt)
  walk_free = id⊢ W.𝓤 _
