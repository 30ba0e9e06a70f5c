-- What vmsa_stepwise_start and vmsa_stepwise_unreachable promise, from their own contracts: `.._tells`, that the ensures clause says what specs/Says.antt has,
-- at every model of the logic; `.._free`, that the requires clause asks nothing. A contract that says less breaks a law here.
use Prim.Native.Nat.{ℕ}
use base.Logic.{ent, emp, id⊢}
use contract.Lifetimes.{Lfts}
use contract.Monad.{fact}
use denote.Ref.{Bor, MutBor, at_last}
use denote.Triple.Clauses.{ClausesAt}
use borrow.Fn.World.{World as LogicModel}
use Rattle.vmsa.specs.declared.RegimeWords.{RegimeWords}
use Rattle.words.specs.declared.AccessWords.{AccessWords}
use Rattle.step_words.specs.declared.StepwiseWords.{StepwiseWords}
use Rattle.capi_stepwise.specs.Says.{StartSays, UnreachableSays}
use Rattle.capi_stepwise.specs.contracts.vmsa_stepwise_start as Start
use Rattle.capi_stepwise.specs.contracts.vmsa_stepwise_unreachable as Unreachable

module _ (W : LogicModel) (lives : Lfts 3) (regime : Bor RegimeWords) (a : Bor AccessWords) (walk : MutBor StepwiseWords) where
  abbrev pub start_clauses : ClausesAt W.𝓤 Start.ended lives
  start_clauses = Start.clauses W.𝓛 W.𝓜.mem W.𝓡.run lives (regime, (a, (walk, tt)))

  pub start_tells : (walk' : StepwiseWords) → ent W.𝓤 (start_clauses.ensures tt tt (regime, (a, (at_last walk walk', tt)))) (fact W.𝓤 (StartSays regime.now a.now walk'))
  start_tells walk' = id⊢ W.𝓤 _

  pub start_free : ent W.𝓤 (emp W.𝓤) (start_clauses.requires tt)
  start_free = id⊢ W.𝓤 _

module _ (W : LogicModel) (lives : Lfts 1) (walk : MutBor StepwiseWords) where
  abbrev pub unreachable_clauses : ClausesAt W.𝓤 Unreachable.ended lives
  unreachable_clauses = Unreachable.clauses W.𝓛 W.𝓜.mem W.𝓡.run lives (walk, tt)

  pub unreachable_tells : (walk' : StepwiseWords) (n : ℕ) → ent W.𝓤 (unreachable_clauses.ensures tt n (at_last walk walk', tt)) (fact W.𝓤 (UnreachableSays walk.now walk' n))
  unreachable_tells walk' n = id⊢ W.𝓤 _

  pub unreachable_free : ent W.𝓤 (emp W.𝓤) (unreachable_clauses.requires tt)
  unreachable_free = id⊢ W.𝓤 _
