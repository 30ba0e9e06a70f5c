-- What vmsa_stepwise_value promises, from its own contract: `value_tells`, that its ensures clause says what specs/Says.antt has, at every model of the
-- logic; `value_free`, that its requires clause asks nothing. A contract that says less breaks a law here.
use Prim.Native.Nat.{ℕ}
use base.Logic.{ent, emp, id⊢}
use contract.Lifetimes.{Lfts}
use contract.Monad.{fact}
use denote.Ref.{MutBor, at_last}
use denote.Triple.Clauses.{ClausesAt}
use borrow.Fn.World.{World as LogicModel}
use Rattle.step_words.specs.declared.StepwiseWords.{StepwiseWords}
use Rattle.capi_value.specs.Says.{ValueSays}
use Rattle.capi_value.specs.contracts.vmsa_stepwise_value as Value

module _ (W : LogicModel) (lives : Lfts 1) (walk : MutBor StepwiseWords) (value : ℕ) where
  abbrev pub value_clauses : ClausesAt W.𝓤 Value.ended lives
  value_clauses = Value.clauses W.𝓛 W.𝓜.mem W.𝓡.run lives (walk, (value, tt))

  pub value_tells : (walk' : StepwiseWords) (n : ℕ) → ent W.𝓤 (value_clauses.ensures tt n (at_last walk walk', (value, tt))) (fact W.𝓤 (ValueSays walk.now value walk' n))
  value_tells walk' n = id⊢ W.𝓤 _

  pub value_free : ent W.𝓤 (emp W.𝓤) (value_clauses.requires tt)
  value_free = id⊢ W.𝓤 _
