-- What vmsa_stepwise_value (RULES 15.10 and 16) tells whoever called it: of the walk before the call, the walk after it, and what was returned.
-- proofs/Promises.antt has that the function's own contract says this.
use Rattle.std.specs.Prelude.{ℕ, ◌≡◌, Some}
use Rattle.step_words.specs.declared.StepwiseWords.{StepwiseWords}
use Rattle.step_words.specs.Words.{offer_gives, offer_words}

-- vmsa_stepwise_value(&w, v) returned n, and left w'
abbrev pub ValueSays : StepwiseWords → ℕ → StepwiseWords → ℕ → Type 0
ValueSays w v w' n = offer_gives n w' ≡ offer_words w (Some v)
