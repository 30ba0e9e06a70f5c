-- What the C functions of a walk a descriptor at a time (RULES 15.10 and 16), but for the offer of a value, tell whoever called them: of what their pointers named
-- before the call, what they name after it, and what was returned. proofs/Promises.antt has that each function's own contract says this.
use Rattle.std.specs.Prelude.{ℕ, ◌≡◌, None}
use Rattle.vmsa.specs.declared.RegimeWords.{RegimeWords}
use Rattle.words.specs.declared.AccessWords.{AccessWords}
use Rattle.step_words.specs.declared.StepwiseWords.{StepwiseWords}
use Rattle.step_words.specs.Words.{start_words, offer_gives, offer_words}

-- vmsa_stepwise_start(&g, &a, &..) left w
abbrev pub StartSays : RegimeWords → AccessWords → StepwiseWords → Type 0
StartSays g a w = w ≡ start_words g a

-- vmsa_stepwise_unreachable(&w) returned n, and left w'
abbrev pub UnreachableSays : StepwiseWords → StepwiseWords → ℕ → Type 0
UnreachableSays w w' n = offer_gives n w' ≡ offer_words w None
