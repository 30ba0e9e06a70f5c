-- What vmsa_walk (RULES 6 and 15) tells whoever called it: of what its pointers named before the call, and what they name after it (with a dash, or w).
-- proofs/Promises.antt has that the function's own contract says this.
use Rattle.std.specs.Prelude.{ℕ, List, ◌≡◌}
use Rattle.vmsa.specs.Words.{regime_of}
use Rattle.vmsa.specs.declared.RegimeWords.{RegimeWords}
use Rattle.tlb.specs.Replies.{told}
use Rattle.words.specs.declared.AccessWords.{AccessWords}
use Rattle.words.specs.declared.AnswerWords.{AnswerWords}
use Rattle.words.specs.Words.{access_of, walk_words}

-- vmsa_walk(m, .., &g, &a, &..) left m', and wrote the answer w
abbrev pub WalkSays : List ℕ → RegimeWords → AccessWords → List ℕ → AnswerWords → Type 0
WalkSays m g a m' w = told w m' ≡ walk_words (regime_of g) (access_of a) m
