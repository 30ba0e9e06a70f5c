-- What each C function of a session (RULES 10 and 15) tells whoever called it: of what its pointers named before the call, what they name after it (with a
-- dash, or w for the answer), and what it returned. proofs/Promises.antt has that each function's own contract says this.
use Rattle.std.specs.Prelude.{ℕ, List, ◌≡◌}
use Rattle.vmsa.specs.Words.{regime_of}
use Rattle.vmsa.specs.declared.RegimeWords.{RegimeWords}
use Rattle.session.specs.declared.Session.{Session as SessionStruct}
use Rattle.session.specs.Model.{handed, set_regime, access, store}
use Rattle.session.specs.View.{empty_session, emptied, leaves}
use Rattle.words.specs.declared.AccessWords.{AccessWords}
use Rattle.words.specs.declared.AnswerWords.{AnswerWords}
use Rattle.words.specs.Words.{access_of, refusal_byte, reply_words, replied}

-- vmsa_session_empty(&..) left s
abbrev pub EmptySays : SessionStruct → Type 0
EmptySays s = s ≡ empty_session

-- vmsa_session_set_regime(&s, m, .., &g) returned n, and left s' and m'
abbrev pub SetSays : SessionStruct → List ℕ → RegimeWords → SessionStruct → List ℕ → ℕ → Type 0
SetSays s m g s' m' n = handed s' m' n ≡ replied refusal_byte (leaves s m (set_regime (regime_of g)))

-- vmsa_session_access(&s, m, .., &a, &..) left s' and m', and wrote the answer w
abbrev pub AccessSays : SessionStruct → List ℕ → AccessWords → SessionStruct → List ℕ → AnswerWords → Type 0
AccessSays s m a s' m' w = handed s' m' w ≡ replied reply_words (leaves s m (access (access_of a)))

-- vmsa_session_store(&s, m, .., address, value) returned n, and left s' and m'
abbrev pub StoreSays : SessionStruct → List ℕ → ℕ → ℕ → SessionStruct → List ℕ → ℕ → Type 0
StoreSays s m address value s' m' n = handed s' m' n ≡ replied refusal_byte (leaves s m (store address value))

-- vmsa_session_invalidate_all(&s) left s'
abbrev pub DropSays : SessionStruct → SessionStruct → Type 0
DropSays s s' = s' ≡ emptied s
