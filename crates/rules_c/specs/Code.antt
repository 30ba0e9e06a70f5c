-- Rules 1 and 3 (RULES 13) of the C functions of a session: each call by what its own contract tells (capi_session and capi_harvest, specs/Says.antt), read as a call and a reply.
use Rattle.std.specs.Prelude.{ℕ, List, ◌≡◌}
use Rattle.vmsa.specs.Words.{regime_of}
use Rattle.vmsa.specs.declared.RegimeWords.{RegimeWords}
use Rattle.tlb.specs.Replies.{Reply, done}
use Rattle.session.specs.declared.Session.{Session as SessionStruct}
use Rattle.session.specs.Model.{Handed, handed, Call, set_regime, access, store, drop_all, harvest}
use Rattle.session.specs.View.{regime_held}
use Rattle.words.specs.declared.AccessWords.{AccessWords}
use Rattle.words.specs.declared.AnswerWords.{AnswerWords}
use Rattle.words.specs.Words.{access_of}
use Rattle.capi_session.specs.Says.{EmptySays, SetSays, AccessSays, StoreSays, DropSays}
use Rattle.capi_harvest.specs.Says.{SessionHarvestSays}
use Rattle.calls.specs.Chains.{Event, Chain}
use Rattle.calls.specs.Rule1.{Rule1Call, Rule1List}
use Rattle.rule3.specs.Code.{Rule3From}
use Rattle.rules_c.specs.Readings.{answer_reply, number_reply, harvest_read}

pub data MadeC : SessionStruct → List ℕ → Call → Handed SessionStruct Reply → Type 0 where
  regime_set : (s : SessionStruct) (m : List ℕ) (g : RegimeWords) (s' : SessionStruct) (m' : List ℕ) (n : ℕ) → SetSays s m g s' m' n
      → MadeC s m (set_regime (regime_of g)) (handed s' m' (number_reply n))
  accessed : (s : SessionStruct) (m : List ℕ) (a : AccessWords) (s' : SessionStruct) (m' : List ℕ) (w : AnswerWords) → AccessSays s m a s' m' w
      → MadeC s m (access (access_of a)) (handed s' m' (answer_reply w))
  stored : (s : SessionStruct) (m : List ℕ) (address value : ℕ) (s' : SessionStruct) (m' : List ℕ) (n : ℕ) → StoreSays s m address value s' m' n
      → MadeC s m (store address value) (handed s' m' (number_reply n))
  dropped_all : (s s' : SessionStruct) (m : List ℕ) → DropSays s s' → MadeC s m drop_all (handed s' m done)
  harvested_pages : (s : SessionStruct) (m : List ℕ) (first count : ℕ) (map : List ℕ) (s' : SessionStruct) (m' map' : List ℕ) (n : ℕ) → SessionHarvestSays s m first count map s' m' map' n
      → MadeC s m (harvest first count map) (handed s' m' (harvest_read n map'))

-- ---- rule 1 of these functions: any call, in any session and over any memory; and every list of calls

abbrev pub Rule1OfCallC : Type 1
Rule1OfCallC = (s : SessionStruct) (m : List ℕ) (c : Call) (x : Handed SessionStruct Reply) → MadeC s m c x → Rule1Call regime_held MadeC s m c x

abbrev pub Rule1OfC : Type 1
Rule1OfC = (s₀ : SessionStruct) (m₀ : List ℕ) (s : SessionStruct) (m : List ℕ) (past : List Event) → Chain MadeC s₀ m₀ s m past → Rule1List regime_held MadeC s₀ m₀ s m past

-- ---- rule 3: every list of calls, from the session that vmsa_session_empty left

abbrev pub Rule3OfC : Type 0
Rule3OfC = (s₀ : SessionStruct) → EmptySays s₀ → Rule3From MadeC s₀

-- ---- a harvest that is refused leaves its map as it was

abbrev pub MapKeptOfC : Type 0
MapKeptOfC = (s : SessionStruct) (m : List ℕ) (first count : ℕ) (map : List ℕ) (s' : SessionStruct) (m' map' : List ℕ) (n : ℕ) → SessionHarvestSays s m first count map s' m' map' n
    → (n ≡ 0 → ⊥) → map' ≡ map
