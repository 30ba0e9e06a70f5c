-- Spare numbers of the C structs (RULES 15.5), and bits 7 to 4 of an entry's tables (RULES 15.8): they have no say in what is given, and are 0 in what is returned.
use Rattle.std.specs.Prelude.{ℕ, ◌%◌, List, map, ◌≡◌}
use Rattle.vmsa.specs.Fields.{sum_count}
use Rattle.vmsa.specs.Words.{regime_spare0}
use Rattle.vmsa.specs.declared.RegimeWords.{RegimeWords}
use Rattle.tlb.specs.declared.Entry.{Entry as EntryStruct}
use Rattle.tlb.specs.Replies.{Reply}
use Rattle.session.specs.declared.Session.{Session as SessionStruct}
use Rattle.session.specs.Model.{Handed, Call}
use Rattle.words.specs.declared.AccessWords.{AccessWords}
use Rattle.words.specs.declared.AnswerWords.{AnswerWords}
use Rattle.words.specs.Words.{access_spare0}
use Rattle.capi_walk.specs.Says.{WalkSays}
use Rattle.capi_session.specs.Says.{EmptySays, SetSays, AccessSays}
use Rattle.capi_harvest.specs.Says.{HarvestSays}
use Rattle.calls.specs.Chains.{Event, Chain}
use Rattle.rules_c.specs.Code.{MadeC}

-- ---- a struct with its spare numbers put to 0 (of a regime, vmsa/specs/Words has it; of an access, words/specs/Words)

abbrev pub entry_spare0 : EntryStruct → EntryStruct
entry_spare0 e = record { page = e.page; value = e.value; left = e.left; held = e.held; tables = e.tables % sum_count; spare8 = 0; spare32 = 0 }

-- those of its regime and its entries too
abbrev pub session_spare0 : SessionStruct → SessionStruct
session_spare0 s = record { regime = regime_spare0 s.regime; entries = map entry_spare0 s.entries; set = s.set; spare8 = 0; spare16 = 0; spare32 = 0 }

-- ---- calls that got structs which differ in spare numbers at most

pub record SpareOfC : Type 0 where
  -- left the same of everything
  pub walk : (m : List ℕ) (g h : RegimeWords) (a b : AccessWords) → regime_spare0 g ≡ regime_spare0 h → access_spare0 a ≡ access_spare0 b
      → (m' n' : List ℕ) (w x : AnswerWords) → WalkSays m g a m' w → WalkSays m h b n' x → (w ≡ x) × (m' ≡ n')
  pub set : (s : SessionStruct) (m : List ℕ) (g h : RegimeWords) → regime_spare0 g ≡ regime_spare0 h
      → (s' t' : SessionStruct) (m' n' : List ℕ) (k l : ℕ) → SetSays s m g s' m' k → SetSays s m h t' n' l → (s' ≡ t') × (m' ≡ n') × (k ≡ l)
  pub access : (s : SessionStruct) (m : List ℕ) (a b : AccessWords) → access_spare0 a ≡ access_spare0 b
      → (s' t' : SessionStruct) (m' n' : List ℕ) (w x : AnswerWords) → AccessSays s m a s' m' w → AccessSays s m b t' n' x → (s' ≡ t') × (m' ≡ n') × (w ≡ x)
  pub harvest : (m : List ℕ) (g h : RegimeWords) (first count : ℕ) (map : List ℕ) → regime_spare0 g ≡ regime_spare0 h
      → (m' n' map' nap' : List ℕ) (k l : ℕ) → HarvestSays m g first count map m' map' k → HarvestSays m h first count map n' nap' l → (m' ≡ n') × (map' ≡ nap') × (k ≡ l)
  -- and sessions: the same memory and reply, and sessions that differ in spare numbers at most
  pub session : (s t : SessionStruct) → session_spare0 s ≡ session_spare0 t → (m : List ℕ) (c : Call) (x y : Handed SessionStruct Reply) → MadeC s m c x → MadeC t m c y
      → (session_spare0 x.session ≡ session_spare0 y.session) × (x.memory ≡ y.memory) × (x.reply ≡ y.reply)
  -- every answer has 0 there
  pub walked : (m : List ℕ) (g : RegimeWords) (a : AccessWords) (m' : List ℕ) (w : AnswerWords) → WalkSays m g a m' w → w.spare ≡ 0
  pub accessed : (s : SessionStruct) (m : List ℕ) (a : AccessWords) (s' : SessionStruct) (m' : List ℕ) (w : AnswerWords) → AccessSays s m a s' m' w → w.spare ≡ 0
  -- and every session that a list of calls leaves, from the one that vmsa_session_empty left
  pub lists : (s₀ : SessionStruct) → EmptySays s₀ → (m₀ : List ℕ) (s : SessionStruct) (m : List ℕ) (past : List Event) → Chain MadeC s₀ m₀ s m past → s ≡ session_spare0 s
