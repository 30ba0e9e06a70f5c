-- The session of the code (RULES 10): in the model's values, and each number of it that a call leaves.
use Rattle.std.specs.Prelude.{ℕ, List, map, length, get_or, set as set_at, replicate, Option, Ok, Err}
use Rattle.vmsa.specs.Settings.{initial}
use Rattle.vmsa.specs.Words.{regime_of, regime_words}
use Rattle.vmsa.specs.declared.RegimeWords.{RegimeWords}
use Rattle.vmsa.specs.declared.Regime.{Regime}
use Rattle.vmsa.specs.declared.Access.{Access}
use Rattle.vmsa.specs.declared.Answer.{Answer}
use Rattle.checks.specs.Order.{Checked}
use Rattle.checks.specs.Order.{regime_check}
use Rattle.tlb.specs.declared.Entry.{Entry as EntryStruct}
use Rattle.tlb.specs.Replies.{Reply}
use Rattle.tlb.specs.Walker.{entry_count}
use Rattle.tlb.specs.Ours.{ours}
use Rattle.tlb.specs.Entries.{entry_view, no_entry, regime_in, entry_for, accessed_entry}
use Rattle.session.specs.declared.Session.{Session as SessionStruct}
use Rattle.session.specs.declared.HandedBack.{HandedBack}
use Rattle.harvest.specs.Harvest.{Harvested}
use Rattle.session.specs.Model.{Session, Handed, handed, Stepped, Call, set_regime, access, store, drop_all, harvest, harvest_in, call}

-- what a set regime, a store or a harvest hands back, and what an access does
abbrev pub Changed : Type 0
Changed = HandedBack Checked

abbrev pub Accessed : Type 0
Accessed = HandedBack Answer

abbrev pub session_view : SessionStruct → Session
session_view s = record { regime = regime_in s.regime s.set; entries = map entry_view s.entries }

-- the regime that a session holds
abbrev pub regime_held : SessionStruct → Option Regime
regime_held s = (session_view s).regime

-- what a call left, in the model's values
abbrev pub viewed : Handed SessionStruct Reply → Stepped
viewed x = handed (session_view x.session) x.memory x.reply

-- ---- the session that a call leaves, each number of it

abbrev pub empty_entries : List EntryStruct
empty_entries = replicate entry_count no_entry

-- a session with every entry empty; spare numbers are 0
abbrev pub bare : RegimeWords → ℕ → SessionStruct
bare regime set = record { regime = regime; entries = empty_entries; set = set; spare8 = 0; spare16 = 0; spare32 = 0 }

-- the same session with other entries
abbrev pub with_entries : SessionStruct → List EntryStruct → SessionStruct
with_entries s es = record { regime = s.regime; entries = es; set = s.set; spare8 = s.spare8; spare16 = s.spare16; spare32 = s.spare32 }

-- the fresh session: no regime, and every entry empty
abbrev pub empty_session : SessionStruct
empty_session = bare (regime_words initial) 0

-- a set regime: refused, the session given; accepted, the regime's numbers and empty entries
abbrev pub set_to : RegimeWords → SessionStruct
set_to regime = bare regime 1

abbrev pub set_after : SessionStruct → Regime → Checked → SessionStruct
set_after s r (Ok _) = set_to (regime_words r)
set_after s r (Err x) = s

-- an access: at most the entry of its page, which is counted by the granule of the session's regime, is replaced
abbrev pub number_in : SessionStruct → Access → ℕ
number_in s a = entry_for (regime_of s.regime) a

abbrev pub entry_in : SessionStruct → Access → EntryStruct
entry_in s a = get_or s.entries (number_in s a) no_entry

abbrev pub with_entry : SessionStruct → ℕ → EntryStruct → SessionStruct
with_entry s i e = with_entries s (set_at s.entries i e)

abbrev pub accessed_session : SessionStruct → List ℕ → Access → SessionStruct
accessed_session s m a = with_entry s (number_in s a) (accessed_entry (regime_held s) (entry_in s a) m a).entry

-- a drop all: every entry is the empty one
abbrev pub emptied : SessionStruct → SessionStruct
emptied s = with_entries s empty_entries

-- a harvest: accepted, every entry is the empty one; refused, the session given
abbrev pub emptied_after : SessionStruct → Checked → SessionStruct
emptied_after s (Ok _) = emptied s
emptied_after s (Err x) = s

abbrev pub harvest_of : SessionStruct → ℕ → ℕ → List ℕ → List ℕ → Harvested Checked
harvest_of s first count m map = harvest_in ours (regime_held s) first count m map

abbrev pub session_after : SessionStruct → List ℕ → Call → SessionStruct
session_after s m (set_regime r) = set_after s r (regime_check (length m) r)
session_after s m (access a) = accessed_session s m a
session_after s m (store address value) = s
session_after s m drop_all = emptied s
session_after s m (harvest first count map) = emptied_after s (harvest_of s first count m map).reply

-- what a call leaves: this session, and the memory and the reply of the model
abbrev pub leaves : SessionStruct → List ℕ → Call → Handed SessionStruct Reply
leaves s m c = handed (session_after s m c) (call ours (session_view s) m c).memory (call ours (session_view s) m c).reply

-- a harvest leaves a map too, refused or not: this session, and what the plain harvest leaves
abbrev pub harvest_leaves : SessionStruct → ℕ → ℕ → List ℕ → List ℕ → SessionStruct × Harvested Checked
harvest_leaves s first count m map = (emptied_after s (harvest_of s first count m map).reply, harvest_of s first count m map)
