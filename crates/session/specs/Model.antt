-- The session (RULES 10): its five calls as functions on a session and a memory, over any walker.
use Rattle.std.specs.Prelude.{ℕ, List, length, get_or, set, replicate, Option, None, Some, Ok, Err}
use Rattle.vmsa.specs.Answers.{number_of}
use Rattle.vmsa.specs.declared.Regime.{Regime}
use Rattle.vmsa.specs.declared.Access.{Access}
use Rattle.vmsa.specs.declared.Leaf.{Leaf}
use Rattle.checks.specs.Order.{Checked}
use Rattle.tlb.specs.Replies.{Reply, done, refused, Told, told, harvest_reply}
use Rattle.checks.specs.Order.{and_then}
use Rattle.vmsa.specs.declared.Refusal.TheVariants.{NoRegime}
use Rattle.harvest.specs.Harvest.{Harvested, harvested}
use Rattle.tlb.specs.Walker.{Walker, no_regime, Entry, empty, holds, entry_count, entry_of, held_in, Walked, put_word, access_under}

-- 64 empty entries
abbrev pub no_entries : List Entry
no_entries = replicate entry_count empty

-- the leaf held of a page
abbrev pub held : List Entry → ℕ → Option Leaf
held entries page = held_in (get_or entries (entry_of page) empty) page

-- a leaf that may be remembered fills its page's entry
abbrev pub keep : List Entry → ℕ → Option Leaf → List Entry
keep entries page None = entries
keep entries page (Some leaf) = set entries (entry_of page) (holds page leaf)

-- a session: the regime last accepted, and the entries. A fresh session has neither
pub record Session : Type 0 where
  pub regime : Option Regime
  pub entries : List Entry

abbrev pub fresh : Session
fresh = record { regime = None; entries = no_entries }

-- what a call leaves: the session, in whatever form S; the memory; and what it hands back
pub record Handed (S A : Type 0) : Type 0 where
  pub session : S
  pub memory : List ℕ
  pub reply : A

abbrev pub handed : {S A : Type 0} → S → List ℕ → A → Handed S A
handed s m reply = record { session = s; memory = m; reply = reply }

abbrev pub Stepped : Type 0
Stepped = Handed Session Reply

-- a call that leaves the session as it was
abbrev pub stay : Session → Told Reply → Stepped
stay s t = handed s t.memory t.reply

-- a refusal carries its number alone and changes nothing
abbrev pub refusal : List ℕ → ℕ → Told Reply
refusal m n = told (refused n) m

pub data Call : Type 0 where
  set_regime : Regime → Call
  access : Access → Call
  store : (address value : ℕ) → Call
  drop_all : Call
  harvest : (first count : ℕ) (map : List ℕ) → Call

module _ (W : Walker) where
  open W use {memory_check, setting_check, store_check, offset, page}

  -- ---- set regime: accepted, it empties every entry

  abbrev pub set_by : Session → List ℕ → Regime → Checked → Stepped
  set_by s m R (Ok _) = handed (record { regime = Some R; entries = no_entries }) m done
  set_by s m R (Err x) = stay s (refusal m (number_of x))

  abbrev pub set_call : Session → List ℕ → Regime → Stepped
  set_call s m R = set_by s m R (and_then (memory_check R (length m)) (setting_check R))

  -- ---- access: its page's entry answers, or the walk, whose leaf is kept where it may be remembered

  abbrev pub learn : Session → ℕ → Walked → Stepped
  learn s p w = handed (record { regime = s.regime; entries = keep s.entries p w.kept }) w.memory w.reply

  abbrev pub access_with : Session → List ℕ → Access → Option Regime → Stepped
  access_with s m a None = stay s (refusal m no_regime)
  access_with s m a (Some R) = learn s (page R a) (access_under W R m a (held s.entries (page R a)))

  abbrev pub access_call : Session → List ℕ → Access → Stepped
  access_call s m a = access_with s m a s.regime

  -- ---- store: accepted, the value given stands in its 8 bytes of the pool, in the byte order of the regime

  abbrev pub store_by : Regime → List ℕ → ℕ → ℕ → Checked → Told Reply
  store_by R m address value (Ok _) = told done (put_word W R m (offset R address) value)
  store_by R m address value (Err x) = refusal m (number_of x)

  abbrev pub store_in : Option Regime → List ℕ → ℕ → ℕ → Told Reply
  store_in None m address value = refusal m no_regime
  store_in (Some R) m address value = store_by R m address value (and_then (memory_check R (length m)) (store_check R address))

  abbrev pub store_call : Session → List ℕ → ℕ → ℕ → Stepped
  store_call s m address value = stay s (store_in s.regime m address value)

  -- ---- drop all: it empties every entry, and is never refused

  abbrev pub drop_call : Session → List ℕ → Stepped
  drop_call s m = handed (record { regime = s.regime; entries = no_entries }) m done

  -- ---- harvest: the plain harvest under the session's regime; accepted, it empties every entry

  abbrev pub harvest_in : Option Regime → ℕ → ℕ → List ℕ → List ℕ → Harvested Checked
  harvest_in None first count m map = harvested (Err NoRegime) m map
  harvest_in (Some R) first count m map = W.harvest R first count m map

  abbrev pub emptied_by : Session → Checked → Session
  emptied_by s (Ok _) = record { regime = s.regime; entries = no_entries }
  emptied_by s (Err x) = s

  abbrev pub harvest_to : Session → Harvested Checked → Stepped
  harvest_to s h = handed (emptied_by s h.reply) h.memory (harvest_reply h.reply h.map)

  abbrev pub harvest_call : Session → List ℕ → ℕ → ℕ → List ℕ → Stepped
  harvest_call s m first count map = harvest_to s (harvest_in s.regime first count m map)

  abbrev pub call : Session → List ℕ → Call → Stepped
  call s m (set_regime R) = set_call s m R
  call s m (access a) = access_call s m a
  call s m (store address value) = store_call s m address value
  call s m drop_all = drop_call s m
  call s m (harvest first count map) = harvest_call s m first count map
