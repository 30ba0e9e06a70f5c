-- An entry of the code (RULES 10.2 and 10.5) in the walker's values, and what an access leaves of it (RULES 10.3).
use Rattle.std.specs.Prelude.{option_map, ℕ, ◌&&◌, List, leb, Option, None, Some, Ok, Err}
use Rattle.descriptor.specs.Bits.{pick}
use Rattle.vmsa.specs.Granules.{page_bits_of}
use Rattle.geometry.specs.Geometry.{page_of}
use Rattle.vmsa.specs.Words.{flag, regime_of}
use Rattle.vmsa.specs.Answers.{number_of, view, dirtied_in}
use Rattle.vmsa.specs.declared.RegimeWords.{RegimeWords}
use Rattle.vmsa.specs.declared.Regime.{Regime}
use Rattle.vmsa.specs.declared.Access.{Access}
use Rattle.vmsa.specs.declared.Answer.{Answer}
use Rattle.vmsa.specs.declared.Leaf.{Leaf}
use Rattle.checks.specs.Order.{Checked}
use Rattle.checks.specs.Order.{session_access_check}
use Rattle.decision.specs.Decision.{hit_kind}
use Rattle.decision.specs.declared.HitKind.{HitKind}
use Rattle.decision.specs.declared.HitKind.TheVariants as hits
use Rattle.walk.specs.declared.Walked.{Walked as WalkedStruct}
use Rattle.tlb.specs.declared.Entry.{Entry as EntryStruct}
use Rattle.tlb.specs.Replies.{Reply, refused, answered, reply_of}
use Rattle.tlb.specs.Walker.{Walker, no_regime, Entry, empty, holds, entry_of, held_in, Walked, access_in}
use Rattle.tlb.specs.Ours.{ours}

-- an entry that is not held, or whose leaf stands at none of levels 0 to 3, is empty
abbrev pub entry_view : EntryStruct → Entry
entry_view e = pick (flag e.held && leb e.left 3) (holds e.page (record { value = e.value; left = e.left; tables = e.tables })) empty

-- the empty entry, and one that holds a leaf of a page; spare numbers are 0
abbrev pub no_entry : EntryStruct
no_entry = record { page = 0; value = 0; left = 0; held = 0; tables = 0; spare8 = 0; spare32 = 0 }

abbrev pub full_entry : ℕ → Leaf → EntryStruct
full_entry page leaf = record { page = page; value = leaf.value; left = leaf.left; held = 1; tables = leaf.tables; spare8 = 0; spare32 = 0 }

-- a session's regime, where it is set
abbrev pub regime_in : RegimeWords → ℕ → Option Regime
regime_in regime set = pick (flag set) (Some (regime_of regime)) None

-- the page of an access under a regime, and the number of its entry
abbrev pub page_for : Regime → Access → ℕ
page_for r a = page_of (page_bits_of r) a.address.0

abbrev pub entry_for : Regime → Access → ℕ
entry_for r a = entry_of (page_for r a)

-- a walk of the code, in the walker's values
abbrev pub walked_view : WalkedStruct → List ℕ → Walked
walked_view w memory = record { reply = reply_of (view w.answer); memory = memory; kept = w.kept }

-- ---- what an access leaves of its page's entry

-- the entry with a leaf that may be remembered of a page
abbrev pub kept_entry : EntryStruct → ℕ → Option Leaf → EntryStruct
kept_entry e page None = e
kept_entry e page (Some leaf) = full_entry page leaf

-- the entry, the memory, and the reply in whatever form A
pub record Filling (A : Type 0) : Type 0 where
  pub entry : EntryStruct
  pub memory : List ℕ
  pub reply : A

abbrev pub filling : {A : Type 0} → EntryStruct → List ℕ → A → Filling A
filling e m reply = record { entry = e; memory = m; reply = reply }

abbrev pub filled_by : EntryStruct → Regime → Access → Walked → Filling Reply
filled_by e r a w = filling (kept_entry e (page_for r a) w.kept) w.memory w.reply

-- under the regime of a session, if it has one
abbrev pub accessed_entry : Option Regime → EntryStruct → List ℕ → Access → Filling Reply
accessed_entry None e m a = filling e m (refused no_regime)
accessed_entry (Some r) e m a = filled_by e r a (access_in ours (Some r) m a (entry_view e))

-- ---- what an entry answers by itself

-- nothing where it holds another page, or where the page would become dirty; that walks
abbrev pub answer_of : Walker → Regime → Access → Option Leaf → Option Reply
answer_of W r a None = None
answer_of W r a (Some h) = pick (dirtied_in (W.judge r h a)) None (Some (answered (W.judge r h a) 0))

abbrev pub entry_answer : Walker → Regime → Access → Entry → Option Reply
entry_answer W r a e = answer_of W r a (held_in e (W.page r a))

-- an answer of the code, where an entry gives one, as a reply
abbrev pub asked_reply : Option Answer → Option Reply
asked_reply x = option_map (λ (y : Answer). reply_of (view y)) x

-- over n bytes of memory: what a session says at once, a refusal or what the entry answers; nothing where the access walks
abbrev pub checked_reply : Checked → Option Reply → Option Reply
checked_reply (Ok _) x = x
checked_reply (Err why) x = Some (refused (number_of why))

abbrev pub entry_reply : ℕ → Access → Entry → Option Regime → Option Reply
entry_reply n a e None = Some (refused no_regime)
entry_reply n a e (Some r) = checked_reply (session_access_check n r a) (entry_answer ours r a e)

-- how an entry answers: as steps 6 to 8 do on the leaf that it holds of the page; one of another page misses
abbrev pub kind_of : Regime → Access → Option Leaf → HitKind
kind_of r a None = hits.Miss
kind_of r a (Some h) = hit_kind r a h

abbrev pub entry_kind : Regime → Access → Entry → HitKind
entry_kind r a e = kind_of r a (held_in e (ours.page r a))

-- the leaf in an entry
abbrev pub leaf_in : EntryStruct → Leaf
leaf_in e = record { value = e.value; left = e.left; tables = e.tables }
