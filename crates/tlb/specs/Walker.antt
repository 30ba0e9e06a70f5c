-- A TLB entry (the customer's papers: a "place"), and what it and the walk answer an access (RULES 10.2 and 10.3), over any walker.
use Rattle.std.specs.Prelude.{ℕ, ◌+◌, ◌%◌, false, List, ◌++◌, length, take, drop, eqb, Option, None, Some, Ok, Err}
use Rattle.descriptor.specs.Bits.{pick}
use Rattle.vmsa.specs.Answers.{Result, fault, number_of, cacheable_in, dirtied_in}
use Rattle.vmsa.specs.declared.Regime.{Regime}
use Rattle.vmsa.specs.declared.Access.{Access}
use Rattle.vmsa.specs.declared.Leaf.{Leaf}
use Rattle.vmsa.specs.declared.Refusal.TheVariants.{NoRegime}
use Rattle.checks.specs.Order.{Checked}
use Rattle.checks.specs.Order.{and_then}
use Rattle.walk.specs.Walk.{Outcome, revalued}
use Rattle.harvest.specs.Harvest.{Harvested}
use Rattle.tlb.specs.Replies.{Reply, refused, answered, updates}

-- how steps 1 to 5 end: a fault's code and level, or the offset of a leaf's descriptor in the memory and the leaf; then the count of reads
pub data Spot : Type 0 where
  lost : (code level reads : ℕ) → Spot
  found : (at : ℕ) (leaf : Leaf) (reads : ℕ) → Spot

-- ---- the walker that a session stands on

pub record Walker : Type 0 where
  -- the checks: row 1 over n bytes of memory; the other rows of a regime; those of an access under a regime; that of a store
  pub memory_check : Regime → ℕ → Checked
  pub setting_check : Regime → Checked
  pub access_check : Regime → Access → Checked
  pub store_check : Regime → ℕ → Checked
  -- where a physical address lies in the memory, and the bytes of a descriptor in the byte order of the regime
  pub offset : Regime → ℕ → ℕ
  pub word : Regime → ℕ → List ℕ
  -- the page of an access: its address bits from the granule's page bits up
  pub page : Regime → Access → ℕ
  -- the plain walk of rule 2
  pub plain : Regime → Access → List ℕ → Outcome
  -- its parts: steps 1 to 5 of a page; steps 6 to 8 of a leaf, counting no reads; a leaf's value after an answer's updates
  pub locate : Regime → List ℕ → ℕ → Spot
  pub judge : Regime → Leaf → Access → Result
  pub stamp : Result → ℕ → ℕ
  -- the plain harvest of so many pages from a first one on, over a memory and a map
  pub harvest : Regime → ℕ → ℕ → List ℕ → List ℕ → Harvested Checked

-- refusal 9: a session has no regime yet
abbrev pub no_regime : ℕ
no_regime = number_of NoRegime

-- ---- TLB entries

pub data Entry : Type 0 where
  empty : Entry
  holds : (page : ℕ) (leaf : Leaf) → Entry

-- 64 entries; a page's entry is its number mod 64
abbrev pub entry_count : ℕ
entry_count = 64

abbrev pub entry_of : ℕ → ℕ
entry_of page = page % entry_count

-- the leaf that an entry holds of a page
abbrev pub held_in : Entry → ℕ → Option Leaf
held_in empty page = None
held_in (holds q leaf) page = pick (eqb q page) (Some leaf) None

-- what an access gives: its reply, the memory afterwards, and the leaf that then fills its page's entry
pub record Walked : Type 0 where
  pub reply : Reply
  pub memory : List ℕ
  pub kept : Option Leaf

-- a refusal carries its number alone and changes nothing
abbrev pub declined : List ℕ → ℕ → Walked
declined m n = record { reply = refused n; memory = m; kept = None }

module _ (W : Walker) where
  open W use {memory_check, access_check, word, page, locate, judge, stamp}

  -- the memory with a descriptor written at an offset
  unfoldable pub put_word : Regime → List ℕ → ℕ → ℕ → List ℕ
  put_word R m at v = take at m ++ word R v ++ drop (at + length (word R v)) m

  -- ---- the walk past the checks

  abbrev pub landed : Regime → List ℕ → ℕ → Leaf → ℕ → Result → Walked
  landed R m at u n o =
      record {
        reply = answered o n;
        memory = pick (updates o) (put_word R m at (stamp o u.value)) m;
        kept = pick (cacheable_in o) (Some (revalued u (stamp o u.value))) None;
      }

  abbrev pub walk_from : Regime → List ℕ → Access → Spot → Walked
  walk_from R m a (lost code level n) =
      record { reply = answered (fault (record { code = code; level = level; cacheable = false; reads = 0 })) n; memory = m; kept = None }
  walk_from R m a (found at u n) = landed R m at u n (judge R u a)

  abbrev pub walked : Regime → List ℕ → Access → Walked
  walked R m a = walk_from R m a (locate R m (page R a))

  -- ---- an access: past its checks the held leaf answers with 0 reads, or else the walk

  -- what a held leaf answers, unless a write or update would make it dirty: that walks again
  abbrev pub recall : Regime → List ℕ → Access → Result → Walked
  recall R m a o = pick (dirtied_in o) (walked R m a) (record { reply = answered o 0; memory = m; kept = None })

  abbrev pub access_held : Regime → List ℕ → Access → Option Leaf → Walked
  access_held R m a None = walked R m a
  access_held R m a (Some h) = recall R m a (judge R h a)

  abbrev pub access_by : Regime → List ℕ → Access → Option Leaf → Checked → Walked
  access_by R m a h (Ok _) = access_held R m a h
  access_by R m a h (Err x) = declined m (number_of x)

  -- under a regime, by the leaf held of its page
  abbrev pub access_under : Regime → List ℕ → Access → Option Leaf → Walked
  access_under R m a h = access_by R m a h (and_then (memory_check R (length m)) (access_check R a))

  -- under the regime of a session, if it has one, by its page's entry
  abbrev pub access_in : Option Regime → List ℕ → Access → Entry → Walked
  access_in None m a e = declined m no_regime
  access_in (Some R) m a e = access_under R m a (held_in e (page R a))
