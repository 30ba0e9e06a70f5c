-- A list of a session's calls, and the words of rule 3, from the calls and their replies alone (RULES 11).
use Rattle.std.specs.Prelude.{ℕ, Bool, true, false, ◌&&◌, List, [], ◌∷◌, leb, eqb, Option, None, Some}
use Rattle.descriptor.specs.Bits.{pick}
use Rattle.vmsa.specs.Answers.{cacheable_in}
use Rattle.vmsa.specs.declared.Regime.{Regime}
use Rattle.vmsa.specs.declared.Access.{Access}
use Rattle.tlb.specs.Replies.{Reply, done, refused, answered, harvested}
use Rattle.tlb.specs.Walker.{Walker, entry_of}
use Rattle.session.specs.Model.{Session, fresh, Stepped, Call, set_regime, access, store, drop_all, harvest, call}
use Rattle.calls.specs.Chains.{Event, event, is_done, regime_from}

-- a session and its memory after a list of calls, the last call first
pub record World : Type 0 where
  pub session : Session
  pub memory : List ℕ
  pub past : List Event

-- the fresh session over a lent memory
abbrev pub start : List ℕ → World
start m = record { session = fresh; memory = m; past = [] }

-- each call gets the session that the last one handed back and the memory as it was left
abbrev pub after : World → Call → Stepped → World
after w c x = record { session = x.session; memory = x.memory; past = event c w.memory x ∷ w.past }

abbrev pub next : Walker → World → Call → World
next W w c = after w c (call W w.session w.memory c)

unfoldable pub run : Walker → World → List Call → World
run W w [] = w
run W w (c ∷ cs) = run W (next W w c) cs

-- ---- the words of rule 3

-- the regime last accepted, since a fresh session
abbrev pub last_regime : List Event → Option Regime
last_regime past = regime_from None past

-- an emptying is an accepted set regime, a drop all, or an accepted harvest
abbrev pub empties : Call → Reply → Bool
empties (set_regime R) reply = is_done reply
empties (access a) reply = false
empties (store address value) reply = false
empties drop_all reply = true
empties (harvest first count map) reply = is_done reply

-- a call that asks for a drop: an accepted store, whatever the regime o before it and the memory that it found
abbrev pub asks_drop : Option Regime → Event → Call → Bool
asks_drop o e (set_regime R) = false
asks_drop o e (access a) = false
asks_drop o e (store address value) = is_done e.reply
asks_drop o e drop_all = false
asks_drop o e (harvest first count map) = false

-- between here and every accepted store before there is an emptying
abbrev pub settled : List Event → Bool
settled [] = true
settled (e ∷ before) = pick (empties e.made e.reply) true (pick (asks_drop (last_regime before) e e.made) false (settled before))

-- the customer's word: a drop all between here and every accepted store before; an accepted harvest is its own drop
abbrev pub is_drop : Call → Reply → Bool
is_drop (set_regime R) reply = false
is_drop (access a) reply = false
is_drop (store address value) reply = false
is_drop drop_all reply = true
is_drop (harvest first count map) reply = is_done reply

abbrev pub dropped : List Event → Bool
dropped [] = true
dropped (e ∷ before) = pick (is_drop e.made e.reply) true (pick (asks_drop (last_regime before) e e.made) false (dropped before))

-- an earlier access: its regime, its page, and the memory as it left it
pub record Moment : Type 0 where
  pub regime : Regime
  pub page : ℕ
  pub left : List ℕ

-- counts that count: at least one read, or any
abbrev pub counted : ℕ → Bool
counted n = leb 1 n

abbrev pub any_count : ℕ → Bool
any_count n = true

abbrev pub moment_in : Walker → Option Regime → Access → List ℕ → Option Moment
moment_in W None a m = None
moment_in W (Some R) a m = Some (record { regime = R; page = W.page R a; left = m })

-- an access is rememberable when its answer says "may be remembered"; one whose count passes the test
abbrev pub moment_of : Walker → (ℕ → Bool) → Option Regime → Call → Reply → List ℕ → Option Moment
moment_of W ok o (set_regime R) reply m = None
moment_of W ok o (access a) done m = None
moment_of W ok o (access a) (refused n) m = None
moment_of W ok o (access a) (answered x n) m = pick (cacheable_in x && ok n) (moment_in W o a m) None
moment_of W ok o (access a) (harvested map) m = None
moment_of W ok o (store address value) reply m = None
moment_of W ok o drop_all reply m = None
moment_of W ok o (harvest first count map) reply m = None

abbrev pub or_earlier : ℕ → Option Moment → Option Moment → Option Moment
or_earlier i None old = old
or_earlier i (Some t) old = pick (eqb (entry_of t.page) i) (Some t) old

-- the last such access at entry i since the last emptying
abbrev pub latest : Walker → (ℕ → Bool) → List Event → ℕ → Option Moment
latest W ok [] i = None
latest W ok (e ∷ before) i =
    pick (empties e.made e.reply) None (or_earlier i (moment_of W ok (last_regime before) e.made e.reply e.left) (latest W ok before i))
