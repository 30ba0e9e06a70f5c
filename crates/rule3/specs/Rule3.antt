-- Rule 3 (RULES 11) as one claim about a list of calls, over any walker W (specs/Code.antt states it of ours): from the calls and their replies alone, never from what is stored.
use Rattle.std.specs.Prelude.{ℕ, ◌+◌, ◌≤◌, Bool, true, false, List, [], ◌∷◌, ◌++◌, ◌≢◌, ◌≡◌, length, take, drop, Option, None, Some}
use Rattle.vmsa.specs.Kinds.{writes}
use Rattle.vmsa.specs.declared.Regime.{Regime}
use Rattle.vmsa.specs.declared.Access.{Access}
use Rattle.tlb.specs.Replies.{Reply, done, refused, answered, harvested, Told, told, reply_of, harvest_reply, uncounted, dirties}
use Rattle.tlb.specs.Walker.{Walker, no_regime, entry_of}
use Rattle.session.specs.Model.{Call, set_regime, access, store, drop_all, harvest, access_call}
use Rattle.calls.specs.Chains.{Event}
use Rattle.rule3.specs.Events.{World, last_regime, settled, Moment, counted, any_count, latest}

-- the plain walk of rule 2, under a regime and over a memory
abbrev pub plainly : Walker → Regime → List ℕ → Access → Told Reply
plainly W R m a = told (reply_of (W.plain R a m).result) (W.plain R a m).bytes

-- ---- each call of the list

-- X of a refused call, Y of any other
abbrev pub Unrefused : Reply → Type 0 → Type 0 → Type 0
Unrefused done X Y = Y
Unrefused (refused n) X Y = X
Unrefused (answered o n) X Y = Y
Unrefused (harvested map) X Y = Y

-- an accepted store leaves the value given in its 8 bytes, in the byte order of R, and every other byte alone
pub record Stored (W : Walker) (R : Regime) (address value : ℕ) (m left : List ℕ) : Type 0 where
  pub room : W.offset R address + 8 ≤ length m
  pub bytes : left ≡ take (W.offset R address) m ++ W.word R value ++ drop (W.offset R address + 8) m

abbrev pub StoredIn : Walker → Option Regime → ℕ → ℕ → List ℕ → List ℕ → Type 0
StoredIn W None address value m left = ⊥
StoredIn W (Some R) address value m left = Stored W R address value m left

-- the plain walk made at that moment, the count of reads apart, and the same bytes
pub record Alike (W : Walker) (R : Regime) (m : List ℕ) (a : Access) (reply : Reply) (left : List ℕ) : Type 0 where
  pub same : uncounted reply ≡ uncounted (plainly W R m a).reply
  pub bytes : left ≡ (plainly W R m a).memory

-- an access before any accepted regime is refused with 9; after one, with an emptying after every accepted store, it is the plain walk
abbrev pub AccessIn : Walker → Option Regime → Bool → Access → Reply → List ℕ → List ℕ → Type 0
AccessIn W None isSettled a reply m left = reply ≡ refused no_regime
AccessIn W (Some R) isSettled a reply m left = isSettled ≡ true → Alike W R m a reply left

-- a harvest before any accepted regime is refused with 9; after one, it gives the reply, the map and the bytes that the plain harvest made at that moment gives
pub record AsPlain (W : Walker) (R : Regime) (first count : ℕ) (map m : List ℕ) (reply : Reply) (left : List ℕ) : Type 0 where
  pub same : reply ≡ harvest_reply (W.harvest R first count m map).reply (W.harvest R first count m map).map
  pub bytes : left ≡ (W.harvest R first count m map).memory

abbrev pub HarvestIn : Walker → Option Regime → ℕ → ℕ → List ℕ → List ℕ → Reply → List ℕ → Type 0
HarvestIn W None first count map m reply left = reply ≡ refused no_regime
HarvestIn W (Some R) first count map m reply left = AsPlain W R first count map m reply left

-- what each call keeps to, by the calls before it: set regime, drop all and every refused call leave each byte as they found it
abbrev pub KeepsTo : Walker → List Event → Call → Reply → List ℕ → List ℕ → Type 0
KeepsTo W before (set_regime R) reply m left = left ≡ m
KeepsTo W before (access a) reply m left = Unrefused reply (left ≡ m) (Unit {0}) × AccessIn W (last_regime before) (settled before) a reply m left
KeepsTo W before (store address value) reply m left = Unrefused reply (left ≡ m) (StoredIn W (last_regime before) address value m left)
KeepsTo W before drop_all reply m left = left ≡ m
KeepsTo W before (harvest first count map) reply m left = Unrefused reply (left ≡ m) (Unit {0}) × HarvestIn W (last_regime before) first count map m reply left

abbrev pub Every : Walker → List Event → Type 0
Every W [] = Unit {0}
Every W (e ∷ before) = KeepsTo W before e.made e.reply e.found e.left × Every W before

-- ---- after the list: a new access

-- the plain walk of that moment, its count included
pub record Plainly (W : Walker) (R : Regime) (m : List ℕ) (a : Access) (reply : Reply) (left : List ℕ) : Type 0 where
  pub same : reply ≡ (plainly W R m a).reply
  pub bytes : left ≡ (plainly W R m a).memory

-- t is the last access at the entry that was rememberable and counted a read. The one answer is what the plain walk gives the new
-- access under t's regime, over the memory as t left it, its count put to 0, and no byte changes; where that would make a dirty
-- update, it is the plain walk of that moment
pub record Recalled (W : Walker) (t : Moment) (R : Regime) (m : List ℕ) (a : Access) (reply : Reply) (left : List ℕ) : Type 0 where
  pub one : dirties (plainly W t.regime t.left a).reply ≡ false → reply ≡ uncounted (plainly W t.regime t.left a).reply
  pub still : dirties (plainly W t.regime t.left a).reply ≡ false → left ≡ m
  pub again : dirties (plainly W t.regime t.left a).reply ≡ true → Plainly W R m a reply left

-- by the last rememberable access at the page's entry since the last emptying: of that page, of another, or none
pub record Remembers (W : Walker) (w : World) (R : Regime) (a : Access) (m : List ℕ) (reply : Reply) (left : List ℕ) : Type 0 where
  pub held : (t : Moment) → latest W any_count w.past (entry_of (W.page R a)) ≡ Some t → t.page ≡ W.page R a
      → (u : Moment) × (latest W counted w.past (entry_of (W.page R a)) ≡ Some u) × Recalled W u R m a reply left
  pub other : (t : Moment) → latest W any_count w.past (entry_of (W.page R a)) ≡ Some t → t.page ≢ W.page R a → Plainly W R m a reply left
  pub unheld : latest W any_count w.past (entry_of (W.page R a)) ≡ None → Plainly W R m a reply left

pub record Rule3 (W : Walker) (w : World) : Type 0 where
  -- each call of the list, by those before it
  pub calls : Every W w.past
  -- after the list, with drops or without: any access under the regime last accepted, over any bytes of the same length
  pub remembers : (R : Regime) → last_regime w.past ≡ Some R → (a : Access) (m : List ℕ) → length m ≡ length w.memory
      → Remembers W w R a m (access_call W w.session m a).reply (access_call W w.session m a).memory
  -- a read, fetch or probe never makes a dirty update
  pub quiet : (R : Regime) (m : List ℕ) (a : Access) → writes a.kind ≡ false → dirties (plainly W R m a).reply ≡ false
