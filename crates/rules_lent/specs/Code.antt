-- Rules 1 and 3 (RULES 13) of the functions over a lent session: each call by what its own contract tells (lent, specs/Says.antt).
use Rattle.std.specs.Prelude.{ℕ, List, ◌≡◌, Err}
use Rattle.vmsa.specs.Answers.{view}
use Rattle.vmsa.specs.declared.Regime.{Regime}
use Rattle.vmsa.specs.declared.Access.{Access}
use Rattle.vmsa.specs.declared.Answer.{Answer}
use Rattle.vmsa.specs.declared.PhysAddr.{PhysAddr}
use Rattle.vmsa.specs.declared.Refusal.{Refusal}
use Rattle.checks.specs.Order.{Checked}
use Rattle.tlb.specs.Replies.{Reply, done, reply_of, reply_to, harvest_reply}
use Rattle.session.specs.declared.Session.{Session as SessionStruct}
use Rattle.session.specs.Model.{Handed, handed, Call, set_regime, access, store, drop_all, harvest}
use Rattle.session.specs.View.{regime_held}
use Rattle.lent.specs.Says.{SetSays, AccessSays, StoreSays, DropSays, HarvestSays}
use Rattle.calls.specs.Chains.{Event, Chain}
use Rattle.calls.specs.Rule1.{Rule1Call, Rule1List}
use Rattle.calls.specs.Code.{Begun}
use Rattle.rule3.specs.Code.{Rule3From, NextFrom}

pub data MadeLent : SessionStruct → List ℕ → Call → Handed SessionStruct Reply → Type 0 where
  regime_set : (s : SessionStruct) (m : List ℕ) (r : Regime) (s' : SessionStruct) (m' : List ℕ) (x : Checked) → SetSays s m r s' m' x
      → MadeLent s m (set_regime r) (handed s' m' (reply_to x))
  accessed : (s : SessionStruct) (m : List ℕ) (a : Access) (s' : SessionStruct) (m' : List ℕ) (x : Answer) → AccessSays s m a s' m' x
      → MadeLent s m (access a) (handed s' m' (reply_of (view x)))
  stored : (s : SessionStruct) (m : List ℕ) (address : PhysAddr) (value : ℕ) (s' : SessionStruct) (m' : List ℕ) (x : Checked) → StoreSays s m address value s' m' x
      → MadeLent s m (store address.0 value) (handed s' m' (reply_to x))
  dropped_all : (s s' : SessionStruct) (m : List ℕ) → DropSays s s' → MadeLent s m drop_all (handed s' m done)
  harvested_pages : (s : SessionStruct) (m : List ℕ) (first count : ℕ) (map : List ℕ) (s' : SessionStruct) (m' map' : List ℕ) (x : Checked) → HarvestSays s m first count map s' m' map' x
      → MadeLent s m (harvest first count map) (handed s' m' (harvest_reply x map'))

-- ---- rule 1 of these functions: any call, in any session and over any memory; and every list of calls

abbrev pub Rule1OfCallLent : Type 1
Rule1OfCallLent = (s : SessionStruct) (m : List ℕ) (c : Call) (x : Handed SessionStruct Reply) → MadeLent s m c x → Rule1Call regime_held MadeLent s m c x

abbrev pub Rule1OfLent : Type 1
Rule1OfLent = (s₀ : SessionStruct) (m₀ : List ℕ) (s : SessionStruct) (m : List ℕ) (past : List Event) → Chain MadeLent s₀ m₀ s m past → Rule1List regime_held MadeLent s₀ m₀ s m past

-- ---- rule 3: every list of calls, from Session::empty(); and after it a new access, over any bytes of the same length

abbrev pub Rule3OfLent : Type 0
Rule3OfLent = (s₀ : SessionStruct) → Begun s₀ → Rule3From MadeLent s₀

abbrev pub NextOfLent : Type 0
NextOfLent = (s₀ : SessionStruct) → Begun s₀ → NextFrom MadeLent s₀

-- ---- a harvest that is refused leaves its map as it was

abbrev pub MapKeptOfLent : Type 0
MapKeptOfLent = (s : SessionStruct) (m : List ℕ) (first count : ℕ) (map : List ℕ) (s' : SessionStruct) (m' map' : List ℕ) (x : Checked) → HarvestSays s m first count map s' m' map' x
    → (y : Refusal) → x ≡ Err y → map' ≡ map
