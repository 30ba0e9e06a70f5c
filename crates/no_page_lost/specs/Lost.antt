-- No written page is lost (RULES 17.5), in every list of a session's calls: from the calls, their replies and the memory that each found and left, never from what is stored.
use Rattle.std.specs.Prelude.{ℕ, ◌-◌, Bool, true, false, List, [], ◌∷◌, ◌++◌, ◌⊎◌, ◌≡◌, Some}
use Rattle.descriptor.specs.Bytes.{Bytes}
use Rattle.vmsa.specs.Granules.{page_bits_of}
use Rattle.vmsa.specs.Kinds.{writes}
use Rattle.vmsa.specs.Fields.{dbm}
use Rattle.vmsa.specs.Answers.{success}
use Rattle.geometry.specs.Geometry.{page_of}
use Rattle.vmsa.specs.declared.Regime.{Regime}
use Rattle.vmsa.specs.declared.Access.{Access}
use Rattle.vmsa.specs.declared.Success.{Success}
use Rattle.bitmap.specs.Map.{map_bit}
use Rattle.tlb.specs.Replies.{Reply, answered, harvested}
use Rattle.session.specs.Model.{Call, set_regime, access, store, drop_all, harvest}
use Rattle.calls.specs.Chains.{Event, Functions, Chain, is_done}
use Rattle.rule3.specs.Events.{last_regime, settled}
use Rattle.rules_harvest.specs.Leaves.{PageLeaf, AskedFor}

-- a write or update of a page that succeeded, under the regime R, on a leaf with DBM set: the leaf that the page reached over the memory as the call found it
pub record Wrote (R : Regime) (e : Event) (page : ℕ) : Type 0 where
  pub by : Access
  pub made : e.made ≡ access by
  pub writing : writes by.kind ≡ true
  pub on : page ≡ page_of (page_bits_of R) by.address.0
  pub answer : Success
  pub reads : ℕ
  pub succeeded : e.reply ≡ answered (success answer) reads
  pub leaf : PageLeaf R e.found page
  pub modifier : dbm leaf.value ≡ true

-- an accepted harvest of count pages from first on, which left this map
pub record AcceptedHarvest (e : Event) (first count : ℕ) (map : List ℕ) : Type 0 where
  pub given : List ℕ
  pub made : e.made ≡ harvest first count given
  pub reply : e.reply ≡ harvested map

-- its bit for a page
abbrev pub Reported : ℕ → List ℕ → ℕ → Type 0
Reported first map page = map_bit map (page - first) ≡ true

-- an accepted store, or an accepted regime: what may come between a write and its harvest is any call but these
abbrev pub disturbs : Call → Reply → Bool
disturbs (set_regime R) reply = is_done reply
disturbs (access a) reply = false
disturbs (store address value) reply = is_done reply
disturbs drop_all reply = false
disturbs (harvest first count map) reply = false

abbrev pub Undisturbed : List Event → Type 0
Undisturbed [] = Unit {0}
Undisturbed (e ∷ before) = (disturbs e.made e.reply ≡ false) × Undisturbed before

-- an accepted harvest; and none among these calls
abbrev pub harvests : Call → Reply → Bool
harvests (set_regime R) reply = false
harvests (access a) reply = false
harvests (store address value) reply = false
harvests drop_all reply = false
harvests (harvest first count map) reply = is_done reply

abbrev pub Unharvested : List Event → Type 0
Unharvested [] = Unit {0}
Unharvested (e ∷ before) = (harvests e.made e.reply ≡ false) × Unharvested before

-- a harvest that reported the leaf whose descriptor has this address, under a page of its own that reached it
pub record TookAt (R : Regime) (address : ℕ) (e : Event) : Type 0 where
  pub first : ℕ
  pub count : ℕ
  pub map : List ℕ
  pub harvest : AcceptedHarvest e first count map
  pub page : ℕ
  pub asked : AskedFor first count page
  pub leaf : PageLeaf R e.found page
  pub same : leaf.address ≡ address
  pub reported : Reported first map page

pub data Took (R : Regime) (address : ℕ) : List Event → Type 0 where
  here : {e : Event} {before : List Event} → TookAt R address e → Took R address (e ∷ before)
  earlier : {e : Event} {before : List Event} → Took R address before → Took R address (e ∷ before)

-- ---- the claims, of functions F from the session s₀: the last call is an accepted harvest h that covers the page; the write is the call e

-- the page is reported, or its leaf was taken by a harvest in between, under that page or another that shares the leaf: that harvest reported it
abbrev pub ReportedOnce : {S : Type 0} → Functions S → S → Type 0
ReportedOnce {S} F s₀ =
    (m₀ : List ℕ) → Bytes m₀ → (s : S) (m : List ℕ) (h e : Event) (between before : List Event) → Chain F s₀ m₀ s m (h ∷ between ++ e ∷ before)
    → (R : Regime) → last_regime before ≡ Some R → settled before ≡ true → (page : ℕ) (w : Wrote R e page) → Undisturbed between
    → (first count : ℕ) (map : List ℕ) → AcceptedHarvest h first count map → AskedFor first count page
    → Reported first map page ⊎ Took R w.leaf.address between

-- each accepted store of a list is followed by a drop before the next access
abbrev pub accesses : Call → Bool
accesses (set_regime R) = false
accesses (access a) = true
accesses (store address value) = false
accesses drop_all = false
accesses (harvest first count map) = false

abbrev pub StoresDropped : List Event → Type 0
StoresDropped [] = Unit {0}
StoresDropped (e ∷ before) = (accesses e.made ≡ true → settled before ≡ true) × StoresDropped before

-- no written page is lost: the next accepted harvest reports it, if it covers the page and no store and no regime was accepted in between
abbrev pub NoPageLost : {S : Type 0} → Functions S → S → Type 0
NoPageLost {S} F s₀ =
    (m₀ : List ℕ) → Bytes m₀ → (s : S) (m : List ℕ) (h e : Event) (between before : List Event) → Chain F s₀ m₀ s m (h ∷ between ++ e ∷ before)
    → StoresDropped (h ∷ between ++ e ∷ before) → (R : Regime) → last_regime before ≡ Some R → (page : ℕ) → Wrote R e page → Undisturbed between → Unharvested between
    → (first count : ℕ) (map : List ℕ) → AcceptedHarvest h first count map → AskedFor first count page → Reported first map page
