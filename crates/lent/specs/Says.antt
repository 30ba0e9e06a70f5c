-- What each function (RULES 10) tells whoever called it: of the session and the memory that were lent, s and m before the call and s' and m' after it, and
-- of what it returned. proofs/Promises.antt has that each function's own contract says this.
use Rattle.std.specs.Prelude.{ℕ, List, ◌≡◌}
use Rattle.vmsa.specs.Answers.{view}
use Rattle.vmsa.specs.declared.Regime.{Regime}
use Rattle.vmsa.specs.declared.Access.{Access}
use Rattle.vmsa.specs.declared.Answer.{Answer}
use Rattle.vmsa.specs.declared.PhysAddr.{PhysAddr}
use Rattle.checks.specs.Order.{Checked}
use Rattle.tlb.specs.Replies.{reply_of, reply_to}
use Rattle.session.specs.declared.Session.{Session as SessionStruct}
use Rattle.session.specs.Model.{handed, set_regime, access, store}
use Rattle.harvest.specs.Harvest.{harvested}
use Rattle.session.specs.View.{emptied, leaves, harvest_leaves}

-- set_regime(session, memory, r) returned x
abbrev pub SetSays : SessionStruct → List ℕ → Regime → SessionStruct → List ℕ → Checked → Type 0
SetSays s m r s' m' x = handed s' m' (reply_to x) ≡ leaves s m (set_regime r)

-- access(session, memory, a) returned x
abbrev pub AccessSays : SessionStruct → List ℕ → Access → SessionStruct → List ℕ → Answer → Type 0
AccessSays s m a s' m' x = handed s' m' (reply_of (view x)) ≡ leaves s m (access a)

-- store(session, memory, address, value) returned x
abbrev pub StoreSays : SessionStruct → List ℕ → PhysAddr → ℕ → SessionStruct → List ℕ → Checked → Type 0
StoreSays s m address value s' m' x = handed s' m' (reply_to x) ≡ leaves s m (store address.0 value)

-- invalidate_all(session) returned
abbrev pub DropSays : SessionStruct → SessionStruct → Type 0
DropSays s s' = s' ≡ emptied s

-- harvest(session, memory, first, count, map) returned x, and left map' of the map
abbrev pub HarvestSays : SessionStruct → List ℕ → ℕ → ℕ → List ℕ → SessionStruct → List ℕ → List ℕ → Checked → Type 0
HarvestSays s m first count map s' m' map' x = (s', harvested x m' map') ≡ harvest_leaves s first count m map
