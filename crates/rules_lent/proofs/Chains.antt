-- Rules 1 and 3 of the functions over a lent session: any call, and every list of calls.
use mathlib.Core.List.{List}
use Prim.Native.Nat.{ℕ}
use mathlib.Core.Path.{◌≡◌, ap}
use Rattle.tlb.specs.Replies.{Reply, done}
use Rattle.session.specs.declared.Session.{Session as SessionStruct}
use Rattle.session.specs.Model.{Handed, handed, Call}
use Rattle.session.specs.View.{regime_held, leaves}
use Rattle.session.proofs.Promises.{harvest_handed}
use Rattle.calls.specs.Chains.{Leaving}
use Rattle.calls.proofs.Rule1.{rule1_leaves}
use Rattle.calls.proofs.Lists.{rule1_list, map_kept_leaves}
use Rattle.rule3.proofs.Final.{begun_fresh, rule_3_of, rule_3_next_of}
use Rattle.rules_lent.specs.Code.{MadeLent, regime_set, accessed, stored, dropped_all, harvested_pages, Rule1OfCallLent, Rule1OfLent, Rule3OfLent, NextOfLent, MapKeptOfLent}

-- any call of these functions, by its own contract, leaves what `leaves` says
made_is : {s : SessionStruct} {m : List ℕ} {c : Call} {x : Handed SessionStruct Reply} → MadeLent s m c x → x ≡ leaves s m c
made_is (regime_set s m r s' m' x h) = h
made_is (accessed s m a s' m' x h) = h
made_is (stored s m address value s' m' x h) = h
made_is (dropped_all s s' m h) = ap (λ (t : SessionStruct). handed t m done) h
made_is (harvested_pages s m first count map s' m' map' x h) = harvest_handed s s' first count m map m' map' x h

pub made_leaves : Leaving MadeLent
made_leaves s m c x made = made_is made

-- ---- rule 1, and rule 3

pub rule_1_call_lent : Rule1OfCallLent
rule_1_call_lent s m c x made = rule1_leaves MadeLent made_leaves s m c x made

pub rule_1_lent : Rule1OfLent
rule_1_lent s₀ m₀ s m past chain = rule1_list regime_held MadeLent (rule1_leaves MadeLent made_leaves) s₀ m₀ chain

pub rule_3_lent : Rule3OfLent
rule_3_lent s₀ h = rule_3_of MadeLent made_leaves s₀ (begun_fresh s₀ h)

pub rule_3_next_lent : NextOfLent
rule_3_next_lent s₀ h = rule_3_next_of MadeLent made_leaves s₀ (begun_fresh s₀ h)

-- ---- a harvest that is refused leaves its map as it was

pub map_kept_lent : MapKeptOfLent
map_kept_lent s m first count map s' m' map' x h = map_kept_leaves s s' first count m map m' map' x h
