-- From the functions' own contracts to the rules: what the ensures clause of each says, at every model of the logic, is a call that the rules
-- speak of.
use Prim.Native.Nat.{ℕ}
use mathlib.Core.List.{List}
use base.Logic.{ent, via}
use contract.Lifetimes.{Lfts}
use contract.Monad.{fact, fact_mono}
use denote.Ref.{Bor, MutBor, at_last}
use borrow.Fn.World.{World as LogicModel}
use Rattle.vmsa.specs.Answers.{view}
use Rattle.vmsa.specs.declared.Regime.{Regime}
use Rattle.vmsa.specs.declared.Access.{Access}
use Rattle.vmsa.specs.declared.Answer.{Answer}
use Rattle.vmsa.specs.declared.PhysAddr.{PhysAddr}
use Rattle.checks.specs.Order.{Checked}
use Rattle.tlb.specs.Replies.{done, reply_of, reply_to, harvest_reply}
use Rattle.session.specs.declared.Session.{Session as SessionStruct}
use Rattle.session.specs.Model.{handed, set_regime, access, store, drop_all, harvest}
use Rattle.lent.specs.Says.{SetSays, AccessSays, StoreSays, DropSays, HarvestSays}
use Rattle.lent.proofs.Promises.{set_clauses, set_tells, access_clauses, access_tells, store_clauses, store_tells, drop_clauses, drop_tells, harvest_clauses, harvest_tells}
use Rattle.rules_lent.specs.Code.{MadeLent, regime_set, accessed, stored, dropped_all, harvested_pages}

-- what lies behind a `&` has one value, before the call and after it
pub set_makes : (W : LogicModel) (lives : Lfts 2) (session : MutBor SessionStruct) (memory : Bor (List ℕ)) (s' : SessionStruct) (r : Regime) (x : Checked)
    → ent W.𝓤 ((set_clauses W lives session memory r).ensures tt x (at_last session s', (memory, (r, tt))))
    (fact W.𝓤 (MadeLent session.now memory.now (set_regime r) (handed s' memory.now (reply_to x))))
set_makes W lives session memory s' r x =
    via W.𝓤 (fact W.𝓤 (SetSays session.now memory.now r s' memory.now x)) (set_tells W lives session memory r s' x)
    (fact_mono W.𝓤 _ _ (λ h. regime_set session.now memory.now r s' memory.now x h))

module _ (W : LogicModel) (lives : Lfts 2) (session : MutBor SessionStruct) (memory : MutBor (List ℕ)) (s' : SessionStruct) (m' : List ℕ) where
  pub access_makes : (a : Access) (x : Answer)
      → ent W.𝓤 ((access_clauses W lives session memory a).ensures tt x (at_last session s', (at_last memory m', (a, tt))))
      (fact W.𝓤 (MadeLent session.now memory.now (access a) (handed s' m' (reply_of (view x)))))
  access_makes a x =
      via W.𝓤 (fact W.𝓤 (AccessSays session.now memory.now a s' m' x)) (access_tells W lives session memory a s' m' x)
      (fact_mono W.𝓤 _ _ (λ h. accessed session.now memory.now a s' m' x h))

  pub store_makes : (address : PhysAddr) (value : ℕ) (x : Checked)
      → ent W.𝓤 ((store_clauses W lives session memory address value).ensures tt x (at_last session s', (at_last memory m', (address, (value, tt)))))
      (fact W.𝓤 (MadeLent session.now memory.now (store address.0 value) (handed s' m' (reply_to x))))
  store_makes address value x =
      via W.𝓤 (fact W.𝓤 (StoreSays session.now memory.now address value s' m' x)) (store_tells W lives session memory address value s' m' x)
      (fact_mono W.𝓤 _ _ (λ h. stored session.now memory.now address value s' m' x h))

-- over whatever memory m: the function takes none
pub drop_makes : (W : LogicModel) (lives : Lfts 1) (session : MutBor SessionStruct) (s' : SessionStruct) (m : List ℕ)
    → ent W.𝓤 ((drop_clauses W lives session).ensures tt tt (at_last session s', tt)) (fact W.𝓤 (MadeLent session.now m drop_all (handed s' m done)))
drop_makes W lives session s' m =
    via W.𝓤 (fact W.𝓤 (DropSays session.now s')) (drop_tells W lives session s') (fact_mono W.𝓤 _ _ (λ h. dropped_all session.now s' m h))

pub harvest_makes : (W : LogicModel) (lives : Lfts 3) (session : MutBor SessionStruct) (memory : MutBor (List ℕ)) (first count : ℕ) (map : MutBor (List ℕ)) (s' : SessionStruct) (m' map' : List ℕ) (x : Checked)
    → ent W.𝓤 ((harvest_clauses W lives session memory first count map).ensures tt x (at_last session s', (at_last memory m', (first, (count, (at_last map map', tt))))))
    (fact W.𝓤 (MadeLent session.now memory.now (harvest first count map.now) (handed s' m' (harvest_reply x map'))))
harvest_makes W lives session memory first count map s' m' map' x =
    via W.𝓤 (fact W.𝓤 (HarvestSays session.now memory.now first count map.now s' m' map' x)) (harvest_tells W lives session memory first count map s' m' map' x)
    (fact_mono W.𝓤 _ _ (λ h. harvested_pages session.now memory.now first count map.now s' m' map' x h))
