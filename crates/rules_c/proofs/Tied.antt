-- From the C functions' own contracts to the rules: what the ensures clause of each says, at every model of the logic, is a call that the
-- rules speak of.
use Prim.Native.Nat.{ℕ}
use mathlib.Core.List.{List}
use base.Logic.{ent, via}
use contract.Lifetimes.{Lfts}
use contract.Monad.{fact, fact_mono}
use denote.Ref.{Bor, MutBor, at_last}
use borrow.Fn.World.{World as LogicModel}
use Rattle.vmsa.specs.Words.{regime_of}
use Rattle.vmsa.specs.declared.RegimeWords.{RegimeWords}
use Rattle.tlb.specs.Replies.{done}
use Rattle.session.specs.declared.Session.{Session as SessionStruct}
use Rattle.session.specs.Model.{handed, set_regime, access, store, drop_all, harvest}
use Rattle.words.specs.declared.AccessWords.{AccessWords}
use Rattle.words.specs.declared.AnswerWords.{AnswerWords}
use Rattle.words.specs.Words.{access_of}
use Rattle.capi_walk.specs.Says.{WalkSays}
use Rattle.capi_walk.proofs.Promises.{walk_clauses, walk_tells}
use Rattle.capi_session.specs.Says.{EmptySays, SetSays, AccessSays, StoreSays, DropSays}
use Rattle.capi_session.proofs.Promises.{empty_clauses, empty_tells, set_clauses, set_tells, access_clauses, access_tells, store_clauses, store_tells, drop_clauses, drop_tells}
use Rattle.capi_harvest.specs.Says.{SessionHarvestSays}
use Rattle.capi_harvest.proofs.Promises.{session_harvest_clauses, session_harvest_tells}
use Rattle.rules_c.specs.Readings.{answer_reply, number_reply, harvest_read}
use Rattle.rules_c.specs.Code.{MadeC, regime_set, accessed, stored, dropped_all, harvested_pages}
use Rattle.rules_c.specs.RulesC.{WalkRules}
use Rattle.rules_c.proofs.Walks.{walk_rules}

pub empty_begins : (W : LogicModel) (lives : Lfts 1) (session : MutBor SessionStruct) (s : SessionStruct)
    → ent W.𝓤 ((empty_clauses W lives session).ensures tt tt (at_last session s, tt)) (fact W.𝓤 (EmptySays s))
empty_begins W lives session s = empty_tells W lives session s

module _ (W : LogicModel) (lives : Lfts 4) (memory : MutBor (List ℕ)) (answer : MutBor AnswerWords) where
  pub walk_keeps : (regime : Bor RegimeWords) (a : Bor AccessWords) (m' : List ℕ) (w : AnswerWords)
      → ent W.𝓤 ((walk_clauses W lives memory regime a answer).ensures tt tt (at_last memory m', (regime, (a, (at_last answer w, tt))))) (fact W.𝓤 (WalkRules memory.now regime.now a.now m' w))
  walk_keeps regime a m' w =
      via W.𝓤 (fact W.𝓤 (WalkSays memory.now regime.now a.now m' w)) (walk_tells W lives memory regime a answer m' w)
      (fact_mono W.𝓤 _ _ (λ h. walk_rules memory.now regime.now a.now m' w h))

  pub access_makes : (session : MutBor SessionStruct) (s' : SessionStruct) (m' : List ℕ) (a : Bor AccessWords) (w : AnswerWords)
      → ent W.𝓤 ((access_clauses W lives session memory a answer).ensures tt tt (at_last session s', (at_last memory m', (a, (at_last answer w, tt)))))
      (fact W.𝓤 (MadeC session.now memory.now (access (access_of a.now)) (handed s' m' (answer_reply w))))
  access_makes session s' m' a w =
      via W.𝓤 (fact W.𝓤 (AccessSays session.now memory.now a.now s' m' w)) (access_tells W lives session memory a answer s' m' w)
      (fact_mono W.𝓤 _ _ (λ h. accessed session.now memory.now a.now s' m' w h))

-- what lies behind a `&` has one value, before the call and after it
pub set_makes : (W : LogicModel) (lives : Lfts 3) (session : MutBor SessionStruct) (memory : Bor (List ℕ)) (s' : SessionStruct) (regime : Bor RegimeWords) (n : ℕ)
    → ent W.𝓤 ((set_clauses W lives session memory regime).ensures tt n (at_last session s', (memory, (regime, tt))))
    (fact W.𝓤 (MadeC session.now memory.now (set_regime (regime_of regime.now)) (handed s' memory.now (number_reply n))))
set_makes W lives session memory s' regime n =
    via W.𝓤 (fact W.𝓤 (SetSays session.now memory.now regime.now s' memory.now n)) (set_tells W lives session memory regime s' n)
    (fact_mono W.𝓤 _ _ (λ h. regime_set session.now memory.now regime.now s' memory.now n h))

pub store_makes : (W : LogicModel) (lives : Lfts 2) (session : MutBor SessionStruct) (memory : MutBor (List ℕ)) (address value : ℕ) (s' : SessionStruct) (m' : List ℕ) (n : ℕ)
    → ent W.𝓤 ((store_clauses W lives session memory address value).ensures tt n (at_last session s', (at_last memory m', (address, (value, tt)))))
    (fact W.𝓤 (MadeC session.now memory.now (store address value) (handed s' m' (number_reply n))))
store_makes W lives session memory address value s' m' n =
    via W.𝓤 (fact W.𝓤 (StoreSays session.now memory.now address value s' m' n)) (store_tells W lives session memory address value s' m' n)
    (fact_mono W.𝓤 _ _ (λ h. stored session.now memory.now address value s' m' n h))

-- over whatever memory m: the function takes none
pub drop_makes : (W : LogicModel) (lives : Lfts 1) (session : MutBor SessionStruct) (s' : SessionStruct) (m : List ℕ)
    → ent W.𝓤 ((drop_clauses W lives session).ensures tt tt (at_last session s', tt)) (fact W.𝓤 (MadeC session.now m drop_all (handed s' m done)))
drop_makes W lives session s' m =
    via W.𝓤 (fact W.𝓤 (DropSays session.now s')) (drop_tells W lives session s') (fact_mono W.𝓤 _ _ (λ h. dropped_all session.now s' m h))

pub harvest_makes : (W : LogicModel) (lives : Lfts 3) (session : MutBor SessionStruct) (memory : MutBor (List ℕ)) (first count : ℕ) (map : MutBor (List ℕ)) (s' : SessionStruct) (m' map' : List ℕ) (n : ℕ)
    → ent W.𝓤 ((session_harvest_clauses W lives session memory first count map).ensures tt n (at_last session s', (at_last memory m', (first, (count, (at_last map map', tt))))))
    (fact W.𝓤 (MadeC session.now memory.now (harvest first count map.now) (handed s' m' (harvest_read n map'))))
harvest_makes W lives session memory first count map s' m' map' n =
    via W.𝓤 (fact W.𝓤 (SessionHarvestSays session.now memory.now first count map.now s' m' map' n)) (session_harvest_tells W lives session memory first count map s' m' map' n)
    (fact_mono W.𝓤 _ _ (λ h. harvested_pages session.now memory.now first count map.now s' m' map' n h))
