-- What each call of a session promises, taken from the function's own contract: `Learnt` is what a caller learns of a call, `Asked` what a
-- caller must show before it. Each law is by the contract's own words: a weaker contract breaks it here.
use Prim.Native.Nat.{ℕ}
use mathlib.Core.List.{List}
use mathlib.Core.Path.{◌≡◌, refl, sym, ap, subst⁻¹, ◌∙◌}
use contract.Lifetimes.{Lfts}
use denote.Ref.{Bor, MutBor, at_last}
use Rattle.descriptor.proofs.Tests.{clash}
use Rattle.vmsa.specs.Answers.{number_of, view}
use Rattle.vmsa.specs.declared.Regime.{Regime}
use Rattle.vmsa.specs.declared.Access.{Access}
use Rattle.vmsa.specs.declared.PhysAddr.{PhysAddr}
use Rattle.vmsa.proofs.Answers.{number_settles}
use Rattle.checks.specs.Order.{Checked}
use Rattle.std.specs.Prelude.{Ok, Err}
use Rattle.tlb.specs.Replies.{Reply, done, reply_of, reply_to, harvest_reply}
use Rattle.tlb.proofs.Access.{AnAnswer, reply_settles}
use Rattle.session.specs.declared.Session.{Session as SessionStruct}
use Rattle.session.specs.View.{Changed}
use Rattle.session.specs.View.{Accessed}
use Rattle.harvest.specs.Harvest.{Harvested, harvested}
use Rattle.session.specs.Model.{Handed, handed, set_regime, access, store, drop_all, harvest}
use Rattle.session.specs.View.{session_view, empty_session, leaves, harvest_leaves}
use Rattle.session.proofs.Calls.{access_answer}
use Rattle.session.proofs.Session.empty.Reads as Empty
use Rattle.session.proofs.Session.set_regime.Reads as SetRegime
use Rattle.session.proofs.Session.access.Reads as AccessOf
use Rattle.session.proofs.Session.store.Reads as Store
use Rattle.session.proofs.Session.invalidate_all.Reads as InvalidateAll
use Rattle.session.proofs.Session.harvest.Reads as Harvest

pub empty_promise : (s : SessionStruct) → Empty.Learnt tt tt s tt → s ≡ empty_session
empty_promise s h = h

-- what lies behind a `&` has one value, before the call and after it
module _ (lives : Lfts 1) (s : SessionStruct) (memory : Bor (List ℕ)) where
  pub set_promise : (r : Regime) (x : Changed) → SetRegime.Learnt lives (s, (memory, (r, tt))) x (s, (memory, (r, tt)))
      → handed x.session memory.now (reply_to x.reply) ≡ leaves s memory.now (set_regime r)
  set_promise r x h = h

module _ (lives : Lfts 1) (s : SessionStruct) (memory : MutBor (List ℕ)) where
  pub access_promise : (a : Access) (after : List ℕ) (x : Accessed) → AccessOf.Learnt lives (s, (memory, (a, tt))) x (s, (at_last memory after, (a, tt)))
      → handed x.session after (reply_of (view x.reply)) ≡ leaves s memory.now (access a)
  access_promise a after x h = h

  pub store_promise : (address : PhysAddr) (value : ℕ) (after : List ℕ) (x : Changed)
      → Store.Learnt lives (s, (memory, (address, (value, tt)))) x (s, (at_last memory after, (address, (value, tt))))
      → handed x.session after (reply_to x.reply) ≡ leaves s memory.now (store address.0 value)
  store_promise address value after x h = h

pub drop_promise : (s after : SessionStruct) → InvalidateAll.Learnt tt (s, tt) after (s, tt) → (m : List ℕ) → handed after m done ≡ leaves s m drop_all
drop_promise s after h m = ap (λ (t : SessionStruct). handed t m done) h

module _ (lives : Lfts 2) (s : SessionStruct) (memory : MutBor (List ℕ)) (first count : ℕ) (map : MutBor (List ℕ)) where
  pub harvest_promise : (after filled : List ℕ) (x : Changed)
      → Harvest.Learnt lives (s, (memory, (first, (count, (map, tt))))) x (s, (at_last memory after, (first, (count, (at_last map filled, tt)))))
      → (x.session, harvested x.reply after filled) ≡ harvest_leaves s first count memory.now map.now
  harvest_promise after filled x h = h

-- what a harvest leaves, as a call of a session
pub harvest_handed : (s s' : SessionStruct) (first count : ℕ) (m map after filled : List ℕ) (x : Checked) → (s', harvested x after filled) ≡ harvest_leaves s first count m map
    → handed s' after (harvest_reply x filled) ≡ leaves s m (harvest first count map)
harvest_handed s s' first count m map after filled x e =
    ap (λ (y : SessionStruct × Harvested Checked). handed y.0 y.1.memory (harvest_reply y.1.reply y.1.map)) e

-- ---- and that is one result, each part of it: no two results meet a contract

pub reply_one : (x y : Checked) → reply_to x ≡ reply_to y → x ≡ y
reply_one (Ok _) (Ok _) e = refl
reply_one (Ok _) (Err y) e = clash (cc)
reply_one (Err x) (Ok _) e = clash (cc)
reply_one (Err x) (Err y) e = let z : number_of x ≡ number_of y = cc in ap Err (number_settles x y z)

changed_one : (m n : List ℕ) (x y : Changed) → handed x.session m (reply_to x.reply) ≡ handed y.session n (reply_to y.reply) → (x ≡ y) × (m ≡ n)
changed_one m n x y e =
    let r = reply_one x.reply y.reply (ap (λ (t : Handed SessionStruct Reply). t.reply) e) in
    let z : x ≡ y = λ i. record { session = (e i).session; reply = r i } in
    (z, ap (λ (t : Handed SessionStruct Reply). t.memory) e)

module _ (lives : Lfts 1) (s : SessionStruct) (memory : Bor (List ℕ)) where
  pub set_one : (r : Regime) (x y : Changed) → SetRegime.Learnt lives (s, (memory, (r, tt))) x (s, (memory, (r, tt)))
      → SetRegime.Learnt lives (s, (memory, (r, tt))) y (s, (memory, (r, tt))) → x ≡ y
  set_one r x y h k = (changed_one memory.now memory.now x y (set_promise lives s memory r x h ∙ sym (set_promise lives s memory r y k))).0

module _ (lives : Lfts 1) (s : SessionStruct) (memory : MutBor (List ℕ)) where
  pub access_one : (a : Access) (m n : List ℕ) (x y : Accessed) → AccessOf.Learnt lives (s, (memory, (a, tt))) x (s, (at_last memory m, (a, tt)))
      → AccessOf.Learnt lives (s, (memory, (a, tt))) y (s, (at_last memory n, (a, tt))) → (x ≡ y) × (m ≡ n)
  access_one a m n x y h k =
      let p = access_promise lives s memory a m x h in
      let e = p ∙ sym (access_promise lives s memory a n y k) in
      let h' : AnAnswer (reply_of (view x.reply)) = subst⁻¹ AnAnswer (ap (λ (t : Handed SessionStruct Reply). t.reply) p) (access_answer (session_view s) memory.now a) in
      let r = reply_settles x.reply y.reply h' (ap (λ (t : Handed SessionStruct Reply). t.reply) e) in
      let z : x ≡ y = λ i. record { session = (e i).session; reply = r i } in
      (z, ap (λ (t : Handed SessionStruct Reply). t.memory) e)

  pub store_one : (address : PhysAddr) (value : ℕ) (m n : List ℕ) (x y : Changed)
      → Store.Learnt lives (s, (memory, (address, (value, tt)))) x (s, (at_last memory m, (address, (value, tt))))
      → Store.Learnt lives (s, (memory, (address, (value, tt)))) y (s, (at_last memory n, (address, (value, tt)))) → (x ≡ y) × (m ≡ n)
  store_one address value m n x y h k = changed_one m n x y (store_promise lives s memory address value m x h ∙ sym (store_promise lives s memory address value n y k))

module _ (lives : Lfts 2) (s : SessionStruct) (memory : MutBor (List ℕ)) (first count : ℕ) (map : MutBor (List ℕ)) where
  pub harvest_one : (m n filled others : List ℕ) (x y : Changed)
      → Harvest.Learnt lives (s, (memory, (first, (count, (map, tt))))) x (s, (at_last memory m, (first, (count, (at_last map filled, tt)))))
      → Harvest.Learnt lives (s, (memory, (first, (count, (map, tt))))) y (s, (at_last memory n, (first, (count, (at_last map others, tt))))) → (x ≡ y) × (m ≡ n) × (filled ≡ others)
  harvest_one m n filled others x y h k =
      let e = harvest_promise lives s memory first count map m filled x h ∙ sym (harvest_promise lives s memory first count map n others y k) in
      let z : x ≡ y = λ i. record { session = (e i).0; reply = (e i).1.reply } in
      (z, ap (λ (t : SessionStruct × Harvested Checked). t.1.memory) e, ap (λ (t : SessionStruct × Harvested Checked). t.1.map) e)

-- nobody has to check first: no call asks anything of its caller
module _ (lives : Lfts 1) (s : SessionStruct) (memory : MutBor (List ℕ)) where
  pub empty_free : Empty.Asked tt tt
  empty_free = tt

  pub access_free : (a : Access) → AccessOf.Asked lives (s, (memory, (a, tt)))
  access_free a = tt

  pub store_free : (address : PhysAddr) (value : ℕ) → Store.Asked lives (s, (memory, (address, (value, tt))))
  store_free address value = tt

  pub drop_free : InvalidateAll.Asked tt (s, tt)
  drop_free = tt

pub set_free : (lives : Lfts 1) (s : SessionStruct) (memory : Bor (List ℕ)) (r : Regime) → SetRegime.Asked lives (s, (memory, (r, tt)))
set_free lives s memory r = tt

pub harvest_free : (lives : Lfts 2) (s : SessionStruct) (memory : MutBor (List ℕ)) (first count : ℕ) (map : MutBor (List ℕ)) → Harvest.Asked lives (s, (memory, (first, (count, (map, tt)))))
harvest_free lives s memory first count map = tt
