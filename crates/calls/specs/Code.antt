-- Rule 1 (RULES 13) of the functions of a session, by value: each call by what the function's own contract tells its caller.
use Rattle.std.specs.Prelude.{ℕ, List, ◌≡◌, Err}
use contract.Lifetimes.{Lfts}
use denote.Ref.{Bor, MutBor, at_last}
use Rattle.vmsa.specs.Answers.{view}
use Rattle.vmsa.specs.declared.Regime.{Regime}
use Rattle.vmsa.specs.declared.Access.{Access}
use Rattle.vmsa.specs.declared.PhysAddr.{PhysAddr}
use Rattle.vmsa.specs.declared.Refusal.{Refusal}
use Rattle.tlb.specs.Replies.{Reply, done, reply_of, reply_to, harvest_reply}
use Rattle.session.specs.declared.Session.{Session as SessionStruct}
use Rattle.session.specs.View.{Changed}
use Rattle.session.specs.View.{Accessed}
use Rattle.session.specs.Model.{Handed, handed, Call, set_regime, access, store, drop_all, harvest}
use Rattle.session.specs.View.{regime_held}
use Rattle.session.proofs.Session.empty.Reads as Empty
use Rattle.session.proofs.Session.set_regime.Reads as SetRegime
use Rattle.session.proofs.Session.access.Reads as AccessOf
use Rattle.session.proofs.Session.store.Reads as Store
use Rattle.session.proofs.Session.invalidate_all.Reads as InvalidateAll
use Rattle.session.proofs.Session.harvest.Reads as Harvest
use Rattle.calls.specs.Chains.{Event, Chain}
use Rattle.calls.specs.Rule1.{Rule1Call, Rule1List}

-- Session::empty() gave s
abbrev pub Begun : SessionStruct → Type 0
Begun s = Empty.Learnt tt tt s tt

-- one call: what it got, and what it left. `Learnt` is what the contract of the named function tells whoever called it with these
-- arguments, got this result, and finds its parameters so at the return; what lies behind a `&` has one value, before the call and after it
pub data Made : SessionStruct → List ℕ → Call → Handed SessionStruct Reply → Type 0 where
  regime_set : (lives : Lfts 1) (s : SessionStruct) (memory : Bor (List ℕ)) (r : Regime) (x : Changed)
      → SetRegime.Learnt lives (s, (memory, (r, tt))) x (s, (memory, (r, tt)))
      → Made s memory.now (set_regime r) (handed x.session memory.now (reply_to x.reply))
  accessed : (lives : Lfts 1) (s : SessionStruct) (memory : MutBor (List ℕ)) (a : Access) (after : List ℕ) (x : Accessed)
      → AccessOf.Learnt lives (s, (memory, (a, tt))) x (s, (at_last memory after, (a, tt)))
      → Made s memory.now (access a) (handed x.session after (reply_of (view x.reply)))
  stored : (lives : Lfts 1) (s : SessionStruct) (memory : MutBor (List ℕ)) (address : PhysAddr) (value : ℕ) (after : List ℕ) (x : Changed)
      → Store.Learnt lives (s, (memory, (address, (value, tt)))) x (s, (at_last memory after, (address, (value, tt))))
      → Made s memory.now (store address.0 value) (handed x.session after (reply_to x.reply))
  dropped_all : (s after : SessionStruct) (m : List ℕ) → InvalidateAll.Learnt tt (s, tt) after (s, tt)
      → Made s m drop_all (handed after m done)
  harvested_pages : (lives : Lfts 2) (s : SessionStruct) (memory : MutBor (List ℕ)) (first count : ℕ) (map : MutBor (List ℕ)) (after filled : List ℕ) (x : Changed)
      → Harvest.Learnt lives (s, (memory, (first, (count, (map, tt))))) x (s, (at_last memory after, (first, (count, (at_last map filled, tt)))))
      → Made s memory.now (harvest first count map.now) (handed x.session after (harvest_reply x.reply filled))

-- ---- rule 1 of these functions: any call, in any session and over any memory; and every list of calls

abbrev pub Rule1OfCall : Type 1
Rule1OfCall = (s : SessionStruct) (m : List ℕ) (c : Call) (x : Handed SessionStruct Reply) → Made s m c x → Rule1Call regime_held Made s m c x

abbrev pub Rule1OfCode : Type 1
Rule1OfCode = (s₀ : SessionStruct) (m₀ : List ℕ) (s : SessionStruct) (m : List ℕ) (past : List Event) → Chain Made s₀ m₀ s m past → Rule1List regime_held Made s₀ m₀ s m past

-- ---- a harvest that is refused leaves its map as it was

abbrev pub MapKeptOfCode : Type 0
MapKeptOfCode = (lives : Lfts 2) (s : SessionStruct) (memory : MutBor (List ℕ)) (first count : ℕ) (map : MutBor (List ℕ)) (after filled : List ℕ) (x : Changed)
    → Harvest.Learnt lives (s, (memory, (first, (count, (map, tt))))) x (s, (at_last memory after, (first, (count, (at_last map filled, tt)))))
    → (y : Refusal) → x.reply ≡ Err y → filled ≡ map.now
