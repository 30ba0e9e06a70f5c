-- The claim of rule 3 (RULES 11 and 13): of every list of calls of the model, and of every list of calls of the functions of a session, by their own contracts.
use Rattle.std.specs.Prelude.{ℕ, List, ◌≡◌, length, Some}
use Rattle.descriptor.specs.Bytes.{Bytes}
use Rattle.vmsa.specs.declared.Regime.{Regime}
use Rattle.vmsa.specs.declared.Access.{Access}
use Rattle.tlb.specs.Replies.{Reply}
use Rattle.tlb.specs.Ours.{ours}
use Rattle.session.specs.declared.Session.{Session as SessionStruct}
use Rattle.session.specs.Model.{Handed, Call, access}
use Rattle.session.specs.View.{session_view}
use Rattle.calls.specs.Chains.{Event, Functions, Chain}
use Rattle.calls.specs.Code.{Begun, Made}
use Rattle.rule3.specs.Events.{World, start, run, last_regime}
use Rattle.rule3.specs.Rule3.{Remembers, Rule3}

-- from the fresh session over a memory of any length and bytes
abbrev pub Rule3OfModel : Type 0
Rule3OfModel = (calls : List Call) (memory : List ℕ) → Bytes memory → Rule3 ours (run ours (start memory) calls)

-- where a list of calls has come to
abbrev pub world_at : SessionStruct → List ℕ → List Event → World
world_at s m past = record { session = session_view s; memory = m; past = past }

-- of functions F from the session s₀: the list; and after it a new access by F, over any bytes of the same length, under the regime last accepted
abbrev pub Rule3From : Functions SessionStruct → SessionStruct → Type 0
Rule3From F s₀ = (m₀ : List ℕ) → Bytes m₀ → (s : SessionStruct) (m : List ℕ) (past : List Event) → Chain F s₀ m₀ s m past → Rule3 ours (world_at s m past)

abbrev pub NextFrom : Functions SessionStruct → SessionStruct → Type 0
NextFrom F s₀ = (m₀ : List ℕ) → Bytes m₀ → (s : SessionStruct) (m : List ℕ) (past : List Event) → Chain F s₀ m₀ s m past
    → (r : Regime) → last_regime past ≡ Some r → (a : Access) (n : List ℕ) → length n ≡ length m → (x : Handed SessionStruct Reply) → F s n (access a) x
    → Remembers ours (world_at s m past) r a n x.reply x.memory

-- of the functions by value, from Session::empty()
abbrev pub Rule3OfCode : Type 0
Rule3OfCode = (s₀ : SessionStruct) → Begun s₀ → Rule3From Made s₀

abbrev pub NextOfCode : Type 0
NextOfCode = (s₀ : SessionStruct) → Begun s₀ → NextFrom Made s₀
