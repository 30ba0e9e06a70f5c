-- No written page is lost (RULES 17.5): of the functions of a session by value, over a lent session and in C, and of the plain ones by value and in C, each call by its own contract.
use Rattle.std.specs.Prelude.{ℕ, List, ◌≢◌, Ok, Err}
use contract.Lifetimes.{Lfts}
use denote.Ref.{MutBor, at_last}
use Rattle.vmsa.specs.Answers.{Result, view}
use Rattle.vmsa.specs.Words.{regime_of}
use Rattle.vmsa.specs.declared.Regime.{Regime}
use Rattle.vmsa.specs.declared.RegimeWords.{RegimeWords}
use Rattle.vmsa.specs.declared.Access.{Access}
use Rattle.vmsa.specs.declared.Answer.{Answer}
use Rattle.vmsa.specs.declared.Refusal.{Refusal}
use Rattle.walk.proofs.walk.Reads as Walk
use Rattle.harvest.proofs.harvest.Reads as Harvest
use Rattle.session.specs.declared.Session.{Session as SessionStruct}
use Rattle.words.specs.declared.AccessWords.{AccessWords}
use Rattle.words.specs.declared.AnswerWords.{AnswerWords}
use Rattle.words.specs.Words.{access_of}
use Rattle.capi_walk.specs.Says.{WalkSays}
use Rattle.capi_session.specs.Says.{EmptySays}
use Rattle.capi_harvest.specs.Says.{HarvestSays}
use Rattle.calls.specs.Code.{Begun, Made}
use Rattle.rules_lent.specs.Code.{MadeLent}
use Rattle.rules_c.specs.Readings.{result_in}
use Rattle.rules_c.specs.Code.{MadeC}
use Rattle.no_page_lost.specs.Lost.{ReportedOnce, NoPageLost}
use Rattle.no_page_lost.specs.Plain.{NoPageLostBy}

-- ---- in a session

abbrev pub NoPageLostOfCode : Type 0
NoPageLostOfCode = (s₀ : SessionStruct) → Begun s₀ → NoPageLost Made s₀

abbrev pub NoPageLostOfLent : Type 0
NoPageLostOfLent = (s₀ : SessionStruct) → Begun s₀ → NoPageLost MadeLent s₀

abbrev pub NoPageLostOfC : Type 0
NoPageLostOfC = (s₀ : SessionStruct) → EmptySays s₀ → NoPageLost MadeC s₀

abbrev pub ReportedOnceOfCode : Type 0
ReportedOnceOfCode = (s₀ : SessionStruct) → Begun s₀ → ReportedOnce Made s₀

abbrev pub ReportedOnceOfLent : Type 0
ReportedOnceOfLent = (s₀ : SessionStruct) → Begun s₀ → ReportedOnce MadeLent s₀

abbrev pub ReportedOnceOfC : Type 0
ReportedOnceOfC = (s₀ : SessionStruct) → EmptySays s₀ → ReportedOnce MadeC s₀

-- ---- by plain walks and the plain harvest

pub data WalkMade (r : Regime) : Access → List ℕ → Result → List ℕ → Type 0 where
  walked : (lives : Lfts 1) (memory : MutBor (List ℕ)) (a : Access) (after : List ℕ) (x : Answer) → Walk.Learnt lives (memory, (r, (a, tt))) x (at_last memory after, (r, (a, tt)))
      → WalkMade r a memory.now (view x) after

pub data HarvestMade (r : Regime) : ℕ → ℕ → List ℕ → List ℕ → List ℕ → Type 0 where
  harvested : (lives : Lfts 2) (memory : MutBor (List ℕ)) (first count : ℕ) (map : MutBor (List ℕ)) (after filled : List ℕ)
      → Harvest.Learnt lives (memory, (r, (first, (count, (map, tt))))) (Ok tt) (at_last memory after, (r, (first, (count, (at_last map filled, tt)))))
      → HarvestMade r first count memory.now map.now filled

pub data HarvestRefused (r : Regime) : List ℕ → List ℕ → Type 0 where
  refused : (lives : Lfts 2) (memory : MutBor (List ℕ)) (first count : ℕ) (map : MutBor (List ℕ)) (after filled : List ℕ) (y : Refusal)
      → Harvest.Learnt lives (memory, (r, (first, (count, (map, tt))))) (Err y) (at_last memory after, (r, (first, (count, (at_last map filled, tt)))))
      → HarvestRefused r memory.now after

abbrev pub NoPageLostByCode : Type 0
NoPageLostByCode = (r : Regime) → NoPageLostBy r (WalkMade r) (HarvestMade r) (HarvestRefused r)

pub data WalkMadeC (g : RegimeWords) : Access → List ℕ → Result → List ℕ → Type 0 where
  walked_c : (m : List ℕ) (a : AccessWords) (m' : List ℕ) (w : AnswerWords) → WalkSays m g a m' w → WalkMadeC g (access_of a) m (result_in w) m'

pub data HarvestMadeC (g : RegimeWords) : ℕ → ℕ → List ℕ → List ℕ → List ℕ → Type 0 where
  harvested_c : (m : List ℕ) (first count : ℕ) (map m' map' : List ℕ) → HarvestSays m g first count map m' map' 0 → HarvestMadeC g first count m map map'

pub data HarvestRefusedC (g : RegimeWords) : List ℕ → List ℕ → Type 0 where
  refused_c : (m : List ℕ) (first count : ℕ) (map m' map' : List ℕ) (n : ℕ) → n ≢ 0 → HarvestSays m g first count map m' map' n → HarvestRefusedC g m m'

abbrev pub NoPageLostByC : Type 0
NoPageLostByC = (g : RegimeWords) → NoPageLostBy (regime_of g) (WalkMadeC g) (HarvestMadeC g) (HarvestRefusedC g)
