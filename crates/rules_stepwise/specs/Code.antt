-- The promises (RULES 16.5) of the functions that a monitor calls: each call by what its own contract tells its caller.
use Rattle.std.specs.Prelude.{ℕ, false, List, ◌≡◌, length, Ok, Err, Option, Some, None}
use Rattle.descriptor.specs.Bits.{pick}
use Rattle.vmsa.specs.Words.{flag, regime_of, regime_spare0}
use Rattle.vmsa.specs.Answers.{number_of}
use Rattle.vmsa.specs.declared.Regime.{Regime}
use Rattle.vmsa.specs.declared.RegimeWords.{RegimeWords}
use Rattle.vmsa.specs.declared.Access.{Access}
use Rattle.refusals.specs.Tests.{memory_pool_bad, pool_address_bad}
use Rattle.checks.specs.Order.{Checked}
use Rattle.stepwise.specs.declared.Stepwise.{Stepwise}
use Rattle.stepwise.specs.declared.Offered.{Offered}
use Rattle.stepwise.specs.Stepwise.{Ended, Progress, wanting, ended, seen}
use Rattle.stepwise.proofs.Stepwise.start.Reads as Start
use Rattle.stepwise.proofs.Stepwise.value.Reads as ValueOf
use Rattle.stepwise.proofs.Stepwise.unreachable.Reads as UnreachableOf
use Rattle.words.specs.declared.AccessWords.{AccessWords}
use Rattle.words.specs.declared.AnswerWords.{AnswerWords}
use Rattle.words.specs.Words.{access_of, access_spare0}
use Rattle.step_words.specs.declared.StepwiseWords.{StepwiseWords}
use Rattle.step_words.specs.Words.{wanting_of, progress_words}
use Rattle.capi_walk.specs.Says.{WalkSays}
use Rattle.capi_stepwise.specs.Says.{StartSays, UnreachableSays}
use Rattle.capi_value.specs.Says.{ValueSays}
use Rattle.rules_c.specs.Readings.{result_in}
use Rattle.rules.specs.Tables.{reader_of}
use Rattle.rules_stepwise.specs.Feeds.{Offer, Fed, Reads}
use Rattle.rules_stepwise.specs.Promised.{with_due, Ends, Walks}

-- ---- by value. `Learnt` is what the contract of the named function tells whoever called it with these arguments, and got this result

-- Stepwise::start(r, a) gave s
abbrev pub Begun : Regime → Access → Stepwise → Type 0
Begun r a s = Start.Learnt tt (r, (a, tt)) s (r, (a, tt))

-- a reply as a number: 0, or that of the refusal
abbrev pub reply_number : Checked → ℕ
reply_number (Ok _) = 0
reply_number (Err x) = number_of x

-- s.value(v) and s.unreachable() left the walk of x, and its reply
pub data Made : Stepwise → Option ℕ → Stepwise → ℕ → Type 0 where
  valued : (s : Stepwise) (v : ℕ) (x : Offered) → ValueOf.Learnt tt (s, (v, tt)) x (s, (v, tt)) → Made s (Some v) x.walk (reply_number x.reply)
  unreached : (s : Stepwise) (x : Offered) → UnreachableOf.Learnt tt (s, tt) x (s, tt) → Made s None x.walk (reply_number x.reply)

abbrev pub EndsOfCode : Type 0
EndsOfCode = Ends seen Made

abbrev pub WalksOfCode : Type 0
WalksOfCode = (r : Regime) (a : Access) (s : Stepwise) → Begun r a s → Walks seen Made r a s

-- ---- the C functions, in the numbers that C passes and gets

-- what C reads in the numbers of a walk (RULES 15.10): any number of `ended` but 0 is an end, with the update where `update` is not 0
abbrev pub end_in : StepwiseWords → Ended
end_in w = record {
  result = result_in w.answer;
  due = pick (flag w.update) (Some (record { address = record { 0 = w.address }; expected = w.expected; value = w.value })) None;
}

unfoldable pub walk_in : StepwiseWords → Progress
walk_in w = pick (flag w.ended) (ended (end_in w)) (wanting (wanting_of w))

-- vmsa_stepwise_value and vmsa_stepwise_unreachable left w' of w, and returned n
pub data MadeC : StepwiseWords → Option ℕ → StepwiseWords → ℕ → Type 0 where
  valued_c : (w : StepwiseWords) (v : ℕ) (w' : StepwiseWords) (n : ℕ) → ValueSays w v w' n → MadeC w (Some v) w' n
  unreached_c : (w w' : StepwiseWords) (n : ℕ) → UnreachableSays w w' n → MadeC w None w' n

abbrev pub EndsOfC : Type 0
EndsOfC = Ends walk_in MadeC

-- from the walk that vmsa_stepwise_start left
abbrev pub WalksOfC : Type 0
WalksOfC = (g : RegimeWords) (a : AccessWords) (w : StepwiseWords) → StartSays g a w → Walks walk_in MadeC (regime_of g) (access_of a) w

pub record NumbersOfC (g : RegimeWords) (a : AccessWords) (w : StepwiseWords) : Type 0 where
  -- every number of the walk is settled by what C reads in it: it has the regime and the access of its start, and 0 where there is nothing to say
  pub numbers : (t : StepwiseWords) (offers : List Offer) → Fed walk_in MadeC w offers t → t ≡ progress_words (regime_spare0 g) (access_spare0 a) (walk_in t)
  -- over what a pool holds, where rows 1 and 2 refuse nothing: each number of the answer is that of vmsa_walk, and the memory that vmsa_walk leaves is the one with the new value written
  pub walked : (m : List ℕ) → memory_pool_bad (length m) (regime_of g) ≡ false → pool_address_bad (regime_of g) ≡ false → (t : StepwiseWords) (offers : List Offer) → Fed walk_in MadeC w offers t
      → Reads (reader_of (regime_of g) m) offers → (e : Ended) → walk_in t ≡ ended e → (m' : List ℕ) (x : AnswerWords) → WalkSays m g a m' x → (t.answer ≡ x) × (m' ≡ with_due (regime_of g) m e.due)

abbrev pub StartedOfC : Type 0
StartedOfC = (g : RegimeWords) (a : AccessWords) (w : StepwiseWords) → StartSays g a w → NumbersOfC g a w

-- spare numbers have no say in a start
abbrev pub SpareOfStart : Type 0
SpareOfStart = (g h : RegimeWords) (a b : AccessWords) → regime_spare0 g ≡ regime_spare0 h → access_spare0 a ≡ access_spare0 b → (w x : StepwiseWords) → StartSays g a w → StartSays h b x → w ≡ x
