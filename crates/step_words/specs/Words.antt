-- A walk a descriptor at a time as a struct of numbers (RULES 15.10), and its start and offers in them.
use Rattle.std.specs.Prelude.{ℕ, ◌%◌, Option, None, Some, Result as Either, Ok, Err}
use Rattle.descriptor.specs.Bits.{pick}
use Rattle.vmsa.specs.Words.{flag, regime_of, regime_spare0}
use Rattle.vmsa.specs.Fields.{sum_count}
use Rattle.vmsa.specs.Answers.{Result, refused, number_of}
use Rattle.vmsa.specs.declared.RegimeWords.{RegimeWords}
use Rattle.vmsa.specs.declared.Refusal.{Refusal}
use Rattle.vmsa.specs.declared.Refusal.TheVariants.{WalkEnded}
use Rattle.stepwise.specs.declared.Update.{Update}
use Rattle.stepwise.specs.declared.Wanting.{Wanting}
use Rattle.stepwise.specs.Stepwise.{Progress, wanting, ended, start, offered}
use Rattle.words.specs.declared.AccessWords.{AccessWords}
use Rattle.words.specs.Words.{access_of, access_spare0, words_of}
use Rattle.step_words.specs.declared.StepwiseWords.{StepwiseWords}

-- the walk that the numbers stand for where it has not ended; bits 7 to 4 of tables have no say
unfoldable pub wanting_of : StepwiseWords → Wanting
wanting_of w =
    record { regime = regime_of w.regime; access = access_of w.access; address = record { 0 = w.address }; left = w.left; tables = w.tables % sum_count }

-- the end of a walk: its answer, and the update u where one is due
abbrev pub end_numbers : RegimeWords → AccessWords → Result → ℕ → Update → StepwiseWords
end_numbers g a result due u = record {
  regime = g;
  access = a;
  answer = words_of result;
  address = u.address.0;
  expected = u.expected;
  value = u.value;
  ended = 1;
  update = due;
  left = 0;
  tables = 0;
  spare32 = 0;
}

-- where none is due, its numbers are 0
abbrev pub end_words : RegimeWords → AccessWords → Result → Option Update → StepwiseWords
end_words g a result None = end_numbers g a result 0 (record { address = record { 0 = 0 }; expected = 0; value = 0 })
end_words g a result (Some u) = end_numbers g a result 1 u

-- a walk that was started with the regime g and the access a. Before its end the answer is none: refused, with no number
unfoldable pub progress_words : RegimeWords → AccessWords → Progress → StepwiseWords
progress_words g a (wanting w) = record {
  regime = g;
  access = a;
  answer = words_of (refused 0);
  address = w.address.0;
  expected = 0;
  value = 0;
  ended = 0;
  update = 0;
  left = w.left;
  tables = w.tables;
  spare32 = 0;
}
progress_words g a (ended e) = end_words g a e.result e.due

-- a start: the walk has the regime and the access as they were given, their spare numbers put to 0
abbrev pub start_words : RegimeWords → AccessWords → StepwiseWords
start_words g a = progress_words (regime_spare0 g) (access_spare0 a) (start (regime_of g) (access_of a))

-- what an offer leaves: 0 or the number of the refusal, and the walk
pub record OfferedWords : Type 0 where
  pub refusal : ℕ
  pub walk : StepwiseWords

abbrev pub offer_gives : ℕ → StepwiseWords → OfferedWords
offer_gives n w = record { refusal = n; walk = w }

-- what the code says of an offer to the walk w: refused, w stays as it was
abbrev pub offer_told : StepwiseWords → Either StepwiseWords Refusal → OfferedWords
offer_told w (Ok x) = offer_gives 0 x
offer_told w (Err y) = offer_gives (number_of y) w

-- an offer: after the end 12, and the walk as it was; before it 0, and the walk that it leaves
abbrev pub offer_words : StepwiseWords → Option ℕ → OfferedWords
offer_words w o =
    pick (flag w.ended) (offer_gives (number_of WalkEnded) w) (offer_gives 0 (progress_words w.regime w.access (offered (wanting_of w) o)))
