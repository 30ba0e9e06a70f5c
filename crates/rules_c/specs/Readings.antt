-- What C reads in the numbers that it gets (RULES 15).
use Rattle.std.specs.Prelude.{ℕ, List, eqb}
use Rattle.descriptor.specs.Bits.{pick}
use Rattle.vmsa.specs.Words.{flag}
use Rattle.vmsa.specs.Answers.{Result, success, fault, refused, Faulted}
use Rattle.vmsa.specs.declared.Success.{Success}
use Rattle.tlb.specs.Replies.{Reply, done, refused as refused_with, harvested, reply_of}
use Rattle.words.specs.declared.AnswerWords.{AnswerWords}

abbrev pub success_in : AnswerWords → Success
success_in w = record {
  output = record { 0 = w.output };
  attribute = w.attribute;
  shareability = w.shareability;
  nonglobal = flag w.nonglobal;
  level = w.level;
  accessed = flag w.accessed;
  dirtied = flag w.dirtied;
  cacheable = flag w.cacheable;
  reads = w.reads;
}

abbrev pub fault_in : AnswerWords → Faulted
fault_in w = record { code = w.code; level = w.level; cacheable = flag w.cacheable; reads = w.reads }

-- an answer: tag 0 is a success, 1 a fault, any other a refusal
abbrev pub result_in : AnswerWords → Result
result_in w = pick (eqb w.tag 0) (success (success_in w)) (pick (eqb w.tag 1) (fault (fault_in w)) (refused w.refusal))

abbrev pub answer_reply : AnswerWords → Reply
answer_reply w = reply_of (result_in w)

-- a number of a set regime or a store: 0 is done, any other that of a refusal
abbrev pub number_reply : ℕ → Reply
number_reply n = pick (eqb n 0) done (refused_with n)

-- that of a harvest, with the map that it left
abbrev pub harvest_read : ℕ → List ℕ → Reply
harvest_read n map = pick (eqb n 0) (harvested map) (refused_with n)
