-- The numbers of an answer, and of a refusal, lose nothing.
use Prim.Native.Nat.{ℕ}
use mathlib.Core.Bool.{Bool, true, false}
use mathlib.Core.List.{List}
use Rattle.std.specs.Prelude.{Option, None, Some, Ok, Err}
use mathlib.Core.Path.{◌≡◌, refl, sym, ap, subst⁻¹, ◌∙◌}
use lib.ListN.{length}
use Rattle.descriptor.proofs.Tests.{clash}
use Rattle.vmsa.specs.Answers.{Result, success, fault, refused, Faulted, number_of}
use Rattle.vmsa.specs.Words.{flag_byte}
use Rattle.vmsa.proofs.Words.{flag_byte_lem}
use Rattle.vmsa.specs.declared.Regime.{Regime}
use Rattle.vmsa.specs.declared.Access.{Access}
use Rattle.vmsa.specs.declared.Refusal.{Refusal}
use Rattle.vmsa.specs.declared.Success.{Success}
use Rattle.checks.specs.Order.{Checked}
use Rattle.checks.specs.Order.{first_of, memory_rows, setting_rows, store_rows, and_then}
use Rattle.tlb.specs.Replies.{Reply, done, refused as refused_with, answered, harvested, reply_of, reply_to, harvest_reply, uncounted, dirties}
use Rattle.tlb.specs.Ours.{ours}
use Rattle.session.specs.Model.{Session, set_by, store_by, store_in, set_regime, access, store, call}
use Rattle.session.proofs.Calls.{access_answer}
use Rattle.words.specs.declared.AnswerWords.{AnswerWords}
use Rattle.words.specs.Words.{words_of, counted_words, refusal_byte, reply_words}
use Rattle.words.proofs.Reply.{reply_words_lem, not_zero}
use Rattle.rules_c.specs.Readings.{success_in, fault_in, result_in, answer_reply, number_reply, harvest_read}

-- an answer is read back from its numbers
pub result_in_lem : (x : Result) → result_in (words_of x) ≡ x
unfolding words_of
result_in_lem (success s) = rw (flag_byte_lem s.nonglobal, flag_byte_lem s.accessed, flag_byte_lem s.dirtied, flag_byte_lem s.cacheable)
result_in_lem (fault f) = rw (flag_byte_lem f.cacheable)
result_in_lem (refused n) = refl

answer_in : (x : Result) → answer_reply (reply_words (reply_of x)) ≡ reply_of x
answer_in x = ap answer_reply (reply_words_lem x) ∙ ap reply_of (result_in_lem x)

number_in : (x : Refusal) → number_reply (number_of x) ≡ refused_with (number_of x)
number_in x = rw (not_zero x)

-- ---- by the tag

module _ (w : AnswerWords) where
  pub of_success : (x : Result) → w ≡ words_of x → w.tag ≡ 0 → x ≡ success (success_in w)
  of_success x e t = sym (ap result_in e ∙ result_in_lem x) ∙ by
    where
      by : result_in w ≡ success (success_in w)
      by = rw t

  pub of_fault : (x : Result) → w ≡ words_of x → w.tag ≡ 1 → x ≡ fault (fault_in w)
  of_fault x e t = sym (ap result_in e ∙ result_in_lem x) ∙ by
    where
      by : result_in w ≡ fault (fault_in w)
      by = rw t

pub is_success : (x : Result) (s : Success) → x ≡ success s → (words_of x).tag ≡ 0
unfolding words_of
is_success x s e = rw e

pub is_fault : (x : Result) (f : Faulted) → x ≡ fault f → ((words_of x).tag ≡ 1) × ((words_of x).code ≡ f.code) × ((words_of x).level ≡ f.level)
unfolding words_of
is_fault x f e = (rw e, rw e, rw e)

pub is_refused : (x : Result) (k : ℕ) → x ≡ refused k → ((words_of x).tag ≡ 2) × ((words_of x).refusal ≡ k)
unfolding words_of
is_refused x k e = (rw e, rw e)

pub of_refused : (x : Result) → (words_of x).tag ≡ 2 → x ≡ refused (words_of x).refusal
unfolding words_of
of_refused (success s) t = clash (cc)
of_refused (fault f) t = clash (cc)
of_refused (refused n) t = refl

-- a refusal is read as one, and no other answer is
pub refused_read : (x : Result) (k : ℕ) → reply_of x ≡ refused_with k → x ≡ refused k
refused_read (success s) k e = clash (cc)
refused_read (fault f) k e = clash (cc)
refused_read (refused n) k e = let z : n ≡ k = cc in ap refused z

-- ---- every reply of an access is read back

pub access_read : (s : Session) (m : List ℕ) (a : Access) → answer_reply (reply_words (call ours s m (access a)).reply) ≡ (call ours s m (access a)).reply
access_read s m a = let x = access_answer s m a in subst⁻¹ (λ (y : Reply). answer_reply (reply_words y) ≡ y) x.1 (answer_in x.0)

-- ---- and every reply of a set regime or a store is done or a refusal's

pub set_read : (s : Session) (m : List ℕ) (r : Regime) → number_reply (refusal_byte (call ours s m (set_regime r)).reply) ≡ (call ours s m (set_regime r)).reply
set_read s m r = by (and_then (first_of (memory_rows (length m) r)) (first_of (setting_rows r)))
  where
    by : (x : Checked) → number_reply (refusal_byte (set_by ours s m r x).reply) ≡ (set_by ours s m r x).reply
    by (Ok _) = refl
    by (Err x) = number_in x

store_in_lem : (m : List ℕ) (address value : ℕ) (g : Option Regime) → number_reply (refusal_byte (store_in ours g m address value).reply) ≡ (store_in ours g m address value).reply
store_in_lem m address value None = refl
store_in_lem m address value (Some r) = by (and_then (first_of (memory_rows (length m) r)) (first_of (store_rows r.pool address)))
  where
    by : (x : Checked) → number_reply (refusal_byte (store_by ours r m address value x).reply) ≡ (store_by ours r m address value x).reply
    by (Ok _) = refl
    by (Err x) = number_in x

pub store_read : (s : Session) (m : List ℕ) (address value : ℕ) → number_reply (refusal_byte (call ours s m (store address value)).reply) ≡ (call ours s m (store address value)).reply
store_read s m address value = store_in_lem m address value s.regime

-- ---- and every reply of a harvest, with its map

pub harvest_read_lem : (x : Checked) (map : List ℕ) → harvest_read (refusal_byte (reply_to x)) map ≡ harvest_reply x map
harvest_read_lem (Ok _) map = refl
harvest_read_lem (Err x) map = rw (not_zero x)

-- ---- the count put to 0, and the dirty mark

pub words_uncounted : (y : Reply) → counted_words 0 (reply_words y) ≡ reply_words (uncounted y)
unfolding words_of
words_uncounted done = refl
words_uncounted (refused_with n) = refl
words_uncounted (answered o n) = refl
words_uncounted (harvested map) = refl

clean_byte : (b : Bool) → flag_byte b ≡ 0 → b ≡ false
clean_byte true e = clash (cc)
clean_byte false e = refl

dirty_byte : (b : Bool) → (flag_byte b ≡ 0 → ⊥) → b ≡ true
dirty_byte true e = refl
dirty_byte false e = absurd (e refl)

pub clean_words : (x : Result) → (words_of x).dirtied ≡ 0 → dirties (reply_of x) ≡ false
unfolding words_of
clean_words (success s) e = clean_byte s.dirtied e
clean_words (fault f) e = refl
clean_words (refused n) e = refl

clean_flag : (b : Bool) → b ≡ false → flag_byte b ≡ 0
clean_flag b e = rw e

pub clean_read : (x : Result) → dirties (reply_of x) ≡ false → (words_of x).dirtied ≡ 0
unfolding words_of
clean_read (success s) e = clean_flag s.dirtied e
clean_read (fault f) e = refl
clean_read (refused n) e = refl

pub dirty_words : (x : Result) → ((words_of x).dirtied ≡ 0 → ⊥) → dirties (reply_of x) ≡ true
unfolding words_of
dirty_words (success s) e = dirty_byte s.dirtied e
dirty_words (fault f) e = absurd (e refl)
dirty_words (refused n) e = absurd (e refl)
