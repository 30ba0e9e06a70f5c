-- An access and an answer as structs of numbers (RULES 15), and the calls of a monitor in them.
use Rattle.std.specs.Prelude.{ℕ, List, eqb, Option, None, Some, Result as Either, Ok, Err}
use Rattle.descriptor.specs.Bits.{pick}
use Rattle.vmsa.specs.Words.{flag, flag_byte, regime_words}
use Rattle.vmsa.specs.Answers.{Result, success, fault, refused}
use Rattle.vmsa.specs.declared.Access.{Access}
use Rattle.vmsa.specs.declared.AccessKind.{AccessKind}
use Rattle.vmsa.specs.declared.AccessKind.TheVariants.{Read, Write, Update, Fetch, ProbeRead, ProbeWrite}
use Rattle.vmsa.specs.declared.Regime.{Regime}
use Rattle.vmsa.specs.declared.RegimeWords.{RegimeWords}
use Rattle.vmsa.specs.declared.Refusal.{Refusal}
use Rattle.checks.specs.Order.{regime_check}
use Rattle.walk.specs.Walk.{walk}
use Rattle.checks.specs.Order.{Checked}
use Rattle.harvest.specs.Harvest.{Harvested}
use Rattle.tlb.specs.Replies.{Reply, done, refused as refused_with, answered, harvested, Told, told, reply_to}
use Rattle.tlb.specs.Entries.{Filling, filling}
use Rattle.session.specs.declared.Session.{Session as SessionStruct}
use Rattle.session.specs.Model.{Handed, handed}
use Rattle.words.specs.declared.AccessWords.{AccessWords}
use Rattle.words.specs.declared.AnswerWords.{AnswerWords}

-- 0 read, 1 write, 2 update, 3 fetch, 4 probe-read, 5 probe-write; a number above is an update, so that no write passes without its mark
abbrev pub access_kind : ℕ → AccessKind
access_kind n =
    pick (eqb n 0) Read (pick (eqb n 1) Write (pick (eqb n 2) Update (pick (eqb n 3) Fetch (pick (eqb n 4) ProbeRead (pick (eqb n 5) ProbeWrite Update)))))

unfoldable pub access_of : AccessWords → Access
access_of w = record { address = record { 0 = w.address }; size = w.size; el0 = flag w.el0; kind = access_kind w.kind }

-- the same numbers, the spare ones put to 0 (RULES 15.5)
abbrev pub access_spare0 : AccessWords → AccessWords
access_spare0 a = record { address = a.address; size = a.size; el0 = a.el0; kind = a.kind; spare16 = 0; spare32 = 0 }

-- tag 0 for a success, 1 for a fault, 2 for a refusal; what an answer does not hold is 0, and so is spare
unfoldable pub words_of : Result → AnswerWords
words_of (success s) = record {
  output = s.output.0;
  tag = 0;
  refusal = 0;
  code = 0;
  level = s.level;
  attribute = s.attribute;
  shareability = s.shareability;
  nonglobal = flag_byte s.nonglobal;
  accessed = flag_byte s.accessed;
  dirtied = flag_byte s.dirtied;
  cacheable = flag_byte s.cacheable;
  reads = s.reads;
  spare = 0;
}
words_of (fault f) = record {
  output = 0;
  tag = 1;
  refusal = 0;
  code = f.code;
  level = f.level;
  attribute = 0;
  shareability = 0;
  nonglobal = 0;
  accessed = 0;
  dirtied = 0;
  cacheable = flag_byte f.cacheable;
  reads = f.reads;
  spare = 0;
}
words_of (refused n) = record {
  output = 0;
  tag = 2;
  refusal = n;
  code = 0;
  level = 0;
  attribute = 0;
  shareability = 0;
  nonglobal = 0;
  accessed = 0;
  dirtied = 0;
  cacheable = 0;
  reads = 0;
  spare = 0;
}

-- the same with another count of reads
abbrev pub counted_words : ℕ → AnswerWords → AnswerWords
counted_words n w = record {
  output = w.output;
  tag = w.tag;
  refusal = w.refusal;
  code = w.code;
  level = w.level;
  attribute = w.attribute;
  shareability = w.shareability;
  nonglobal = w.nonglobal;
  accessed = w.accessed;
  dirtied = w.dirtied;
  cacheable = w.cacheable;
  reads = n;
  spare = w.spare;
}

-- ---- the walk, and the session's calls

abbrev pub walk_words : Regime → Access → List ℕ → Told AnswerWords
walk_words r a m = told (words_of (walk r a m).result) (walk r a m).bytes

-- the number of a refusal, 0 for what is done
abbrev pub refusal_byte : Reply → ℕ
refusal_byte done = 0
refusal_byte (refused_with n) = n
refusal_byte (answered o n) = 0
refusal_byte (harvested map) = 0

-- a session's reply to an access as numbers
abbrev pub reply_words : Reply → AnswerWords
reply_words done = words_of (refused 0)
reply_words (refused_with n) = words_of (refused n)
reply_words (answered o n) = counted_words n (words_of o)
reply_words (harvested map) = words_of (refused 0)

-- what a call leaves, with its reply as numbers
abbrev pub replied : {A : Type 0} → (Reply → A) → Handed SessionStruct Reply → Handed SessionStruct A
replied numbers x = handed x.session x.memory (numbers x.reply)

-- what an access leaves of its page's entry, the same
abbrev pub entry_replied : Filling Reply → Filling AnswerWords
entry_replied x = filling x.entry x.memory (reply_words x.reply)

-- a harvest's number, the memory afterwards, and the map
abbrev pub harvest_numbered : Harvested Checked → Harvested ℕ
harvest_numbered h = record { reply = refusal_byte (reply_to h.reply); memory = h.memory; map = h.map }

-- and of a harvest in a session
abbrev pub harvest_replied : SessionStruct × Harvested Checked → SessionStruct × Harvested ℕ
harvest_replied x = (x.0, harvest_numbered x.1)

-- a regime to be set over n bytes of memory, as a session holds it, or the refusal
abbrev pub SetWords : Type 0
SetWords = Either RegimeWords Refusal

abbrev pub set_by : Regime → Checked → SetWords
set_by r (Ok _) = Ok (regime_words r)
set_by r (Err x) = Err x

abbrev pub set_words : ℕ → Regime → SetWords
set_words n r = set_by r (regime_check n r)

-- a reply that is given at once, as numbers; where there is none, the access walks
unfoldable pub hit_of : Option Reply → Option AnswerWords
hit_of None = None
hit_of (Some reply) = Some (reply_words reply)
