-- What a call of a session (RULES 10) hands back, with the count of reads apart.
use Rattle.std.specs.Prelude.{ℕ, List, Bool, false, ◌||◌, Ok, Err}
use Rattle.vmsa.specs.Answers.{Result, success, fault, refused as refused_with, number_of, dirtied_in}
use Rattle.checks.specs.Order.{Checked}

-- done: an accepted call that is neither an access nor a harvest. harvested: an accepted harvest, with the map that it left. answered: an access's answer with its count put to 0, and the count
pub data Reply : Type 0 where
  done : Reply
  refused : ℕ → Reply
  answered : Result → ℕ → Reply
  harvested : List ℕ → Reply

-- what a call tells: its reply, in whatever form A, and the memory afterwards
pub record Told (A : Type 0) : Type 0 where
  pub reply : A
  pub memory : List ℕ

abbrev pub told : {A : Type 0} → A → List ℕ → Told A
told reply memory = record { reply = reply; memory = memory }

-- the reply that an answer is
abbrev pub reply_of : Result → Reply
reply_of (success s) =
    answered (success (record {
      output = s.output;
      attribute = s.attribute;
      shareability = s.shareability;
      nonglobal = s.nonglobal;
      level = s.level;
      accessed = s.accessed;
      dirtied = s.dirtied;
      cacheable = s.cacheable;
      reads = 0;
    })) s.reads
reply_of (fault f) = answered (fault (record { code = f.code; level = f.level; cacheable = f.cacheable; reads = 0 })) f.reads
reply_of (refused_with n) = refused n

-- the reply of a call that answers nothing but that it was accepted
abbrev pub reply_to : Checked → Reply
reply_to (Ok _) = done
reply_to (Err x) = refused (number_of x)

-- the reply of a harvest, which left a map
abbrev pub harvest_reply : Checked → List ℕ → Reply
harvest_reply (Ok _) map = harvested map
harvest_reply (Err x) map = refused (number_of x)

-- a reply with its count of reads, where there is one, put to 0
abbrev pub uncounted : Reply → Reply
uncounted done = done
uncounted (refused n) = refused n
uncounted (answered o n) = answered o 0
uncounted (harvested map) = harvested map

-- an answer that makes any update
abbrev pub updates : Result → Bool
updates (success s) = s.accessed || s.dirtied
updates (fault f) = false
updates (refused_with n) = false

-- a reply that makes a dirty update
abbrev pub dirties : Reply → Bool
dirties done = false
dirties (refused n) = false
dirties (answered o n) = dirtied_in o
dirties (harvested map) = false
