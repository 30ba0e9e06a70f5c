-- A walk a descriptor at a time that is fed, offer after offer, by any functions (RULES 16.5); and the plain walk over any reader.
use Rattle.std.specs.Prelude.{ℕ, List, [], ◌∷◌, map, ◌≡◌, length, Option, None, Some, Ok, Err}
use Rattle.vmsa.specs.Answers.{number_of}
use Rattle.vmsa.specs.declared.Regime.{Regime}
use Rattle.vmsa.specs.declared.Access.{Access}
use Rattle.vmsa.specs.declared.Refusal.TheVariants.{WalkEnded}
use Rattle.checks.specs.Order.{Checked}
use Rattle.checks.specs.Order.{start_check}
use Rattle.lookup.specs.Trace.{Trace}
use Rattle.lookup.specs.Steps.{locate}
use Rattle.stepwise.specs.declared.Wanting.{Wanting}
use Rattle.stepwise.specs.Stepwise.{Ended, Progress, wanting, ended, conclusion, declined, offered}

-- an offer: the address that was named, and what was offered for it
pub record Offer : Type 0 where
  pub address : ℕ
  pub word : Option ℕ

-- the address that a walk names, where it wants a descriptor
abbrev pub named : Progress → Option ℕ
named (wanting w) = Some w.address.0
named (ended e) = None

-- functions over a walk in whatever form S: F s o t n says that the offer o, made to s, left t and was answered with n, 0 or the number of a refusal
abbrev pub Functions : Type 0 → Type 1
Functions S = S → Option ℕ → S → ℕ → Type 0

-- functions, with a reading of their walks, that do what the rules say of an offer (RULES 16.2 and 16.3)
pub record Offering {S : Type 0} (see : S → Progress) (F : Functions S) : Type 0 where
  pub goes : (s : S) (o : Option ℕ) (t : S) (n : ℕ) → F s o t n → (w : Wanting) → see s ≡ wanting w → (see t ≡ offered w o) × (n ≡ 0)
  pub late : (s : S) (o : Option ℕ) (t : S) (n : ℕ) → F s o t n → (e : Ended) → see s ≡ ended e → (t ≡ s) × (n ≡ number_of WalkEnded)

-- from the walk s: each offer is made to the walk that the last one left, which wants a descriptor. The first offer stands first
pub data Fed {S : Type 0} (see : S → Progress) (F : Functions S) : S → List Offer → S → Type 0 where
  none_yet : {s : S} → Fed see F s [] s
  more : {s t u : S} {a n : ℕ} {o : Option ℕ} {offers : List Offer} → named (see s) ≡ Some a → F s o t n → Fed see F t offers u
      → Fed see F s (record { address = a; word = o } ∷ offers) u

-- the addresses named, in order; and that each was offered what a reader has there
abbrev pub addresses : List Offer → List ℕ
addresses offers = map (λ (x : Offer). x.address) offers

abbrev pub Reads : (ℕ → Option ℕ) → List Offer → Type 0
Reads read [] = Unit {0}
Reads read (x ∷ offers) = (x.word ≡ read x.address) × Reads read offers

-- ---- the plain walk over a reader: the addresses that its steps visit, and its end (RULES 16.5)

pub record Plain : Type 0 where
  pub visited : List ℕ
  pub end : Ended

-- the count of reads is the length of the visited list (RULES 9.3)
abbrev pub along : Regime → Access → Trace → Plain
along r a t = record { visited = t.visited; end = conclusion r a (length t.visited) t.end }

abbrev pub plain_by : Regime → Access → (ℕ → Option ℕ) → Checked → Plain
plain_by r a read (Err x) = record { visited = []; end = declined x }
plain_by r a read (Ok _) = along r a (locate r read a.address.0)

unfoldable pub plain_over : Regime → Access → (ℕ → Option ℕ) → Plain
plain_over r a read = plain_by r a read (start_check r a)
