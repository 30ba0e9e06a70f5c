-- Calls of a session one after another, by any functions (RULES 11).
use Rattle.std.specs.Prelude.{ℕ, Bool, true, false, List, [], ◌∷◌, ◌≡◌, Option, Some}
use Rattle.descriptor.specs.Bits.{pick}
use Rattle.vmsa.specs.declared.Regime.{Regime}
use Rattle.tlb.specs.Replies.{Reply, done, refused, answered, harvested}
use Rattle.tlb.specs.Ours.{ours}
use Rattle.session.specs.declared.Session.{Session as SessionStruct}
use Rattle.session.specs.View.{leaves}
use Rattle.session.specs.Model.{Session, Handed, Call, set_regime, access, store, drop_all, harvest, call}

-- a call, what it handed back, and the memory that it found and left; nothing of what is stored
pub record Event : Type 0 where
  pub made : Call
  pub reply : Reply
  pub found : List ℕ
  pub left : List ℕ

abbrev pub event : {S : Type 0} → Call → List ℕ → Handed S Reply → Event
event c m x = record { made = c; reply = x.reply; found = m; left = x.memory }

-- functions over a session in whatever form S: F s m c x says that the call c, made in s and over m, left x
abbrev pub Functions : Type 0 → Type 1
Functions S = S → List ℕ → Call → Handed S Reply → Type 0

-- the model's own
abbrev pub Calling : Functions Session
Calling s m c x = x ≡ call ours s m c

-- functions over a session of the code whose every call leaves what `leaves` says
abbrev pub Leaving : Functions SessionStruct → Type 0
Leaving F = (s : SessionStruct) (m : List ℕ) (c : Call) (x : Handed SessionStruct Reply) → F s m c x → x ≡ leaves s m c

-- from a session over a memory: each call gets the session that the last one handed back and the memory as it was left. The last call stands first
pub data Chain {S : Type 0} (F : Functions S) (s₀ : S) (m₀ : List ℕ) : S → List ℕ → List Event → Type 0 where
  none_yet : Chain F s₀ m₀ s₀ m₀ []
  more : {s : S} {m : List ℕ} {past : List Event} {c : Call} {x : Handed S Reply} → Chain F s₀ m₀ s m past → F s m c x
      → Chain F s₀ m₀ x.session x.memory (event c m x ∷ past)

-- ---- the regime last accepted, from the calls and their replies

-- an accepted call that is no access
abbrev pub is_done : Reply → Bool
is_done done = true
is_done (refused n) = false
is_done (answered o n) = false
is_done (harvested map) = true

abbrev pub regime_after : Call → Reply → Option Regime → Option Regime
regime_after (set_regime R) reply old = pick (is_done reply) (Some R) old
regime_after (access a) reply old = old
regime_after (store address value) reply old = old
regime_after drop_all reply old = old
regime_after (harvest first count map) reply old = old

-- where the first session had the regime g
abbrev pub regime_from : Option Regime → List Event → Option Regime
regime_from g [] = g
regime_from g (e ∷ before) = regime_after e.made e.reply (regime_from g before)
