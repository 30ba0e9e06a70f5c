-- A reply with its count apart, as numbers, is the answer as numbers; a hit is the access call; a refusal as a number says what a set regime does.
use Prim.Native.Nat.{ℕ, ◌+◌, ◌≤◌, ◌<◌}
use mathlib.Core.Bool.{false}
use mathlib.Core.List.{List}
use Rattle.std.specs.Prelude.{Option, None, Some, Ok, Err}
use mathlib.Core.Path.{◌≡◌, refl, sym, ap, ◌∙◌}
use lib.Dec.{eqb}
use lib.ListN.{length, get_or}
use Rattle.descriptor.proofs.Tests.{clash}
use Rattle.vmsa.specs.Answers.{Result, success, fault, refused, number_of, view}
use Rattle.vmsa.specs.declared.Answer.TheVariants as answers
use Rattle.vmsa.specs.declared.Success.{Success}
use Rattle.vmsa.specs.declared.Fault.{Fault}
use Rattle.vmsa.specs.declared.FaultKind.{FaultKind}
use Rattle.vmsa.specs.Words.{regime_of, regime_words}
use Rattle.vmsa.specs.declared.Access.{Access}
use Rattle.vmsa.specs.declared.Refusal.{Refusal}
use Rattle.vmsa.specs.declared.Refusal.TheVariants.{MemoryPool, PoolAddress, Sizes, Root, Attributes, AccessSize, PageCrossing, StoreAddress, NoRegime, PageRange, MapLength, WalkEnded, DirtyState}
use Rattle.vmsa.specs.declared.Regime.{Regime}
use Rattle.vmsa.specs.declared.RegimeWords.{RegimeWords}
use Rattle.checks.specs.Order.{Checked}
use Rattle.checks.specs.Order.{regime_check}
use Rattle.tlb.specs.Replies.{Reply, reply_of}
use Rattle.tlb.specs.Ours.{ours}
use Rattle.tlb.specs.Walker.{Walked, walked, access_in}
use Rattle.tlb.proofs.Access.{Walks, walk_is_access, accessed_is}
use Rattle.tlb.specs.Entries.{entry_view, no_entry, regime_in, Filling, filled_by, accessed_entry, entry_reply, entry_answer, entry_kind, leaf_in}
use Rattle.tlb.specs.declared.Entry.{Entry as EntryStruct}
use Rattle.tlb.proofs.Entries.{fault_answers}
use Rattle.decision.specs.Decision.{failing}
use Rattle.decision.specs.declared.HitKind.TheVariants as hits
use Rattle.session.specs.declared.Session.{Session as SessionStruct}
use Rattle.session.specs.Model.{handed, set_regime, access}
use Rattle.session.specs.View.{regime_held, set_to, number_in, entry_in, with_entry, leaves}
use Rattle.session.proofs.Calls.{set_leaves, hit_leaves, entry_leaves}
use Rattle.words.specs.declared.AnswerWords.{AnswerWords}
use Rattle.words.specs.Words.{words_of, refusal_byte, reply_words, replied, entry_replied, SetWords, set_by, set_words, hit_of}

pub reply_words_lem : (o : Result) → reply_words (reply_of o) ≡ words_of o
unfolding words_of
reply_words_lem (success s) = refl
reply_words_lem (fault f) = refl
reply_words_lem (refused n) = refl

-- ---- a set regime

pub not_zero : (x : Refusal) → eqb (number_of x) 0 ≡ false
not_zero MemoryPool = refl
not_zero PoolAddress = refl
not_zero Sizes = refl
not_zero Root = refl
not_zero Attributes = refl
not_zero AccessSize = refl
not_zero PageCrossing = refl
not_zero StoreAddress = refl
not_zero NoRegime = refl
not_zero PageRange = refl
not_zero MapLength = refl
not_zero WalkEnded = refl
not_zero DirtyState = refl

-- whatever session, over the memory's bytes: refused, it stays as it was
pub set_refused : (m : List ℕ) (g : RegimeWords) (y : Refusal) → Err y ≡ set_words (length m) (regime_of g) → (s : SessionStruct)
    → handed s m (number_of y) ≡ replied refusal_byte (leaves s m (set_regime (regime_of g)))
set_refused m g y e s = by (regime_check (length m) (regime_of g)) refl
  where
    by : (x : Checked) → regime_check (length m) (regime_of g) ≡ x → handed s m (number_of y) ≡ replied refusal_byte (leaves s m (set_regime (regime_of g)))
    by (Ok _) k = clash (let z : ◌≡◌ {A = SetWords} (Err y) (Ok (regime_words (regime_of g))) = e ∙ ap (set_by (regime_of g)) k in cc)
    by (Err x) k =
        let z : ◌≡◌ {A = SetWords} (Err y) (Err x) = e ∙ ap (set_by (regime_of g)) k in
        let w : y ≡ x = cc in
        rw w (ap (replied refusal_byte) (set_leaves s m (regime_of g) (Err x) k))

-- and else it is set to the regime
pub set_accepted : (m : List ℕ) (g w : RegimeWords) → Ok w ≡ set_words (length m) (regime_of g) → (s : SessionStruct)
    → handed (set_to w) m 0 ≡ replied refusal_byte (leaves s m (set_regime (regime_of g)))
set_accepted m g w e s = by (regime_check (length m) (regime_of g)) refl
  where
    by : (x : Checked) → regime_check (length m) (regime_of g) ≡ x → handed (set_to w) m 0 ≡ replied refusal_byte (leaves s m (set_regime (regime_of g)))
    by (Err x) k = clash (let z : ◌≡◌ {A = SetWords} (Ok w) (Err x) = e ∙ ap (set_by (regime_of g)) k in cc)
    by (Ok u) k =
        let z : ◌≡◌ {A = SetWords} (Ok w) (Ok (regime_words (regime_of g))) = e ∙ ap (set_by (regime_of g)) k in
        let v : w ≡ regime_words (regime_of g) = cc in
        rw v (ap (replied refusal_byte) (set_leaves s m (regime_of g) (Ok u) k))

-- ---- a hit

pub no_hit : (x : Option Reply) → None ≡ x → None ≡ hit_of x
unfolding hit_of
no_hit x q = rw (← q)

hit : (x : Option Reply) (o : Result) (w : AnswerWords) → w ≡ words_of o → Some (reply_of o) ≡ x → Some w ≡ hit_of x
unfolding hit_of
hit x o w e h = rw (← h, reply_words_lem o, e)

module _ (r : Regime) (a : Access) (e : EntryStruct) where
  pub hit_success : (s : Success) (w : AnswerWords) → Some (reply_of (view (answers.Success s))) ≡ entry_answer ours r a (entry_view e) → w ≡ words_of (view (answers.Success s))
      → Some w ≡ hit_of (entry_answer ours r a (entry_view e))
  hit_success s w h k = hit (entry_answer ours r a (entry_view e)) (view (answers.Success s)) w k h

  pub hit_fault : (kind : FaultKind) (f : Fault) (w : AnswerWords) → entry_kind r a (entry_view e) ≡ hits.Fault kind → view (answers.Fault f) ≡ (failing (leaf_in e) 0 kind).result
      → w ≡ words_of (view (answers.Fault f)) → Some w ≡ hit_of (entry_answer ours r a (entry_view e))
  hit_fault kind f w h g k = hit (entry_answer ours r a (entry_view e)) (view (answers.Fault f)) w k (ap (λ (o : Result). Some (reply_of o)) g ∙ (fault_answers r a e kind h).1)

-- where there is none, no reply is given at once
no_reply : (x : Option Reply) → None ≡ hit_of x → None ≡ x
unfolding hit_of
no_reply None e = refl
no_reply (Some reply) e = clash (cc)

-- a hit is the call of whatever session has the entry and the regime
pub hit_numbers : (s : SessionStruct) (m : List ℕ) (a : Access) (w : AnswerWords) → Some w ≡ hit_of (entry_reply (length m) a (entry_view (entry_in s a)) (regime_in s.regime s.set))
    → handed s m w ≡ replied reply_words (leaves s m (access a))
unfolding hit_of
hit_numbers s m a w e = by (entry_reply (length m) a (entry_view (entry_in s a)) (regime_in s.regime s.set)) refl
  where
    by : (x : Option Reply) → x ≡ entry_reply (length m) a (entry_view (entry_in s a)) (regime_in s.regime s.set) → handed s m w ≡ replied reply_words (leaves s m (access a))
    by None k = clash (let z : Some w ≡ None = e ∙ ap hit_of (sym k) in cc)
    by (Some reply) k =
        let z : Some w ≡ Some (reply_words reply) = e ∙ ap hit_of (sym k) in
        let v : w ≡ reply_words reply = cc in
        rw v (ap (replied reply_words) (hit_leaves s m a reply k))

-- ---- a miss

-- the one entry of an access put where it lies
entry_numbers : (s : SessionStruct) (m : List ℕ) (a : Access) (x : Filling AnswerWords) → x ≡ entry_replied (accessed_entry (regime_held s) (entry_in s a) m a)
    → handed (with_entry s (number_in s a) x.entry) x.memory x.reply ≡ replied reply_words (leaves s m (access a))
entry_numbers s m a x e =
    ap (λ (y : Filling AnswerWords). handed (with_entry s (number_in s a) y.entry) y.memory y.reply) e
    ∙ ap (replied reply_words) (entry_leaves s m a (accessed_entry (regime_held s) (entry_in s a) m a) refl)

-- ---- an access in the session where it lies, by the number of its page's entry and the regime that the session holds

module _ (s : SessionStruct) (m : List ℕ) (a : Access) (i : ℕ) (q : i ≡ number_in s a) (g : Option Regime) (h : g ≡ regime_held s) where
  abbrev at : EntryStruct
  at = get_or s.entries i no_entry

  abbrev said : Option AnswerWords
  said = hit_of (entry_reply (length m) a (entry_view at) g)

  said_is : said ≡ hit_of (entry_reply (length m) a (entry_view (entry_in s a)) (regime_held s))
  said_is = rw (q, h)

  pub hit_at : (w : AnswerWords) → Some w ≡ said → handed s m w ≡ replied reply_words (leaves s m (access a))
  hit_at w e = hit_numbers s m a w (e ∙ said_is)

  -- where nothing is said at once, the access walks
  walks : None ≡ said → Walks (regime_of s.regime) m a (access_in ours (regime_held s) m a (entry_view (entry_in s a)))
  walks e = walk_is_access s.regime s.set m a (entry_view (entry_in s a)) (no_reply _ (e ∙ said_is))

  pub walk_free : None ≡ said → ((regime_of s.regime).pool.start + (regime_of s.regime).pool.length ≤ length m) × (0 < a.size)
  walk_free e = let w = walks e in (w.fits, w.positive)

  abbrev left : Filling AnswerWords
  left = entry_replied (filled_by at (regime_of s.regime) a (walked ours (regime_of s.regime) m a))

  pub walk_at : None ≡ said → handed (with_entry s i left.entry) left.memory left.reply ≡ replied reply_words (leaves s m (access a))
  walk_at e =
      rw q
      (entry_numbers s m a (entry_replied (filled_by (entry_in s a) (regime_of s.regime) a (walked ours (regime_of s.regime) m a)))
      (ap (λ (x : Walked). entry_replied (filled_by (entry_in s a) (regime_of s.regime) a x)) (walks e).same
      ∙ ap entry_replied (sym (accessed_is s.regime s.set (entry_in s a) m a))))
