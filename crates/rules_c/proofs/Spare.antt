-- Spare numbers have no say, and are 0 in what is returned.
use Prim.Native.Nat.{ℕ, zero, suc}
use mathlib.Core.List.{List, [], ◌∷◌, map}
use Rattle.std.specs.Prelude.{Option, None, Some, Ok, Err}
use mathlib.Core.Path.{◌≡◌, refl, sym, ap, ap₂, ◌∙◌}
use native.Mathlib.Nat.{mod-eq_of_lt}
use lib.ListN.{length, get_or, set as set_at, replicate}
use Rattle.descriptor.specs.Bits.{pick}
use Rattle.descriptor.proofs.Lists.{map_set}
use Rattle.vmsa.specs.Settings.{initial}
use Rattle.vmsa.specs.Words.{flag, regime_of, regime_words, regime_spare0}
use Rattle.vmsa.specs.Answers.{Result, success, fault, refused as refused_with}
use Rattle.vmsa.specs.declared.Regime.{Regime}
use Rattle.vmsa.specs.declared.RegimeWords.{RegimeWords}
use Rattle.vmsa.specs.declared.Access.{Access}
use Rattle.vmsa.specs.declared.Leaf.{Leaf}
use Rattle.checks.specs.Order.{Checked}
use Rattle.checks.specs.Order.{regime_check, and_then}
use Rattle.walk.specs.Walk.{walk}
use Rattle.harvest.specs.Harvest.{Harvested, harvest as harvest_over}
use Rattle.tlb.specs.declared.Entry.{Entry as EntryStruct}
use Rattle.tlb.specs.Replies.{Reply, done, refused, answered, harvested, Told, told, harvest_reply}
use Rattle.tlb.specs.Walker.{entry_count, Walked, access_in}
use Rattle.tlb.specs.Ours.{ours}
use Rattle.tlb.specs.Entries.{entry_view, no_entry, regime_in, page_for, kept_entry, Filling, accessed_entry}
use Rattle.session.specs.declared.Session.{Session as SessionStruct}
use Rattle.tlb.proofs.Access.{Low, low_in, accessed_is}
use Rattle.session.specs.Model.{Session, Handed, handed, Stepped, Call, set_regime, access, store, drop_all, harvest, set_by, store_in, harvest_in, call}
use Rattle.session.specs.View.{session_view, empty_entries, empty_session, set_to, set_after, number_in, entry_in, with_entries, emptied, emptied_after, harvest_of, session_after, leaves}
use Rattle.words.specs.declared.AccessWords.{AccessWords}
use Rattle.words.specs.declared.AnswerWords.{AnswerWords}
use Rattle.words.specs.Words.{access_of, words_of, walk_words, refusal_byte, reply_words, replied, harvest_numbered, access_spare0}
use Rattle.capi_session.specs.Says.{EmptySays}
use Rattle.calls.specs.Chains.{Event, Chain, none_yet, more}
use Rattle.rules_c.specs.Code.{MadeC}
use Rattle.rules_c.specs.Spare.{entry_spare0, session_spare0, SpareOfC}
use Rattle.session.proofs.Calls.{access_is}
use Rattle.rules_c.proofs.Chains.{made_is}
use Rattle.rules_c.proofs.Sums.{access_spare}

-- ---- what is read of a struct

regime_spare : (g : RegimeWords) → regime_of (regime_spare0 g) ≡ regime_of g
unfolding regime_of
regime_spare g = refl

regimes_alike : (g h : RegimeWords) → regime_spare0 g ≡ regime_spare0 h → regime_of g ≡ regime_of h
regimes_alike g h e = sym (regime_spare g) ∙ ap regime_of e ∙ regime_spare h

words_of_lem : (a : AccessWords) → access_of (access_spare0 a) ≡ access_of a
unfolding access_of
words_of_lem a = refl

accesses_alike : (a b : AccessWords) → access_spare0 a ≡ access_spare0 b → access_of a ≡ access_of b
accesses_alike a b e = sym (words_of_lem a) ∙ ap access_of e ∙ words_of_lem b

regime_in_lem : (g : RegimeWords) (n : ℕ) → regime_in (regime_spare0 g) n ≡ regime_in g n
regime_in_lem g n = ap (λ (r : Regime). pick (flag n) (Some r) None) (regime_spare g)

-- ---- what a call leaves of a session

same_entries : (n : ℕ) → map entry_spare0 (replicate n no_entry) ≡ replicate n no_entry
same_entries zero = refl
same_entries (suc n) = ap (λ (t : List EntryStruct). no_entry ∷ t) (same_entries n)

entry_at_lem : (es : List EntryStruct) (i : ℕ) → get_or (map entry_spare0 es) i no_entry ≡ entry_spare0 (get_or es i no_entry)
entry_at_lem [] i = refl
entry_at_lem (e ∷ es) zero = refl
entry_at_lem (e ∷ es) (suc i) = entry_at_lem es i

kept : (e : EntryStruct) (page : ℕ) (o : Option Leaf) → Low o → kept_entry (entry_spare0 e) page o ≡ entry_spare0 (kept_entry e page o)
kept e page None h = refl
kept e page (Some leaf) h = rw (mod-eq_of_lt h.1)

-- what an access gives by its page's entry
given_spare : (g : RegimeWords) (n : ℕ) (e : EntryStruct) (m : List ℕ) (a : Access)
    → access_in ours (regime_in (regime_spare0 g) n) m a (entry_view (entry_spare0 e)) ≡ access_in ours (regime_in g n) m a (entry_view e)
given_spare g n e m a = access_spare (regime_in (regime_spare0 g) n) m a e ∙ ap (λ (r : Option Regime). access_in ours r m a (entry_view e)) (regime_in_lem g n)

accessed_entry_lem : (g : RegimeWords) (n : ℕ) (e : EntryStruct) (m : List ℕ) (a : Access) → (accessed_entry (regime_in (regime_spare0 g) n) (entry_spare0 e) m a).entry ≡ entry_spare0 (accessed_entry (regime_in g n) e m a).entry
unfolding regime_of
accessed_entry_lem g n e m a =
    ap (λ (x : Filling Reply). x.entry) (accessed_is (regime_spare0 g) n (entry_spare0 e) m a)
    ∙ ap (λ (w : Walked). kept_entry (entry_spare0 e) (page_for (regime_of g) a) w.kept) (given_spare g n e m a)
    ∙ kept e (page_for (regime_of g) a) (access_in ours (regime_in g n) m a (entry_view e)).kept (low_in (regime_in g n) m a (entry_view e))
    ∙ ap (λ (x : Filling Reply). entry_spare0 x.entry) (sym (accessed_is g n e m a))

-- sessions alike in all but their entries
with_entries_lem : (s : SessionStruct) (es fs : List EntryStruct) → es ≡ map entry_spare0 fs → with_entries (session_spare0 s) es ≡ session_spare0 (with_entries s fs)
with_entries_lem s es fs e = ap (with_entries (session_spare0 s)) e

words_spare : (r : Regime) → regime_words r ≡ regime_spare0 (regime_words r)
unfolding regime_words
words_spare r = refl

set_to_lem : (r : Regime) → set_to (regime_words r) ≡ session_spare0 (set_to (regime_words r))
set_to_lem r i = record { regime = words_spare r i; entries = sym (same_entries entry_count) i; set = 1; spare8 = 0; spare16 = 0; spare32 = 0 }

emptied_spare : (s : SessionStruct) → emptied (session_spare0 s) ≡ session_spare0 (emptied s)
emptied_spare s = with_entries_lem s empty_entries empty_entries (sym (same_entries entry_count))

after : (s : SessionStruct) (m : List ℕ) (c : Call) → session_after (session_spare0 s) m c ≡ session_spare0 (session_after s m c)
unfolding regime_of
after s m (set_regime r) = by (regime_check (length m) r)
  where
    by : (x : Checked) → set_after (session_spare0 s) r x ≡ session_spare0 (set_after s r x)
    by (Ok _) = set_to_lem r
    by (Err x) = refl
after s m (access a) =
    with_entries_lem s _ (set_at s.entries (number_in s a) (accessed_entry (regime_in s.regime s.set) (entry_in s a) m a).entry)
    (ap (λ (e : EntryStruct). set_at (map entry_spare0 s.entries) (number_in s a) (accessed_entry (regime_in (regime_spare0 s.regime) s.set) e m a).entry) (entry_at_lem s.entries (number_in s a))
    ∙ ap (set_at (map entry_spare0 s.entries) (number_in s a)) (accessed_entry_lem s.regime s.set (entry_in s a) m a)
    ∙ sym (map_set entry_spare0 s.entries (number_in s a) (accessed_entry (regime_in s.regime s.set) (entry_in s a) m a).entry))
after s m (store address value) = refl
after s m drop_all = emptied_spare s
after s m (harvest first count pages) =
    ap (λ (g : Option Regime). emptied_after (session_spare0 s) (harvest_in ours g first count m pages).reply) (regime_in_lem s.regime s.set) ∙ by (harvest_of s first count m pages).reply
  where
    by : (x : Checked) → emptied_after (session_spare0 s) x ≡ session_spare0 (emptied_after s x)
    by (Ok _) = emptied_spare s
    by (Err x) = refl

-- in all that a call leaves: of the session, with its spare numbers put to 0; of memory and reply, the same
abbrev spareless : Handed SessionStruct Reply → Handed SessionStruct Reply
spareless x = handed (session_spare0 x.session) x.memory x.reply

-- what it tells: the reply and the memory of the model's call
abbrev told_by : Session → List ℕ → Call → Told Reply
told_by s m c = told (call ours s m c).reply (call ours s m c).memory

told_spare : (s : SessionStruct) (m : List ℕ) (c : Call) → told_by (session_view (session_spare0 s)) m c ≡ told_by (session_view s) m c
unfolding regime_of
told_spare s m (set_regime r) = by (and_then (ours.memory_check r (length m)) (ours.setting_check r))
  where
    by : (x : Checked) → ◌≡◌ {A = Told Reply} (told (set_by ours (session_view (session_spare0 s)) m r x).reply (set_by ours (session_view (session_spare0 s)) m r x).memory) (told (set_by ours (session_view s) m r x).reply (set_by ours (session_view s) m r x).memory)
    by (Ok _) = refl
    by (Err x) = refl
told_spare s m (access a) =
    ap (λ (y : Stepped). told y.reply y.memory) (sym (access_is (session_spare0 s) m a))
    ∙ ap (λ (e : EntryStruct). let w = access_in ours (regime_in (regime_spare0 s.regime) s.set) m a (entry_view e) in told w.reply w.memory) (entry_at_lem s.entries (number_in s a))
    ∙ ap (λ (w : Walked). told w.reply w.memory) (given_spare s.regime s.set (entry_in s a) m a)
    ∙ ap (λ (y : Stepped). told y.reply y.memory) (access_is s m a)
told_spare s m (store address value) = ap (λ (g : Option Regime). let t = store_in ours g m address value in told t.reply t.memory) (regime_in_lem s.regime s.set)
told_spare s m drop_all = refl
told_spare s m (harvest first count pages) =
    ap (λ (g : Option Regime). let h = harvest_in ours g first count m pages in told (harvest_reply h.reply h.map) h.memory) (regime_in_lem s.regime s.set)

leaves_spareless : (s : SessionStruct) (m : List ℕ) (c : Call) → leaves (session_spare0 s) m c ≡ spareless (leaves s m c)
leaves_spareless s m c =
    ap (λ (t : Told Reply). handed (session_after (session_spare0 s) m c) t.memory t.reply) (told_spare s m c)
    ∙ ap (λ (t : SessionStruct). handed t (leaves s m c).memory (leaves s m c).reply) (after s m c)

sessions : (s t : SessionStruct) → session_spare0 s ≡ session_spare0 t → (m : List ℕ) (c : Call) → spareless (leaves s m c) ≡ spareless (leaves t m c)
sessions s t e m c = sym (leaves_spareless s m c) ∙ ap (λ (u : SessionStruct). leaves u m c) e ∙ leaves_spareless t m c

-- ---- answers

words_zero : (o : Result) → (words_of o).spare ≡ 0
unfolding words_of
words_zero (success s) = refl
words_zero (fault f) = refl
words_zero (refused_with n) = refl

reply_zero : (x : Reply) → (reply_words x).spare ≡ 0
reply_zero done = words_zero (refused_with 0)
reply_zero (refused n) = words_zero (refused_with n)
reply_zero (answered o n) = words_zero o
reply_zero (harvested pages) = words_zero (refused_with 0)

-- ---- every list

fresh : empty_session ≡ session_spare0 empty_session
fresh i = record { regime = words_spare initial i; entries = sym (same_entries entry_count) i; set = 0; spare8 = 0; spare16 = 0; spare32 = 0 }

list_zero : (s₀ : SessionStruct) → EmptySays s₀ → (m₀ : List ℕ) {s : SessionStruct} {m : List ℕ} {past : List Event} → Chain MadeC s₀ m₀ s m past → s ≡ session_spare0 s
list_zero s₀ h m₀ none_yet = h ∙ fresh ∙ sym (ap session_spare0 h)
list_zero s₀ h m₀ (more {s = s} {m = m} {c = c} {x = x} before made) =
    let e = ap (λ (t : Handed SessionStruct Reply). t.session) (made_is made) in
    e ∙ ap (λ (t : SessionStruct). session_after t m c) (list_zero s₀ h m₀ before) ∙ after s m c ∙ sym (ap session_spare0 e)

-- ---- together

handed_parts : {A : Type 0} (x y : Handed SessionStruct A) → x ≡ y → (x.session ≡ y.session) × (x.memory ≡ y.memory) × (x.reply ≡ y.reply)
handed_parts x y e = (ap (λ (t : Handed SessionStruct _). t.session) e, ap (λ (t : Handed SessionStruct _). t.memory) e, ap (λ (t : Handed SessionStruct _). t.reply) e)

pub spare_of_c : SpareOfC
spare_of_c = record {
  walk = λ m g h a b eg ea m' n' w x p q.
      let e = p ∙ ap₂ (λ (r : Regime) (v : Access). walk_words r v m) (regimes_alike g h eg) (accesses_alike a b ea) ∙ sym q in
      (ap (λ (t : Told AnswerWords). t.reply) e, ap (λ (t : Told AnswerWords). t.memory) e);
  set = λ s m g h e s' t' m' n' k l p q. handed_parts (handed s' m' k) (handed t' n' l) (p ∙ ap (λ (r : Regime). replied refusal_byte (leaves s m (set_regime r))) (regimes_alike g h e) ∙ sym q);
  access = λ s m a b e s' t' m' n' w x p q. handed_parts (handed s' m' w) (handed t' n' x) (p ∙ ap (λ (v : Access). replied reply_words (leaves s m (access v))) (accesses_alike a b e) ∙ sym q);
  harvest = λ m g h first count pages e m' n' map' nap' k l p q.
      let z = p ∙ ap (λ (r : Regime). harvest_numbered (harvest_over r first count m pages)) (regimes_alike g h e) ∙ sym q in
      (ap (λ (t : Harvested ℕ). t.memory) z, ap (λ (t : Harvested ℕ). t.map) z, ap (λ (t : Harvested ℕ). t.reply) z);
  session = λ s t e m c x y p q. handed_parts (spareless x) (spareless y) (ap spareless (made_is p) ∙ sessions s t e m c ∙ sym (ap spareless (made_is q)));
  walked = λ m g a m' w p. ap (λ (t : Told AnswerWords). t.reply.spare) p ∙ words_zero (walk (regime_of g) (access_of a) m).result;
  accessed = λ s m a s' m' w p. ap (λ (t : Handed SessionStruct AnswerWords). t.reply.spare) p ∙ reply_zero (leaves s m (access (access_of a))).reply;
  lists = λ s₀ h m₀ s m past chain. list_zero s₀ h m₀ chain;
}
