-- The calls of a session from what the code computed: its checks, a store, the one entry of an access.
use Prim.Native.Nat.{ℕ, ◌+◌, ◌-◌, ◌%◌, ◌≤◌}
use mathlib.Core.Bool.{Bool, true, false, not, ◌||◌}
use mathlib.Core.List.{List, ◌++◌}
use Rattle.std.specs.Prelude.{Option, None, Some, Ok, Err}
use mathlib.Core.Path.{◌≡◌, refl, sym, ap, subst, ◌∙◌}
use native.Mathlib.Omega.{arith}
use lib.Dec.{ltb, eqb}
use lib.ListN.{length, get_or, set as set_at, take, drop, get_or-map}
use borrow.Author.Tests.{ltb-false, eqb-true, not-false}
use Rattle.descriptor.specs.Bytes.{put}
use Rattle.descriptor.specs.Bits.{pick}
use Rattle.descriptor.proofs.Tests.{or_false}
use Rattle.descriptor.proofs.Laws.{put_part}
use Rattle.vmsa.specs.Settings.{initial}
use Rattle.vmsa.specs.Words.{flag, regime_of, regime_words}
use Rattle.vmsa.specs.Answers.{number_of}
use Rattle.vmsa.specs.declared.Regime.{Regime}
use Rattle.vmsa.specs.declared.Pool.{Pool}
use Rattle.vmsa.specs.declared.Access.{Access}
use Rattle.vmsa.specs.declared.Leaf.{Leaf}
use Rattle.vmsa.specs.declared.Refusal.{Refusal}
use Rattle.vmsa.proofs.Words.{regime_words_lem}
use Rattle.checks.specs.Order.{Checked}
use Rattle.refusals.specs.Tests.{store_address_bad}
use Rattle.checks.specs.Order.{memory_rows, setting_rows, store_rows, regime_check, session_store_check}
use Rattle.checks.proofs.Accept.{clear, pooled}
use Rattle.walk.proofs.Parts.{length_part}
use Rattle.tlb.specs.Replies.{Reply, told, reply_to, done, refused}
use Rattle.tlb.specs.Walker.{Entry, empty, entry_of, Walked, put_word, access_in}
use Rattle.tlb.specs.Ours.{offset_of, ours}
use Rattle.tlb.specs.Entries.{entry_view, no_entry, regime_in, page_for, entry_for, Filling, filling, kept_entry, filled_by, accessed_entry, entry_reply}
use Rattle.checks.proofs.Rows.{first_append}
use Rattle.tlb.proofs.Walking.{put_is}
use Rattle.tlb.proofs.Access.{accessed_is, kept_in, accessed_view, AnAnswer, answer_in, hit_is_access}
use Rattle.session.specs.declared.Session.{Session as SessionStruct}
use Rattle.session.specs.Model.{Session, handed, Stepped, keep, set_by, set_call, learn, access_with, access_call, store_by, store_in, Call, set_regime, access, store, drop_all, harvest, emptied_by, call}
use Rattle.session.specs.View.{session_view, regime_held, viewed, set_to, set_after, entry_in, with_entry, with_entries, accessed_session, emptied_after, harvest_of, leaves}
use Rattle.descriptor.proofs.Lists.{set_same, map_set}

-- ---- a set regime

pub set_checked : (s : Session) (m : List ℕ) (r : Regime) → set_call ours s m r ≡ set_by ours s m r (regime_check (length m) r)
unfolding regime_check
set_checked s m r = ap (set_by ours s m r) (sym (first_append (memory_rows (length m) r) (setting_rows r)))

module _ (s : SessionStruct) (m : List ℕ) (r : Regime) where
  set_by_lem : (x : Checked) → handed (set_after s r x) m (reply_to x) ≡ handed (set_after s r x) (set_by ours (session_view s) m r x).memory (set_by ours (session_view s) m r x).reply
  set_by_lem (Ok _) = refl
  set_by_lem (Err x) = refl

  pub set_leaves : (x : Checked) → regime_check (length m) r ≡ x → handed (set_after s r x) m (reply_to x) ≡ leaves s m (set_regime r)
  set_leaves x e =
      subst (λ (y : Checked). handed (set_after s r y) m (reply_to y) ≡ leaves s m (set_regime r)) e
      (set_by_lem (regime_check (length m) r) ∙ ap (λ (y : Stepped). handed (set_after s r (regime_check (length m) r)) y.memory y.reply) (sym (set_checked (session_view s) m r)))

  pub set_refused : (x : Refusal) → Err x ≡ regime_check (length m) r → handed s m (refused (number_of x)) ≡ leaves s m (set_regime r)
  set_refused x e = set_leaves (Err x) (sym e)

  pub set_accepted : Ok tt ≡ regime_check (length m) r → handed (set_to (regime_words r)) m done ≡ leaves s m (set_regime r)
  set_accepted e = set_leaves (Ok tt) (sym e)

  set_view : (x : Checked) → session_view (set_after s r x) ≡ (set_by ours (session_view s) m r x).session
  set_view (Ok _) = rw (regime_words_lem r)
  set_view (Err x) = refl

-- ---- a store

pub record Storable (n : ℕ) (pool : Pool) (address : ℕ) : Type 0 where
  pub fits : pool.start + pool.length ≤ n
  pub aligned : address % 8 ≡ 0
  pub least : pool.address.0 ≤ address
  pub most : address + 8 ≤ pool.address.0 + pool.length

pub storable_by : (pool : Pool) (address : ℕ) → store_address_bad pool address ≡ false → (address % 8 ≡ 0) × (pool.address.0 ≤ address) × (address + 8 ≤ pool.address.0 + pool.length)
unfolding store_address_bad
storable_by pool address e =
    let t1 = not (eqb (address % 8) 0) in
    let t2 = ltb address pool.address.0 in
    let t3 = ltb (pool.address.0 + pool.length) (address + 8) in
    let s3 = or_false (t1 || t2) t3 e in
    let s2 = or_false t1 t2 s3.0 in (
      eqb-true (address % 8) 0 (not-false (eqb (address % 8) 0) s2.0),
      ltb-false address pool.address.0 s2.1,
      ltb-false (pool.address.0 + pool.length) (address + 8) s3.1,
    )

pub store_accepted : (n : ℕ) (r : Regime) (address : ℕ) → session_store_check n r address ≡ Ok tt → Storable n r.pool address
unfolding session_store_check
store_accepted n r address e =
    let c = clear (memory_rows n r ++ store_rows r.pool address) e in
    let s = storable_by r.pool address c.1.0 in
    record { fits = (pooled n r c.0).fits; aligned = s.0; least = s.1; most = s.2 }

pub stored : (r : Regime) (m : List ℕ) (address value : ℕ) → Storable (length m) r.pool address → (x : List ℕ) (k : ℕ) → k ≡ r.pool.length
    → x ≡ put r.ee (take k (drop r.pool.start m)) (address - r.pool.address.0) value
    → take r.pool.start m ++ (x ++ drop k (drop r.pool.start m)) ≡ put_word ours r m (offset_of r address) value
stored r m address value h x k q e =
    let i = address - r.pool.address.0 in
    let n = r.pool.length in
    let room : i + 8 ≤ n = omega (arith, h.least, h.most) in
    rw (e, q, put_is r m (offset_of r address) value) (put_part r.ee m r.pool.start n i value h.fits room)

-- a storable descriptor lies in the pool's part of the memory
pub store_room : (r : Regime) (m : List ℕ) (address k : ℕ) → Storable (length m) r.pool address → k ≡ r.pool.length
    → (address - r.pool.address.0) + 8 ≤ length (take k (drop r.pool.start m))
store_room r m address k h q = rw (q, length_part m r.pool.start r.pool.length h.fits) (omega (arith, h.least, h.most))

module _ (r : Regime) (m : List ℕ) (address value : ℕ) where
  store_set : (x : Checked) → x ≡ session_store_check (length m) r address → store_by ours r m address value x ≡ store_in ours (Some r) m address value
  unfolding session_store_check
  store_set x h = ap (store_by ours r m address value) (h ∙ first_append (memory_rows (length m) r) (store_rows r.pool address))

  pub store_refused : (x : Refusal) → Err x ≡ session_store_check (length m) r address → told (refused (number_of x)) m ≡ store_in ours (Some r) m address value
  store_refused x h = store_set (Err x) h

  -- the pool's part of the memory with the value in it
  pub store_done : Ok tt ≡ session_store_check (length m) r address → (x : List ℕ) (k : ℕ) → k ≡ r.pool.length
      → x ≡ put r.ee (take k (drop r.pool.start m)) (address - r.pool.address.0) value
      → told done (take r.pool.start m ++ (x ++ drop k (drop r.pool.start m))) ≡ store_in ours (Some r) m address value
  store_done h x k q e = ap (told done) (stored r m address value (store_accepted (length m) r address (sym h)) x k q e) ∙ store_set (Ok tt) h

-- ---- a harvest

emptied_view : (s : SessionStruct) (x : Checked) → session_view (emptied_after s x) ≡ emptied_by ours (session_view s) x
emptied_view s (Ok _) = refl
emptied_view s (Err x) = refl

-- ---- an access, by the one entry that it can change

keep_at : (l : List Entry) (page : ℕ) (x : Entry) → get_or l (entry_of page) empty ≡ x → (k : Option Leaf) → set_at l (entry_of page) (kept_in x page k) ≡ keep l page k
keep_at l page x q None = subst (λ (y : Entry). set_at l (entry_of page) y ≡ l) q (set_same l (entry_of page) empty)
keep_at l page x q (Some leaf) = refl

-- a regime by whose granule the page of an access is counted: the session's, and any where it has none, since then nothing is kept
abbrev pub By : Option Regime → Regime → Type 0
By None r = Unit {0}
By (Some q) r = q ≡ r

-- one for every session of the model
abbrev pub regime_or : Option Regime → Regime
regime_or None = initial
regime_or (Some r) = r

pub by_or : (g : Option Regime) → By g (regime_or g)
by_or None = tt
by_or (Some r) = refl

-- an access of the model, by its page's entry
pub access_learn : (s : Session) (m : List ℕ) (a : Access) (r : Regime) (g : Option Regime) → By g r
    → learn ours s (page_for r a) (access_in ours g m a (get_or s.entries (entry_for r a) empty)) ≡ access_with ours s m a g
access_learn s m a r None e = refl
access_learn s m a r (Some q) e = subst (λ (x : Regime). learn ours s (page_for x a) (access_in ours (Some q) m a (get_or s.entries (entry_for x a) empty)) ≡ access_with ours s m a (Some q)) e refl

-- its reply is an answer's
pub access_answer : (s : Session) (m : List ℕ) (a : Access) → AnAnswer (call ours s m (access a)).reply
access_answer s m a =
    let r = regime_or s.regime in
    subst (λ (y : Stepped). AnAnswer y.reply) (access_learn s m a r s.regime (by_or s.regime)) (answer_in s.regime m a (get_or s.entries (entry_for r a) empty))

module _ (s : SessionStruct) (m : List ℕ) (a : Access) where
  abbrev r : Regime
  r = regime_of s.regime

  by_in : (b : Bool) → By (pick b (Some r) None) r
  by_in true = refl
  by_in false = tt

  abbrev pub given : Walked
  given = access_in ours (regime_in s.regime s.set) m a (entry_view (entry_in s a))

  -- the entry of the page, in the model's values
  entry_view_lem : get_or (session_view s).entries (entry_for r a) empty ≡ entry_view (entry_in s a)
  entry_view_lem = get_or-map entry_view s.entries (entry_for r a) no_entry

  pub access_is : learn ours (session_view s) (page_for r a) given ≡ access_call ours (session_view s) m a
  access_is =
      ap (λ (e : Entry). learn ours (session_view s) (page_for r a) (access_in ours (regime_in s.regime s.set) m a e)) (sym entry_view_lem)
      ∙ access_learn (session_view s) m a r (regime_in s.regime s.set) (by_in (flag s.set))

  -- what it leaves of the entry, and the walk's part of that
  filled_is : accessed_entry (regime_held s) (entry_in s a) m a ≡ filled_by (entry_in s a) r a given
  filled_is = accessed_is s.regime s.set (entry_in s a) m a

  pub entry_leaves : (x : Filling Reply) → x ≡ accessed_entry (regime_held s) (entry_in s a) m a → handed (with_entry s (entry_for r a) x.entry) x.memory x.reply ≡ leaves s m (access a)
  entry_leaves x e =
      ap (λ (y : Filling Reply). handed (with_entry s (entry_for r a) y.entry) y.memory y.reply) e
      ∙ ap (λ (y : Filling Reply). handed (accessed_session s m a) y.memory y.reply) filled_is
      ∙ ap (λ (y : Stepped). handed (accessed_session s m a) y.memory y.reply) access_is

  -- an entry put where it lies already
  with_same : with_entry s (entry_for r a) (entry_in s a) ≡ s
  with_same = ap (with_entries s) (set_same s.entries (entry_for r a) no_entry)

  -- the entry of the page keeps the leaf that the access gives
  pub kept_is : accessed_session s m a ≡ with_entry s (entry_for r a) (kept_entry (entry_in s a) (page_for r a) given.kept)
  kept_is = ap (λ (y : Filling Reply). with_entry s (entry_for r a) y.entry) filled_is

  -- where nothing is kept, the session stays as it was
  pub unkept_same : given.kept ≡ None → accessed_session s m a ≡ s
  unkept_same q = kept_is ∙ ap (λ (k : Option Leaf). with_entry s (entry_for r a) (kept_entry (entry_in s a) (page_for r a) k)) q ∙ with_same

  -- a reply that the entry gives
  pub hit_leaves : (reply : Reply) → Some reply ≡ entry_reply (length m) a (entry_view (entry_in s a)) (regime_in s.regime s.set) → handed s m reply ≡ leaves s m (access a)
  hit_leaves reply h =
      ap (λ (t : SessionStruct). handed t m reply) (sym with_same)
      ∙ entry_leaves (filling (entry_in s a) m reply) (ap (filled_by (entry_in s a) r a) (hit_is_access (regime_in s.regime s.set) m a (entry_view (entry_in s a)) reply h) ∙ sym filled_is)

  access_view : session_view (accessed_session s m a) ≡ (access_call ours (session_view s) m a).session
  access_view =
      ap (λ (l : List Entry). let t : Session = record { regime = (session_view s).regime; entries = l } in t)
      (map_set entry_view s.entries (entry_for r a) (accessed_entry (regime_held s) (entry_in s a) m a).entry
      ∙ ap (λ (y : Filling Reply). set_at (session_view s).entries (entry_for r a) (entry_view y.entry)) filled_is
      ∙ ap (set_at (session_view s).entries (entry_for r a)) (accessed_view (regime_in s.regime s.set) m a (entry_in s a) (page_for r a))
      ∙ keep_at (session_view s).entries (page_for r a) (entry_view (entry_in s a)) entry_view_lem given.kept)
      ∙ ap (λ (y : Stepped). y.session) access_is

-- ---- what a call leaves is the model's call, in the model's values

session_view_lem : (s : SessionStruct) (m : List ℕ) (c : Call) → (viewed (leaves s m c)).session ≡ (call ours (session_view s) m c).session
session_view_lem s m (set_regime r) = set_view s m r (regime_check (length m) r) ∙ ap (λ (y : Stepped). y.session) (sym (set_checked (session_view s) m r))
session_view_lem s m (access a) = access_view s m a
session_view_lem s m (store address value) = refl
session_view_lem s m drop_all = refl
session_view_lem s m (harvest first count map) = emptied_view s (harvest_of s first count m map).reply

pub viewed_leaves : (s : SessionStruct) (m : List ℕ) (c : Call) → viewed (leaves s m c) ≡ call ours (session_view s) m c
viewed_leaves s m c = ap (λ (t : Session). handed t (call ours (session_view s) m c).memory (call ours (session_view s) m c).reply) (session_view_lem s m c)
