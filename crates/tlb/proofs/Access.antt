-- An access from what the code computed: its checks, what the entry answers, the walk of a miss.
use Prim.Native.Nat.{ℕ, ◌+◌, ◌<◌, ◌≤◌}
use mathlib.Core.Bool.{Bool, true, false}
use mathlib.Core.List.{List, ◌++◌}
use Rattle.std.proofs.lemmas.Option.{same_Some}
use Rattle.std.specs.Prelude.{Option, None, Some, Ok, Err}
use mathlib.Core.Path.{◌≡◌, refl, sym, ap, subst, ◌∙◌}
use lib.ListN.{length, take, drop}
use Rattle.descriptor.specs.Bits.{pick}
use Rattle.descriptor.proofs.Tests.{clash}
use Rattle.vmsa.specs.Words.{flag, regime_of}
use Rattle.vmsa.specs.Fields.{sum_count}
use Rattle.vmsa.specs.Answers.{Result, success, fault, refused as refused_with, view, cacheable_in, code_of, number_of, dirtied_in}
use Rattle.vmsa.specs.declared.Regime.{Regime}
use Rattle.vmsa.specs.declared.RegimeWords.{RegimeWords}
use Rattle.vmsa.specs.declared.Access.{Access}
use Rattle.vmsa.specs.declared.Leaf.{Leaf}
use Rattle.vmsa.specs.declared.FaultKind.TheVariants.{Translation}
use Rattle.vmsa.specs.declared.Answer.{Answer}
use Rattle.vmsa.specs.declared.Refusal.{Refusal}
use Rattle.vmsa.proofs.Answers.{LowIn, view_settles}
use Rattle.checks.specs.Order.{Checked}
use Rattle.checks.specs.Order.{memory_rows, access_rows, session_access_check, and_then}
use Rattle.checks.proofs.Accept.{clear, pooled, shaped}
use Rattle.walk.specs.declared.Walked.{Walked as WalkedStruct}
use Rattle.walk.specs.Walk.{Outcome, outcome, walk_pool, kept_pool}
use Rattle.walk.proofs.Parts.{put_back}
use Rattle.walk.proofs.Settled.{low_decision}
use Rattle.decision.specs.Decision.{decision}
use Rattle.walk.specs.Walk.{revalued}
use Rattle.tlb.specs.declared.Entry.{Entry as EntryStruct}
use Rattle.tlb.specs.Replies.{Reply, done, refused, answered, harvested, reply_of}
use Rattle.tlb.specs.Walker.{Spot, lost, found as found_at, no_regime, Entry, holds, held_in, Walked, walk_from, walked, access_held, access_by, access_under, access_in}
use Rattle.tlb.specs.Ours.{usable, located, judged, stamped, ours}
use Rattle.tlb.specs.Entries.{entry_view, kept_entry, filling, filled_by, accessed_entry, entry_answer, checked_reply, entry_reply, regime_in, walked_view}
use Rattle.tlb.proofs.Deciding.{reply_decision}
use Rattle.tlb.proofs.Entries.{hit_with, hit_gives, walk_gives, kept_view}
use Rattle.tlb.proofs.Found.{where_found, in_the_pool, low_lost}
use Rattle.checks.proofs.Rows.{first_append}
use Rattle.tlb.proofs.Walking.{usable_sized, usable_root, walked_pool_lem}

-- ---- the checks

-- rows 1, 6 and 7, one after another
checks_apart : (n : ℕ) (r : Regime) (a : Access) → and_then (ours.memory_check r n) (ours.access_check r a) ≡ session_access_check n r a
unfolding session_access_check
checks_apart n r a = sym (first_append (memory_rows n r) (access_rows r a))

pub access_checked : (r : Regime) (m : List ℕ) (a : Access) (h : Option Leaf) (x : Checked) → session_access_check (length m) r a ≡ x → access_by ours r m a h x ≡ access_under ours r m a h
access_checked r m a h x e = ap (access_by ours r m a h) (sym (checks_apart (length m) r a ∙ e))

-- what acceptance gives
pub access_accepted : (n : ℕ) (r : Regime) (a : Access) → session_access_check n r a ≡ Ok tt → (r.pool.start + r.pool.length ≤ n) × (0 < a.size)
unfolding session_access_check
access_accepted n r a e =
    let c = clear (memory_rows n r ++ access_rows r a) e in
    ((pooled n r c.0).fits, (shaped r a c.1.0 c.1.1.0).positive)

-- an access under a regime, by its checks
access_set : (r : Regime) (m : List ℕ) (a : Access) (e : EntryStruct) (x : Checked) → x ≡ session_access_check (length m) r a
    → filled_by e r a (access_by ours r m a (held_in (entry_view e) (ours.page r a)) x) ≡ accessed_entry (Some r) e m a
access_set r m a e x h = ap (filled_by e r a) (access_checked r m a (held_in (entry_view e) (ours.page r a)) x (sym h))

pub access_refused : (r : Regime) (m : List ℕ) (a : Access) (e : EntryStruct) (x : Refusal) → Err x ≡ session_access_check (length m) r a
    → filling e m (refused (number_of x)) ≡ accessed_entry (Some r) e m a
access_refused r m a e x h = access_set r m a e (Err x) h

pub access_let : (r : Regime) (m : List ℕ) (a : Access) (e : EntryStruct) → Ok tt ≡ session_access_check (length m) r a
    → filled_by e r a (access_held ours r m a (held_in (entry_view e) (ours.page r a))) ≡ accessed_entry (Some r) e m a
access_let r m a e h = access_set r m a e (Ok tt) h

-- in every session, the entry that it leaves is counted by the granule of the session's regime
pub accessed_is : (regime : RegimeWords) (set : ℕ) (e : EntryStruct) (m : List ℕ) (a : Access)
    → accessed_entry (regime_in regime set) e m a ≡ filled_by e (regime_of regime) a (access_in ours (regime_in regime set) m a (entry_view e))
accessed_is regime set e m a = by (flag set)
  where
    by : (b : Bool) → accessed_entry (pick b (Some (regime_of regime)) None) e m a ≡ filled_by e (regime_of regime) a (access_in ours (pick b (Some (regime_of regime)) None) m a (entry_view e))
    by true = refl
    by false = refl

-- ---- a miss

module _ (r : Regime) (m : List ℕ) (a : Access) (u : usable r ≡ true) (h : r.pool.start + r.pool.length ≤ length m) where
  pub miss_outcome : (w : WalkedStruct) (x : List ℕ) (k : ℕ) → k ≡ r.pool.length
      → outcome w.answer x ≡ walk_pool r a (take k (drop r.pool.start m)) → w.kept ≡ kept_pool r a (take k (drop r.pool.start m))
      → walked_view w (take r.pool.start m ++ (x ++ drop k (drop r.pool.start m))) ≡ walked ours r m a
  miss_outcome w x k q e f =
      let s = r.pool.start in
      let p = walk_pool r a (take r.pool.length (drop s m)) in
      let e2 : outcome w.answer x ≡ p = rw q at e in
      let f2 : w.kept ≡ kept_pool r a (take r.pool.length (drop s m)) = rw q at f in
      let g : view w.answer ≡ p.result = ap (λ (o : Outcome). o.result) e2 in
      let b : x ≡ p.bytes = ap (λ (o : Outcome). o.bytes) e2 in
      rw (q, put_back m x s r.pool.length, f2, g, b) (sym (walked_pool_lem r m a (usable_sized r u) (usable_root r a.address.0 u) h u))

pub unusable_outcome : (r : Regime) (m : List ℕ) (a : Access) (w : Walked) → usable r ≡ false → w ≡ walk_from ours r m a (lost (code_of Translation 0) 0 0) → w ≡ walked ours r m a
unfolding located
unusable_outcome r m a w u e = e ∙ rw u

-- ---- the leaf that an access keeps stands at a level, and its sum has four bits

abbrev pub Low : Option Leaf → Type 0
Low None = Unit {0}
Low (Some l) = (l.left ≤ 3) × (l.tables < sum_count)

low_walk : (r : Regime) (m : List ℕ) (a : Access) (x : Spot) → located r m (ours.page r a) ≡ x → Low (walk_from ours r m a x).kept
low_walk r m a (lost code level n) q = tt
low_walk r m a (found_at at u n) q = by (cacheable_in (judged r u a))
  where
    by : (b : Bool) → Low (pick b (Some (revalued u (stamped (judged r u a) u.value))) None)
    by true = let g = (in_the_pool r m (ours.page r a) (where_found r m (ours.page r a) q)).reached in (g.low, g.few)
    by false = tt

low_held : (r : Regime) (m : List ℕ) (a : Access) (h : Option Leaf) → Low (access_held ours r m a h).kept
low_held r m a None = low_walk r m a (located r m (ours.page r a)) refl
low_held r m a (Some h) = by (dirtied_in (judged r h a))
  where
    by : (b : Bool) → Low (pick b (walked ours r m a) (hit_with r m a (answered (judged r h a) 0))).kept
    by true = low_walk r m a (located r m (ours.page r a)) refl
    by false = tt

low_by : (r : Regime) (m : List ℕ) (a : Access) (h : Option Leaf) (x : Checked) → Low (access_by ours r m a h x).kept
low_by r m a h (Ok _) = low_held r m a h
low_by r m a h (Err x) = tt

pub low_in : (g : Option Regime) (m : List ℕ) (a : Access) (e : Entry) → Low (access_in ours g m a e).kept
low_in None m a e = tt
low_in (Some r) m a e = low_by r m a (held_in e (ours.page r a)) (and_then (ours.memory_check r (length m)) (ours.access_check r a))

-- so the entry that it leaves holds it
abbrev pub kept_in : Entry → ℕ → Option Leaf → Entry
kept_in e page None = e
kept_in e page (Some leaf) = holds page leaf

kept_by : (e : EntryStruct) (page : ℕ) (k : Option Leaf) → Low k → entry_view (kept_entry e page k) ≡ kept_in (entry_view e) page k
kept_by e page None h = refl
kept_by e page (Some leaf) h = kept_view page leaf h.0

pub accessed_view : (g : Option Regime) (m : List ℕ) (a : Access) (e : EntryStruct) (page : ℕ)
    → entry_view (kept_entry e page (access_in ours g m a (entry_view e)).kept) ≡ kept_in (entry_view e) page (access_in ours g m a (entry_view e)).kept
accessed_view g m a e page = kept_by e page (access_in ours g m a (entry_view e)).kept (low_in g m a (entry_view e))

-- ---- an answer with its count put back

counted_with : Result → ℕ → Result
counted_with (success s) n =
    success (record {
      output = s.output;
      attribute = s.attribute;
      shareability = s.shareability;
      nonglobal = s.nonglobal;
      level = s.level;
      accessed = s.accessed;
      dirtied = s.dirtied;
      cacheable = s.cacheable;
      reads = n;
    })
counted_with (fault f) n = fault (record { code = f.code; level = f.level; cacheable = f.cacheable; reads = n })
counted_with (refused_with k) n = refused_with k

counted : Reply → Result
counted done = refused_with 0
counted (refused n) = refused_with n
counted (answered o n) = counted_with o n
counted (harvested map) = refused_with 0

recounted : (o : Result) → counted (reply_of o) ≡ o
unfolding counted counted_with
recounted (success s) = refl
recounted (fault f) = refl
recounted (refused_with n) = refl

-- ---- every reply of an access is an answer's, and a fault in it stands at one of the four levels; so its values settle the answer

abbrev pub AnAnswer : Reply → Type 0
AnAnswer reply = (x : Result) × (reply ≡ reply_of x) × LowIn x

answer_walk : (r : Regime) (m : List ℕ) (a : Access) (x : Spot) → located r m (ours.page r a) ≡ x → AnAnswer (walk_from ours r m a x).reply
answer_walk r m a (lost code level n) q = (fault (record { code = code; level = level; cacheable = false; reads = n }), refl, low_lost r m (ours.page r a) code level n q)
answer_walk r m a (found_at at u n) q = ((decision r a u n).result, sym (reply_decision r a u n), low_decision r a u n)

answer_held : (r : Regime) (m : List ℕ) (a : Access) (h : Option Leaf) → AnAnswer (access_held ours r m a h).reply
answer_held r m a None = answer_walk r m a (located r m (ours.page r a)) refl
answer_held r m a (Some h) = by (dirtied_in (judged r h a))
  where
    by : (b : Bool) → AnAnswer (pick b (walked ours r m a) (hit_with r m a (answered (judged r h a) 0))).reply
    by true = answer_walk r m a (located r m (ours.page r a)) refl
    by false = ((decision r a h 0).result, sym (reply_decision r a h 0), low_decision r a h 0)

answer_by : (r : Regime) (m : List ℕ) (a : Access) (h : Option Leaf) (x : Checked) → AnAnswer (access_by ours r m a h x).reply
answer_by r m a h (Ok _) = answer_held r m a h
answer_by r m a h (Err x) = (refused_with (number_of x), refl, tt)

pub answer_in : (g : Option Regime) (m : List ℕ) (a : Access) (e : Entry) → AnAnswer (access_in ours g m a e).reply
answer_in None m a e = (refused_with no_regime, refl, tt)
answer_in (Some r) m a e = answer_by r m a (held_in e (ours.page r a)) (and_then (ours.memory_check r (length m)) (ours.access_check r a))

result_of : (o p : Result) → reply_of o ≡ reply_of p → o ≡ p
result_of o p e = sym (recounted o) ∙ ap counted e ∙ recounted p

pub reply_settles : (x y : Answer) → AnAnswer (reply_of (view x)) → reply_of (view x) ≡ reply_of (view y) → x ≡ y
reply_settles x y h e = view_settles x y (subst LowIn (sym (result_of (view x) h.0 h.1)) h.2) (result_of (view x) (view y) e)

-- ---- what a session says at once, and what is left to the walk

-- a reply that is given at once is the access, and changes nothing
pub hit_is_access : (g : Option Regime) (m : List ℕ) (a : Access) (e : Entry) (reply : Reply) → Some reply ≡ entry_reply (length m) a e g
    → record { reply = reply; memory = m; kept = None } ≡ access_in ours g m a e
hit_is_access None m a e reply h = ap (λ (x : Reply). record { reply = x; memory = m; kept = None }) (same_Some reply (refused no_regime) h)
hit_is_access (Some r) m a e reply h = by (session_access_check (length m) r a) refl h
  where
    by : (x : Checked) → session_access_check (length m) r a ≡ x → Some reply ≡ checked_reply x (entry_answer ours r a e) → hit_with r m a reply ≡ access_in ours (Some r) m a e
    by (Err x) q h = ap (hit_with r m a) (same_Some reply (refused (number_of x)) h) ∙ access_checked r m a (held_in e (ours.page r a)) (Err x) q
    by (Ok _) q h = hit_gives r m a (held_in e (ours.page r a)) reply h ∙ access_checked r m a (held_in e (ours.page r a)) (Ok tt) q

-- where nothing is said at once, the regime is set, the checks let the access through, and it is the walk
pub record Walks (r : Regime) (m : List ℕ) (a : Access) (w : Walked) : Type 0 where
  pub fits : r.pool.start + r.pool.length ≤ length m
  pub positive : 0 < a.size
  pub same : walked ours r m a ≡ w

pub walk_is_access : (regime : RegimeWords) (set : ℕ) (m : List ℕ) (a : Access) (e : Entry) → None ≡ entry_reply (length m) a e (regime_in regime set)
    → Walks (regime_of regime) m a (access_in ours (regime_in regime set) m a e)
walk_is_access regime set m a e h = by (flag set) h
  where
    accepted : (x : Checked) → session_access_check (length m) (regime_of regime) a ≡ x → None ≡ checked_reply x (entry_answer ours (regime_of regime) a e) → Walks (regime_of regime) m a (access_in ours (Some (regime_of regime)) m a e)
    accepted (Err x) q h = clash (cc)
    accepted (Ok _) q h =
        let t = access_accepted (length m) (regime_of regime) a q in
        record {
          fits = t.0;
          positive = t.1;
          same = walk_gives (regime_of regime) m a (held_in e (ours.page (regime_of regime) a)) h ∙ access_checked (regime_of regime) m a (held_in e (ours.page (regime_of regime) a)) (Ok tt) q;
        }

    by : (b : Bool) → None ≡ entry_reply (length m) a e (pick b (Some (regime_of regime)) None) → Walks (regime_of regime) m a (access_in ours (pick b (Some (regime_of regime)) None) m a e)
    by true h = accepted (session_access_check (length m) (regime_of regime) a) refl h
    by false h = clash (cc)
