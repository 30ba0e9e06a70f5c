-- Rule 1 holds of every call of the model, and of every call of functions that leave what `leaves` says.
use Prim.Native.Nat.{ℕ, ◌+◌, ◌-◌, ◌^◌, ◌≤◌, ◌<◌}
use mathlib.Core.Bool.{Bool, true, false}
use mathlib.Core.List.{List}
use Rattle.std.specs.Prelude.{Option, None, Some, Ok, Err}
use mathlib.Core.Path.{◌≡◌, refl, sym, ap, ap₂, subst, subst⁻¹, ◌∙◌}
use native.Mathlib.Omega.{arith}
use lib.ListN.{length, get_or}
use borrow.Author.Tests.{le-leb}
use Rattle.descriptor.specs.Bytes.{put}
use Rattle.descriptor.specs.Bits.{pick}
use Rattle.descriptor.proofs.Laws.{length_put, desc_put}
use Rattle.descriptor.proofs.Tests.{clash}
use Rattle.vmsa.specs.Words.{regime_of}
use Rattle.vmsa.specs.Answers.{Result, number_of, dirtied_in}
use Rattle.vmsa.specs.declared.Regime.{Regime}
use Rattle.vmsa.specs.declared.Access.{Access}
use Rattle.vmsa.specs.declared.Leaf.{Leaf}
use Rattle.vmsa.specs.declared.Refusal.{Refusal}
use Rattle.checks.specs.Order.{Checked}
use Rattle.checks.specs.Order.{first_of, memory_rows, setting_rows, access_rows, store_rows, harvest_rows, regime_check, session_store_check, harvest_check, and_then}
use Rattle.checks.proofs.Accept.{clear, pooled}
use Rattle.lookup.specs.Steps.{fetched}
use Rattle.walk.specs.Walk.{pool_bytes}
use Rattle.walk.proofs.Parts.{length_part, part_put}
use Rattle.rules.specs.Rule1.{FirstNumber}
use Rattle.rules.specs.Tables.{reader_of}
use Rattle.rules.proofs.Refusals.{first_refuses, refuses_first}
use Rattle.harvest.specs.Harvest.{harvest as harvest_over, harvest_by}
use Rattle.harvest.proofs.Laws.{harvest_length, harvest_bytes, outside, unheard}
use Rattle.tlb.specs.Replies.{Reply, done, refused, answered, harvest_reply, updates}
use Rattle.tlb.specs.Walker.{Spot, lost, found, Entry, empty, held_in, Walked, declined, put_word, walk_from, walked, access_held, access_by, access_in}
use Rattle.tlb.specs.Ours.{offset_of, located, judged, stamped, ours}
use Rattle.tlb.specs.Entries.{entry_view, page_for, entry_for, kept_entry}
use Rattle.checks.proofs.Rows.{first_append, both}
use Rattle.tlb.proofs.Walking.{put_is}
use Rattle.tlb.proofs.Found.{where_found, in_the_pool}
use Rattle.session.specs.declared.Session.{Session as SessionStruct}
use Rattle.session.specs.Model.{Session, Handed, Stepped, stay, refusal, keep, set_by, learn, store_by, store_in, emptied_by, harvest_in, harvest_to, Call, set_regime, access, store, drop_all, harvest, call}
use Rattle.session.specs.View.{session_view, regime_held, set_after, entry_in, with_entry, emptied_after, harvest_of, session_after, leaves, number_in}
use Rattle.session.proofs.Calls.{set_checked, Storable, store_accepted, access_learn, access_is, kept_is, unkept_same, viewed_leaves, regime_or, by_or}
use Rattle.calls.specs.Chains.{event, Functions, Leaving, regime_after}
use Rattle.calls.proofs.Memories.{Parted, Written, still, wrote, parted, written_long, written_bytes, written_outside, written_same, pool_same, located_same}
use Rattle.calls.specs.Rule1.{rows_of, InPool, Reach, StoredAt, Rule1Event, Same, Rule1Call, Rule1OfModel}

-- ---- a refused call, and any other

answers_not : (o : Result) (n k : ℕ) → answered o n ≡ refused k → ⊥
answers_not o n k e = clash (cc)

done_not : (k : ℕ) → done ≡ refused k → ⊥
done_not k e = clash (cc)

-- an access by the first row that applies
abbrev AccessBy : List ℕ → Checked → Walked → Type 0
AccessBy m (Err x) w = w ≡ declined m (number_of x)
AccessBy m (Ok _) w = (k : ℕ) → w.reply ≡ refused k → ⊥

module _ (m : List ℕ) (a : Access) where
  spot_answers : (r : Regime) (at : Spot) (k : ℕ) → (walk_from ours r m a at).reply ≡ refused k → ⊥
  spot_answers r (lost code level n) k e = clash (cc)
  spot_answers r (found at u n) k e = answers_not (judged r u a) n k e

  held_answers : (r : Regime) (h : Option Leaf) (k : ℕ) → (access_held ours r m a h).reply ≡ refused k → ⊥
  held_answers r None k e = spot_answers r (located r m (ours.page r a)) k e
  held_answers r (Some h) k e = by (dirtied_in (judged r h a)) e
    where
      by : (b : Bool) → (pick b (walked ours r m a) (record { reply = answered (judged r h a) 0; memory = m; kept = None })).reply ≡ refused k → ⊥
      by true e = spot_answers r (located r m (ours.page r a)) k e
      by false e = answers_not (judged r h a) 0 k e

  access_by_lem : (r : Regime) (h : Option Leaf) (x : Checked) → AccessBy m x (access_by ours r m a h x)
  access_by_lem r h (Ok _) = held_answers r h
  access_by_lem r h (Err x) = refl

  access_rows_lem : (g : Option Regime) (e : Entry) → AccessBy m (first_of (rows_of (length m) g (access a))) (access_in ours g m a e)
  access_rows_lem None e = refl
  access_rows_lem (Some r) e =
      subst⁻¹ (λ (x : Checked). AccessBy m x (access_in ours (Some r) m a e)) (first_append (memory_rows (length m) r) (access_rows r a))
      (access_by_lem r (held_in e (ours.page r a)) (and_then (first_of (memory_rows (length m) r)) (first_of (access_rows r a))))

  -- a refused access keeps no leaf
  unkept : (g : Option Regime) (e : Entry) (k : ℕ) → (access_in ours g m a e).reply ≡ refused k → (access_in ours g m a e).kept ≡ None
  unkept g e k q = by (first_of (rows_of (length m) g (access a))) (access_rows_lem g e)
    where
      by : (x : Checked) → AccessBy m x (access_in ours g m a e) → (access_in ours g m a e).kept ≡ None
      by (Err x) h = ap (λ (w : Walked). w.kept) h
      by (Ok _) h = absurd (h k q)

-- any call by the first row that applies
abbrev CallBy : Session → List ℕ → Checked → Stepped → Type 0
CallBy s m (Err x) y = y ≡ stay s (refusal m (number_of x))
CallBy s m (Ok _) y = (k : ℕ) → y.reply ≡ refused k → ⊥

module _ (s : Session) (m : List ℕ) where
  set_rows : (r : Regime) (x : Checked) → CallBy s m x (set_by ours s m r x)
  set_rows r (Ok _) = done_not
  set_rows r (Err x) = refl

  store_by_lem : (r : Regime) (address value : ℕ) (x : Checked) → CallBy s m x (stay s (store_by ours r m address value x))
  store_by_lem r address value (Ok _) = done_not
  store_by_lem r address value (Err x) = refl

  store_rows_lem : (address value : ℕ) (g : Option Regime) → CallBy s m (first_of (rows_of (length m) g (store address value))) (stay s (store_in ours g m address value))
  store_rows_lem address value None = refl
  store_rows_lem address value (Some r) =
      subst⁻¹ (λ (x : Checked). CallBy s m x (stay s (store_in ours (Some r) m address value))) (first_append (memory_rows (length m) r) (store_rows r.pool address))
      (store_by_lem r address value (and_then (first_of (memory_rows (length m) r)) (first_of (store_rows r.pool address))))

  harvest_by_lem : (r : Regime) (first count : ℕ) (map : List ℕ) (x : Checked) → CallBy s m x (harvest_to ours s (harvest_by r first count m map x))
  harvest_by_lem r first count map (Ok _) = λ k e. clash (cc)
  harvest_by_lem r first count map (Err x) = refl

  harvest_rows_lem : (first count : ℕ) (map : List ℕ) (g : Option Regime) → CallBy s m (first_of (rows_of (length m) g (harvest first count map))) (harvest_to ours s (harvest_in ours g first count m map))
  unfolding harvest_over harvest_check
  harvest_rows_lem first count map None = refl
  harvest_rows_lem first count map (Some r) = harvest_by_lem r first count map (first_of (harvest_rows (length m) r first count (length map)))

  learn_rows : (page : ℕ) (x : Checked) (w : Walked) → AccessBy m x w → CallBy s m x (learn ours s page w)
  learn_rows page (Err x) w e = ap (learn ours s page) e
  learn_rows page (Ok _) w h = h

  rows : (c : Call) → CallBy s m (first_of (rows_of (length m) s.regime c)) (call ours s m c)
  rows (set_regime r) =
      subst⁻¹ (λ (x : Checked). CallBy s m x (call ours s m (set_regime r))) (first_append (memory_rows (length m) r) (setting_rows r))
      (set_rows r (and_then (first_of (memory_rows (length m) r)) (first_of (setting_rows r))))
  rows (access a) =
      let r = regime_or s.regime in
      let e = get_or s.entries (entry_for r a) empty in
      subst (λ (y : Stepped). CallBy s m (first_of (rows_of (length m) s.regime (access a))) y) (access_learn s m a r s.regime (by_or s.regime))
      (learn_rows (page_for r a) (first_of (rows_of (length m) s.regime (access a))) (access_in ours s.regime m a e) (access_rows_lem m a s.regime e))
  rows (store address value) = store_rows_lem address value s.regime
  rows drop_all = done_not
  rows (harvest first count map) = harvest_rows_lem first count map s.regime

  module _ (c : Call) (k : ℕ) where
    abbrev checked : Checked
    checked = first_of (rows_of (length m) s.regime c)

    given_number : (x : Refusal) (y : Stepped) → y ≡ stay s (refusal m (number_of x)) → y.reply ≡ refused k → number_of x ≡ k
    given_number x y e q = let z : refused (number_of x) ≡ refused k = sym (ap (λ (t : Stepped). t.reply) e) ∙ q in cc

    refusal_given : (call ours s m c).reply ≡ refused k → FirstNumber (rows_of (length m) s.regime c) k
    refusal_given q = by checked refl (rows c)
      where
        by : (x : Checked) → checked ≡ x → CallBy s m x (call ours s m c) → FirstNumber (rows_of (length m) s.regime c) k
        by (Ok _) e h = absurd (h k q)
        by (Err x) e h = (x, refuses_first (rows_of (length m) s.regime c) x e, given_number x (call ours s m c) h q)

    refusal_gives : FirstNumber (rows_of (length m) s.regime c) k → (call ours s m c).reply ≡ refused k
    refusal_gives f = ap (λ (t : Stepped). t.reply) (subst (λ (x : Checked). CallBy s m x (call ours s m c)) (first_refuses f.1) (rows c)) ∙ ap refused f.2

    refusal_keeps : (call ours s m c).reply ≡ refused k → ((call ours s m c).session ≡ s) × ((call ours s m c).memory ≡ m)
    refusal_keeps q = by checked (rows c)
      where
        by : (x : Checked) → CallBy s m x (call ours s m c) → ((call ours s m c).session ≡ s) × ((call ours s m c).memory ≡ m)
        by (Ok _) h = absurd (h k q)
        by (Err x) h = (ap (λ (t : Stepped). t.session) h, ap (λ (t : Stepped). t.memory) h)

-- ---- two calls over two memories

-- a descriptor that lies in the pool
wrote_pool : (r : Regime) (m n : List ℕ) (at v : ℕ) → r.pool.start ≤ at → at + 8 ≤ r.pool.start + r.pool.length → r.pool.start + r.pool.length ≤ length m
    → Written (InPool (Some r)) m n (put_word ours r m at v) (put_word ours r n at v)
wrote_pool r m n at v p q f =
    subst⁻¹ (λ (x : List ℕ). Written (InPool (Some r)) m n x (put_word ours r n at v)) (put_is r m at v)
    (subst⁻¹ (λ (x : List ℕ). Written (InPool (Some r)) m n (put r.ee m at v) x) (put_is r n at v)
    (wrote r.ee at v (λ i a b. (omega arith, omega arith)) (omega arith)))

record BothWalk (At : ℕ → Type 0) (m n : List ℕ) (x y : Walked) : Type 0 where
  reply : x.reply ≡ y.reply
  kept : x.kept ≡ y.kept
  memory : Written At m n x.memory y.memory

module _ (r : Regime) (a : Access) (m n : List ℕ) (h : Same (InPool (Some r)) m n) (f : r.pool.start + r.pool.length ≤ length m) where
  both_spot : (x : Spot) → located r m (ours.page r a) ≡ x → BothWalk (InPool (Some r)) m n (walk_from ours r m a x) (walk_from ours r n a x)
  both_spot (lost code level k) e = record { reply = refl; kept = refl; memory = still }
  both_spot (found at u k) e =
      let w = where_found r m (ours.page r a) e in
      let i = (in_the_pool r m (ours.page r a) w).inside in
      let l = length_part m r.pool.start r.pool.length f in
      let p : r.pool.start ≤ at = (let o = w.offset in omega (arith, o)) in
      let q : at + 8 ≤ r.pool.start + r.pool.length = (let o = w.offset in omega (arith, o, l, i.least, i.most)) in
      record { reply = refl; kept = refl; memory = by (updates (judged r u a)) (stamped (judged r u a) u.value) p q }
    where
      by : (b : Bool) (v : ℕ) → r.pool.start ≤ at → at + 8 ≤ r.pool.start + r.pool.length
          → Written (InPool (Some r)) m n (pick b (put_word ours r m at v) m) (pick b (put_word ours r n at v) n)
      by true v p q = wrote_pool r m n at v p q f
      by false v p q = still

  both_walk : BothWalk (InPool (Some r)) m n (walked ours r m a) (walked ours r n a)
  both_walk =
      subst (λ (x : Spot). BothWalk (InPool (Some r)) m n (walked ours r m a) (walk_from ours r n a x)) (located_same r m n (ours.page r a) (pool_same r m n h))
      (both_spot (located r m (ours.page r a)) refl)

  both_held : (x : Option Leaf) → BothWalk (InPool (Some r)) m n (access_held ours r m a x) (access_held ours r n a x)
  both_held None = both_walk
  both_held (Some x) = by (dirtied_in (judged r x a))
    where
      by : (b : Bool)
          → BothWalk (InPool (Some r)) m n (pick b (walked ours r m a) (record { reply = answered (judged r x a) 0; memory = m; kept = None }))
          (pick b (walked ours r n a) (record { reply = answered (judged r x a) 0; memory = n; kept = None }))
      by true = both_walk
      by false = record { reply = refl; kept = refl; memory = still }

-- rows 1, 6 and 7, and rows 1 and 8
access_checks : Regime → Access → ℕ → Checked
access_checks r a k = and_then (first_of (memory_rows k r)) (first_of (access_rows r a))

store_checks : Regime → ℕ → ℕ → Checked
store_checks r address k = and_then (first_of (memory_rows k r)) (first_of (store_rows r.pool address))

module _ (m n : List ℕ) where
  both_access : (r : Regime) (a : Access) (x : Option Leaf) → Same (InPool (Some r)) m n → (y : Checked) → access_checks r a (length m) ≡ y
      → BothWalk (InPool (Some r)) m n (access_by ours r m a x y) (access_by ours r n a x y)
  unfolding access_checks
  both_access r a x h (Err y) e = record { reply = refl; kept = refl; memory = still }
  both_access r a x h (Ok _) e =
      both_held r a m n h (pooled (length m) r (clear (memory_rows (length m) r) (both (first_of (memory_rows (length m) r)) (first_of (access_rows r a)) e).0).0).fits x

  both_access_in : (a : Access) (e : Entry) (g : Option Regime) → Same (InPool g) m n → BothWalk (InPool g) m n (access_in ours g m a e) (access_in ours g n a e)
  unfolding access_checks
  both_access_in a e None h = record { reply = refl; kept = refl; memory = still }
  both_access_in a e (Some r) h =
      subst (λ (k : ℕ). BothWalk (InPool (Some r)) m n (access_in ours (Some r) m a e) (access_by ours r n a (held_in e (ours.page r a)) (access_checks r a k))) h.long
      (both_access r a (held_in e (ours.page r a)) h (access_checks r a (length m)) refl)

  -- what two calls leave: the same reply, the same session, and two memories
  record Both (At : ℕ → Type 0) (x y : Stepped) : Type 0 where
    reply : x.reply ≡ y.reply
    session : x.session ≡ y.session
    memory : Written At m n x.memory y.memory

  module _ (s : Session) where
    both_learn : {At : ℕ → Type 0} (p : ℕ) (x y : Walked) → BothWalk At m n x y → Both At (learn ours s p x) (learn ours s p y)
    both_learn p x y b =
        record {
          reply = b.reply;
          session = ap (λ (k : Option Leaf). let t : Session = record { regime = s.regime; entries = keep s.entries p k } in t) b.kept;
          memory = b.memory;
        }

    both_store : (r : Regime) (address value : ℕ) → (x : Checked) → store_checks r address (length m) ≡ x
        → Both (InPool (Some r)) (stay s (store_by ours r m address value x)) (stay s (store_by ours r n address value x))
    unfolding store_checks session_store_check
    both_store r address value (Err x) e = record { reply = refl; session = refl; memory = still }
    both_store r address value (Ok _) e =
        let t = store_accepted (length m) r address (first_append (memory_rows (length m) r) (store_rows r.pool address) ∙ e) in
        record { reply = refl; session = refl; memory = wrote_pool r m n (offset_of r address) value (omega arith) (omega (arith, t.least, t.most)) t.fits }

    both_store_in : (address value : ℕ) (g : Option Regime) → Same (InPool g) m n → Both (InPool g) (stay s (store_in ours g m address value)) (stay s (store_in ours g n address value))
    unfolding store_checks
    both_store_in address value None h = record { reply = refl; session = refl; memory = still }
    both_store_in address value (Some r) h =
        subst (λ (k : ℕ). Both (InPool (Some r)) (stay s (store_in ours (Some r) m address value)) (stay s (store_by ours r n address value (store_checks r address k)))) h.long
        (both_store r address value (store_checks r address (length m)) refl)

    both_set : (r : Regime) (x : Checked) → Both (λ (i : ℕ). ⊥) (set_by ours s m r x) (set_by ours s n r x)
    both_set r (Ok _) = record { reply = refl; session = refl; memory = still }
    both_set r (Err x) = record { reply = refl; session = refl; memory = still }

    -- a harvest changes no more than the pool
    harvest_parted : (r : Regime) (first count : ℕ) (l map : List ℕ) → Parted r.pool.start r.pool.length l (harvest_over r first count l map).memory
    harvest_parted r first count l map =
        record { long = harvest_length r first count l map; bytes = harvest_bytes r first count l map; outside = outside r first count l map }

    both_harvest_in : (first count : ℕ) (map : List ℕ) (g : Option Regime) → Same (InPool g) m n
        → Both (InPool g) (harvest_to ours s (harvest_in ours g first count m map)) (harvest_to ours s (harvest_in ours g first count n map))
    both_harvest_in first count map None h = record { reply = refl; session = refl; memory = still }
    both_harvest_in first count map (Some r) h =
        let u = unheard r first count m n map h.long (pool_same r m n h) in
        record {
          reply = ap₂ harvest_reply u.reply u.map;
          session = ap (emptied_by ours s) u.reply;
          memory = parted r.pool.start r.pool.length (λ i p q. (p, q)) (harvest_parted r first count m map) (harvest_parted r first count n map) u.pool;
        }

    both_call : (c : Call) → Same (Reach s.regime c) m n → Both (Reach s.regime c) (call ours s m c) (call ours s n c)
    both_call (set_regime r) h =
        subst (λ (k : ℕ). Both (λ (i : ℕ). ⊥) (call ours s m (set_regime r)) (set_by ours s n r (and_then (first_of (memory_rows k r)) (first_of (setting_rows r))))) h.long
        (both_set r (and_then (first_of (memory_rows (length m) r)) (first_of (setting_rows r))))
    both_call (access a) h =
        let r = regime_or s.regime in
        let e = get_or s.entries (entry_for r a) empty in
        subst (λ (y : Stepped). Both (InPool s.regime) (call ours s m (access a)) y) (access_learn s n a r s.regime (by_or s.regime))
        (subst (λ (x : Stepped). Both (InPool s.regime) x (learn ours s (page_for r a) (access_in ours s.regime n a e))) (access_learn s m a r s.regime (by_or s.regime))
        (both_learn (page_for r a) (access_in ours s.regime m a e) (access_in ours s.regime n a e) (both_access_in a e s.regime h)))
    both_call (store address value) h = both_store_in address value s.regime h
    both_call drop_all h = record { reply = refl; session = refl; memory = still }
    both_call (harvest first count map) h = both_harvest_in first count map s.regime h

same_self : (At : ℕ → Type 0) (m : List ℕ) → Same At m m
same_self At m = record { long = refl; bytes = λ i q. refl }

pub same_less : {At In : ℕ → Type 0} {m n : List ℕ} → ((i : ℕ) → In i → At i) → Same At m n → Same In m n
same_less f h = record { long = h.long; bytes = λ i q. h.bytes i (f i q) }

written_self : (s : Session) (m : List ℕ) (c : Call) → Written (Reach s.regime c) m m (call ours s m c).memory (call ours s m c).memory
written_self s m c = (both_call m m s c (same_self (Reach s.regime c) m)).memory

-- ---- the regime is the one last accepted

set_regime_lem : (s : Session) (m : List ℕ) (r : Regime) (x : Checked) → (set_by ours s m r x).session.regime ≡ regime_after (set_regime r) (set_by ours s m r x).reply s.regime
set_regime_lem s m r (Ok _) = refl
set_regime_lem s m r (Err x) = refl

emptied_regime : (s : Session) (x : Checked) → (emptied_by ours s x).regime ≡ s.regime
emptied_regime s (Ok _) = refl
emptied_regime s (Err x) = refl

regime_after_lem : (s : Session) (m : List ℕ) (c : Call) → (call ours s m c).session.regime ≡ regime_after c (call ours s m c).reply s.regime
regime_after_lem s m (set_regime r) = set_regime_lem s m r (and_then (first_of (memory_rows (length m) r)) (first_of (setting_rows r)))
regime_after_lem s m (access a) = ap (λ (y : Stepped). y.session.regime) (sym (access_learn s m a (regime_or s.regime) s.regime (by_or s.regime)))
regime_after_lem s m (store address value) = refl
regime_after_lem s m drop_all = refl
regime_after_lem s m (harvest first count map) = emptied_regime s (harvest_in ours s.regime first count m map).reply

-- ---- what an accepted store leaves

-- where a descriptor was stored, a walk reads it
read_back : (r : Regime) (m : List ℕ) (address value : ℕ) → Storable (length m) r.pool address → value < 2 ^ 64 → reader_of r (put r.ee m (offset_of r address) value) address ≡ Some value
unfolding fetched
read_back r m address value t small =
    let base = r.pool.address.0 in
    let n = r.pool.length in
    let i = address - base in
    let pool = pool_bytes r.pool m in
    let room : i + 8 ≤ n = omega (arith, t.least, t.most) in
    let l : length pool ≡ n = length_part m r.pool.start n t.fits in
    let long : length (put r.ee pool i value) ≡ n = length_put r.ee pool i value (rw l room) ∙ l in
    rw (part_put r.ee m r.pool.start n i value t.fits room, long, le-leb base address t.least, le-leb (address + 8) (base + n) t.most)
    (ap Some (desc_put r.ee pool i value (rw l room) small))

store_leaves : (r : Regime) (m : List ℕ) (address value : ℕ) (x : Checked) → store_checks r address (length m) ≡ x → (store_by ours r m address value x).reply ≡ done
    → StoredAt r address value m (store_by ours r m address value x).memory
unfolding store_checks session_store_check
store_leaves r m address value (Err x) e q = clash (cc)
store_leaves r m address value (Ok _) e q =
    let t = store_accepted (length m) r address (first_append (memory_rows (length m) r) (store_rows r.pool address) ∙ e) in
    subst⁻¹ (λ (left : List ℕ). StoredAt r address value m left) (put_is r m (offset_of r address) value) (record { bytes = refl; read = read_back r m address value t })

call_stores : (s : Session) (m : List ℕ) (c : Call) (r : Regime) (address value : ℕ) → s.regime ≡ Some r → c ≡ store address value → (call ours s m c).reply ≡ done
    → StoredAt r address value m (call ours s m c).memory
unfolding store_checks
call_stores s m c r address value g q =
    subst⁻¹ (λ (d : Call). (call ours s m d).reply ≡ done → StoredAt r address value m (call ours s m d).memory) q
    (subst⁻¹ (λ (o : Option Regime). (store_in ours o m address value).reply ≡ done → StoredAt r address value m (store_in ours o m address value).memory) g
    (store_leaves r m address value (store_checks r address (length m)) refl))

-- ---- rule 1 of one call of the model

rule1_event : (s : Session) (m : List ℕ) (c : Call) → Rule1Event s.regime (event c m (call ours s m c))
rule1_event s m c =
    record {
      refusals = λ k. (refusal_given s m c k, refusal_gives s m c k);
      kept = λ k q. (refusal_keeps s m c k q).1;
      long = written_long (written_self s m c);
      outside = written_outside (written_self s m c);
      bytes = written_bytes (written_self s m c);
      stored = call_stores s m c;
    }

pub rule_1_call : Rule1OfModel
rule_1_call s m c =
    record {
      shows = rule1_event s m c;
      kept = λ k q. (refusal_keeps s m c k q).0;
      accepted = regime_after_lem s m c;
      unheard = λ At f n h y e.
          let b = both_call m n s c (same_less f h) in (
            b.reply ∙ ap (λ (t : Stepped). t.reply) (sym e),
            b.session ∙ ap (λ (t : Stepped). t.session) (sym e),
            subst⁻¹ (λ (t : Stepped). Same At (call ours s m c).memory t.memory) e (written_same b.memory At h),
          );
    }

-- ---- rule 1 of one call of functions that leave what `leaves` says

-- a refused call leaves the session as it was, each number of it
set_kept : (s : SessionStruct) (m : List ℕ) (r : Regime) (k : ℕ) (x : Checked) → (set_by ours (session_view s) m r x).reply ≡ refused k → set_after s r x ≡ s
set_kept s m r k (Ok _) q = clash (cc)
set_kept s m r k (Err x) q = refl

emptied_kept : (s : SessionStruct) (x : Checked) (map : List ℕ) (k : ℕ) → harvest_reply x map ≡ refused k → emptied_after s x ≡ s
emptied_kept s (Ok _) map k q = clash (cc)
emptied_kept s (Err x) map k q = refl

struct_kept : (s : SessionStruct) (m : List ℕ) (c : Call) (k : ℕ) → (call ours (session_view s) m c).reply ≡ refused k → session_after s m c ≡ s
struct_kept s m (set_regime r) k q = set_kept s m r k (regime_check (length m) r) (subst (λ (y : Stepped). y.reply ≡ refused k) (set_checked (session_view s) m r) q)
struct_kept s m (access a) k q =
    unkept_same s m a (unkept m a (regime_held s) (entry_view (entry_in s a)) k (subst⁻¹ (λ (y : Stepped). y.reply ≡ refused k) (access_is s m a) q))
struct_kept s m (store address value) k q = refl
struct_kept s m drop_all k q = clash (cc)
struct_kept s m (harvest first count map) k q = emptied_kept s (harvest_of s first count m map).reply (harvest_of s first count m map).map k q

-- no byte out of reach has a say in any number of the session
struct_same : (s : SessionStruct) (m n : List ℕ) (c : Call) → Same (Reach (regime_held s) c) m n → session_after s m c ≡ session_after s n c
struct_same s m n (set_regime r) h = ap (λ (k : ℕ). set_after s r (regime_check k r)) h.long
struct_same s m n (access a) h =
    kept_is s m a
    ∙ ap (λ (k : Option Leaf). with_entry s (number_in s a) (kept_entry (entry_in s a) (page_for (regime_of s.regime) a) k)) (both_access_in m n a (entry_view (entry_in s a)) (regime_held s) h).kept
    ∙ sym (kept_is s n a)
struct_same s m n (store address value) h = refl
struct_same s m n drop_all h = refl
struct_same s m n (harvest first count map) h = ap (emptied_after s) (reply_same first count map (regime_held s) h)
  where
    reply_same : (first count : ℕ) (map : List ℕ) (g : Option Regime) → Same (InPool g) m n → (harvest_in ours g first count m map).reply ≡ (harvest_in ours g first count n map).reply
    reply_same first count map None h = refl
    reply_same first count map (Some r) h = (unheard r first count m n map h.long (pool_same r m n h)).reply

pub rule1_leaves : (F : Functions SessionStruct) → Leaving F → (s : SessionStruct) (m : List ℕ) (c : Call) (x : Handed SessionStruct Reply) → F s m c x
    → Rule1Call regime_held F s m c x
rule1_leaves F is s m c x made =
    let h = rule_1_call (session_view s) m c in
    let e = is s m c x made in
    record {
      shows = subst⁻¹ (λ (t : Handed SessionStruct Reply). Rule1Event (regime_held s) (event c m t)) e h.shows;
      kept = subst⁻¹ (λ (t : Handed SessionStruct Reply). (k : ℕ) → t.reply ≡ refused k → t.session ≡ s) e (struct_kept s m c);
      accepted =
          subst⁻¹ (λ (t : Handed SessionStruct Reply). regime_held t.session ≡ regime_after c t.reply (regime_held s)) e
          (ap (λ (y : Stepped). y.session.regime) (viewed_leaves s m c) ∙ h.accepted);
      unheard = λ At f n same y other.
          let u = h.unheard At f n same (call ours (session_view s) n c) refl in
          let e' = is s n c y other in
          subst⁻¹ (λ (t : Handed SessionStruct Reply). (x.reply ≡ t.reply) × (x.session ≡ t.session) × Same At x.memory t.memory) e'
          (subst⁻¹ (λ (t : Handed SessionStruct Reply). (t.reply ≡ (leaves s n c).reply) × (t.session ≡ (leaves s n c).session) × Same At t.memory (leaves s n c).memory) e
          (u.0, struct_same s m n c (same_less f same), u.2));
    }
