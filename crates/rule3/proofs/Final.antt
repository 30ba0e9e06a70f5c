-- Rule 3 of our walk, and of the real functions.
use Prim.Native.Nat.{ℕ, ◌+◌, ◌≤◌}
use mathlib.Core.Bool.{Bool, true, false}
use mathlib.Core.List.{List, [], ◌∷◌}
use Rattle.std.specs.Prelude.{Option, Ok, Err}
use mathlib.Core.Path.{◌≡◌, refl, sym, ap, ap₂, subst⁻¹, ◌∙◌}
use native.Mathlib.Omega.{arith}
use lib.ListN.{length}
use Rattle.descriptor.specs.Bytes.{Bytes}
use Rattle.descriptor.specs.Bits.{pick}
use Rattle.descriptor.proofs.Laws.{length_bytes}
use Rattle.descriptor.proofs.Numbers.{bytes_bytes}
use Rattle.vmsa.specs.declared.Regime.{Regime}
use Rattle.vmsa.specs.declared.Access.{Access}
use Rattle.checks.specs.Order.{Checked}
use Rattle.checks.specs.Order.{first_of, memory_rows, setting_rows, regime_rows, access_rows, store_rows, walk_check, session_store_check, and_then}
use Rattle.walk.specs.Walk.{walk_pool, checked, walk}
use Rattle.walk.proofs.Ends.{ready}
use Rattle.harvest.proofs.Laws.{harvest_kept, harvest_bytes}
use Rattle.tlb.specs.Replies.{Reply, Told, told, reply_of}
use Rattle.tlb.specs.Walker.{Walked, walked}
use Rattle.tlb.specs.Ours.{offset_of, ours}
use Rattle.checks.proofs.Rows.{first_append, both}
use Rattle.tlb.proofs.Walking.{walked_pool_lem}
use Rattle.session.specs.declared.Session.{Session as SessionStruct}
use Rattle.session.specs.Model.{Session, Handed, Stepped, fresh, Call, set_regime, access, store, drop_all, harvest, call}
use Rattle.session.specs.View.{session_view, viewed}
use Rattle.session.proofs.Calls.{store_accepted, viewed_leaves}
use Rattle.session.proofs.Promises.{empty_promise}
use Rattle.calls.specs.Chains.{Event, event, Functions, Calling, Leaving, Chain, none_yet, more, is_done}
use Rattle.calls.specs.Code.{Begun, Made}
use Rattle.calls.proofs.Lists.{made_leaves}
use Rattle.rule3.specs.Events.{World, next, run, last_regime, empties, asks_drop, settled, is_drop, dropped}
use Rattle.rule3.specs.Rule3.{plainly, Remembers}
use Rattle.rule3.specs.Lawful.{unless_refused, Lawful}
use Rattle.rule3.specs.Code.{Rule3OfModel, world_at, Rule3From, NextFrom, Rule3OfCode, NextOfCode}
use Rattle.rule3.proofs.Coherence.{Inv, step, begin, claim, rule3}
use Rattle.rule3.proofs.Agreement.{unmarked, quiet, Agree, agree_self, agree_same, agree_still, agree_mark}
use Rattle.rule3.proofs.Memory.{reads, one, marks, leaf_room, accepted_usable}

-- ---- the plain walk is its checks, and then the walk

then_assoc : (x y z : Checked) → and_then (and_then x y) z ≡ and_then x (and_then y z)
then_assoc (Ok _) y z = refl
then_assoc (Err k) y z = refl

checks_of : (r : Regime) (n : ℕ) (a : Access)
    → walk_check n r a ≡ and_then (first_of (memory_rows n r)) (and_then (first_of (setting_rows r)) (first_of (access_rows r a)))
unfolding walk_check
checks_of r n a =
    first_append (regime_rows n r) (access_rows r a) ∙ ap (λ (x : Checked). and_then x (first_of (access_rows r a))) (first_append (memory_rows n r) (setting_rows r))
    ∙ then_assoc (first_of (memory_rows n r)) (first_of (setting_rows r)) (first_of (access_rows r a))

plain_by_lem : (r : Regime) (m : List ℕ) (a : Access) (c : Checked) → walk_check (length m) r a ≡ c
    → ◌≡◌ {A = Told Reply} (record { reply = reply_of (checked (walk_pool r a) r.pool m c).result; memory = (checked (walk_pool r a) r.pool m c).bytes }) (unless_refused c m (walked ours r m a))
plain_by_lem r m a (Err x) e = refl
plain_by_lem r m a (Ok _) e =
    let h = ready (length m) r a e in
    let u = accepted_usable r (both (first_of (setting_rows r)) (first_of (access_rows r a)) (both (first_of (memory_rows (length m) r)) (and_then (first_of (setting_rows r)) (first_of (access_rows r a))) (sym (checks_of r (length m) a) ∙ e)).1).0 in
    sym (ap (λ (w : Walked). told w.reply w.memory) (walked_pool_lem r m a h.sized h.root h.fits u))

plain_walk : (r : Regime) (m : List ℕ) (a : Access)
    → plainly ours r m a ≡ unless_refused (and_then (first_of (memory_rows (length m) r)) (and_then (first_of (setting_rows r)) (first_of (access_rows r a)))) m (walked ours r m a)
unfolding walk
plain_walk r m a =
    plain_by_lem r m a (walk_check (length m) r a) refl ∙ ap (λ (c : Checked). unless_refused c m (walked ours r m a)) (checks_of r (length m) a)

-- ---- an accepted store lies in the memory

store_check_lem : (r : Regime) (n address : ℕ) → first_of (memory_rows n r) ≡ Ok tt → first_of (store_rows r.pool address) ≡ Ok tt
    → session_store_check n r address ≡ Ok tt
unfolding session_store_check
store_check_lem r n address e f = first_append (memory_rows n r) (store_rows r.pool address) ∙ ap₂ and_then e f

room : (r : Regime) (n address : ℕ) → first_of (memory_rows n r) ≡ Ok tt → first_of (store_rows r.pool address) ≡ Ok tt → offset_of r address + 8 ≤ n
room r n address e f =
    let h = store_accepted n r address (store_check_lem r n address e f) in
    omega (arith, h.fits, h.least, h.most)

-- ---- our walk keeps the laws

pub lawful : Lawful ours
lawful =
    record {
      plain_walk = plain_walk;
      room = room;
      leaf_room = leaf_room;
      word_length = λ r v. length_bytes r.ee v;
      word_bytes = λ r v. bytes_bytes r.ee v;
      reads = reads;
      one = one;
      marks = λ r m s q a {at} {u} {n} e h p. marks r m s q (ours.judge r u a) e p;
      unmarked = unmarked;
      quiet = quiet;
      harvest_kept = harvest_kept;
      harvest_bytes = harvest_bytes;
      Agree = Agree;
      agree_self = agree_self;
      agree_same = agree_same;
      agree_still = agree_still;
      agree_mark = agree_mark;
    }

-- rule 3: for every list of calls, from the fresh session over a memory of any length and bytes
pub rule_3 : Rule3OfModel
rule_3 = rule3 ours lawful

-- the list is a chain of the model's calls, of which rule 1 speaks
pub run_chain : (s₀ : Session) (m₀ : List ℕ) (w : World) → Chain Calling s₀ m₀ w.session w.memory w.past → (cs : List Call)
    → Chain Calling s₀ m₀ (run ours w cs).session (run ours w cs).memory (run ours w cs).past
unfolding run
run_chain s₀ m₀ w chain [] = chain
run_chain s₀ m₀ w chain (c ∷ cs) = run_chain s₀ m₀ (next ours w c) (more {x = call ours w.session w.memory c} chain refl) cs

-- ---- functions over a session of the code, from a fresh session, that leave what `leaves` says

module _ (F : Functions SessionStruct) (is : Leaving F) (s₀ : SessionStruct) (fresh_start : session_view s₀ ≡ fresh) where
  pub chain_inv : (m₀ : List ℕ) → Bytes m₀ → {s : SessionStruct} {m : List ℕ} {past : List Event} → Chain F s₀ m₀ s m past → Inv ours lawful (session_view s) m past
  chain_inv m₀ b none_yet = subst⁻¹ (λ (x : Session). Inv ours lawful x m₀ []) fresh_start (begin ours lawful m₀ b)
  chain_inv m₀ b (more {s = s} {m = m} {past = past} {c = c} {x = x} before made) =
      subst⁻¹ (λ (y : Stepped). Inv ours lawful y.session y.memory (event c m y ∷ past)) (ap viewed (is s m c x made) ∙ viewed_leaves s m c)
      (step ours lawful (session_view s) m past (chain_inv m₀ b before) c)

  pub rule_3_of : Rule3From F s₀
  rule_3_of m₀ b s m past chain = claim ours lawful (session_view s) m past (chain_inv m₀ b chain)

  pub rule_3_next_of : NextFrom F s₀
  rule_3_next_of m₀ b s m past chain r q a n size x made =
      subst⁻¹ (λ (y : Handed SessionStruct Reply). Remembers ours (world_at s m past) r a n y.reply y.memory) (is s n (access a) x made)
      ((rule_3_of m₀ b s m past chain).remembers r q a n size)

-- ---- the functions of a session, by their own contracts

pub begun_fresh : (s : SessionStruct) → Begun s → session_view s ≡ fresh
begun_fresh s h = ap session_view (empty_promise s h)

pub rule_3_code : Rule3OfCode
rule_3_code s₀ h = rule_3_of Made made_leaves s₀ (begun_fresh s₀ h)

pub rule_3_next : NextOfCode
rule_3_next s₀ h = rule_3_next_of Made made_leaves s₀ (begun_fresh s₀ h)

-- ---- the customer's word "drop": it is one way to be settled

settled_by : (o : Option Regime) (e : Event) (c : Call) (x y : Bool) → (x ≡ true → y ≡ true) → pick (is_drop c e.reply) true (pick (asks_drop o e c) false x) ≡ true
    → pick (empties c e.reply) true (pick (asks_drop o e c) false y) ≡ true
settled_by o e (set_regime r) x y h k = by (is_done e.reply)
  where
    by : (b : Bool) → pick b true y ≡ true
    by true = refl
    by false = h k
settled_by o e (access a) x y h k = h k
settled_by o e (store address value) x y h k = by (is_done e.reply) k
  where
    by : (b : Bool) → pick b false x ≡ true → pick b false y ≡ true
    by true k = k
    by false k = h k
settled_by o e drop_all x y h k = refl
settled_by o e (harvest first count map) x y h k = by (is_done e.reply) k
  where
    by : (b : Bool) → pick b true x ≡ true → pick b true y ≡ true
    by true k = refl
    by false k = h k

pub drop_settles : (past : List Event) → dropped past ≡ true → settled past ≡ true
drop_settles [] h = refl
drop_settles (e ∷ before) h = settled_by (last_regime before) e e.made (dropped before) (settled before) (drop_settles before) h
