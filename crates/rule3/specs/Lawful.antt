-- What rule 3 (RULES 11) asks of a walker.
use Rattle.std.specs.Prelude.{ℕ, ◌+◌, ◌≤◌, true, false, List, ◌≡◌, eqb, length, Ok, Err}
use Rattle.descriptor.specs.Bytes.{Bytes}
use Rattle.descriptor.specs.Bits.{pick}
use Rattle.vmsa.specs.Answers.{Result, number_of, cacheable_in, dirtied_in}
use Rattle.vmsa.specs.Kinds.{writes}
use Rattle.vmsa.specs.declared.Regime.{Regime}
use Rattle.vmsa.specs.declared.Access.{Access}
use Rattle.vmsa.specs.declared.Leaf.{Leaf}
use Rattle.vmsa.specs.declared.Refusal.{Refusal}
use Rattle.checks.specs.Order.{Checked}
use Rattle.tlb.specs.Replies.{Reply, refused, Told, told, updates}
use Rattle.checks.specs.Order.{and_then}
use Rattle.tlb.specs.Walker.{Walker, Spot, lost, found, Walked, put_word, walked}
use Rattle.walk.specs.Walk.{revalued}
use Rattle.rule3.specs.Rule3.{plainly}

-- what a walk tells, unless its checks refuse it
abbrev pub unless_refused : Checked → List ℕ → Walked → Told Reply
unless_refused (Ok _) m w = told w.reply w.memory
unless_refused (Err x) m w = told (refused (number_of x)) m

-- how a lookup ends once the descriptor at an offset has another value
abbrev pub restamped : ℕ → ℕ → Spot → Spot
restamped at v (lost code level n) = lost code level n
restamped at v (found there u n) = found there (pick (eqb there at) (revalued u v) u) n

module _ (W : Walker) where
  open W use {memory_check, setting_check, access_check, store_check, offset, word, page, plain, locate, judge, stamp, harvest}

  -- a regime that was accepted, over a memory that row 1 lets through
  pub record Admitted (R : Regime) (m : List ℕ) : Type 0 where
    pub pool : memory_check R (length m) ≡ Ok tt
    pub regime : setting_check R ≡ Ok tt
    pub bytes : Bytes m

  pub record Lawful : Type 1 where
    -- the plain walk is its checks, and then the walk
    pub plain_walk : (R : Regime) (m : List ℕ) (a : Access)
        → plainly W R m a ≡ unless_refused (and_then (memory_check R (length m)) (and_then (setting_check R) (access_check R a))) m (walked W R m a)
    -- an accepted store's 8 bytes are in the memory, and so are those of a leaf that is found
    pub room : (R : Regime) (n address : ℕ) → memory_check R n ≡ Ok tt → store_check R address ≡ Ok tt → offset R address + 8 ≤ n
    pub leaf_room : (R : Regime) (m : List ℕ) → Admitted R m → (p : ℕ) {at : ℕ} {u : Leaf} {n : ℕ} → locate R m p ≡ found at u n → at + 8 ≤ length m
    pub word_length : (R : Regime) (v : ℕ) → length (word R v) ≡ 8
    pub word_bytes : (R : Regime) (v : ℕ) → Bytes (word R v)
    -- to reach a leaf takes a read
    pub reads : (R : Regime) (m : List ℕ) (p : ℕ) {at : ℕ} {u : Leaf} {n : ℕ} → locate R m p ≡ found at u n → 1 ≤ n
    -- two pages that reach one descriptor see one value
    pub one : (R : Regime) (m : List ℕ) (p q : ℕ) {at : ℕ} {u v : Leaf} {n k : ℕ} → locate R m p ≡ found at u n → locate R m q ≡ found at v k → u.value ≡ v.value
    -- an update changes the leaf that it is made on and nothing else of any lookup
    pub marks : (R : Regime) (m : List ℕ) → Admitted R m → (q : ℕ) (a : Access) {at : ℕ} {u : Leaf} {n : ℕ}
        → locate R m q ≡ found at u n → updates (judge R u a) ≡ true → (p : ℕ)
        → locate R (put_word W R m at (stamp (judge R u a) u.value)) p ≡ restamped at (stamp (judge R u a) u.value) (locate R m p)
    -- no update, no change
    pub unmarked : (o : Result) (v : ℕ) → updates o ≡ false → stamp o v ≡ v
    -- a read, fetch or probe makes no dirty update
    pub quiet : (R : Regime) (u : Leaf) (a : Access) → writes a.kind ≡ false → dirtied_in (judge R u a) ≡ false
    -- a harvest that is refused leaves the memory; any leaves bytes
    pub harvest_kept : (R : Regime) (first count : ℕ) (m map : List ℕ) (x : Refusal) → (harvest R first count m map).reply ≡ Err x → (harvest R first count m map).memory ≡ m
    pub harvest_bytes : (R : Regime) (first count : ℕ) (m map : List ℕ) → Bytes m → Bytes (harvest R first count m map).memory
    -- Agree R h u: a held leaf h still speaks for the leaf u in memory
    pub Agree : Regime → Leaf → Leaf → Type 0
    pub agree_self : (R : Regime) (u : Leaf) (a : Access) → cacheable_in (judge R u a) ≡ true
        → Agree R (revalued u (stamp (judge R u a) u.value)) (revalued u (stamp (judge R u a) u.value))
    pub agree_same : (R : Regime) (h u : Leaf) (a : Access) → Agree R h u → dirtied_in (judge R h a) ≡ false → judge R u a ≡ judge R h a
    pub agree_still : (R : Regime) (h u : Leaf) (a : Access) → Agree R h u → dirtied_in (judge R h a) ≡ false → updates (judge R h a) ≡ false
    pub agree_mark : (R : Regime) (h u v : Leaf) (a : Access) → Agree R h u → v.value ≡ u.value
        → Agree R h (revalued u (stamp (judge R v a) v.value))
