-- Rules 1 to 3 (RULES 13) in what C passes and gets.
use Rattle.std.specs.Prelude.{ℕ, ◌+◌, ◌<◌, ◌≤◌, Bool, true, false, List, ◌⊎◌, ◌↔◌, ◌≢◌, ◌≡◌, length, get_or, Option, None, Some}
use Rattle.descriptor.specs.Bytes.{Bytes, desc}
use Rattle.descriptor.specs.Bits.{bit}
use Rattle.geometry.specs.Geometry.{level_of, output_limit}
use Rattle.vmsa.specs.Words.{flag, regime_of}
use Rattle.vmsa.specs.Kinds.{is_probe, asks_write, writes}
use Rattle.vmsa.specs.Fields.{af, ap2}
use Rattle.vmsa.specs.Answers.{code_of}
use Rattle.vmsa.specs.declared.Regime.{Regime}
use Rattle.vmsa.specs.declared.RegimeWords.{RegimeWords}
use Rattle.vmsa.specs.declared.Access.{Access}
use Rattle.vmsa.specs.declared.FaultKind.{FaultKind}
use Rattle.vmsa.specs.declared.FaultKind.TheVariants.{Permission, Alignment}
use Rattle.checks.specs.Order.{walk_rows}
use Rattle.permission.specs.Permission.{writable}
use Rattle.walk.specs.Walk.{pool_bytes}
use Rattle.rules.specs.Rule1.{FirstNumber, Managed}
use Rattle.rules.specs.Steps.{AllPass, FirstFails}
use Rattle.rules.specs.Tables.{trace_of, TablesOff, TablesClear, InSum, bare_walk}
use Rattle.rules.specs.Orders.{other_order, swapped_pool}
use Rattle.rules.specs.Rule2.{steps_of, LeafOf, offset, Placed, Right, FlagUpdate, DirtyUpdate, SumOf}
use Rattle.tlb.specs.Walker.{no_regime}
use Rattle.tlb.specs.Ours.{ours}
use Rattle.tlb.specs.Entries.{page_for, entry_for}
use Rattle.session.specs.declared.Session.{Session as SessionStruct}
use Rattle.session.specs.Model.{access}
use Rattle.session.specs.View.{regime_held}
use Rattle.words.specs.declared.AccessWords.{AccessWords}
use Rattle.words.specs.declared.AnswerWords.{AnswerWords}
use Rattle.words.specs.Words.{access_of, words_of, counted_words}
use Rattle.capi_walk.specs.Says.{WalkSays}
use Rattle.capi_session.specs.Says.{EmptySays, AccessSays}
use Rattle.calls.specs.Chains.{Event, Chain}
use Rattle.calls.specs.Rule1.{rows_of, InPool, Same}
use Rattle.rule3.specs.Events.{last_regime, settled, Moment, counted, any_count, latest}
use Rattle.rules_c.specs.Readings.{success_in}
use Rattle.rules_c.specs.Code.{MadeC}

-- ---- rules 1 and 2 of vmsa_walk, which got the memory m, the regime g and the access a, and gave w and left m'

module _ (m : List ℕ) (g : RegimeWords) (a : AccessWords) (m' : List ℕ) (w : AnswerWords) where
  abbrev pub R : Regime
  R = regime_of g

  abbrev pub A : Access
  A = access_of a

  pub record WalkRules : Type 0 where
    -- it is refused with k exactly where the first row that applies has the number k, and then changes nothing
    pub refusals : (k : ℕ) → ((w.tag ≡ 2) × (w.refusal ≡ k)) ↔ FirstNumber (walk_rows (length m) R A) k
    pub kept : w.tag ≡ 2 → m' ≡ m
    -- where it is not refused, HA is on where HD is (row 13)
    pub managed : w.tag ≢ 2 → Managed R
    -- no byte outside the pool is changed, or has a say; and bytes stay bytes
    pub long : length m' ≡ length m
    pub outside : (i : ℕ) → (i < R.pool.start) ⊎ (R.pool.start + R.pool.length ≤ i) → get_or m' i 0 ≡ get_or m i 0
    pub unheard : (n n' : List ℕ) (x : AnswerWords) → WalkSays n g a n' x → length m ≡ length n → pool_bytes R.pool m ≡ pool_bytes R.pool n
        → (w ≡ x) × (pool_bytes R.pool m' ≡ pool_bytes R.pool n')
    pub still_bytes : Bytes m → Bytes m'
    -- one that is not refused succeeds exactly when no step fails; else it gives the fault of the first that does, and changes nothing
    pub succeeds : w.tag ≢ 2 → (w.tag ≡ 0) ↔ AllPass (steps_of R A m)
    pub faults : w.tag ≢ 2 → (k : FaultKind) (l : ℕ) → FirstFails (steps_of R A m) k l → (w.tag ≡ 1) × (w.code ≡ code_of k l) × (w.level ≡ l) × (m' ≡ m)
    -- a leaf's descriptor lies in the pool, and is what the walk read
    pub placed : w.tag ≢ 2 → (l : LeafOf R A m) → Placed l
    -- a success has its one leaf, and gives the right address, below 2 to the output size, and attributes
    pub leaf : w.tag ≡ 0 → LeafOf R A m
    pub right : w.tag ≡ 0 → (l : LeafOf R A m) → Right l (success_in w)
    pub below : w.tag ≡ 0 → w.output < output_limit R.output
    -- it changes at most bits 10 and 7 of that leaf's descriptor, where those updates are switched on; a probe changes nothing
    pub bytes : w.tag ≡ 0 → Bytes m → (l : LeafOf R A m) (i : ℕ) → (i < offset l) ⊎ (offset l + 8 ≤ i) → get_or m' i 0 ≡ get_or m i 0
    pub bits : w.tag ≡ 0 → Bytes m → (l : LeafOf R A m) (n : ℕ) → n ≢ 10 → n ≢ 7 → bit n (desc R.ee m' (offset l)) ≡ bit n l.value
    pub marks : w.tag ≡ 0 → Bytes m → (l : LeafOf R A m)
        → FlagUpdate R A l.value (desc R.ee m' (offset l)) (flag w.accessed) × DirtyUpdate R A l.value (desc R.ee m' (offset l)) (flag w.dirtied)
    pub probe : w.tag ≡ 0 → Bytes m → LeafOf R A m → is_probe A.kind ≡ true → m' ≡ m
    -- AF is 1 afterwards, but for a probe; a written page ends writable, too, by W and by its AP[2]
    pub accessed : w.tag ≡ 0 → Bytes m → (l : LeafOf R A m) → is_probe A.kind ≡ false → af (desc R.ee m' (offset l)) ≡ true
    pub written : w.tag ≡ 0 → Bytes m → writes A.kind ≡ true → (l : LeafOf R A m)
        → (af (desc R.ee m' (offset l)) ≡ true) × (ap2 (desc R.ee m' (offset l)) ≡ false) × (writable R (record { value = desc R.ee m' (offset l); left = l.left; tables = l.tables }) ≡ true)
    -- where HPD is on, or no table on the way has one of bits 62 to 59, it is as by the rules in which they have no say
    pub bare : TablesOff R A ⊎ TablesClear R A m → (w ≡ words_of (bare_walk R A m).result) × (m' ≡ (bare_walk R A m).bytes)
    -- a leaf's sum is that of the tables on the way; with bit 62 in it a success asked for no write, and made nothing dirty
    pub sum : (l : LeafOf R A m) → SumOf l
    pub read_only : w.tag ≡ 0 → InSum 62 R A m → (asks_write A.kind ≡ false) × (flag w.dirtied ≡ false)
    -- a call with the other byte order, over the memory with every descriptor of the pool in that order, gave the same answer, and left what this one left, with every descriptor of the pool in the other order
    pub orders : (h : RegimeWords) (n' : List ℕ) (x : AnswerWords) → regime_of h ≡ other_order R → WalkSays (swapped_pool R.pool m) h a n' x → (w ≡ x) × (n' ≡ swapped_pool R.pool m')
    -- a success may be remembered where AF is 1 afterwards; a fault, where a leaf with AF 1 was reached and step 7 or 8 failed
    pub cacheable : w.tag ≡ 0 → Bytes m → (l : LeafOf R A m) → flag w.cacheable ≡ af (desc R.ee m' (offset l))
    pub faults_cacheable : w.tag ≡ 1
        → (flag w.cacheable ≡ true)
        ↔ ((l : LeafOf R A m) × (af l.value ≡ true) × (FirstFails (steps_of R A m) Alignment (level_of l.left) ⊎ FirstFails (steps_of R A m) Permission (level_of l.left)))
    -- the count of reads is the length of the list of descriptor addresses visited, and at most 4
    pub reads : w.tag ≢ 2 → (w.reads ≡ length (trace_of R A m).visited) × (w.reads ≤ 4)

abbrev pub WalkOfC : Type 0
WalkOfC = (m : List ℕ) (g : RegimeWords) (a : AccessWords) (m' : List ℕ) (w : AnswerWords) → WalkSays m g a m' w → WalkRules m g a m' w

-- ---- rule 1 of vmsa_session_access, which got any session s, the memory m and the access a, and gave w and left s' and m'

module _ (s : SessionStruct) (m : List ℕ) (a : AccessWords) (s' : SessionStruct) (m' : List ℕ) (w : AnswerWords) where
  pub record AccessRule1 : Type 0 where
    pub refusals : (k : ℕ) → ((w.tag ≡ 2) × (w.refusal ≡ k)) ↔ FirstNumber (rows_of (length m) (regime_held s) (access (access_of a))) k
    pub kept : w.tag ≡ 2 → (s' ≡ s) × (m' ≡ m)
    pub long : length m' ≡ length m
    pub outside : (i : ℕ) → (InPool (regime_held s) i → ⊥) → get_or m' i 0 ≡ get_or m i 0
    pub unheard : (n : List ℕ) → Same (InPool (regime_held s)) m n → (t : SessionStruct) (n' : List ℕ) (x : AnswerWords) → AccessSays s n a t n' x
        → (w ≡ x) × (s' ≡ t) × Same (InPool (regime_held s)) m' n'

abbrev pub AccessRule1OfC : Type 0
AccessRule1OfC = (s : SessionStruct) (m : List ℕ) (a : AccessWords) (s' : SessionStruct) (m' : List ℕ) (w : AnswerWords) → AccessSays s m a s' m' w → AccessRule1 s m a s' m' w

-- ---- rule 3 of vmsa_session_access: after the calls past, which left the memory m, and by which the regime last accepted is g, it got
-- the access a and the memory n, and gave w and left n'. Beside it stand calls of vmsa_walk

module _ (past : List Event) (m : List ℕ) (g : RegimeWords) (n : List ℕ) (a : AccessWords) (n' : List ℕ) (w : AnswerWords) where
  -- what vmsa_walk gives and leaves at that moment, each number of it and each byte
  abbrev pub Walks : Type 0
  Walks = (x : AnswerWords) (l : List ℕ) → WalkSays n g a l x → (w ≡ x) × (n' ≡ l)

  -- what vmsa_walk gives under the regime of u and over the memory as u left it, its count put to 0; where that makes a dirty mark, it walks
  abbrev pub Recalls : Moment → Type 0
  Recalls u = (h : RegimeWords) → regime_of h ≡ u.regime → (x : AnswerWords) (l : List ℕ) → WalkSays u.left h a l x
      → (x.dirtied ≡ 0 → (w ≡ counted_words 0 x) × (n' ≡ n)) × (x.dirtied ≢ 0 → Walks)

  -- the last rememberable access at the page's entry since the last emptying
  abbrev pub Last : (ℕ → Bool) → Option Moment
  Last ok = latest ours ok past (entry_for (regime_of g) (access_of a))

  pub record AccessRules : Type 0 where
    -- settled, and over the memory as it was left: what vmsa_walk gives, each number but the count of reads, and leaves
    pub settles : settled past ≡ true → n ≡ m → (x : AnswerWords) (l : List ℕ) → WalkSays n g a l x → (counted_words 0 w ≡ counted_words 0 x) × (n' ≡ l)
    -- over any bytes of the same length, settled or not: of that page, of another, or none
    pub held : (t : Moment) → Last any_count ≡ Some t → t.page ≡ page_for (regime_of g) (access_of a) → (u : Moment) × (Last counted ≡ Some u) × Recalls u
    pub other : (t : Moment) → Last any_count ≡ Some t → t.page ≢ page_for (regime_of g) (access_of a) → Walks
    pub unheld : Last any_count ≡ None → Walks
    -- vmsa_walk of a read, fetch or probe never makes a dirty mark: for them `held` gives the one answer, and no byte changes
    pub quiet : writes (access_of a).kind ≡ false → (h : RegimeWords) (k : List ℕ) (x : AnswerWords) (l : List ℕ) → WalkSays k h a l x → x.dirtied ≡ 0

-- every list of calls of the C functions, from the session that vmsa_session_empty left and over a memory of any length and bytes; and an access after it: before
-- any accepted regime it is refused with 9, and after one it keeps the rules above, over any bytes of the same length
abbrev pub EarlyOfC : Type 0
EarlyOfC = (s₀ : SessionStruct) → EmptySays s₀ → (m₀ : List ℕ) → Bytes m₀ → (s : SessionStruct) (m : List ℕ) (past : List Event) → Chain MadeC s₀ m₀ s m past
    → last_regime past ≡ None → (n : List ℕ) (a : AccessWords) (s' : SessionStruct) (n' : List ℕ) (w : AnswerWords) → AccessSays s n a s' n' w
    → (w.tag ≡ 2) × (w.refusal ≡ no_regime) × (s' ≡ s) × (n' ≡ n)

abbrev pub AccessOfC : Type 0
AccessOfC = (s₀ : SessionStruct) → EmptySays s₀ → (m₀ : List ℕ) → Bytes m₀ → (s : SessionStruct) (m : List ℕ) (past : List Event) → Chain MadeC s₀ m₀ s m past
    → (g : RegimeWords) → last_regime past ≡ Some (regime_of g) → (n : List ℕ) → length n ≡ length m
    → (a : AccessWords) (s' : SessionStruct) (n' : List ℕ) (w : AnswerWords) → AccessSays s n a s' n' w → AccessRules past m g n a n' w
