-- Rule 1 (RULES 13) for the calls of a session: any session, any memory, any call; and every list of calls.
-- That every call gets an answer and ends is the code's contract, which asks nothing of its caller (`..-free` in proofs/Promises.antt of session, lent, capi_walk, capi_session and capi_harvest).
use Rattle.std.specs.Prelude.{ℕ, ◌+◌, ◌^◌, ◌<◌, ◌≤◌, Bool, true, false, List, [], ◌∷◌, ◌++◌, map, ◌↔◌, ◌≡◌, length, get_or, Option, None, Some}
use Rattle.descriptor.specs.Bytes.{Bytes, put}
use Rattle.vmsa.specs.declared.Regime.{Regime}
use Rattle.vmsa.specs.declared.Refusal.{Refusal}
use Rattle.vmsa.specs.declared.Refusal.TheVariants.{NoRegime}
use Rattle.checks.specs.Order.{memory_rows, regime_rows, access_rows, store_rows, harvest_rows}
use Rattle.rules.specs.Rule1.{FirstNumber, Managed}
use Rattle.rules.specs.Tables.{reader_of}
use Rattle.tlb.specs.Replies.{Reply, done, refused}
use Rattle.tlb.specs.Ours.{offset_of, ours}
use Rattle.session.specs.Model.{Session, Handed, Call, set_regime, access, store, drop_all, harvest, call}
use Rattle.calls.specs.Chains.{Event, event, Functions, Calling, Chain, regime_after, regime_from}

-- ---- what each call is checked for, and the bytes that it reaches

-- refusal 9, and then the rows under the session's regime
abbrev pub under_regime : Option Regime → (Regime → List (Bool × Refusal)) → List (Bool × Refusal)
under_regime None rows = (true, NoRegime) ∷ []
under_regime (Some r) rows = (false, NoRegime) ∷ rows r

-- the rows of a call over n bytes of memory in a session with the regime g, in the order of the checks (RULES 5.3)
abbrev pub rows_of : ℕ → Option Regime → Call → List (Bool × Refusal)
rows_of n g (set_regime r) = regime_rows n r
rows_of n g (access a) = under_regime g (λ (r : Regime). memory_rows n r ++ access_rows r a)
rows_of n g (store address value) = under_regime g (λ (r : Regime). memory_rows n r ++ store_rows r.pool address)
rows_of n g drop_all = []
rows_of n g (harvest first count map) = under_regime g (λ (r : Regime). harvest_rows n r first count (length map))

-- the bytes of the pool of a session's regime
abbrev pub InPool : Option Regime → ℕ → Type 0
InPool None i = ⊥
InPool (Some r) i = (r.pool.start ≤ i) × (i < r.pool.start + r.pool.length)

-- the bytes that a call may see or change: the pool's for an access, a store and a harvest, none for a set regime and a drop all
abbrev pub Reach : Option Regime → Call → ℕ → Type 0
Reach g (set_regime r) i = ⊥
Reach g (access a) i = InPool g i
Reach g (store address value) i = InPool g i
Reach g drop_all i = ⊥
Reach g (harvest first count map) i = InPool g i

-- ---- one call

-- what an accepted store leaves: the value at its address, in the byte order of the regime, and every other byte as it was; a walk under that regime reads it there
pub record StoredAt (r : Regime) (address value : ℕ) (m left : List ℕ) : Type 0 where
  pub bytes : left ≡ put r.ee m (offset_of r address) value
  pub read : value < 2 ^ 64 → reader_of r left address ≡ Some value

-- what its event shows, g being the session's regime
pub record Rule1Event (g : Option Regime) (e : Event) : Type 0 where
  -- a refusal is given exactly where the table (RULES 5) says, with the number of the first row that applies
  pub refusals : (k : ℕ) → (e.reply ≡ refused k) ↔ FirstNumber (rows_of (length e.found) g e.made) k
  -- and changes no byte
  pub kept : (k : ℕ) → e.reply ≡ refused k → e.left ≡ e.found
  -- no byte out of reach is changed, whatever the reply: the memory keeps its length, and each such byte; and bytes stay bytes
  pub long : length e.left ≡ length e.found
  pub outside : (i : ℕ) → (Reach g e.made i → ⊥) → get_or e.left i 0 ≡ get_or e.found i 0
  pub bytes : Bytes e.found → Bytes e.left
  -- an accepted store stores what it was given
  pub stored : (r : Regime) (address value : ℕ) → g ≡ Some r → e.made ≡ store address value → e.reply ≡ done → StoredAt r address value e.found e.left

-- two memories of one length with the same bytes at these offsets
pub record Same (At : ℕ → Type 0) (m n : List ℕ) : Type 0 where
  pub long : length m ≡ length n
  pub bytes : (i : ℕ) → At i → get_or m i 0 ≡ get_or n i 0

module _ {S : Type 0} (regime : S → Option Regime) (F : Functions S) where
  pub record Rule1Call (s : S) (m : List ℕ) (c : Call) (x : Handed S Reply) : Type 1 where
    pub shows : Rule1Event (regime s) (event c m x)
    -- a refusal changes no session either
    pub kept : (k : ℕ) → x.reply ≡ refused k → x.session ≡ s
    -- the regime of a session is the one last accepted
    pub accepted : regime x.session ≡ regime_after c x.reply (regime s)
    -- no byte out of reach has a say: the same call over another memory that agrees in reach (and wherever else At says) gives the
    -- same reply and the same session, and the two memories agree there afterwards
    pub unheard : (At : ℕ → Type 0) → ((i : ℕ) → Reach (regime s) c i → At i) → (n : List ℕ) → Same At m n → (y : Handed S Reply) → F s n c y
        → (x.reply ≡ y.reply) × (x.session ≡ y.session) × Same At x.memory y.memory

-- ---- every list of calls

-- each call of a list, by the regime last accepted before it
abbrev pub EachCall : Option Regime → List Event → Type 0
EachCall g [] = Unit {0}
EachCall g (e ∷ before) = Rule1Event (regime_from g before) e × EachCall g before

-- a session's regime, where it has one, manages dirty state together with the Access flag or not at all
abbrev pub ManagedIn : Option Regime → Type 0
ManagedIn None = Unit {0}
ManagedIn (Some r) = Managed r

-- At holds every byte that the calls of a list reach
abbrev pub Reaches : (ℕ → Type 0) → Option Regime → List Event → Type 0
Reaches At g [] = Unit {0}
Reaches At g (e ∷ before) = ((i : ℕ) → Reach (regime_from g before) e.made i → At i) × Reaches At g before

abbrev pub calls : List Event → List Call
calls past = map (λ (e : Event). e.made) past

abbrev pub replies : List Event → List Reply
replies past = map (λ (e : Event). e.reply) past

module _ {S : Type 0} (regime : S → Option Regime) (F : Functions S) where
  -- the calls past, from the session s₀ over m₀, left the session s and the memory m
  pub record Rule1List (s₀ : S) (m₀ : List ℕ) (s : S) (m : List ℕ) (past : List Event) : Type 1 where
    pub each : EachCall (regime s₀) past
    -- so a session that has no regime with HD on and HA off does not come to one (row 13)
    pub managed : ManagedIn (regime s₀) → ManagedIn (regime s)
    -- no byte out of the reach of all of them is changed,
    pub long : length m ≡ length m₀
    pub outside : (At : ℕ → Type 0) → Reaches At (regime s₀) past → (i : ℕ) → (At i → ⊥) → get_or m i 0 ≡ get_or m₀ i 0
    -- or has a say: the same calls over another memory that agrees in their reach
    pub unheard : (At : ℕ → Type 0) → Reaches At (regime s₀) past → (n₀ : List ℕ) → Same At m₀ n₀
        → (t : S) (n : List ℕ) (other : List Event) → Chain F s₀ n₀ t n other → calls past ≡ calls other
        → (replies past ≡ replies other) × (s ≡ t) × Same At m n

-- ---- the claim: of the model, any call; and every list of calls

abbrev pub Rule1OfModel : Type 1
Rule1OfModel = (s : Session) (m : List ℕ) (c : Call) → Rule1Call (λ (t : Session). t.regime) Calling s m c (call ours s m c)

abbrev pub Rule1OfLists : Type 1
Rule1OfLists = (s₀ : Session) (m₀ : List ℕ) (s : Session) (m : List ℕ) (past : List Event) → Chain Calling s₀ m₀ s m past → Rule1List (λ (t : Session). t.regime) Calling s₀ m₀ s m past
