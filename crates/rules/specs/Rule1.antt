-- Rule 1 (RULES 13) for the plain walk, over any bytes, regime and access.
-- That every call gets an answer and ends is the code's contract: it asks nothing of its caller, and its outcome equals `walk`.
use Rattle.std.specs.Prelude.{ℕ, ◌+◌, ◌<◌, ◌≤◌, Bool, true, false, List, ◌∷◌, ◌⊎◌, ◌↔◌, ◌≢◌, ◌≡◌, length, get_or, Ok}
use Rattle.descriptor.specs.Bytes.{Bytes}
use Rattle.vmsa.specs.Answers.{refused, number_of}
use Rattle.vmsa.specs.declared.Regime.{Regime}
use Rattle.vmsa.specs.declared.Access.{Access}
use Rattle.vmsa.specs.declared.Refusal.{Refusal}
use Rattle.checks.specs.Order.{walk_rows, walk_check}
use Rattle.walk.specs.Walk.{walk, pool_bytes}

-- the first row of a table that applies
pub data FirstRow : List (Bool × Refusal) → Refusal → Type 0 where
  here : {x : Refusal} {rows : List (Bool × Refusal)} → FirstRow ((true, x) ∷ rows) x
  later : {x y : Refusal} {rows : List (Bool × Refusal)} → FirstRow rows x → FirstRow ((false, y) ∷ rows) x

-- and its number
abbrev pub FirstNumber : List (Bool × Refusal) → ℕ → Type 0
FirstNumber rows k = (x : Refusal) × FirstRow rows x × (number_of x ≡ k)

-- dirty state is managed together with the Access flag, or not at all (RULES 3.1)
abbrev pub Managed : Regime → Type 0
Managed r = r.hd ≡ true → r.ha ≡ true

pub record Rule1 : Type 0 where
  -- a refusal is given exactly where the table (RULES 5) says, with the number of the first row that applies
  pub refusals : (r : Regime) (a : Access) (m : List ℕ) (k : ℕ) → ((walk r a m).result ≡ refused k) ↔ FirstNumber (walk_rows (length m) r a) k
  -- and is not given exactly where the checks of that table accept
  pub accepted : (r : Regime) (a : Access) (m : List ℕ) → (walk_check (length m) r a ≡ Ok tt) ↔ ((k : ℕ) → (walk r a m).result ≢ refused k)
  -- so no walk goes on with HD on and HA off (row 13)
  pub managed : (r : Regime) (a : Access) (m : List ℕ) → ((k : ℕ) → (walk r a m).result ≢ refused k) → Managed r
  -- a refusal changes no memory (a plain walk has no session)
  pub kept : (r : Regime) (a : Access) (m : List ℕ) (k : ℕ) → (walk r a m).result ≡ refused k → (walk r a m).bytes ≡ m
  -- no byte outside the guest's pool is changed, whatever the answer: the memory keeps its length,
  pub long : (r : Regime) (a : Access) (m : List ℕ) → length (walk r a m).bytes ≡ length m
  -- each byte before the pool's start and each from its end on,
  pub outside : (r : Regime) (a : Access) (m : List ℕ) (i : ℕ) → (i < r.pool.start) ⊎ (r.pool.start + r.pool.length ≤ i)
      → get_or (walk r a m).bytes i 0 ≡ get_or m i 0
  -- and bytes stay bytes
  pub bytes : (r : Regime) (a : Access) (m : List ℕ) → Bytes m → Bytes (walk r a m).bytes
  -- no byte outside the guest's pool has a say: two memories of one length with the same pool get the same answer and the same pool afterwards
  pub unheard : (r : Regime) (a : Access) (m n : List ℕ) → length m ≡ length n → pool_bytes r.pool m ≡ pool_bytes r.pool n
      → ((walk r a m).result ≡ (walk r a n).result) × (pool_bytes r.pool (walk r a m).bytes ≡ pool_bytes r.pool (walk r a n).bytes)
