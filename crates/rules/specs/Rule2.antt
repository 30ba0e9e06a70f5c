-- Rule 2 (RULES 13): what a plain walk answers and changes where it is not refused, that is, where its checks accept (rule 1).
use Rattle.std.specs.Prelude.{ℕ, ◌+◌, ◌-◌, ◌%◌, ◌<◌, ◌≤◌, Bool, true, false, List, ◌⊎◌, ◌↔◌, ◌≢◌, ◌≡◌, length, get_or, Ok}
use Rattle.descriptor.specs.Bytes.{Bytes, desc}
use Rattle.descriptor.specs.Bits.{bit}
use Rattle.geometry.specs.Geometry.{level_of, span, cut, output_limit}
use Rattle.vmsa.specs.Granules.{page_bits_of}
use Rattle.vmsa.specs.Kinds.{is_probe, asks_write, writes}
use Rattle.vmsa.specs.Attributes.{attribute as attribute_byte}
use Rattle.vmsa.specs.Fields.{attribute_index, shareability as shareability_of, nonglobal as nonglobal_of, af, ap2, dbm, sum_count, no_write_below, no_user_below, uxn_below, pxn_below}
use Rattle.vmsa.specs.Answers.{Faulted, success, fault as faulted, code_of}
use Rattle.vmsa.specs.declared.Regime.{Regime}
use Rattle.vmsa.specs.declared.Access.{Access}
use Rattle.vmsa.specs.declared.Leaf.{Leaf}
use Rattle.vmsa.specs.declared.Success.{Success}
use Rattle.vmsa.specs.declared.FaultKind.{FaultKind}
use Rattle.vmsa.specs.declared.FaultKind.TheVariants.{Permission, Alignment}
use Rattle.checks.specs.Order.{walk_check}
use Rattle.lookup.specs.Trace.{leaf}
use Rattle.permission.specs.Permission.{writable}
use Rattle.walk.specs.Walk.{walk, pool_bytes}
use Rattle.rules.specs.Steps.{Step, AllPass, FirstFails, leaf_steps, walk_steps}
use Rattle.rules.specs.Orders.{other_order, swapped_pool, swapped_outcome}
use Rattle.rules.specs.Tables.{trace_of, TablesOff, TablesClear, InSum, bare_walk, restricted}

-- the steps of an access
abbrev pub steps_of : Regime → Access → List ℕ → List Step
steps_of r a m = walk_steps r a (pool_bytes r.pool m)

-- the one leaf of an access, where its trace ends in one: the address and value of its descriptor, the levels left below it, and the sum of the tables above it
pub record LeafOf (r : Regime) (a : Access) (m : List ℕ) : Type 0 where
  pub address : ℕ
  pub value : ℕ
  pub left : ℕ
  pub tables : ℕ
  pub reached : (trace_of r a m).end ≡ leaf address (record { value = value; left = left; tables = tables })

-- where its descriptor lies in the memory: at start + address - pool address
abbrev pub offset : {r : Regime} {a : Access} {m : List ℕ} → LeafOf r a m → ℕ
offset {r} l = r.pool.start + (l.address - r.pool.address.0)

-- the value of its descriptor after the walk
abbrev pub value_after : {r : Regime} {a : Access} {m : List ℕ} → LeafOf r a m → ℕ
value_after {r} {a} {m} l = desc r.ee (walk r a m).bytes (offset l)

-- the leaf as the walk left it
abbrev pub leaf_after : {r : Regime} {a : Access} {m : List ℕ} → LeafOf r a m → Leaf
leaf_after l = record { value = value_after l; left = l.left; tables = l.tables }

-- what a leaf's sum says (RULES 6.11): each of its four tests holds exactly where a table on the way has the bit, and HPD is off; it has no other bit
pub record SumOf {r : Regime} {a : Access} {m : List ℕ} (l : LeafOf r a m) : Type 0 where
  pub no_write : (no_write_below l.tables ≡ true) ↔ InSum 62 r a m
  pub no_user : (no_user_below l.tables ≡ true) ↔ InSum 61 r a m
  pub uxn : (uxn_below l.tables ≡ true) ↔ InSum 60 r a m
  pub pxn : (pxn_below l.tables ≡ true) ↔ InSum 59 r a m
  pub four : l.tables < sum_count

-- the leaf's descriptor lies wholly in the pool, at a multiple of 8, and is what the walk read
pub record Placed {r : Regime} {a : Access} {m : List ℕ} (l : LeafOf r a m) : Type 0 where
  pub least : r.pool.start ≤ offset l
  pub most : offset l + 8 ≤ r.pool.start + r.pool.length
  pub aligned : offset l % 8 ≡ 0
  pub value : desc r.ee m (offset l) ≡ l.value

-- the right address and attributes: the leaf's address and the offset in its span, and the leaf's fields
pub record Right {r : Regime} {a : Access} {m : List ℕ} (l : LeafOf r a m) (s : Success) : Type 0 where
  pub output : s.output.0 ≡ cut l.value (span (page_bits_of r) l.left) + a.address.0 % span (page_bits_of r) l.left
  pub attribute : s.attribute ≡ attribute_byte r.attributes (attribute_index l.value)
  pub shareability : s.shareability ≡ shareability_of l.value
  pub nonglobal : s.nonglobal ≡ nonglobal_of l.value
  pub level : s.level ≡ level_of l.left

-- bit 10 (AF) from v to w, and whether the answer says that it was set: unchanged, or from 0 to 1 with HA on, and by no probe
pub data FlagUpdate (r : Regime) (a : Access) (v w : ℕ) : Bool → Type 0 where
  kept : bit 10 w ≡ bit 10 v → FlagUpdate r a v w false
  set : r.ha ≡ true → is_probe a.kind ≡ false → bit 10 v ≡ false → bit 10 w ≡ true → FlagUpdate r a v w true

-- bit 7 (AP[2]) from v to w, and whether the answer says that it was cleared: unchanged, or from 1 to 0 with HA, HD and DBM 1, by a write or update
pub data DirtyUpdate (r : Regime) (a : Access) (v w : ℕ) : Bool → Type 0 where
  kept : bit 7 w ≡ bit 7 v → DirtyUpdate r a v w false
  cleared : r.ha ≡ true → r.hd ≡ true → dbm v ≡ true → writes a.kind ≡ true → bit 7 v ≡ true → bit 7 w ≡ false → DirtyUpdate r a v w true

-- what a success changes
pub record Marked {r : Regime} {a : Access} {m : List ℕ} (l : LeafOf r a m) (s : Success) : Type 0 where
  -- it changes no byte but those of the one leaf descriptor,
  pub bytes : (i : ℕ) → (i < offset l) ⊎ (offset l + 8 ≤ i) → get_or (walk r a m).bytes i 0 ≡ get_or m i 0
  -- and of that no bit but 10 and 7,
  pub bits : (n : ℕ) → n ≢ 10 → n ≢ 7 → bit n (value_after l) ≡ bit n l.value
  -- those only where the updates are switched on; the answer says which were made
  pub flag : FlagUpdate r a l.value (value_after l) s.accessed
  pub dirty : DirtyUpdate r a l.value (value_after l) s.dirtied
  -- AF is 1 afterwards (RULES 8.1: with HA on it becomes 1, with HA off step 6 asks it), but a probe changes nothing
  pub accessed : is_probe a.kind ≡ false → af (value_after l) ≡ true
  pub probe : is_probe a.kind ≡ true → (walk r a m).bytes ≡ m
  -- a success may be remembered where AF is 1 afterwards (RULES 9.2)
  pub cacheable : s.cacheable ≡ af (value_after l)

pub record Rule2 : Type 0 where
  -- the walk permits an access or one step is the first to fail: there is no third case
  pub decided : (r : Regime) (a : Access) (m : List ℕ) → AllPass (steps_of r a m) ⊎ ((k : FaultKind) × (l : ℕ) × FirstFails (steps_of r a m) k l)
  -- an access that is not refused succeeds exactly when the walk permits it: when no step fails
  pub succeeds : (r : Regime) (a : Access) (m : List ℕ) → walk_check (length m) r a ≡ Ok tt
      → ((s : Success) × ((walk r a m).result ≡ success s)) ↔ AllPass (steps_of r a m)
  -- otherwise it gets the fault that is ranked first, of the first step that fails, and all memory, the pool too, is untouched
  pub faults : (r : Regime) (a : Access) (m : List ℕ) → walk_check (length m) r a ≡ Ok tt → (k : FaultKind) (l : ℕ) → FirstFails (steps_of r a m) k l
      → (f : Faulted) × ((walk r a m).result ≡ faulted f) × (f.code ≡ code_of k l) × (f.level ≡ l) × ((walk r a m).bytes ≡ m)
  -- a success has its one leaf,
  pub leaf : (r : Regime) (a : Access) (m : List ℕ) (s : Success) → (walk r a m).result ≡ success s → LeafOf r a m
  -- and a leaf's descriptor lies in the guest's pool
  pub placed : (r : Regime) (a : Access) (m : List ℕ) → walk_check (length m) r a ≡ Ok tt → (l : LeafOf r a m) → Placed l
  -- a success gives the right address and attributes
  pub right : (r : Regime) (a : Access) (m : List ℕ) (s : Success) → (walk r a m).result ≡ success s → (l : LeafOf r a m) → Right l s
  -- it changes at most bits 10 and 7 of the one leaf descriptor, only where those updates are switched on
  pub marked : (r : Regime) (a : Access) (m : List ℕ) (s : Success) → (walk r a m).result ≡ success s → Bytes m → (l : LeafOf r a m) → Marked l s
  -- a written page ends writable, by W and by its AP[2], with its Access flag set
  pub written : (r : Regime) (a : Access) (m : List ℕ) (s : Success) → (walk r a m).result ≡ success s → Bytes m → writes a.kind ≡ true
      → (l : LeafOf r a m) → (af (value_after l) ≡ true) × (ap2 (value_after l) ≡ false) × (writable r (leaf_after l) ≡ true)
  -- the bits of all tables on the way add up, unless HPD is on
  pub sum : (r : Regime) (a : Access) (m : List ℕ) (l : LeafOf r a m) → SumOf l
  -- what the tables take away a leaf could say by itself: steps 6 to 8 are those of the leaf restricted so, under no tables
  pub restricts : (r : Regime) (a : Access) (l : Leaf) → leaf_steps r a l ≡ leaf_steps r a (restricted l)
  -- where HPD is on, or no table on the way has one of these bits, answer and bytes are those of the rules in which they have no say
  pub bare : (r : Regime) (a : Access) (m : List ℕ) → TablesOff r a ⊎ TablesClear r a m → walk r a m ≡ bare_walk r a m
  -- with bit 62 in the tables' sum, a success asked for no write, and made nothing dirty
  pub read_only : (r : Regime) (a : Access) (m : List ℕ) (s : Success) → (walk r a m).result ≡ success s → InSum 62 r a m → (asks_write a.kind ≡ false) × (s.dirtied ≡ false)
  -- in the other byte order, over a pool with every descriptor in that order, it is the same walk: the same answer, and what it leaves is what the walk left, with every descriptor of the pool in the other order
  pub orders : (r : Regime) (a : Access) (m : List ℕ) → walk (other_order r) a (swapped_pool r.pool m) ≡ swapped_outcome r.pool (walk r a m)
  -- every output address is below 2 to the output size (RULES 9.4)
  pub below : (r : Regime) (a : Access) (m : List ℕ) (s : Success) → (walk r a m).result ≡ success s → s.output.0 < output_limit r.output
  -- the count of reads is the length of the list of descriptor addresses visited, and at most 4 (RULES 9.3): for a success,
  pub success_reads : (r : Regime) (a : Access) (m : List ℕ) (s : Success) → (walk r a m).result ≡ success s
      → (s.reads ≡ length (trace_of r a m).visited) × (s.reads ≤ 4)
  -- and for a fault
  pub fault_reads : (r : Regime) (a : Access) (m : List ℕ) (f : Faulted) → (walk r a m).result ≡ faulted f
      → (f.reads ≡ length (trace_of r a m).visited) × (f.reads ≤ 4)
  -- a fault may be remembered exactly where a leaf with AF 1 was reached and step 7 or 8 failed (RULES 9.2)
  pub fault_cacheable : (r : Regime) (a : Access) (m : List ℕ) (f : Faulted) → (walk r a m).result ≡ faulted f
      → (f.cacheable ≡ true)
      ↔ ((l : LeafOf r a m) × (af l.value ≡ true) × (FirstFails (steps_of r a m) Alignment (level_of l.left) ⊎ FirstFails (steps_of r a m) Permission (level_of l.left)))
