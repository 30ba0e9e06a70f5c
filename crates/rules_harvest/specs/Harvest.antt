-- What a harvest (RULES 17) promises, over any bytes, regime, pages and map: rule 1, every bit of the map, every change of the memory, and what a second harvest reports.
-- That every call gets an answer and ends is the code's contract: it asks nothing of its caller, and what it leaves equals `harvest`.
use Rattle.std.specs.Prelude.{ℕ, ◌+◌, ◌*◌, ◌-◌, ◌/◌, ◌<◌, ◌≤◌, true, false, List, ◌⊎◌, ◌↔◌, ◌≡◌, length, get_or, Ok, Err}
use Rattle.descriptor.specs.Bytes.{Bytes, desc}
use Rattle.descriptor.specs.Bits.{set_bit}
use Rattle.vmsa.specs.Answers.{number_of}
use Rattle.vmsa.specs.Granules.{page_bits_of}
use Rattle.geometry.specs.Geometry.{page_size}
use Rattle.vmsa.specs.declared.Regime.{Regime}
use Rattle.vmsa.specs.declared.Refusal.{Refusal}
use Rattle.checks.specs.Order.{Checked}
use Rattle.checks.specs.Order.{regime_check, harvest_rows}
use Rattle.lookup.specs.Steps.{upper, range_of, outside as outside_range}
use Rattle.walk.specs.Walk.{pool_bytes}
use Rattle.bitmap.specs.Map.{map_bit}
use Rattle.harvest.specs.Harvest.{harvest}
use Rattle.rules.specs.Rule1.{FirstNumber}
use Rattle.rules_harvest.specs.Leaves.{PageLeaf, offset, SaysDirty, Dirty, AskedFor, Whole, SetAgain}

-- refused with the number k
abbrev pub RefusedWith : ℕ → Checked → Type 0
RefusedWith k x = (y : Refusal) × (x ≡ Err y) × (number_of y ≡ k)

-- the pages and the map of so many bytes that a harvest may be asked for: 1 to 65,536 pages, all inside one and the same range by step 1 of the walk (RULES 6.1), be it
-- disabled or not, and a bit of the map for each
pub record Askable (r : Regime) (first count bytes : ℕ) : Type 0 where
  pub some : 1 ≤ count
  pub most : count ≤ 65536
  pub inside : (page : ℕ) → AskedFor first count page → outside_range (range_of r (page * page_size (page_bits_of r))).tsz (page * page_size (page_bits_of r)) ≡ false
  pub one : (page : ℕ) → AskedFor first count page → upper (page * page_size (page_bits_of r)) ≡ upper (first * page_size (page_bits_of r))
  pub room : count ≤ 8 * bytes

-- the final byte: that of the last page's bit
abbrev pub final_byte : ℕ → ℕ
final_byte count = (count - 1) / 8

-- ---- rule 1 of a harvest

module _ (r : Regime) (first count : ℕ) (m map : List ℕ) where
  pub record HarvestRule1 : Type 0 where
    -- a refusal is given exactly where the table (RULES 5) says, with the number of the first row that applies
    pub refusals : (k : ℕ) → RefusedWith k (harvest r first count m map).reply ↔ FirstNumber (harvest_rows (length m) r first count (length map)) k
    -- so where its regime is accepted, a harvest is exactly for the pages and maps that may be asked for
    pub accepted : regime_check (length m) r ≡ Ok tt → ((harvest r first count m map).reply ≡ Ok tt) ↔ Askable r first count (length map)
    -- a refusal changes neither memory nor map
    pub kept : (k : ℕ) → RefusedWith k (harvest r first count m map).reply → ((harvest r first count m map).memory ≡ m) × ((harvest r first count m map).map ≡ map)
    -- no byte outside the guest's pool is changed: memory and map keep their lengths, and bytes stay bytes
    pub long : (length (harvest r first count m map).memory ≡ length m) × (length (harvest r first count m map).map ≡ length map)
    pub outside : (i : ℕ) → (i < r.pool.start) ⊎ (r.pool.start + r.pool.length ≤ i) → get_or (harvest r first count m map).memory i 0 ≡ get_or m i 0
    pub bytes : (Bytes m → Bytes (harvest r first count m map).memory) × (Bytes map → Bytes (harvest r first count m map).map)
    -- or has a say: two memories of one length with the same pool get the same reply, the same map and the same pool afterwards
    pub unheard : (n : List ℕ) → length m ≡ length n → pool_bytes r.pool m ≡ pool_bytes r.pool n
        → ((harvest r first count m map).reply ≡ (harvest r first count n map).reply)
        × ((harvest r first count m map).map ≡ (harvest r first count n map).map)
        × (pool_bytes r.pool (harvest r first count m map).memory ≡ pool_bytes r.pool (harvest r first count n map).memory)
    -- what stood in the map's bytes that are filled has no say: another map of that length gets the same reply, the same memory, and the same of these bytes
    pub unread : (other : List ℕ) → length map ≡ length other
        → ((harvest r first count m map).reply ≡ (harvest r first count m other).reply)
        × ((harvest r first count m map).memory ≡ (harvest r first count m other).memory)
        × ((harvest r first count m map).reply ≡ Ok tt → (j : ℕ) → j ≤ final_byte count → get_or (harvest r first count m map).map j 0 ≡ get_or (harvest r first count m other).map j 0)

  -- ---- what an accepted harvest leaves

  pub record Harvests : Type 0 where
    -- bit n is set exactly where page first + n reaches a leaf that says dirty, over the memory as the harvest found it
    pub reports : (n : ℕ) → n < count → (map_bit (harvest r first count m map).map n ≡ true) ↔ Dirty r m (first + n)
    -- bits past the last page in the final byte are zero, and later bytes stay
    pub spare : (n : ℕ) → count ≤ n → n / 8 ≡ final_byte count → map_bit (harvest r first count m map).map n ≡ false
    pub later : (j : ℕ) → final_byte count < j → get_or (harvest r first count m map).map j 0 ≡ get_or map j 0
    -- each such leaf that is reached whole has AP[2] set, and no other bit of it changes
    pub set : (l : SetAgain r first count m) → desc r.ee (harvest r first count m map).memory (offset l.leaf) ≡ set_bit 7 l.leaf.value
    -- no other byte of the memory changes
    pub still : (i : ℕ) → ((l : SetAgain r first count m) → (i < offset l.leaf) ⊎ (offset l.leaf + 8 ≤ i)) → get_or (harvest r first count m map).memory i 0 ≡ get_or m i 0
    -- a second harvest of the same pages right after it reports exactly the pages whose leaf no page asked for had reached whole
    pub again : (other : List ℕ) → (harvest r first count (harvest r first count m map).memory other).reply ≡ Ok tt → (n : ℕ) → n < count
        → (map_bit (harvest r first count (harvest r first count m map).memory other).map n ≡ true)
        ↔ ((l : PageLeaf r m (first + n)) × SaysDirty l.value × ((q : ℕ) → AskedFor first count q → (k : PageLeaf r m q) → k.address ≡ l.address → Whole first count k → ⊥))

-- ---- the claims

abbrev pub HarvestRule1s : Type 0
HarvestRule1s = (r : Regime) (first count : ℕ) (m map : List ℕ) → HarvestRule1 r first count m map

abbrev pub HarvestPromises : Type 0
HarvestPromises = (r : Regime) (first count : ℕ) (m map : List ℕ) → Bytes m → (harvest r first count m map).reply ≡ Ok tt → Harvests r first count m map
