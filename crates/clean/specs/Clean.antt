-- Leaves that are set again (RULES 17.3), page by page.
use Rattle.std.specs.Prelude.{ℕ, zero, suc, ◌+◌, ◌*◌, ◌-◌, ◌/◌, ◌%◌, ◌≤◌, Bool, true, ◌&&◌, List, ◌⊎◌, ◌≡◌, leb, length}
use Rattle.descriptor.specs.Bytes.{Bytes, desc, put}
use Rattle.descriptor.specs.Bits.{pick}
use Rattle.vmsa.specs.Fields.{set_ap2}
use Rattle.lookup.specs.Trace.{End, fault, leaf}
use Rattle.lookup.specs.Steps.{decoded}
use Rattle.gather.specs.Ends.{dirty, leaf_dirty, pages_in}

-- one page after another, n of them from page x on
unfoldable pub pages : {S : Type 0} → (ℕ → S → S) → ℕ → ℕ → S → S
pages f x zero s = s
pages f x (suc n) s = pages f (suc x) n (f x s)

-- the w pages around page x, from a multiple of w on, lie whole among n pages from `from` on
unfoldable pub whole_in : ℕ → ℕ → ℕ → ℕ → Bool
whole_in from n w x = leb from (x / w * w) && leb (x / w * w + w) (from + n)

-- the pages asked for, count of them from `from` on, with the bits of a page; and the byte order and address of the pool that they are walked in
pub record Asked : Type 0 where
  pub ee : Bool
  pub base : ℕ
  pub page : ℕ
  pub from : ℕ
  pub count : ℕ

abbrev pub asked : Bool → ℕ → ℕ → ℕ → ℕ → Asked
asked ee base page from count = record { ee = ee; base = base; page = page; from = from; count = count }

-- the pool with page x's leaf set again, where it is dirty and reached whole
abbrev pub set_again : Asked → ℕ → List ℕ → End → List ℕ
set_again k x pool (fault kind level) = pool
set_again k x pool (leaf a l) =
    pick (dirty l.value && whole_in k.from k.count (pages_in k.page l.left) x) (put k.ee pool (a - k.base) (set_ap2 l.value)) pool

-- the same, by where each page's walk ends
unfoldable pub cleaned_by : Asked → (ℕ → End) → ℕ → List ℕ → List ℕ
cleaned_by k ends x pool = set_again k x pool (ends x)

-- the pool with the descriptor of the last level at an offset set again, where it is a page's leaf and dirty
abbrev pub cleaned_at : Bool → ℕ → ℕ → ℕ → List ℕ → List ℕ
cleaned_at ee page limit at pool = pick (leaf_dirty (desc ee pool at) (decoded page limit 0 (desc ee pool at))) (put ee pool at (set_ap2 (desc ee pool at))) pool

-- ---- a pool in which some leaves were set again

-- a descriptor as it was, or one that was dirty, set again
unfoldable pub Again : ℕ → ℕ → Type 0
Again v w = (w ≡ v) ⊎ ((dirty v ≡ true) × (w ≡ set_ap2 v))

pub record Cleaned (ee : Bool) (before now : List ℕ) : Type 0 where
  pub long : length now ≡ length before
  pub bytes : Bytes now
  pub small : Bytes before
  pub each : (i : ℕ) → i % 8 ≡ 0 → i + 8 ≤ length before → Again (desc ee before i) (desc ee now i)

-- what the cleaning of the pages from lo on, below hi, leaves of a pool, whatever pool it was when the walks began
pub record Cleans (k : Asked) (ends : List ℕ → ℕ → End) (lo hi : ℕ) (entry exit : List ℕ) : Type 0 where
  pub leaves : (first : List ℕ) → Cleaned k.ee first entry → exit ≡ pages (cleaned_by k (ends first)) lo (hi - lo) entry
  pub kept : (first : List ℕ) → Cleaned k.ee first entry → Cleaned k.ee first exit

-- what the cleaning relies on, at a table or an entry at address a
pub record Cleanable (k : Asked) (a lo hi : ℕ) : Type 0 where
  pub begin : k.from ≤ lo
  pub end : hi ≤ k.from + k.count
  pub base_aligned : k.base % 8 ≡ 0
  pub aligned : a % 8 ≡ 0
