-- Where the walk of a page ends from a table on, and whether that is a dirty leaf (RULES 17.2). Pages are counted within their range.
use Rattle.std.specs.Prelude.{ℕ, suc, ◌+◌, ◌*◌, ◌-◌, ◌/◌, ◌%◌, ◌^◌, ◌≤◌, ◌<◌, Bool, true, false, not, ◌&&◌, ◌⊎◌, ◌≡◌, Option}
use Rattle.vmsa.specs.Granules.{Paged}
use Rattle.vmsa.specs.Fields.{ap2, af, dbm, no_tables}
use Rattle.geometry.specs.Geometry.{level_of, page_size, stride_bits}
use Rattle.vmsa.specs.declared.PhysAddr.{PhysAddr}
use Rattle.vmsa.specs.declared.FaultKind.TheVariants.{ExternalAbort}
use Rattle.lookup.specs.declared.Next.{Next}
use Rattle.lookup.specs.declared.Next.TheVariants as next
use Rattle.lookup.specs.declared.Context.{Context}
use Rattle.lookup.specs.Trace.{End, fault, leaf, ended, end_under_hpd}
use Rattle.lookup.specs.Steps.{context, on_word, followed, descend}
use Rattle.bitmap.specs.Map.{between}

-- a leaf that says dirty: AF and DBM set, AP[2] clear
unfoldable pub dirty : ℕ → Bool
dirty v = af v && dbm v && not (ap2 v)

abbrev pub dirty_end : End → Bool
dirty_end (fault kind level) = false
dirty_end (leaf a l) = dirty l.value

-- the same of a descriptor by what it says
abbrev pub leaf_dirty : ℕ → Next → Bool
leaf_dirty v (next.Fault kind) = false
leaf_dirty v (next.Table table) = false
leaf_dirty v next.Leaf = dirty v

-- how many pages an entry maps, with so many levels left (RULES 6.2)
unfoldable pub pages_in : ℕ → ℕ → ℕ
pages_in p left = 2 ^ (stride_bits p * left)

-- a harvest does not look at the bits of tables
abbrev pub untabled : End → End
untabled e = end_under_hpd true e

-- what the walks of the pages share; and what the levels of page x's share
pub record Walks : Type 0 where
  pub base : PhysAddr
  pub limit : PhysAddr
  pub page : ℕ

abbrev pub walks : PhysAddr → PhysAddr → ℕ → Walks
walks base limit page = record { base = base; limit = limit; page = page }

abbrev pub context_for : Walks → ℕ → Context
context_for k x = context k.base k.limit (record { 0 = x * page_size k.page }) k.page

-- the address of page x's entry in a table
unfoldable pub entry_for : ℕ → ℕ → ℕ → ℕ → ℕ
entry_for p left table x = table + 8 * (x / pages_in p left % 2 ^ stride_bits p)

-- where page x ends from a table on, and from the entry at an address on
unfoldable pub table_end : Walks → (ℕ → Option ℕ) → ℕ → ℕ → ℕ → End
table_end k read left table x = untabled (descend (context_for k x) read (suc left) no_tables table).end

unfoldable pub entry_end : Walks → (ℕ → Option ℕ) → ℕ → ℕ → ℕ → End
entry_end k read left a x =
    untabled (on_word (ended (fault ExternalAbort (level_of left))) (followed (context_for k x) (descend (context_for k x) read left) no_tables left a) (read a)).end

-- the bits that a search of the pages from lo on, below hi, raises, where from is bit 0
abbrev pub noted : (ℕ → End) → ℕ → ℕ → ℕ → ℕ → Bool
noted ends from lo hi i = between lo hi (from + i) && dirty_end (ends (from + i))

-- ---- what a search relies on

-- the most pages of a range
abbrev pub pages_most : ℕ
pages_most = 2 ^ 36

pub record Searched (page left lo hi : ℕ) : Type 0 where
  pub paged : Paged page
  pub low : left ≤ 3
  pub forward : lo ≤ hi
  pub small : hi ≤ pages_most

-- the map has a bit for each page from `from` on, below hi
pub record Room (from lo hi bytes : ℕ) : Type 0 where
  pub begin : from ≤ lo
  pub fits : hi ≤ from + 8 * bytes

-- the pages from lo on, below hi, are of one entry of w pages
pub record OneEntry (w lo hi : ℕ) : Type 0 where
  pub some : lo < hi
  pub same : (x : ℕ) → lo ≤ x → x < hi → x / w ≡ lo / w

-- where the pages of an entry end: r is the end of the pages, or of the entry
pub record Stops (w lo hi r : ℕ) : Type 0 where
  pub entry : OneEntry w lo r
  pub most : r ≤ hi
  pub ends : (r ≡ hi) ⊎ (r ≡ (lo / w + 1) * w)

-- the end of the output addresses is 2 to the output size (RULES 3.1)
pub record Limited (limit : ℕ) : Type 0 where
  pub bits : ℕ
  pub least : 32 ≤ bits
  pub most : bits ≤ 48
  pub is : limit ≡ 2 ^ bits

-- the entries of the pages from lo on, below hi, of a table of the last level lie one after another (none goes back to the table's start), in a pool of so many bytes at base
pub record OneRun (page table base bytes lo hi : ℕ) : Type 0 where
  pub some : lo < hi
  pub onward : lo % 2 ^ stride_bits page + (hi - lo) ≤ 2 ^ stride_bits page
  pub least : base ≤ entry_for page 0 table lo
  pub most : entry_for page 0 table lo + 8 * (hi - lo) ≤ base + bytes
