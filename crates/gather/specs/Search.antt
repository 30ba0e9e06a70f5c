-- Where the walks of a search end, page by page.
use Rattle.std.specs.Prelude.{ℕ, List}
use Rattle.lookup.specs.Trace.{End}
use Rattle.lookup.specs.Steps.{fetched}
use Rattle.gather.specs.declared.Search.{Search}
use Rattle.gather.specs.Ends.{Walks, walks, table_end, entry_end}

-- what the walks of its pages share
abbrev pub walks_of : Search → Walks
walks_of s = walks s.base s.limit s.page

-- where page x ends over a pool, from a table on, and from the entry at an address on
abbrev pub table_ends : Search → ℕ → ℕ → List ℕ → ℕ → End
table_ends s left table pool = table_end (walks_of s) (fetched s.ee pool s.base.0) left table

abbrev pub entry_ends : Search → ℕ → ℕ → List ℕ → ℕ → End
entry_ends s left a pool = entry_end (walks_of s) (fetched s.ee pool s.base.0) left a
