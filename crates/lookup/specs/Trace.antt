-- What steps 1 to 5 of the walk (RULES 6, with 6.11) leave: the descriptor addresses visited, and how the steps end.
use Rattle.std.specs.Prelude.{ℕ, ◌+◌, Bool, List, [], ◌∷◌, length, Result, Ok, Err}
use Rattle.descriptor.specs.Bits.{pick}
use Rattle.vmsa.specs.Fields.{no_tables}
use Rattle.vmsa.specs.declared.FaultKind.{FaultKind}
use Rattle.vmsa.specs.declared.Leaf.{Leaf}
use Rattle.lookup.specs.declared.LeafAt.{LeafAt}
use Rattle.lookup.specs.declared.FaultAt.{FaultAt}
use Rattle.lookup.specs.declared.Located.{Located}

-- a fault with its level, or a leaf and its descriptor's address
pub data End : Type 0 where
  fault : FaultKind → ℕ → End
  leaf : ℕ → Leaf → End

-- the list of descriptor addresses the rules visit, in order (RULES 9.3), and the end
pub record Trace : Type 0 where
  pub visited : List ℕ
  pub end : End

-- a trace that ends before any further visit
abbrev pub ended : End → Trace
ended e = record { visited = []; end = e }

-- a visit, and what follows it
abbrev pub visit : ℕ → Trace → Trace
visit a t = record { visited = a ∷ t.visited; end = t.end }

-- where HPD is on, the tables on the way do not count (RULES 6.11): the leaf's sum is empty
abbrev pub leaf_under_hpd : Bool → Leaf → Leaf
leaf_under_hpd hpd l = record { value = l.value; left = l.left; tables = pick hpd no_tables l.tables }

abbrev pub end_under_hpd : Bool → End → End
end_under_hpd hpd (fault kind level) = fault kind level
end_under_hpd hpd (leaf a l) = leaf a (leaf_under_hpd hpd l)

abbrev pub under_hpd : Bool → Trace → Trace
under_hpd hpd t = record { visited = t.visited; end = end_under_hpd hpd t.end }

-- a trace as the code hands it back, k reads having gone before
abbrev pub shown_end : End → Result LeafAt FaultAt
shown_end (fault kind level) = Err (record { kind = kind; level = level })
shown_end (leaf a l) = Ok (record { address = record { 0 = a }; leaf = l })

unfoldable pub shown : ℕ → Trace → Located
shown k t = record { end = shown_end t.end; reads = k + length t.visited }
