-- No written page is lost (RULES 17.5), by plain walks and the plain harvest under one regime.
use Rattle.std.specs.Prelude.{ℕ, true, List, ◌≡◌}
use Rattle.descriptor.specs.Bytes.{Bytes}
use Rattle.vmsa.specs.Granules.{page_bits_of}
use Rattle.vmsa.specs.Kinds.{writes}
use Rattle.vmsa.specs.Fields.{dbm}
use Rattle.vmsa.specs.Answers.{Result, success}
use Rattle.geometry.specs.Geometry.{page_of}
use Rattle.vmsa.specs.declared.Regime.{Regime}
use Rattle.vmsa.specs.declared.Access.{Access}
use Rattle.vmsa.specs.declared.Success.{Success}
use Rattle.rules_harvest.specs.Leaves.{PageLeaf, AskedFor}
use Rattle.no_page_lost.specs.Lost.{Reported}

-- functions that walk, W a m o n: the walk of a over m gave o and left n; that harvest, H first count m map filled: accepted, it left this of the map; and that
-- refuse to, K m n: refused, a harvest over m left n
abbrev pub Walking : Type 1
Walking = Access → List ℕ → Result → List ℕ → Type 0

abbrev pub Harvesting : Type 1
Harvesting = ℕ → ℕ → List ℕ → List ℕ → List ℕ → Type 0

abbrev pub Refusing : Type 1
Refusing = List ℕ → List ℕ → Type 0

-- walks and refused harvests, one after another
pub data PlainCalls (W : Walking) (K : Refusing) : List ℕ → List ℕ → Type 0 where
  none : {m : List ℕ} → PlainCalls W K m m
  walk : {m n k : List ℕ} {a : Access} {o : Result} → PlainCalls W K m n → W a n o k → PlainCalls W K m k
  refused : {m n k : List ℕ} → PlainCalls W K m n → K n k → PlainCalls W K m k

-- a page that was written on a leaf with DBM set is reported by the next harvest that covers it, whatever walks and refused harvests come between
abbrev pub NoPageLostBy : Regime → Walking → Harvesting → Refusing → Type 0
NoPageLostBy r W H K =
    (m : List ℕ) → Bytes m → (a : Access) (o : Result) (n : List ℕ) → W a m o n → (s : Success) → o ≡ success s → writes a.kind ≡ true
    → (l : PageLeaf r m (page_of (page_bits_of r) a.address.0)) → dbm l.value ≡ true → (k : List ℕ) → PlainCalls W K n k
    → (first count : ℕ) (map filled : List ℕ) → H first count k map filled → AskedFor first count (page_of (page_bits_of r) a.address.0)
    → Reported first filled (page_of (page_bits_of r) a.address.0)
