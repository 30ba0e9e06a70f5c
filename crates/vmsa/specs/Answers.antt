-- An answer in numbers: that of each refusal, and the code of each fault (RULES 9).
use Rattle.std.specs.Prelude.{ℕ, ◌+◌, Bool, false}
use Rattle.vmsa.specs.declared.Refusal.{Refusal}
use Rattle.vmsa.specs.declared.Refusal.TheVariants.{MemoryPool, PoolAddress, Sizes, Root, Attributes, AccessSize, PageCrossing, StoreAddress, NoRegime, PageRange, MapLength, WalkEnded, DirtyState}
use Rattle.vmsa.specs.declared.FaultKind.{FaultKind}
use Rattle.vmsa.specs.declared.FaultKind.TheVariants.{AddressSize, Translation, AccessFlag, Permission, ExternalAbort, Alignment}
use Rattle.vmsa.specs.declared.Success.{Success}
use Rattle.vmsa.specs.declared.Answer.{Answer}
use Rattle.vmsa.specs.declared.Answer.TheVariants as answer

-- the number of a refusal (RULES 5.1)
abbrev pub number_of : Refusal → ℕ
number_of MemoryPool = 1
number_of PoolAddress = 2
number_of Sizes = 3
number_of Root = 4
number_of Attributes = 5
number_of AccessSize = 6
number_of PageCrossing = 7
number_of StoreAddress = 8
number_of NoRegime = 9
number_of PageRange = 10
number_of MapLength = 11
number_of WalkEnded = 12
number_of DirtyState = 13

-- the code of a fault (RULES 9.1)
abbrev pub code_of : FaultKind → ℕ → ℕ
code_of AddressSize level = 0 + level
code_of Translation level = 4 + level
code_of AccessFlag level = 8 + level
code_of Permission level = 12 + level
code_of ExternalAbort level = 20 + level
code_of Alignment level = 33

-- what a fault holds (RULES 9.1); cacheable is "may be remembered", reads the count of reads
pub record Faulted : Type 0 where
  pub code : ℕ
  pub level : ℕ
  pub cacheable : Bool
  pub reads : ℕ

-- a success holds its values as they are, a refusal its number alone
pub data Result : Type 0 where
  success : Success → Result
  fault : Faulted → Result
  refused : ℕ → Result

-- an answer of the code, in these values
abbrev pub view : Answer → Result
view (answer.Success s) = success s
view (answer.Fault f) = fault (record { code = code_of f.kind f.level; level = f.level; cacheable = f.cacheable; reads = f.reads })
view (answer.Refused x) = refused (number_of x)

-- whether an answer may be remembered
abbrev pub cacheable_in : Result → Bool
cacheable_in (success s) = s.cacheable
cacheable_in (fault f) = f.cacheable
cacheable_in (refused n) = false

-- whether it says that AP[2] was cleared
abbrev pub dirtied_in : Result → Bool
dirtied_in (success s) = s.dirtied
dirtied_in (fault f) = false
dirtied_in (refused n) = false
