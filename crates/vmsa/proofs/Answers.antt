-- An answer is settled by its values: no two refusals have one number, and no two faults at one of the four levels one code.
use Prim.Native.Nat.{ℕ, ◌+◌, ◌≤◌}
use mathlib.Core.List.{List, [], ◌∷◌}
use mathlib.Core.Path.{◌≡◌, refl, sym, ap, subst, ◌∙◌}
use native.Mathlib.Omega.{arith}
use lib.Dec.{eqb}
use borrow.Author.Tests.{eq-eqb, ne_eqb}
use Rattle.descriptor.specs.Bits.{pick}
use Rattle.descriptor.proofs.Tests.{clash}
use Rattle.vmsa.specs.Answers.{Result, success, fault, refused, Faulted, number_of, code_of, view}
use Rattle.vmsa.specs.declared.Refusal.{Refusal}
use Rattle.vmsa.specs.declared.Refusal.TheVariants.{MemoryPool, PoolAddress, Sizes, Root, Attributes, AccessSize, PageCrossing, StoreAddress, NoRegime, PageRange, MapLength, WalkEnded, DirtyState}
use Rattle.vmsa.specs.declared.FaultKind.{FaultKind}
use Rattle.vmsa.specs.declared.FaultKind.TheVariants.{AddressSize, Translation, AccessFlag, Permission, ExternalAbort, Alignment}
use Rattle.vmsa.specs.declared.Fault.{Fault}
use Rattle.vmsa.specs.declared.Answer.{Answer}
use Rattle.vmsa.specs.declared.Answer.TheVariants as answer

-- the refusal of a number: the first of these that has it
with_number : List Refusal → ℕ → Refusal
with_number [] n = NoRegime
with_number (x ∷ xs) n = pick (eqb (number_of x) n) x (with_number xs n)

refusal_in : ℕ → Refusal
refusal_in n = with_number (MemoryPool ∷ PoolAddress ∷ Sizes ∷ Root ∷ Attributes ∷ AccessSize ∷ PageCrossing ∷ StoreAddress ∷ NoRegime ∷ PageRange ∷ MapLength ∷ WalkEnded ∷ DirtyState ∷ []) n

refusal_back : (x : Refusal) → refusal_in (number_of x) ≡ x
unfolding refusal_in with_number
refusal_back MemoryPool = refl
refusal_back PoolAddress = refl
refusal_back Sizes = refl
refusal_back Root = refl
refusal_back Attributes = refl
refusal_back AccessSize = refl
refusal_back PageCrossing = refl
refusal_back StoreAddress = refl
refusal_back NoRegime = refl
refusal_back PageRange = refl
refusal_back MapLength = refl
refusal_back WalkEnded = refl
refusal_back DirtyState = refl

pub number_settles : (x y : Refusal) → number_of x ≡ number_of y → x ≡ y
number_settles x y e = sym (refusal_back x) ∙ ap refusal_in e ∙ refusal_back y

-- the kind of a code and a level
abbrev kind_in : ℕ → ℕ → FaultKind
kind_in code level =
    pick (eqb code 33) Alignment
    (pick (eqb code level) AddressSize (pick (eqb code (4 + level)) Translation (pick (eqb code (8 + level)) AccessFlag (pick (eqb code (12 + level)) Permission ExternalAbort))))

kind_back : (k : FaultKind) (l : ℕ) → l ≤ 3 → kind_in (code_of k l) l ≡ k
kind_back AddressSize l h = rw (ne_eqb (0 + l) 33 (λ e. omega arith), eq-eqb (0 + l) l (omega arith))
kind_back Translation l h = rw (ne_eqb (4 + l) 33 (λ e. omega arith), ne_eqb (4 + l) l (λ e. omega arith), eq-eqb (4 + l) (4 + l) refl)
kind_back AccessFlag l h =
    rw (ne_eqb (8 + l) 33 (λ e. omega arith), ne_eqb (8 + l) l (λ e. omega arith), ne_eqb (8 + l) (4 + l) (λ e. omega arith), eq-eqb (8 + l) (8 + l) refl)
kind_back Permission l h =
    rw (ne_eqb (12 + l) 33 (λ e. omega arith), ne_eqb (12 + l) l (λ e. omega arith), ne_eqb (12 + l) (4 + l) (λ e. omega arith), ne_eqb (12 + l) (8 + l) (λ e. omega arith), eq-eqb (12 + l) (12 + l) refl)
kind_back ExternalAbort l h =
    rw (ne_eqb (20 + l) 33 (λ e. omega arith), ne_eqb (20 + l) l (λ e. omega arith), ne_eqb (20 + l) (4 + l) (λ e. omega arith), ne_eqb (20 + l) (8 + l) (λ e. omega arith), ne_eqb (20 + l) (12 + l) (λ e. omega arith))
kind_back Alignment l h = refl

-- a fault at one of the four levels
abbrev pub LowIn : Result → Type 0
LowIn (success s) = Unit {0}
LowIn (fault f) = f.level ≤ 3
LowIn (refused n) = Unit {0}

abbrev faulted_of : Fault → Faulted
faulted_of f = record { code = code_of f.kind f.level; level = f.level; cacheable = f.cacheable; reads = f.reads }

fault_settles : (f g : Fault) → f.level ≤ 3 → view (answer.Fault f) ≡ view (answer.Fault g) → f ≡ g
fault_settles f g h e =
    let z : faulted_of f ≡ faulted_of g = cc in
    let l : f.level ≡ g.level = ap (λ (x : Faulted). x.level) z in
    let low : g.level ≤ 3 = subst (λ (x : ℕ). x ≤ 3) l h in
    let k : f.kind ≡ g.kind =
    sym (kind_back f.kind f.level h) ∙ ap (λ (x : Faulted). kind_in x.code x.level) z ∙ kind_back g.kind g.level low in
    λ i. record { kind = k i; level = l i; cacheable = (z i).cacheable; reads = (z i).reads }

pub view_settles : (x y : Answer) → LowIn (view x) → view x ≡ view y → x ≡ y
view_settles (answer.Success s) (answer.Success t) h e = let z : s ≡ t = cc in ap answer.Success z
view_settles (answer.Success s) (answer.Fault g) h e = clash (cc)
view_settles (answer.Success s) (answer.Refused n) h e = clash (cc)
view_settles (answer.Fault f) (answer.Success t) h e = clash (cc)
view_settles (answer.Fault f) (answer.Fault g) h e = ap answer.Fault (fault_settles f g h e)
view_settles (answer.Fault f) (answer.Refused n) h e = clash (cc)
view_settles (answer.Refused m) (answer.Success t) h e = clash (cc)
view_settles (answer.Refused m) (answer.Fault g) h e = clash (cc)
view_settles (answer.Refused m) (answer.Refused n) h e = let z : number_of m ≡ number_of n = cc in ap answer.Refused (number_settles m n z)
