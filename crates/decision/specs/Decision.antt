-- What a leaf gives an access: the answer, and the leaf's new value (RULES 8 and 9).
use Rattle.std.specs.Prelude.{ℕ, ◌+◌, ◌%◌, Bool, false, not, ◌&&◌, ◌||◌, List, [], ◌∷◌}
use Rattle.descriptor.specs.Bits.{pick}
use Rattle.vmsa.specs.Granules.{page_bits_of}
use Rattle.geometry.specs.Geometry.{level_of, span, cut}
use Rattle.vmsa.specs.Kinds.{is_probe, writes}
use Rattle.vmsa.specs.Fields.{shareability, af, nonglobal, set_af, clear_ap2}
use Rattle.vmsa.specs.Answers.{Result, success, fault, code_of, view}
use Rattle.vmsa.specs.declared.Regime.{Regime}
use Rattle.vmsa.specs.declared.Access.{Access}
use Rattle.vmsa.specs.declared.Leaf.{Leaf}
use Rattle.vmsa.specs.declared.FaultKind.{FaultKind}
use Rattle.vmsa.specs.declared.FaultKind.TheVariants.{AccessFlag, Permission, Alignment}
use Rattle.permission.specs.Permission.{attribute_of, clean, flag_fails, alignment_fails, permission_fails}
use Rattle.decision.specs.declared.HitKind.{HitKind}
use Rattle.decision.specs.declared.HitKind.TheVariants as hits
use Rattle.decision.specs.declared.Verdict.{Verdict}

-- steps 6 to 8, in their order: each with the fault that it gives (RULES 6)
abbrev pub leaf_tests : Regime → Access → Leaf → List (Bool × FaultKind)
leaf_tests r a l = (flag_fails r l, AccessFlag) ∷ (alignment_fails r a l, Alignment) ∷ (permission_fails r a l, Permission) ∷ []

-- what the first step that fails gives, or else what passing all gives
abbrev pub first_failing : {A : Type 0} → List (Bool × FaultKind) → (FaultKind → A) → A → A
first_failing [] fails passes = passes
first_failing (step ∷ steps) fails passes = pick step.0 (fails step.1) (first_failing steps fails passes)

-- with HA on, AF becomes 1; a probe changes nothing
unfoldable pub flag_due : Regime → Access → Leaf → Bool
flag_due r a l = r.ha && not (af l.value) && not (is_probe a.kind)

-- a write or update on a writable-clean leaf clears AP[2]
unfoldable pub dirty_due : Regime → Access → Leaf → Bool
dirty_due r a l = writes a.kind && clean r l

unfoldable pub updated : Bool → Bool → ℕ → ℕ
updated flag dirty v = pick dirty (clear_ap2 (pick flag (set_af v) v)) (pick flag (set_af v) v)

-- "may be remembered" of a leaf that was reached: its AF is 1 afterwards
unfoldable pub cacheable : Regime → Access → Leaf → Bool
cacheable r a l = af l.value || flag_due r a l

-- the address that an access gets from a leaf
unfoldable pub output_of : Regime → Access → Leaf → ℕ
output_of r a l = cut l.value (span (page_bits_of r) l.left) + a.address.0 % span (page_bits_of r) l.left

-- an answer, whether the leaf changes, and its value then
pub record Decision : Type 0 where
  pub result : Result
  pub update : Bool
  pub value : ℕ

-- no fault changes anything
unfoldable pub failing : Leaf → ℕ → FaultKind → Decision
failing l reads kind = record {
  result = fault (record { code = code_of kind (level_of l.left); level = level_of l.left; cacheable = af l.value; reads = reads });
  update = false;
  value = l.value;
}

unfoldable pub passing : Regime → Access → Leaf → ℕ → Decision
passing r a l reads = record {
  result = success (record {
    output = record { 0 = output_of r a l };
    attribute = attribute_of r l;
    shareability = shareability l.value;
    nonglobal = nonglobal l.value;
    level = level_of l.left;
    accessed = flag_due r a l;
    dirtied = dirty_due r a l;
    cacheable = cacheable r a l;
    reads = reads;
  });
  update = flag_due r a l || dirty_due r a l;
  value = updated (flag_due r a l) (dirty_due r a l) l.value;
}

-- steps 6 to 8, reads descriptors having been read
unfoldable pub decision : Regime → Access → Leaf → ℕ → Decision
decision r a l reads = first_failing (leaf_tests r a l) (failing l reads) (passing r a l reads)

-- how a held leaf answers an access: with a fault, with a success, or not at all where it would become dirty: that walks again (RULES 10.3)
unfoldable pub hit_kind : Regime → Access → Leaf → HitKind
hit_kind r a l = first_failing (leaf_tests r a l) (λ (kind : FaultKind). hits.Fault kind) (pick (dirty_due r a l) hits.Miss hits.Success)

-- a verdict of the code, in these values
abbrev pub seen : Verdict → Decision
seen v = record { result = view v.answer; update = v.update; value = v.value }
