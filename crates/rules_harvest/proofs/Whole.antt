-- What a harvest tests of a leaf, in plain words: that it says dirty, and that every page it maps there is asked for.
use Prim.Native.Nat.{ℕ, ◌+◌, ◌*◌, ◌-◌, ◌/◌, ◌<◌, ◌≤◌}
use mathlib.Core.Bool.{Bool, true, false, not, ◌&&◌}
use mathlib.Core.Path.{◌≡◌, refl, sym, ap, ◌∙◌}
use native.Mathlib.Nat.{div-mul-le_self, lt-div-mul-add, mul-add-div_right, div-eq_of_lt, add-zero}
use native.Mathlib.Omega.{arith}
use lib.Dec.{leb}
use borrow.Author.Tests.{le-leb, leb-true}
use Rattle.descriptor.proofs.Tests.{and_true}
use Rattle.vmsa.specs.Fields.{af, ap2, dbm}
use Rattle.gather.specs.Ends.{dirty}
use Rattle.clean.specs.Clean.{whole_in}
use Rattle.rules_harvest.specs.Leaves.{SaysDirty, AskedFor}

-- ---- dirty

pub says : (v : ℕ) → dirty v ≡ true → SaysDirty v
unfolding dirty
says v e =
    let s = and_true (af v && dbm v) (not (ap2 v)) e in
    let t = and_true (af v) (dbm v) s.0 in
    record { accessed = t.0; modifier = t.1; written = clear (ap2 v) s.1 }
  where
    clear : (b : Bool) → not b ≡ true → b ≡ false
    clear true h = sym h
    clear false h = refl

pub said : (v : ℕ) → SaysDirty v → dirty v ≡ true
unfolding dirty
said v d = rw (d.accessed, d.modifier, d.written)

-- ---- whole

module _ (first count w q : ℕ) (some : 0 < w) where
  pub whole_all : whole_in first count w q ≡ true → (x : ℕ) → x / w ≡ q / w → AskedFor first count x
  unfolding whole_in
  whole_all e x s =
      let t = and_true (leb first (q / w * w)) (leb (q / w * w + w) (first + count)) e in
      let a : first ≤ q / w * w = leb-true first (q / w * w) t.0 in
      let b : q / w * w + w ≤ first + count = leb-true (q / w * w + w) (first + count) t.1 in
      let m : x / w * w ≡ q / w * w = ap (λ (y : ℕ). y * w) s in
      (omega (arith, div-mul-le_self x w), omega (arith, lt-div-mul-add {a = x} {b = w} some))

  -- the first and the last of the pages
  at : (d : ℕ) → d < w → (q / w * w + d) / w ≡ q / w
  at d h = mul-add-div_right some (q / w) d ∙ ap (λ (y : ℕ). q / w + y) (div-eq_of_lt h) ∙ add-zero (q / w)

  pub all_whole : ((x : ℕ) → x / w ≡ q / w → AskedFor first count x) → whole_in first count w q ≡ true
  unfolding whole_in
  all_whole h =
      let a = (h (q / w * w + 0) (at 0 some)).0 in
      let b = (h (q / w * w + (w - 1)) (at (w - 1) (let z : w - 1 < w = omega arith in z))).1 in
      rw (le-leb first (q / w * w) (let z : first ≤ q / w * w = omega arith in z), le-leb (q / w * w + w) (first + count) (let z : q / w * w + w ≤ first + count = omega arith in z))
