-- The sizes of an access as bits of one number.
use Rattle.std.proofs.Common.{◌≡◌, ℕ, ◌<◌, ◌≤◌, true, not, refl, suc-le-suc, arith, ne_eqb}
use Rattle.descriptor.specs.Bits.{bit}
use Rattle.refusals.specs.Tests.{size_bad}
use Rattle.refusals.proofs.Below.{all_below, all_below_lem, alike, alike_same}

-- bits 1, 2, 4, 8 and 16
abbrev pub size_bits : ℕ
size_bits = 0x10116

pub size_above : (size : ℕ) → 16 < size → size_bad size ≡ true
unfolding size_bad
size_above size h =
    rw (ne_eqb size 1 (λ e. omega arith), ne_eqb size 2 (λ e. omega arith), ne_eqb size 4 (λ e. omega arith), ne_eqb size 8 (λ e. omega arith), ne_eqb size 16 (λ e. omega arith))

computed : all_below 17 (λ (size : ℕ). alike (size_bad size) (not (bit size size_bits))) ≡ true
unfolding size_bad
computed = refl

pub size_within : (size : ℕ) → size ≤ 16 → size_bad size ≡ not (bit size size_bits)
size_within size h = alike_same (size_bad size) (not (bit size size_bits)) (all_below_lem 17 (λ (k : ℕ). alike (size_bad k) (not (bit k size_bits))) computed size (suc-le-suc h))
