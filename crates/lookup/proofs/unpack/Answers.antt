use Prim.Native.Nat.{ℕ}
use mathlib.Core.Bool.{Bool, true, false}
use mathlib.Core.Path.{◌≡◌}
use native.Mathlib.Omega.{arith}
use mir.Val.{Fits}
use mir.Syntax.{w8}
use Rattle.descriptor.specs.Bits.{pick}
use Rattle.lookup.proofs.Packing.{sum_in, first_most, fault_unpacked, leaf_unpacked}
use Rattle.lookup.proofs.unpack.Goals as goal

pub overflow_sub-reads : goal.overflow_sub-reads
overflow_sub-reads c =
    let a = c.args in
    omega (arith, first_most a.ee a.pool.now a.base.0 a.hpd a.first a.n c.requires)

pub returns-then-number-ne-LEAF : goal.returns-then-number-ne-LEAF
returns-then-number-ne-LEAF c = λ p.
    let a = c.args in
    rw (c.failed.ensures, c.kind_numbered.ensures) (fault_unpacked a.ee a.pool.now a.base.0 a.hpd a.first a.n p c.if-number-ne-LEAF.true)

pub overflow_sub-address : goal.overflow_sub-address
overflow_sub-address c =
    let a = c.args in
    (leaf_unpacked a.ee a.pool.now a.base.0 a.hpd a.first a.n c.requires c.if-number-ne-LEAF.false).0

pub load-requires : goal.load-requires
load-requires c =
    let a = c.args in
    let h = leaf_unpacked a.ee a.pool.now a.base.0 a.hpd a.first a.n c.requires c.if-number-ne-LEAF.false in
    omega arith

-- a sum that counts or not has four bits
sum_fits : (hpd : Bool) (n x : ℕ) → x ≡ pick hpd 0 (sum_in n) → Fits w8 x
sum_fits true n x e = omega arith
sum_fits false n x e = omega arith

pub returns : goal.returns
returns c = λ p.
    let a = c.args in
    rw (c.load.ensures, c.level.ensures, c.select.ensures) (leaf_unpacked a.ee a.pool.now a.base.0 a.hpd a.first a.n p c.if-number-ne-LEAF.false).2
