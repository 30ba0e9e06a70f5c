use Rattle.std.proofs.Math.Logic.{∥∥₁_elim}
use Rattle.std.specs.Coded.{Coded-set, coded_bool, le_prop}
use native.Mathlib.Omega.{arith}
use lib.Pow.{pow_mono}
use Rattle.gather.proofs.Masks.{page_told}
use Rattle.gather.proofs.page_dirty.Goals as goal

pub overflow_sub-result : goal.overflow_sub-result
overflow_sub-result c = ∥∥₁_elim c.requires.1 le_prop (λ l. omega (arith, l.is, pow_mono l.most))

pub returns : goal.returns
returns c = let a = c.args in ∥∥₁_elim c.requires.1 (Coded-set coded_bool _ _) (page_told a.page a.limit.0 a.v c.requires.0)
