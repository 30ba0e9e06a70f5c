use Prim.Native.Nat.{◌+◌}
use native.Mathlib.Omega.{arith}
use Rattle.bitmap.proofs.Laws.{run_join, run_one}
use Rattle.bitmap.proofs.raise_each.Goals as goal

pub loop-n-preserved : goal.loop-n-preserved
loop-n-preserved c =
    let n = c.loop-n.n in
    run_join c.args.lo n (n + 1) (omega arith) (omega arith) c.loop-n.invariant (run_one n c.raise.ensures)
