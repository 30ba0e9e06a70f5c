use Rattle.bitmap.proofs.Stores.{raise_bytes}
use native.Mathlib.Omega.{arith}
use Rattle.bitmap.proofs.fill.Goals as goal

pub returns : goal.returns
returns c =
    let a = c.args in
    let kept = c.loop-byte.invariant in
    raise_bytes a.map.now c.loop-byte.byte-items a.lo a.hi c.requires.0 c.requires.1 kept.long (λ k h. kept.full k (omega arith))
