use mathlib.Core.Path.{◌∙◌}
use Prim.Native.Nat.{◌^◌, ◌%◌}
use native.Mathlib.Nat.{one-mul}
use native.Mathlib.Omega.{arith}
use lib.Dec.{lit<}
use lib.Pow.{shl_exact}
use Rattle.bitmap.proofs.Stores.{raise_one}
use Rattle.bitmap.proofs.raise.Goals as goal

pub returns : goal.returns
returns c =
    let e = shl_exact 1 (c.args.n % 8) 8 (lit< tt) (omega arith) ∙ one-mul (2 ^ (c.args.n % 8)) in
    rw e (raise_one c.args.map.now c.args.n c.requires)
