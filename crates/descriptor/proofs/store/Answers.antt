use Prim.Native.Nat.{ℕ, ◌+◌, ◌-◌, ◌<◌, ◌^◌}
use mathlib.Core.Bool.{Bool, true, false}
use mathlib.Core.List.{List, append_assoc, reverse}
use mathlib.Core.Path.{◌≡◌, sym, ap, ◌∙◌, refl}
use native.Mathlib.Omega.{arith}
use lib.ListN.{take, drop}
use lib.Seq.{drop-drop}
use borrow.Rule.Slice.PartMut.{put_mid}
use Rattle.std.specs.Int.{w64, to_le_bytes, to_be_bytes}
use Rattle.std.proofs.lemmas.Nat.{le_bytes_8}
use Rattle.descriptor.specs.Bits.{pick}
use Rattle.descriptor.specs.Bytes.{digits, in_order, bytes_of, put}
use Rattle.descriptor.proofs.Numbers.{bytes_digits}
use Rattle.descriptor.proofs.store.Goals as goal

-- std's bytes of a number, the lowest first, and in either order
low_first : (v : ℕ) → v < 2 ^ 64 → to_le_bytes w64 v ≡ digits 8 v
unfolding digits
low_first v h = le_bytes_8 (digits 8 v) v refl (bytes_digits 8 v) (omega arith)

ordered : (ee : Bool) (v : ℕ) → v < 2 ^ 64 → pick ee (to_be_bytes w64 v) (to_le_bytes w64 v) ≡ bytes_of ee v
unfolding bytes_of in_order
ordered true v h = ap reverse (low_first v h)
ordered false v h = low_first v h

written : (ee : Bool) (l bytes : List ℕ) (at v : ℕ) → bytes ≡ bytes_of ee v → put_mid at (at + 8 - at) l bytes ≡ put ee l at v
unfolding put
written ee l bytes at v e =
    let n : at + 8 - at ≡ 8 = omega arith in
    rw (n, e, drop-drop 8 at l) (sym (append_assoc (take at l) (bytes_of ee v) (drop (at + 8) l)))

pub returns : goal.returns
returns c =
    let a = c.args in
    let fits : a.value < 2 ^ 64 = omega arith in
    let bytes = rw (c.to_be_bytes.ensures, c.to_le_bytes.ensures) at (c.copy_from_slice.ensures.after ∙ c.select-bytes.ensures) in
    written a.ee a.memory.now _ a.at a.value (bytes ∙ ordered a.ee a.value fits)
