-- What a decoded descriptor tells, at any level and for any granule. The laws decoded_unset, decoded_table and decoded_other are kept, since the documents name them.
use Prim.Native.Nat.{ℕ, suc, ◌+◌, ◌*◌, ◌-◌, ◌/◌, ◌%◌, ◌^◌, ◌<◌, ◌≤◌}
use mathlib.Core.Bool.{Bool, true, false, not, ◌&&◌, ◌||◌}
use mathlib.Core.Path.{◌≡◌, refl, sym, ap, ◌∙◌}
use native.Mathlib.Nat.{mod-lt, suc-mul, mul_assoc, mul-mod_left, div-add-mod', lt_of_mul-lt-mul_right, mul-le-mul_right}
use native.Mathlib.Omega.{arith}
use lib.Dec.{leb, eqb}
use lib.Pow.{pow_pos, pow-add, shr-shr}
use borrow.Author.Tests.{eqb-true, leb-true, leb-false}
use Rattle.descriptor.specs.Bits.{pick, bit}
use Rattle.descriptor.proofs.Tests.{clash, and_true, differ, pick_both}
use Rattle.vmsa.specs.Limits.{address_limit}
use Rattle.vmsa.specs.Fields.{table_bits}
use Rattle.vmsa.specs.Granules.{Paged}
use Rattle.geometry.specs.Geometry.{page_size, shift_of, span, block_at, cut}
use Rattle.geometry.proofs.Geometry.{cut_lt, shift_least}
use Rattle.vmsa.specs.declared.PhysAddr.{PhysAddr}
use Rattle.vmsa.specs.declared.FaultKind.TheVariants.{Translation, AddressSize}
use Rattle.lookup.specs.declared.Next.TheVariants as next
use Rattle.lookup.specs.Steps.{invalid, is_table, address_in, decoded}
use Rattle.lookup.proofs.Levels.{table_left}

-- ---- in the order of the code: bit 0, a table, anything else

pub decoded_unset : (p limit left v : ℕ) → bit 0 v ≡ false → decoded p limit left v ≡ next.Fault Translation
unfolding decoded invalid
decoded_unset p limit left v e = rw e

pub decoded_table : (p limit left v : ℕ) → bit 0 v ≡ true → is_table left v ≡ true
    → decoded p limit left v ≡ pick (leb limit (cut v (page_size p))) (next.Fault AddressSize) (next.Table (record { 0 = cut v (page_size p) }))
unfolding decoded invalid is_table address_in
decoded_table p limit left v e t = rw (e, (and_true (bit 1 v) (not (eqb left 0)) t).0, (and_true (bit 1 v) (not (eqb left 0)) t).1)

pub decoded_other : (p limit left v : ℕ) → bit 0 v ≡ true → is_table left v ≡ false
    → decoded p limit left v ≡ pick (not (bit 1 v) && not (block_at p left)) (next.Fault Translation) (pick (leb limit (cut v (span p left))) (next.Fault AddressSize) next.Leaf)
unfolding decoded invalid address_in
decoded_other p limit left v e t = rw (e, t)

-- ---- a leaf

pub record IsLeaf (p limit left v : ℕ) : Type 0 where
  pub valid : invalid p left v ≡ false
  pub last : is_table left v ≡ false
  pub within : address_in p left v < limit

leaf_tests_lem : (i l t : Bool) (x : PhysAddr) → pick i (next.Fault Translation) (pick l (next.Fault AddressSize) (pick t (next.Table x) next.Leaf)) ≡ next.Leaf
    → (i ≡ false) × (l ≡ false) × (t ≡ false)
leaf_tests_lem true l t x e = clash (cc)
leaf_tests_lem false true t x e = clash (cc)
leaf_tests_lem false false true x e = clash (cc)
leaf_tests_lem false false false x e = (refl, refl, refl)

pub is_leaf : (p limit left v : ℕ) → decoded p limit left v ≡ next.Leaf → IsLeaf p limit left v
unfolding decoded
is_leaf p limit left v e =
    let t = leaf_tests_lem (invalid p left v) (leb limit (address_in p left v)) (is_table left v) (record { 0 = address_in p left v }) e in
    record { valid = t.0; last = t.2; within = leb-false limit (address_in p left v) t.1 }

-- the output address of a leaf is its span's
pub leaf_address_lem : (p left v : ℕ) → is_table left v ≡ false → address_in p left v ≡ cut v (span p left)
unfolding address_in
leaf_address_lem p left v e = rw e

-- ---- a table

pub record IsTable (p limit : ℕ) (table : ℕ) : Type 0 where
  pub aligned : table % page_size p ≡ 0
  pub below : table < address_limit
  pub within : table < limit

table_tests : (p limit left v : ℕ) (i l t : Bool) (x : PhysAddr) → leb limit (address_in p left v) ≡ l → is_table left v ≡ t
    → pick i (next.Fault Translation) (pick l (next.Fault AddressSize) (pick t (next.Table (record { 0 = address_in p left v })) next.Leaf)) ≡ next.Table x
    → (leb limit (address_in p left v) ≡ false) × (is_table left v ≡ true) × (address_in p left v ≡ x.0)
table_tests p limit left v true l t x el et e = clash (cc)
table_tests p limit left v false true t x el et e = clash (cc)
table_tests p limit left v false false true x el et e =
    let q : ◌≡◌ {A = PhysAddr} (record { 0 = address_in p left v }) x = cc in
    (el, et, ap (λ (y : PhysAddr). y.0) q)
table_tests p limit left v false false false x el et e = clash (cc)

cut_aligned : (v s : ℕ) → cut v s % s ≡ 0
unfolding cut
cut_aligned v s = mul-mod_left (v % address_limit / s) s

table_address : (p left v : ℕ) → is_table left v ≡ true → address_in p left v ≡ cut v (page_size p)
unfolding address_in
table_address p left v e = rw e

pub is_table_lem : (p limit left v : ℕ) (table : PhysAddr) → decoded p limit left v ≡ next.Table table → IsTable p limit table.0
unfolding decoded
is_table_lem p limit left v table e =
    let t = table_tests p limit left v (invalid p left v) (leb limit (address_in p left v)) (is_table left v) table refl refl e in
    let a : table.0 ≡ cut v (page_size p) = sym t.2 ∙ table_address p left v t.1 in
    record {
      aligned = rw a (cut_aligned v (page_size p));
      below = rw a (cut_lt v (page_size p));
      within = rw (← t.2) (leb-false limit (address_in p left v) t.0);
    }

-- and there is a level below it
pub table_above : (p limit left v : ℕ) (table : PhysAddr) → decoded p limit left v ≡ next.Table table → 0 < left
unfolding decoded
table_above p limit left v table e = table_left left v (table_tests p limit left v (invalid p left v) (leb limit (address_in p left v)) (is_table left v) table refl refl e).1

-- a multiple of the granule is a multiple of 8
pub aligned8 : (p x : ℕ) → Paged p → x % page_size p ≡ 0 → x % 8 ≡ 0
unfolding page_size
aligned8 p x g e =
    let q : x ≡ x / 2 ^ p * 2 ^ p = sym (div-add-mod' x (2 ^ p)) ∙ (let z : x / 2 ^ p * 2 ^ p + x % 2 ^ p ≡ x / 2 ^ p * 2 ^ p = omega arith in z) in
    let w : 2 ^ p ≡ 2 ^ (p - 3) * 8 = ap (λ (k : ℕ). 2 ^ k) (let s : p ≡ (p - 3) + 3 = omega arith in s) ∙ pow-add 2 (p - 3) 3 in
    let u : x / 2 ^ p * 2 ^ p ≡ x / 2 ^ p * 2 ^ (p - 3) * 8 = ap (λ (k : ℕ). x / 2 ^ p * k) w ∙ sym (mul_assoc (x / 2 ^ p) (2 ^ (p - 3)) 8) in
    rw (q ∙ u) (mul-mod_left (x / 2 ^ p * 2 ^ (p - 3)) 8)

-- ---- output addresses

-- a multiple of 2 ^ j below 2 ^ n, and an offset below 2 ^ j
offset_below : (q o j n : ℕ) → j ≤ n → q * 2 ^ j < 2 ^ n → o < 2 ^ j → q * 2 ^ j + o < 2 ^ n
offset_below q o j n h p r =
    let e : n ≡ (n - j) + j = omega arith in
    let w : 2 ^ n ≡ 2 ^ (n - j) * 2 ^ j = ap (λ (x : ℕ). 2 ^ x) e ∙ pow-add 2 (n - j) j in
    let s : q < 2 ^ (n - j) = lt_of_mul-lt-mul_right (2 ^ j) (rw w at p) in
    let t : suc q * 2 ^ j ≤ 2 ^ (n - j) * 2 ^ j = mul-le-mul_right (2 ^ j) s in
    let z : suc q * 2 ^ j ≡ q * 2 ^ j + 2 ^ j = suc-mul q (2 ^ j) in
    omega arith

block_shift : (p left : ℕ) → block_at p left ≡ true → shift_of p left ≤ 30
unfolding block_at
block_shift p left e = leb-true (shift_of p left) 30 (and_true (leb 1 left) (leb (shift_of p left) 30) e).1

last_shift : (p : ℕ) → p ≤ 16 → shift_of p 0 ≤ 30
unfolding shift_of
last_shift p h = omega arith

-- a leaf maps at most 2 ^ 30 bytes
leaf_shift : (p left v : ℕ) → p ≤ 16 → invalid p left v ≡ false → is_table left v ≡ false → shift_of p left ≤ 30
unfolding invalid is_table
leaf_shift p left v m e f = by (bit 0 v) (bit 1 v) (block_at p left) (eqb left 0) refl refl e f
  where
    by : (u b d z : Bool) → block_at p left ≡ d → eqb left 0 ≡ z → (not u || not b && not d) ≡ false → (b && not z) ≡ false → shift_of p left ≤ 30
    by u b true z ed ez p q = block_shift _ left ed
    by u b false true ed ez p q = rw (eqb-true left 0 ez) (last_shift _ m)
    by true true false false ed ez p q = differ q
    by false true false false ed ez p q = differ q
    by true false false false ed ez p q = differ p
    by false false false false ed ez p q = differ p

-- every address of a leaf's span is below the output size
pub output_below : (p n left v a : ℕ) → p ≤ 16 → 32 ≤ n → IsLeaf p (2 ^ n) left v → cut v (span p left) + a % span p left < 2 ^ n
unfolding cut span
output_below p n left v a m h l =
    let s = leaf_shift p left v m l.valid l.last in
    let q = rw (leaf_address_lem p left v l.last) at l.within in
    offset_below (v % address_limit / 2 ^ shift_of p left) (a % 2 ^ shift_of p left) (shift_of p left) n (omega arith) q (mod-lt a (pow_pos (shift_of p left)))

-- ---- descriptors that say the same

-- a cut at bit 12 + n, by way of the cut at bit 12
cut_from : (v n : ℕ) → 12 ≤ n → v / 2 ^ n ≡ v / 4096 / 2 ^ (n - 12)
cut_from v n h =
    let e : n ≡ 12 + (n - 12) = omega arith in
    ap (λ (j : ℕ). v / 2 ^ j) e ∙ sym (shr-shr v 12 (n - 12))

pub cut_same : (v w n : ℕ) → 12 ≤ n → v % address_limit / 4096 ≡ w % address_limit / 4096 → cut v (2 ^ n) ≡ cut w (2 ^ n)
unfolding cut
cut_same v w n h e = rw (cut_from (v % address_limit) n h, cut_from (w % address_limit) n h, e)

address_same : (p left v w : ℕ) → 12 ≤ p → bit 1 v ≡ bit 1 w → v % address_limit / 4096 ≡ w % address_limit / 4096 → address_in p left v ≡ address_in p left w
unfolding address_in is_table page_size span
address_same p left v w h b e =
    rw b
    (pick_both (λ (s : ℕ). cut v s ≡ cut w s) (bit 1 w && not (eqb left 0)) (2 ^ p) (2 ^ shift_of p left) (cut_same v w p h e) (cut_same v w (shift_of p left) (shift_least p left h) e))

-- descriptors that agree in bits 1 and 0 and in bits 47 to 12 decode alike, and as tables those that agree in bits 62 to 59 too say the same
pub record Alike (v w : ℕ) : Type 0 where
  pub bit0 : bit 0 v ≡ bit 0 w
  pub bit1 : bit 1 v ≡ bit 1 w
  pub address : v % address_limit / 4096 ≡ w % address_limit / 4096
  pub tables : table_bits v ≡ table_bits w

pub decoded_same : (p limit left v w : ℕ) → 12 ≤ p → Alike v w → decoded p limit left v ≡ decoded p limit left w
unfolding decoded invalid is_table
decoded_same p limit left v w h s =
    rw (address_same p left v w h s.bit1 s.address, s.bit0, s.bit1)
