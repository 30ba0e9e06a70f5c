-- A descriptor of the last level under one mask: an AND and a comparison tell what its bits and its output address tell.
use Prim.Native.Nat.{ℕ, ◌+◌, ◌*◌, ◌-◌, ◌/◌, ◌%◌, ◌^◌, ◌<◌, ◌≤◌}
use mathlib.Core.Bool.{Bool, true, false, not, ◌&&◌, ◌||◌}
use mathlib.Core.Path.{◌≡◌, refl, sym, ap, ap₂, ◌∙◌}
use native.Mathlib.Nat.{mod-lt, mod-mod, add-zero, mul_assoc, add-mul, div-one, le-div_iff_mul-le, div-lt_iff_lt-mul, div-mul-le_self, mul-le-mul_right}
use native.Mathlib.Omega.{arith}
use lib.Dec.{eqb, leb, lit<}
use lib.Bits.{bit_and, and_block, and_lt, and_mask, and_zero_r}
use lib.Pow.{pow_pos, pow-add, pow_mono, split, high, low, ones_lt, shr-shr, field as field_mod}
use borrow.Author.Tests.{eqb-true, eqb-false, eq-eqb, ne_eqb, le-leb, lt-leb}
use Rattle.descriptor.specs.Bits.{pick, bit}
use Rattle.vmsa.specs.Limits.{address_limit}
use Rattle.vmsa.specs.Granules.{Paged}
use Rattle.geometry.specs.Geometry.{page_size, shift_of, span, block_at, cut}
use Rattle.vmsa.specs.declared.FaultKind.TheVariants.{Translation, AddressSize}
use Rattle.lookup.specs.declared.Next.TheVariants as next
use Rattle.lookup.specs.Steps.{invalid, is_table, address_in, decoded}
use Rattle.gather.specs.Ends.{dirty, leaf_dirty, Limited}

-- ---- an AND with a mask, compared with a number, block of bits by block of bits

-- numbers cut at bit w are equal where both parts are
eqb_cut : (w a b r s : ℕ) → r < 2 ^ w → s < 2 ^ w → eqb (a * 2 ^ w + r) (b * 2 ^ w + s) ≡ (eqb r s && eqb a b)
eqb_cut w a b r s h k = by (eqb r s) (eqb a b) refl refl
  where
    by : (l m : Bool) → eqb r s ≡ l → eqb a b ≡ m → eqb (a * 2 ^ w + r) (b * 2 ^ w + s) ≡ (l && m)
    by true true el em = eq-eqb (a * 2 ^ w + r) (b * 2 ^ w + s) (ap₂ (λ (x y : ℕ). x * 2 ^ w + y) (eqb-true a b em) (eqb-true r s el))
    by true false el em = ne_eqb (a * 2 ^ w + r) (b * 2 ^ w + s) (λ e. eqb-false a b em (sym (high a w h) ∙ ap (λ (x : ℕ). x / 2 ^ w) e ∙ high b w k))
    by false m el em = ne_eqb (a * 2 ^ w + r) (b * 2 ^ w + s) (λ e. eqb-false r s el (sym (low a w h) ∙ ap (λ (x : ℕ). x % 2 ^ w) e ∙ low b w k))

-- the w low bits by themselves, then the rest
masked : (w v m s n t : ℕ) → s < 2 ^ w → t < 2 ^ w
    → eqb (bit_and v (m * 2 ^ w + s)) (n * 2 ^ w + t) ≡ (eqb (bit_and (v % 2 ^ w) s) t && eqb (bit_and (v / 2 ^ w) m) n)
masked w v m s n t h k =
    let l = mod-lt v (pow_pos w) in
    ap (λ (x : ℕ). eqb x (n * 2 ^ w + t)) (ap (λ (x : ℕ). bit_and x (m * 2 ^ w + s)) (sym (split v w)) ∙ and_block w (v / 2 ^ w) m (v % 2 ^ w) s l h)
    ∙ eqb_cut w (bit_and (v / 2 ^ w) m) n (bit_and (v % 2 ^ w) s) t (and_lt w (v % 2 ^ w) s l h) k

-- the w bits from bit i on, none of which the mask has
none_from : (i w v m n : ℕ) → eqb (bit_and (v / 2 ^ i) (m * 2 ^ w)) (n * 2 ^ w) ≡ eqb (bit_and (v / 2 ^ (i + w)) m) n
none_from i w v m n =
    ap₂ (λ (x y : ℕ). eqb (bit_and (v / 2 ^ i) x) y) (sym (add-zero (m * 2 ^ w))) (sym (add-zero (n * 2 ^ w)))
    ∙ masked w (v / 2 ^ i) m 0 n 0 (pow_pos w) (pow_pos w)
    ∙ ap₂ (λ (x y : ℕ). eqb x 0 && eqb (bit_and y m) n) (and_zero_r (v / 2 ^ i % 2 ^ w)) (shr-shr v i w)

-- the w bits from bit i on, all of which the mask has
all_from : (i w v m n t : ℕ) → t < 2 ^ w
    → eqb (bit_and (v / 2 ^ i) (m * 2 ^ w + (2 ^ w - 1))) (n * 2 ^ w + t) ≡ (eqb (v / 2 ^ i % 2 ^ w) t && eqb (bit_and (v / 2 ^ (i + w)) m) n)
all_from i w v m n t h =
    masked w (v / 2 ^ i) m (2 ^ w - 1) n t (ones_lt w) h
    ∙ ap₂ (λ (x y : ℕ). eqb x t && eqb (bit_and y m) n) (and_mask (v / 2 ^ i % 2 ^ w) w ∙ mod-mod (v / 2 ^ i) (2 ^ w)) (shr-shr v i w)

-- ---- the mask of page_dirty

-- bits 0, 1, 7, 10 and 51; and all of them but bit 7
abbrev telling : ℕ
telling = 0x8000000000483

abbrev dirty_page : ℕ
dirty_page = 0x8000000000403

-- a clear bit
not_one : (x : ℕ) → eqb (x % 2) 0 ≡ not (eqb (x % 2) 1)
not_one x = by (eqb (x % 2) 1) refl
  where
    by : (b : Bool) → eqb (x % 2) 1 ≡ b → eqb (x % 2) 0 ≡ not b
    by true e = ne_eqb (x % 2) 0 (λ z. let o : x % 2 ≡ 1 = eqb-true (x % 2) 1 e in omega arith)
    by false e = eq-eqb (x % 2) 0 (let o : x % 2 ≡ 1 → ⊥ = eqb-false (x % 2) 1 e in omega arith)

module _ (k : ℕ) (least : 11 ≤ k) (most : k ≤ 48) where
  -- bits from 11 on of the mask, and of what it must leave
  abbrev upper_mask : ℕ
  upper_mask = (8 * 2 ^ (48 - k) + (2 ^ (48 - k) - 1)) * 2 ^ (k - 11)

  abbrev upper_page : ℕ
  upper_page = (8 * 2 ^ (48 - k) + 0) * 2 ^ (k - 11)

  -- each from bit 10, from bit 7 and from bit 1 on
  abbrev m10 : ℕ
  m10 = upper_mask * 2 + 1

  abbrev m7 : ℕ
  m7 = m10 * 4 * 2 + 1

  abbrev m1 : ℕ
  m1 = m7 * 32 * 2 + 1

  abbrev n10 : ℕ
  n10 = upper_page * 2 + 1

  abbrev n7 : ℕ
  n7 = n10 * 4 * 2 + 0

  abbrev n1 : ℕ
  n1 = n7 * 32 * 2 + 1

  -- their numbers
  product : 2 ^ (48 - k) * 2 ^ (k - 11) ≡ 2 ^ 37
  product = sym (pow-add 2 (48 - k) (k - 11)) ∙ ap (λ (x : ℕ). 2 ^ x) (let e : (48 - k) + (k - 11) ≡ 37 = omega arith in e)

  mask_upper : upper_mask ≡ 9 * 2 ^ 37 - 2 ^ (k - 11)
  mask_upper =
      let p : 2 ^ (48 - k) * 2 ^ (k - 11) ≡ 2 ^ 37 = product in
      let e : 8 * 2 ^ (48 - k) + (2 ^ (48 - k) - 1) + 1 ≡ 9 * 2 ^ (48 - k) = omega (arith, pow_pos (48 - k)) in
      let d : upper_mask + 1 * 2 ^ (k - 11) ≡ 9 * (2 ^ (48 - k) * 2 ^ (k - 11)) =
      sym (add-mul (8 * 2 ^ (48 - k) + (2 ^ (48 - k) - 1)) 1 (2 ^ (k - 11))) ∙ ap (λ (x : ℕ). x * 2 ^ (k - 11)) e ∙ mul_assoc 9 (2 ^ (48 - k)) (2 ^ (k - 11)) in
      omega (arith, p, d)

  page_upper : upper_page ≡ 2 ^ 40
  page_upper =
      let p : 2 ^ (48 - k) * 2 ^ (k - 11) ≡ 2 ^ 37 = product in
      ap (λ (x : ℕ). x * 2 ^ (k - 11)) (add-zero (8 * 2 ^ (48 - k))) ∙ mul_assoc 8 (2 ^ (48 - k)) (2 ^ (k - 11)) ∙ ap (λ (x : ℕ). 8 * x) p

  -- the mask, from its lowest bit up
  mask_is : address_limit - 2 ^ k + telling ≡ m1 * 2 + 1
  mask_is =
      let q : 2 ^ k ≡ 2 ^ (k - 11) * 2048 = ap (λ (x : ℕ). 2 ^ x) (let e : k ≡ (k - 11) + 11 = omega arith in e) ∙ pow-add 2 (k - 11) 11 in
      let u = mask_upper in
      let l : 2 ^ k ≤ address_limit = pow_mono most in
      omega (arith, q, u, l)

  page_is : dirty_page ≡ n1 * 2 + 1
  page_is = let u = page_upper in omega (arith, u)

  -- bits 0, 1, 7, 10 and 51 as wanted, and those from k up to 47 clear
  masked_page : (v : ℕ) → eqb (bit_and v (address_limit - 2 ^ k + telling)) dirty_page
      ≡ (bit 0 v && (bit 1 v && (not (bit 7 v) && (bit 10 v && (eqb (v / 2 ^ k % 2 ^ (48 - k)) 0 && bit 51 v)))))
  masked_page v =
      ap₂ (λ (x y : ℕ). eqb (bit_and v x) y) mask_is page_is
      ∙ ap (λ (x : ℕ). eqb (bit_and x (m1 * 2 + 1)) (n1 * 2 + 1)) (sym (div-one v))
      ∙ all_from 0 1 v m1 n1 1 (lit< tt)
      ∙ ap (◌&&◌ (bit 0 v))
      (all_from 1 1 v (m7 * 32) (n7 * 32) 1 (lit< tt)
      ∙ ap (◌&&◌ (bit 1 v))
      (none_from 2 5 v m7 n7
      ∙ all_from 7 1 v (m10 * 4) (n10 * 4) 0 (lit< tt)
      ∙ ap₂ ◌&&◌ (not_one (v / 2 ^ 7))
      (none_from 8 2 v m10 n10
      ∙ all_from 10 1 v upper_mask upper_page 1 (lit< tt)
      ∙ ap (◌&&◌ (bit 10 v))
      (none_from 11 (k - 11) v (8 * 2 ^ (48 - k) + (2 ^ (48 - k) - 1)) (8 * 2 ^ (48 - k) + 0)
      ∙ ap (λ (j : ℕ). eqb (bit_and (v / 2 ^ j) (8 * 2 ^ (48 - k) + (2 ^ (48 - k) - 1))) (8 * 2 ^ (48 - k) + 0)) (let e : 11 + (k - 11) ≡ k = omega arith in e)
      ∙ all_from k (48 - k) v 8 8 0 (pow_pos (48 - k))
      ∙ ap (◌&&◌ (eqb (v / 2 ^ k % 2 ^ (48 - k)) 0))
      (ap (λ (j : ℕ). eqb (bit_and (v / 2 ^ j) 8) 8) (let e : k + (48 - k) ≡ 48 = omega arith in e)
      ∙ none_from 48 3 v 1 1
      ∙ ap (λ (x : ℕ). eqb x 1) (and_mask (v / 2 ^ 51) 1))))))

-- ---- what the specification asks

-- the output address of a page is beyond 2 ^ k unless bits 47 to k are clear
beyond : (p k v : ℕ) → p ≤ k → k ≤ 48 → leb (2 ^ k) (cut v (2 ^ p)) ≡ not (eqb (v / 2 ^ k % 2 ^ (48 - k)) 0)
unfolding cut
beyond p k v h most = by (eqb (v / 2 ^ k % 2 ^ (48 - k)) 0) refl
  where
    x : ℕ
    x = v % address_limit

    is : x / 2 ^ k ≡ v / 2 ^ k % 2 ^ (48 - k)
    is = ap (λ (j : ℕ). v % 2 ^ j / 2 ^ k) (let e : 48 ≡ (48 - k) + k = omega arith in e) ∙ field_mod v (48 - k) k

    by : (b : Bool) → eqb (v / 2 ^ k % 2 ^ (48 - k)) 0 ≡ b → leb (2 ^ k) (x / 2 ^ p * 2 ^ p) ≡ not b
    by true e =
        let z : x / 2 ^ k < 1 = rw (is, eqb-true (v / 2 ^ k % 2 ^ (48 - k)) 0 e) (lit< tt) in
        let s : x < 1 * 2 ^ k = (div-lt_iff_lt-mul (pow_pos k)).0 z in
        lt-leb (2 ^ k) (x / 2 ^ p * 2 ^ p) (omega (arith, div-mul-le_self x (2 ^ p), s))
    by false e =
        let d : x / 2 ^ k ≡ 0 → ⊥ = λ z. eqb-false (v / 2 ^ k % 2 ^ (48 - k)) 0 e (sym is ∙ z) in
        let s : 1 * 2 ^ k ≤ x = (le-div_iff_mul-le (pow_pos k)).0 (let o : 1 ≤ x / 2 ^ k = omega arith in o) in
        let w : 2 ^ k ≡ 2 ^ (k - p) * 2 ^ p = ap (λ (j : ℕ). 2 ^ j) (let q : k ≡ (k - p) + p = omega arith in q) ∙ pow-add 2 (k - p) p in
        let t : 2 ^ (k - p) ≤ x / 2 ^ p = (le-div_iff_mul-le (pow_pos p)).1 (omega (arith, s, w)) in
        le-leb (2 ^ k) (x / 2 ^ p * 2 ^ p) (omega (arith, w, mul-le-mul_right (2 ^ p) t))

-- the tests in the order of the mask's bits say what the decoded descriptor says
tests : (v : ℕ) (b0 b1 b7 b10 b51 clear : Bool) → (dirty v ≡ (b10 && b51 && not b7))
    → (b0 && (b1 && (not b7 && (b10 && (clear && b51))))) ≡ leaf_dirty v (pick (not b0 || not b1 && true) (next.Fault Translation) (pick (not clear) (next.Fault AddressSize) next.Leaf))
tests v false b1 b7 b10 b51 clear e = refl
tests v true false b7 b10 b51 clear e = refl
tests v true true true b10 b51 false e = refl
tests v true true false false b51 false e = refl
tests v true true false true b51 false e = refl
tests v true true true false b51 true e = sym e
tests v true true true true false true e = sym e
tests v true true true true true true e = sym e
tests v true true false false b51 true e = sym e
tests v true true false true false true e = sym e
tests v true true false true true true e = sym e

-- dirty, by its bits
dirty_is : (v : ℕ) → dirty v ≡ (bit 10 v && bit 51 v && not (bit 7 v))
unfolding dirty
dirty_is v = refl

-- an entry of the last level maps a page
last_span : (p : ℕ) → span p 0 ≡ 2 ^ p
unfolding span shift_of
last_span p = ap (λ (j : ℕ). 2 ^ j) (let e : p + (p - 3) * 0 ≡ p = omega arith in e)

-- at the last level a descriptor is a page, or nothing
decoded_last : (p limit v : ℕ)
    → decoded p limit 0 v ≡ pick (not (bit 0 v) || not (bit 1 v) && true) (next.Fault Translation) (pick (leb limit (cut v (2 ^ p))) (next.Fault AddressSize) next.Leaf)
unfolding decoded invalid is_table address_in block_at
decoded_last p limit v = by (bit 0 v) (bit 1 v)
  where
    by : (b0 b1 : Bool)
        → pick (not b0 || not b1 && true) (next.Fault Translation)
        (pick (leb limit (cut v (pick (b1 && false) (page_size p) (span p 0)))) (next.Fault AddressSize)
        (pick (b1 && false) (next.Table (record { 0 = cut v (pick (b1 && false) (page_size p) (span p 0)) })) next.Leaf))
        ≡ pick (not b0 || not b1 && true) (next.Fault Translation) (pick (leb limit (cut v (2 ^ p))) (next.Fault AddressSize) next.Leaf)
    by false b1 = refl
    by true false = refl
    by true true = rw (last_span p)

-- the mask tells whether a descriptor of the last level is a dirty page
pub page_told : (p limit v : ℕ) → Paged p → Limited limit → eqb (bit_and v (address_limit - limit + telling)) dirty_page ≡ leaf_dirty v (decoded p limit 0 v)
page_told p limit v g l =
    let low : 11 ≤ l.bits = omega (arith, l.least) in
    ap (λ (x : ℕ). eqb (bit_and v (address_limit - x + telling)) dirty_page) l.is
    ∙ masked_page l.bits low l.most v
    ∙ tests v (bit 0 v) (bit 1 v) (bit 7 v) (bit 10 v) (bit 51 v) (eqb (v / 2 ^ l.bits % 2 ^ (48 - l.bits)) 0) (dirty_is v)
    ∙ ap (λ (b : Bool). leaf_dirty v (pick (not (bit 0 v) || not (bit 1 v) && true) (next.Fault Translation) (pick b (next.Fault AddressSize) next.Leaf)))
    (sym (beyond p l.bits v (omega (arith, g.most, l.least)) l.most) ∙ ap (λ (x : ℕ). leb x (cut v (2 ^ p))) (sym l.is))
    ∙ ap (leaf_dirty v) (sym (decoded_last p limit v))
