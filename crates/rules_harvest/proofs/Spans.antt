-- Every address in the span of a leaf reaches that leaf: no step down to its level sees the bits below.
use Prim.Native.Nat.{ℕ, zero, suc, ◌+◌, ◌*◌, ◌-◌, ◌/◌, ◌%◌, ◌^◌, ◌<◌, ◌≤◌}
use mathlib.Core.Bool.{Bool, true, false}
use mathlib.Core.Path.{◌≡◌, refl, sym, ap, subst, ◌∙◌}
use native.Mathlib.Nat.{div-mul-le_self, mul-le-mul_left, mul_comm}
use native.Mathlib.Omega.{arith}
use lib.Dec.{eqb}
use Rattle.descriptor.specs.Bits.{pick}
use Rattle.descriptor.proofs.Tests.{clash}
use Rattle.vmsa.specs.Limits.{tsz_most, Sized}
use Rattle.vmsa.specs.Granules.{page_bits_of, Paged}
use Rattle.vmsa.specs.Fields.{no_tables, with_table}
use Rattle.geometry.specs.Geometry.{level_of, shift_of, span, stride_bits, first_left, output_limit}
use Rattle.geometry.proofs.Geometry.{paged}
use Rattle.vmsa.specs.declared.Regime.{Regime}
use Rattle.vmsa.specs.declared.Range.{Range}
use Rattle.vmsa.specs.declared.Leaf.{Leaf}
use Rattle.vmsa.specs.declared.PhysAddr.{PhysAddr}
use Rattle.vmsa.specs.declared.FaultKind.TheVariants.{ExternalAbort}
use Rattle.std.specs.Prelude.{Option, Some, None, Err, Ok}
use Rattle.lookup.specs.declared.Next.{Next}
use Rattle.lookup.specs.declared.Next.TheVariants as next
use Rattle.lookup.specs.Steps.{First}
use Rattle.lookup.specs.declared.Context.{Context}
use Rattle.lookup.specs.Trace.{End, fault, leaf, Trace, ended, end_under_hpd}
use Rattle.lookup.specs.Steps.{decoded, context, onward, on_word, followed, entry_at, entered, descend, upper, range_of, outside, context_of, first_table, locate}
use Rattle.lookup.proofs.Levels.{locate_first}
use Rattle.lookup.proofs.Page.{cut_page, mod_page}
use Rattle.harvest.proofs.Link.{Under, descend_under}

-- the spans of higher levels
span_above : (p low high i j : ℕ) → low ≤ high → i / span p low ≡ j / span p low → i / span p high ≡ j / span p high
unfolding span shift_of
span_above p low high i j h e = cut_page (p + (p - 3) * low) i j (p + (p - 3) * high) (omega (arith, mul-le-mul_left (p - 3) h)) e

-- a leaf's span lies in its range
span_fits : (p t left : ℕ) → Paged p → t ≤ tsz_most → left ≤ first_left p t → shift_of p left ≤ 64 - t
unfolding shift_of first_left
span_fits p t left g most h =
    let d = div-mul-le_self (63 - t - p) (p - 3) in
    let m : (p - 3) * left ≤ (p - 3) * ((63 - t - p) / (p - 3)) = mul-le-mul_left (p - 3) h in
    let c : (p - 3) * ((63 - t - p) / (p - 3)) ≡ (63 - t - p) / (p - 3) * (p - 3) = mul_comm (p - 3) ((63 - t - p) / (p - 3)) in
    omega (arith, g.most)

-- ---- any number of levels, over two inputs

module _ (base limit : PhysAddr) (p i j : ℕ) (read : ℕ → Option ℕ) where
  abbrev of : ℕ → Context
  of x = context base limit (record { 0 = x }) p

  -- where the first ends in a leaf whose span holds both, the second ends there too
  abbrev Follows : Trace → Trace → Type 0
  Follows t u = (a : ℕ) (l : Leaf) → t.end ≡ leaf a l → i / span p l.left ≡ j / span p l.left → u.end ≡ t.end

  onward_follows : (f g : ℕ → ℕ → Trace) → ((s t : ℕ) → Follows (f s t) (g s t)) → (sum left at v : ℕ) (x : Next) → Follows (onward f sum left at v x) (onward g sum left at v x)
  onward_follows f g h sum left at v (next.Fault kind) = λ a l e s. refl
  onward_follows f g h sum left at v (next.Table table) = h (with_table sum v) table.0
  onward_follows f g h sum left at v next.Leaf = λ a l e s. refl

  word_follows : (f g : ℕ → ℕ → Trace) → ((s t : ℕ) → Follows (f s t) (g s t)) → (sum left at : ℕ) (w : Option ℕ)
      → Follows (on_word (ended (fault ExternalAbort (level_of left))) (followed (of i) f sum left at) w) (on_word (ended (fault ExternalAbort (level_of left))) (followed (of j) g sum left at) w)
  unfolding followed
  word_follows f g h sum left at (Some v) = onward_follows f g h sum left at v (decoded p limit.0 left v)
  word_follows f g h sum left at None = λ a l e s. refl

  entry_same : (left table : ℕ) → i / span p left ≡ j / span p left → entry_at (of j) left table ≡ entry_at (of i) left table
  unfolding entry_at
  entry_same left table e = ap (λ (x : ℕ). table + 8 * (x % 2 ^ stride_bits p)) (sym e)

  descend_follows : (n s t : ℕ) → Follows (descend (of i) read n s t) (descend (of j) read n s t)
  unfolding descend entered
  descend_follows zero s t = λ a l e q. refl
  descend_follows (suc n) s t = λ a l e q.
      let low : l.left < suc n = subst (Under (suc n)) e (descend_under (of i) read (suc n) s t) in
      let same = entry_same n t (span_above p l.left n i j (let h : l.left ≤ n = omega arith in h) q) in
      ap (λ (x : ℕ). (on_word (ended (fault ExternalAbort (level_of n))) (followed (of j) (descend (of j) read n) s n x) (read x)).end) same
      ∙ word_follows (descend (of i) read n) (descend (of j) read n) (descend_follows n) s n (entry_at (of i) n t) (read (entry_at (of i) n t)) a l e q

-- ---- steps 1 to 5

-- the leaf before HPD
hpd_leaf : (hpd : Bool) (e : End) (a : ℕ) (l : Leaf) → end_under_hpd hpd e ≡ leaf a l → (k : Leaf) × (e ≡ leaf a k) × (k.left ≡ l.left)
hpd_leaf hpd (fault kind level) a l q = clash (cc)
hpd_leaf hpd (leaf b k) a l q =
    let x : b ≡ a = cc in
    let y : record { value = k.value; left = k.left; tables = pick hpd no_tables k.tables } ≡ l = cc in
    (k, ap (λ (c : ℕ). leaf c k) x, ap (λ (m : Leaf). m.left) y)

module _ (r : Regime) (read : ℕ → Option ℕ) where
  -- the levels of address x in a range, from its root on
  unfoldable deep : Range → PhysAddr → ℕ → End
  deep g root x =
      (descend (context r.pool.address (record { 0 = output_limit r.output }) (record { 0 = x % 2 ^ (64 - g.tsz) }) (page_bits_of r)) read (suc (first_left (page_bits_of r) g.tsz)) no_tables root.0).end

  locate_deep : (x : ℕ) (g : Range) → range_of r x ≡ g → (root : PhysAddr) → first_table r x ≡ Ok root → (locate r read x).end ≡ end_under_hpd g.hpd (deep g root x)
  unfolding context_of deep
  locate_deep x g e root q = ap (λ (t : Trace). t.end) (locate_first r read x (Ok root) q) ∙ ap (λ (h : Range). end_under_hpd h.hpd (deep h root x)) e

module _ (r : Regime) (z : Sized r) (a b : ℕ) where
  abbrev p : ℕ
  p = page_bits_of r

  abbrev g : Range
  g = range_of r a

  range_sized : (16 ≤ (range_of r a).tsz) × ((range_of r a).tsz ≤ tsz_most)
  unfolding range_of
  range_sized = by (upper a)
    where
      by : (u : Bool) → (16 ≤ (pick u r.range1 r.range0).tsz) × ((pick u r.range1 r.range0).tsz ≤ tsz_most)
      by true = (z.least1, z.most1)
      by false = (z.least0, z.most0)

  -- two addresses in one span that fits into the range
  module _ (s : ℕ) (fits : s ≤ 64 - g.tsz) (same : a / 2 ^ s ≡ b / 2 ^ s) where
    upper_same : upper b ≡ upper a
    unfolding upper
    upper_same = ap (λ (x : ℕ). eqb (x % 2) 1) (sym (cut_page s a b 55 (omega (arith, range_sized.0)) same))

    range_same : range_of r b ≡ range_of r a
    unfolding range_of
    range_same = ap (λ (u : Bool). pick u r.range1 r.range0) upper_same

    outside_same : outside g.tsz b ≡ outside g.tsz a
    unfolding outside
    outside_same = rw (upper_same, cut_page s a b (64 - g.tsz) fits same)

    first_same : first_table r b ≡ first_table r a
    unfolding first_table
    first_same = rw (range_same, outside_same)

  pub span_shares : (read : ℕ → Option ℕ) (at : ℕ) (l : Leaf) → (locate r read a).end ≡ leaf at l → a / span p l.left ≡ b / span p l.left → (locate r read b).end ≡ (locate r read a).end
  unfolding span deep
  span_shares read at l e same = by (first_table r a) refl
    where
      by : (f : First) → first_table r a ≡ f → (locate r read b).end ≡ (locate r read a).end
      by (Err kind) q = clash (let w : fault kind 0 ≡ leaf at l = sym (ap (λ (t : Trace). t.end) (locate_first r read a (Err kind) q)) ∙ e in cc)
      by (Ok root) q =
          let t = (range_of r a).tsz in
          let base = r.pool.address in
          let limit : PhysAddr = record { 0 = output_limit r.output } in
          let i = a % 2 ^ (64 - t) in
          let j = b % 2 ^ (64 - t) in
          let n = suc (first_left (page_bits_of r) t) in
          let here = locate_deep r read a (range_of r a) refl root q in
          let k = hpd_leaf (range_of r a).hpd (deep r read (range_of r a) root a) at l (sym here ∙ e) in
          let low : k.0.left < n = subst (Under n) k.1 (descend_under (context base limit (record { 0 = i }) (page_bits_of r)) read n no_tables root.0) in
          let s = shift_of (page_bits_of r) k.0.left in
          let fits : s ≤ 64 - t = span_fits (page_bits_of r) t k.0.left (paged r.granule) range_sized.1 (let h : k.0.left ≤ first_left (page_bits_of r) t = omega arith in h) in
          let cut : a / 2 ^ s ≡ b / 2 ^ s = subst (λ (x : ℕ). a / 2 ^ shift_of (page_bits_of r) x ≡ b / 2 ^ shift_of (page_bits_of r) x) (sym k.2) same in
          locate_deep r read b (range_of r a) (range_same s fits cut) root (first_same s fits cut ∙ q)
          ∙ ap (end_under_hpd (range_of r a).hpd) (descend_follows base limit (page_bits_of r) i j read n no_tables root.0 at k.0 k.1 (mod_page s a b (64 - t) fits cut))
          ∙ sym here
