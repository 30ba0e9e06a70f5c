-- The pool page after page: what every store of a leaf keeps holds at the end, and so each leaf that is set stays set, and every other byte and descriptor stays.
use Prim.Native.Nat.{ℕ, suc, ◌+◌, ◌-◌, ◌%◌, ◌^◌, ◌<◌, ◌≤◌}
use mathlib.Core.Bool.{Bool, true, false, ◌&&◌}
use mathlib.Core.List.{List}
use mathlib.Core.Logic.{◌⊎◌}
use mathlib.Core.Path.{◌≡◌, refl, sym, ap, subst, ◌∙◌}
use native.Mathlib.Omega.{arith}
use lib.Dec.{eqb, lit<}
use lib.ListN.{length, get_or}
use borrow.Author.Tests.{eqb-true, ne_eqb}
use Rattle.descriptor.specs.Bits.{pick}
use Rattle.descriptor.specs.Bytes.{Bytes, desc, put}
use Rattle.descriptor.proofs.BitLaws.{set_small}
use Rattle.descriptor.proofs.Laws.{desc_put, desc_put_aligned}
use Rattle.descriptor.proofs.Numbers.{desc_small}
use Rattle.descriptor.proofs.Tests.{and_true}
use Rattle.vmsa.specs.Fields.{set_ap2}
use Rattle.vmsa.specs.declared.Leaf.{Leaf}
use Rattle.lookup.specs.Trace.{End, fault, leaf}
use Rattle.walk.proofs.Parts.{get_d_put}
use Rattle.gather.specs.Ends.{dirty, pages_in}
use Rattle.clean.specs.Clean.{pages, whole_in, Asked, set_again, cleaned_by, Cleaned}
use Rattle.clean.proofs.Laws.{pages_keep, pages_join, cleaned_refl, Stands, cleaned_by_cleaned, pages_cleaned}

-- page y ends at a leaf that says dirty, and is whole
pub record Sets (k : Asked) (ends : ℕ → End) (y a : ℕ) (l : Leaf) : Type 0 where
  pub reaches : ends y ≡ leaf a l
  pub dirtied : dirty l.value ≡ true
  pub whole : whole_in k.from k.count (pages_in k.page l.left) y ≡ true

module _ (k : Asked) (ends : ℕ → End) (p : List ℕ) (stands : (y : ℕ) → Stands k p (ends y)) where
  abbrev step : ℕ → List ℕ → List ℕ
  step = cleaned_by k ends

  -- a leaf of the pool's own walks
  stand : (y a : ℕ) (l : Leaf) → ends y ≡ leaf a l → Stands k p (leaf a l)
  stand y a l e = subst (Stands k p) e (stands y)

  -- one page: the leaf that it sets is stored, or nothing is
  one_page : (P : List ℕ → Type 0) (y : ℕ) (t : List ℕ) → ((a : ℕ) (l : Leaf) → Sets k ends y a l → P (put k.ee t (a - k.base) (set_ap2 l.value))) → P t → P (step y t)
  unfolding cleaned_by
  one_page P y t h q = by (ends y) refl
    where
      picked : (a : ℕ) (l : Leaf) → ends y ≡ leaf a l → (b : Bool) → (dirty l.value && whole_in k.from k.count (pages_in k.page l.left) y) ≡ b
          → P (pick b (put k.ee t (a - k.base) (set_ap2 l.value)) t)
      picked a l e true s =
          let d = and_true (dirty l.value) (whole_in k.from k.count (pages_in k.page l.left) y) s in
          h a l (record { reaches = e; dirtied = d.0; whole = d.1 })
      picked a l e false s = q

      by : (e : End) → ends y ≡ e → P (set_again k y t e)
      by (fault kind level) e = q
      by (leaf a l) e = picked a l e (dirty l.value && whole_in k.from k.count (pages_in k.page l.left) y) refl

  -- what each store keeps, over any pages
  pub stores_keep : (P : List ℕ → Type 0) (n x : ℕ) (s : List ℕ) → Cleaned k.ee p s
      → ((y : ℕ) (t : List ℕ) → x ≤ y → y < x + n → Cleaned k.ee p t → (a : ℕ) (l : Leaf) → Sets k ends y a l → P t → P (put k.ee t (a - k.base) (set_ap2 l.value)))
      → P s → P (pages (cleaned_by k ends) x n s)
  stores_keep P n x s c h q =
      (pages_keep step (λ (t : List ℕ). Cleaned k.ee p t × P t) n x s
      (λ y t u v w. (cleaned_by_cleaned k ends y p t (stands y) w.0, one_page P y t (λ a l z. h y t u v w.0 a l z w.1) w.1)) (c, q)).1

  module _ (small : Bytes p) where
    value_small : (i : ℕ) → set_ap2 (desc k.ee p i) < 2 ^ 64
    value_small i = set_small 7 (desc k.ee p i) 64 (lit< tt) (desc_small k.ee p i small)

    -- ---- a descriptor, after one store

    after_store : (t : List ℕ) → Cleaned k.ee p t → (y a : ℕ) (l : Leaf) → ends y ≡ leaf a l → (i : ℕ) → i % 8 ≡ 0 → i + 8 ≤ length p
        → desc k.ee (put k.ee t (a - k.base) (set_ap2 l.value)) i ≡ pick (eqb (a - k.base) i) (set_ap2 (desc k.ee p i)) (desc k.ee t i)
    after_store t c y a l e i i8 fits =
        let s = stand y a l e in
        let j = a - k.base in
        let v : set_ap2 l.value < 2 ^ 64 = subst (λ (x : ℕ). set_ap2 x < 2 ^ 64) s.2 (value_small j) in
        desc_put_aligned k.ee t j (set_ap2 l.value) i s.0 i8 (rw c.long s.1) (rw c.long fits) v ∙ by s.2 (eqb j i) refl
      where
        by : desc k.ee p (a - k.base) ≡ l.value → (b : Bool) → eqb (a - k.base) i ≡ b → pick b (set_ap2 l.value) (desc k.ee t i) ≡ pick b (set_ap2 (desc k.ee p i)) (desc k.ee t i)
        by q true z = ap set_ap2 (sym q ∙ ap (desc k.ee p) (eqb-true (a - k.base) i z))
        by q false z = refl

    -- ---- a leaf that is set stays set

    abbrev IsSet : ℕ → List ℕ → Type 0
    IsSet i t = desc k.ee t i ≡ set_ap2 (desc k.ee p i)

    stays_set : (i : ℕ) → i % 8 ≡ 0 → i + 8 ≤ length p → (t : List ℕ) → Cleaned k.ee p t → (y a : ℕ) (l : Leaf) → ends y ≡ leaf a l → IsSet i t
        → IsSet i (put k.ee t (a - k.base) (set_ap2 l.value))
    stays_set i i8 fits t c y a l e q = after_store t c y a l e i i8 fits ∙ by (eqb (a - k.base) i)
      where
        by : (b : Bool) → pick b (set_ap2 (desc k.ee p i)) (desc k.ee t i) ≡ set_ap2 (desc k.ee p i)
        by true = refl
        by false = q

    -- at its own page
    set_here : (t : List ℕ) → Cleaned k.ee p t → (y a : ℕ) (l : Leaf) → Sets k ends y a l → IsSet (a - k.base) (step y t)
    unfolding cleaned_by
    set_here t c y a l z =
        let s = stand y a l z.reaches in
        let j = a - k.base in
        let e : cleaned_by k ends y t ≡ put k.ee t j (set_ap2 l.value) =
        ap (set_again k y t) z.reaches
        ∙ ap (λ (b : Bool). pick (b && whole_in k.from k.count (pages_in k.page l.left) y) (put k.ee t j (set_ap2 l.value)) t) z.dirtied
        ∙ ap (λ (b : Bool). pick b (put k.ee t j (set_ap2 l.value)) t) z.whole in
        ap (λ (x : List ℕ). desc k.ee x j) e
        ∙ desc_put k.ee t j (set_ap2 l.value) (rw c.long s.1) (subst (λ (x : ℕ). set_ap2 x < 2 ^ 64) s.2 (value_small j))
        ∙ ap set_ap2 (sym s.2)

    abbrev final : ℕ → ℕ → List ℕ
    final first count = pages step first count p

    entry_cleaned : Cleaned k.ee p p
    entry_cleaned = cleaned_refl k.ee p small

    pub final_cleaned : (first count : ℕ) → Cleaned k.ee p (pages (cleaned_by k ends) first count p)
    final_cleaned first count = pages_cleaned k ends count first p p (λ y _ _. stands y) entry_cleaned

    pub leaf_set : (first count y a : ℕ) (l : Leaf) → first ≤ y → y < first + count → Sets k ends y a l → desc k.ee (pages (cleaned_by k ends) first count p) (a - k.base) ≡ set_ap2 l.value
    unfolding pages
    leaf_set first count y a l u v z =
        let s = stand y a l z.reaches in
        let j = a - k.base in
        let before = pages step first (y - first) p in
        let n = first + count - suc y in
        let c : Cleaned k.ee p before = pages_cleaned k ends (y - first) first p p (λ x _ _. stands x) entry_cleaned in
        let d : Cleaned k.ee p (step y before) = cleaned_by_cleaned k ends y p before (stands y) c in
        let e1 : first + count - y ≡ suc n = omega arith in
        let e2 : first + count - first ≡ count = omega arith in
        let e : final first count ≡ pages step (suc y) n (step y before) =
        ap (λ (x : ℕ). pages step first x p) (sym e2) ∙ sym (pages_join step first y (first + count) p u (let w : y ≤ first + count = omega arith in w))
        ∙ ap (λ (x : ℕ). pages step y x before) e1 in
        ap (λ (x : List ℕ). desc k.ee x j) e
        ∙ stores_keep (IsSet j) n (suc y) (step y before) d (λ x t _ _ g b f w. stays_set j s.0 s.1 t g x b f w.reaches) (set_here before c y a l z)
        ∙ ap set_ap2 s.2

    -- ---- what no page sets stays

    pub byte_still : (first count i : ℕ) → ((y a : ℕ) (l : Leaf) → first ≤ y → y < first + count → Sets k ends y a l → (i < a - k.base) ⊎ (a - k.base + 8 ≤ i))
        → get_or (pages (cleaned_by k ends) first count p) i 0 ≡ get_or p i 0
    byte_still first count i h =
        stores_keep (λ (t : List ℕ). get_or t i 0 ≡ get_or p i 0) count first p entry_cleaned
        (λ y t u v c a l z q. get_d_put k.ee t (a - k.base) (set_ap2 l.value) (rw c.long (stand y a l z.reaches).1) i (h y a l u v z) ∙ q) refl

    pub leaf_still : (first count i : ℕ) → i % 8 ≡ 0 → i + 8 ≤ length p → ((y a : ℕ) (l : Leaf) → first ≤ y → y < first + count → Sets k ends y a l → a - k.base ≡ i → ⊥)
        → desc k.ee (pages (cleaned_by k ends) first count p) i ≡ desc k.ee p i
    leaf_still first count i i8 fits h =
        stores_keep (λ (t : List ℕ). desc k.ee t i ≡ desc k.ee p i) count first p entry_cleaned
        (λ y t u v c a l z q.
        after_store t c y a l z.reaches i i8 fits ∙ ap (λ (b : Bool). pick b (set_ap2 (desc k.ee p i)) (desc k.ee t i)) (ne_eqb (a - k.base) i (h y a l u v z)) ∙ q) refl
