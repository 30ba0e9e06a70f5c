-- Pages one after another; and pools in which some dirty leaves were set again.
use Prim.Native.Nat.{ℕ, zero, suc, ◌+◌, ◌*◌, ◌-◌, ◌/◌, ◌%◌, ◌^◌, ◌<◌, ◌≤◌}
use mathlib.Core.Bool.{Bool, true, false, not, ◌&&◌}
use mathlib.Core.List.{List}
use mathlib.Core.Logic.{inl, inr}
use mathlib.Core.Path.{◌≡◌, refl, sym, ap, subst, ◌∙◌}
use native.Mathlib.Nat.{zero-add, suc-add, add-suc, add-zero, mul-zero, div-one, mul-one}
use native.Mathlib.Omega.{arith}
use lib.Dec.{leb, eqb, lit<}
use lib.ListN.{length}
use lib.Pow.{field as field_mod}
use borrow.Author.Tests.{le-leb, eqb-true}
use Rattle.descriptor.specs.Bits.{pick, set_bit}
use Rattle.descriptor.specs.Bytes.{Bytes, desc, put}
use Rattle.descriptor.proofs.Tests.{differ}
use Rattle.descriptor.proofs.BitLaws.{set_above, set_bit_lem, set_other, set_small}
use Rattle.descriptor.proofs.Laws.{length_put, desc_put_aligned}
use Rattle.descriptor.proofs.Numbers.{bytes_put, desc_small}
use Rattle.vmsa.specs.Fields.{af, dbm, set_ap2, table_bits}
use Rattle.vmsa.specs.Granules.{Paged}
use Rattle.lookup.specs.Trace.{End, fault, leaf}
use Rattle.lookup.specs.Steps.{decoded}
use Rattle.lookup.proofs.Decoding.{Alike, decoded_same}
use Rattle.gather.specs.Ends.{dirty, pages_in}
use Rattle.clean.specs.Clean.{pages, whole_in, Asked, set_again, cleaned_by, Again, Cleaned}

-- ---- pages

module _ {S : Type 0} (f : ℕ → S → S) where
  pub pages_add : (n m x : ℕ) (s : S) → pages f x (n + m) s ≡ pages f (x + n) m (pages f x n s)
  unfolding pages
  pages_add zero m x s = ap (λ (k : ℕ). pages f x k s) (zero-add m) ∙ ap (λ (y : ℕ). pages f y m s) (sym (add-zero x))
  pages_add (suc n) m x s =
      ap (λ (k : ℕ). pages f x k s) (suc-add n m) ∙ pages_add n m (suc x) (f x s) ∙ ap (λ (y : ℕ). pages f y m (pages f (suc x) n (f x s))) (suc-add x n ∙ sym (add-suc x n))

  -- up to mid, then from mid on
  pub pages_join : (lo mid hi : ℕ) (s : S) → lo ≤ mid → mid ≤ hi → pages f mid (hi - mid) (pages f lo (mid - lo) s) ≡ pages f lo (hi - lo) s
  pages_join lo mid hi s p q =
      let e : hi - lo ≡ (mid - lo) + (hi - mid) = omega arith in
      let d : lo + (mid - lo) ≡ mid = omega arith in
      sym (ap (λ (n : ℕ). pages f lo n s) e ∙ pages_add (mid - lo) (hi - mid) lo s ∙ ap (λ (y : ℕ). pages f y (hi - mid) (pages f lo (mid - lo) s)) d)

  pub pages_none : (x : ℕ) (s : S) → pages f x (x - x) s ≡ s
  unfolding pages
  pages_none x s = let e : x - x ≡ 0 = omega arith in rw e

  -- pages that change nothing
  pub pages_still : (n x : ℕ) (s : S) → ((y : ℕ) → x ≤ y → y < x + n → f y s ≡ s) → pages f x n s ≡ s
  unfolding pages
  pages_still zero x s h = refl
  pages_still (suc n) x s h = rw (h x (omega arith) (omega arith)) (pages_still n (suc x) s (λ y p q. h y (omega arith) (omega arith)))

  -- the first changes the state to t, and the others nothing
  pub pages_once : (n x : ℕ) (s t : S) → 0 < n → f x s ≡ t → ((y : ℕ) → x ≤ y → y < x + n → f y t ≡ t) → pages f x n s ≡ t
  unfolding pages
  pages_once zero x s t z e h = absurd (omega arith)
  pages_once (suc n) x s t z e h = rw e (pages_still n (suc x) t (λ y p q. h y (omega arith) (omega arith)))

  -- what each page keeps
  pub pages_keep : (P : S → Type 0) (n x : ℕ) (s : S) → ((y : ℕ) (t : S) → x ≤ y → y < x + n → P t → P (f y t)) → P s → P (pages f x n s)
  unfolding pages
  pages_keep P zero x s h q = q
  pages_keep P (suc n) x s h q = pages_keep P n (suc x) (f x s) (λ y t p r. h y t (omega arith) (omega arith)) (h x s (omega arith) (omega arith) q)

-- functions that agree on the pages passed
pub pages_ext : {S : Type 0} (f g : ℕ → S → S) (n x : ℕ) (s : S) → ((y : ℕ) (t : S) → x ≤ y → y < x + n → f y t ≡ g y t) → pages f x n s ≡ pages g x n s
unfolding pages
pages_ext f g zero x s h = refl
pages_ext f g (suc n) x s h = rw (h x s (omega arith) (omega arith)) (pages_ext f g n (suc x) (g x s) (λ y t p q. h y t (omega arith) (omega arith)))

-- ---- whole entries

pub whole_same : (from n w x y : ℕ) → x / w ≡ y / w → whole_in from n w x ≡ whole_in from n w y
unfolding whole_in
whole_same from n w x y e = ap (λ (i : ℕ). leb from (i * w) && leb (i * w + w) (from + n)) e

-- a page that is asked for lies whole there
pub whole_page : (p from n x : ℕ) → from ≤ x → x + 1 ≤ from + n → whole_in from n (pages_in p 0) x ≡ true
unfolding whole_in pages_in
whole_page p from n x a b = rw (mul-zero, div-one x, mul-one x, le-leb from x a, le-leb (x + 1) (from + n) b)

-- ---- one descriptor that was set again

-- a dirty leaf has AP[2] clear, so none is dirty once it is set again
pub set_clean : (v : ℕ) → dirty (set_ap2 v) ≡ false
unfolding dirty
set_clean v = rw (set_bit_lem 7 v) (by (af (set_ap2 v)) (dbm (set_ap2 v)))
  where
    by : (a b : Bool) → (a && b && not true) ≡ false
    by true true = refl
    by true false = refl
    by false true = refl
    by false false = refl

pub again_split : {P : Type 0} (v w : ℕ) → Again v w → (w ≡ v → P) → (dirty v ≡ true → w ≡ set_ap2 v → P) → P
unfolding Again
again_split v w (inl e) f g = f e
again_split v w (inr e) f g = g e.0 e.1

pub again_same : (v w : ℕ) → w ≡ v → Again v w
unfolding Again
again_same v w e = inl e

pub again_set : (v w : ℕ) → dirty v ≡ true → w ≡ set_ap2 v → Again v w
unfolding Again
again_set v w d e = inr (d, e)

-- one that is dirty still was never set
pub again_dirty : (v w : ℕ) → Again v w → dirty w ≡ true → w ≡ v
again_dirty v w r d = again_split v w r (λ e. e) (λ _ e. differ (sym d ∙ ap dirty e ∙ set_clean v))

pub again_then : (u v w : ℕ) → Again u v → Again v w → Again u w
again_then u v w r q =
    again_split v w q (λ e. subst (Again u) (sym e) r) (λ d e. let z = again_dirty u v r d in again_set u w (ap dirty (sym z) ∙ d) (e ∙ ap set_ap2 z))

set_alike : (v : ℕ) → Alike (set_ap2 v) v
unfolding table_bits
set_alike v = record {
  bit0 = set_other 7 v 0 (λ (e : ◌≡◌ {A = ℕ} 0 7). omega arith);
  bit1 = set_other 7 v 1 (λ (e : ◌≡◌ {A = ℕ} 1 7). omega arith);
  address = field_mod (set_bit 7 v) 36 12 ∙ ap (λ (x : ℕ). x % 2 ^ 36) (set_above 7 v 12 (lit< tt)) ∙ sym (field_mod v 36 12);
  tables = ap (λ (x : ℕ). x % 2 ^ 4) (set_above 7 v 59 (lit< tt));
}

-- no step sees AP[2]
pub again_decoded : (p limit left v w : ℕ) → Paged p → Again v w → decoded p limit left w ≡ decoded p limit left v
again_decoded p limit left v w g r =
    again_split v w r (ap (decoded p limit left)) (λ _ e. ap (decoded p limit left) e ∙ decoded_same p limit left (set_ap2 v) v g.least (set_alike v))

-- ---- pools

pub cleaned_refl : (ee : Bool) (p : List ℕ) → Bytes p → Cleaned ee p p
cleaned_refl ee p h = record { long = refl; bytes = h; small = h; each = λ i a f. again_same (desc ee p i) (desc ee p i) refl }

pub cleaned_then : (ee : Bool) (p q r : List ℕ) → Cleaned ee p q → Cleaned ee q r → Cleaned ee p r
cleaned_then ee p q r c d = record {
  long = d.long ∙ c.long;
  bytes = d.bytes;
  small = c.small;
  each = λ i a f. again_then (desc ee p i) (desc ee q i) (desc ee r i) (c.each i a f) (d.each i a (rw c.long f));
}

-- a dirty leaf of the first pool set again, whether it was already or not
pub cleaned_put : (ee : Bool) (p q : List ℕ) (i : ℕ) → Cleaned ee p q → i % 8 ≡ 0 → i + 8 ≤ length p → dirty (desc ee p i) ≡ true → Cleaned ee p (put ee q i (set_ap2 (desc ee p i)))
cleaned_put ee p q i c a fits d =
    let v = desc ee p i in
    let room : i + 8 ≤ length q = rw c.long fits in
    let small : set_ap2 v < 2 ^ 64 = set_small 7 v 64 (lit< tt) (desc_small ee p i c.small) in
    record {
      long = length_put ee q i (set_ap2 v) room ∙ c.long;
      bytes = bytes_put ee q i (set_ap2 v) c.bytes;
      small = c.small;
      each = λ j b f. rw (desc_put_aligned ee q i (set_ap2 v) j a b room (rw c.long f) small) (by j (eqb i j) refl (c.each j b f));
    }
  where
    by : (j : ℕ) (b : Bool) → eqb i j ≡ b → Again (desc ee p j) (desc ee q j) → Again (desc ee p j) (pick b (set_ap2 (desc ee p i)) (desc ee q j))
    by j true e r = rw (← eqb-true i j e) (again_set (desc ee p i) (set_ap2 (desc ee p i)) d refl)
    by j false e r = r

-- ---- the leaves of walks set again

pub cleaned_by_ext : (k : Asked) (ends others : ℕ → End) (x : ℕ) (s : List ℕ) → ends x ≡ others x → cleaned_by k ends x s ≡ cleaned_by k others x s
unfolding cleaned_by
cleaned_by_ext k ends others x s e = ap (set_again k x s) e

-- a leaf is the pool's own, at a multiple of 8
abbrev pub Stands : Asked → List ℕ → End → Type 0
Stands k p (fault kind level) = Unit {0}
Stands k p (leaf a l) = ((a - k.base) % 8 ≡ 0) × (a - k.base + 8 ≤ length p) × (desc k.ee p (a - k.base) ≡ l.value)

set_again_cleaned : (k : Asked) (x : ℕ) (p s : List ℕ) (e : End) → Stands k p e → Cleaned k.ee p s → Cleaned k.ee p (set_again k x s e)
set_again_cleaned k x p s (fault kind level) h c = c
set_again_cleaned k x p s (leaf a l) h c =
    subst (λ (v : ℕ). Cleaned k.ee p (pick (dirty v && whole_in k.from k.count (pages_in k.page l.left) x) (put k.ee s (a - k.base) (set_ap2 v)) s)) h.2
    (by (dirty (desc k.ee p (a - k.base))) (whole_in k.from k.count (pages_in k.page l.left) x) refl)
  where
    by : (d w : Bool) → dirty (desc k.ee p (a - k.base)) ≡ d → Cleaned k.ee p (pick (d && w) (put k.ee s (a - k.base) (set_ap2 (desc k.ee p (a - k.base)))) s)
    by true true e = cleaned_put k.ee p s (a - k.base) c h.0 h.1 e
    by true false e = c
    by false true e = c
    by false false e = c

pub cleaned_by_cleaned : (k : Asked) (ends : ℕ → End) (x : ℕ) (p s : List ℕ) → Stands k p (ends x) → Cleaned k.ee p s → Cleaned k.ee p (cleaned_by k ends x s)
unfolding cleaned_by
cleaned_by_cleaned k ends x p s h c = set_again_cleaned k x p s (ends x) h c

pub pages_cleaned : (k : Asked) (ends : ℕ → End) (n x : ℕ) (p s : List ℕ) → ((y : ℕ) → x ≤ y → y < x + n → Stands k p (ends y)) → Cleaned k.ee p s
    → Cleaned k.ee p (pages (cleaned_by k ends) x n s)
pages_cleaned k ends n x p s h c = pages_keep (cleaned_by k ends) (Cleaned k.ee p) n x s (λ y t a b. cleaned_by_cleaned k ends y p t (h y a b)) c
