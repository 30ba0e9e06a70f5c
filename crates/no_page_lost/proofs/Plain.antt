-- Plain walks one after another, over a memory in which a page's leaf says dirty.
use Prim.Native.Nat.{ℕ, ◌-◌}
use mathlib.Core.Bool.{true}
use mathlib.Core.List.{List}
use mathlib.Core.Path.{◌≡◌, refl, sym, ap, subst, subst⁻¹, ◌∙◌}
use lib.ListN.{length}
use Rattle.descriptor.specs.Bytes.{Bytes}
use Rattle.descriptor.proofs.Tests.{clash}
use Rattle.vmsa.specs.Granules.{page_bits_of}
use Rattle.vmsa.specs.Kinds.{writes}
use Rattle.vmsa.specs.Fields.{dbm}
use Rattle.vmsa.specs.Answers.{Result, success}
use Rattle.geometry.specs.Geometry.{page_of}
use Rattle.vmsa.specs.declared.Regime.{Regime}
use Rattle.vmsa.specs.declared.Access.{Access}
use Rattle.vmsa.specs.declared.Success.{Success}
use Rattle.checks.specs.Order.{Checked}
use Rattle.std.specs.Prelude.{Ok, Err}
use Rattle.checks.specs.Order.{and_then, first_of, memory_rows, setting_rows, access_rows}
use Rattle.walk.specs.Walk.{walk}
use Rattle.bitmap.specs.Map.{map_bit}
use Rattle.harvest.specs.Harvest.{harvest}
use Rattle.rules.proofs.Rule1.{rule1}
use Rattle.tlb.specs.Replies.{Reply, done, refused, answered, harvested, Told, reply_of, uncounted}
use Rattle.tlb.specs.Walker.{walked}
use Rattle.tlb.specs.Ours.{offset_of, ours}
use Rattle.rule3.specs.Rule3.{plainly}
use Rattle.rule3.specs.Lawful.{unless_refused}
use Rattle.rule3.proofs.Final.{lawful}
use Rattle.rules_harvest.specs.Leaves.{PageLeaf}
use Rattle.no_page_lost.specs.Plain.{Walking, Harvesting, Refusing, PlainCalls, none, refused, NoPageLostBy}
use Rattle.no_page_lost.specs.Plain as plain
use Rattle.no_page_lost.proofs.Held.{Held, walked_held, wrote_held}
use Rattle.no_page_lost.proofs.Harvests.{covered}

-- ---- a write by a plain walk leaves its page's leaf so

plain_held : (R : Regime) (m : List ℕ) → Bytes m → (a : Access) → writes a.kind ≡ true → (l : PageLeaf R m (ours.page R a)) → dbm l.value ≡ true
    → (answer : Success) → uncounted (plainly ours R m a).reply ≡ answered (success answer) 0 → Held R (plainly ours R m a).memory (ours.page R a) (offset_of R l.address)
plain_held R m b a w l d answer e =
    subst⁻¹ (λ (t : Told Reply). Held R t.memory (ours.page R a) (offset_of R l.address)) (lawful.plain_walk R m a)
    (by (first_of (memory_rows (length m) R)) (first_of (setting_rows R)) (first_of (access_rows R a)) refl refl (subst (λ (t : Told Reply). uncounted t.reply ≡ answered (success answer) 0) (lawful.plain_walk R m a) e))
  where
    counted : (o : Reply) → uncounted o ≡ answered (success answer) 0 → (n : ℕ) × (o ≡ answered (success answer) n)
    counted done q = clash (cc)
    counted (refused n) q = clash (cc)
    counted (answered x n) q = (n, let z : x ≡ success answer = cc in ap (λ (y : _). answered y n) z)
    counted (harvested map) q = clash (cc)

    by : (x y z : Checked) → first_of (memory_rows (length m) R) ≡ x → first_of (setting_rows R) ≡ y → uncounted (unless_refused (and_then x (and_then y z)) m (walked ours R m a)).reply ≡ answered (success answer) 0
        → Held R (unless_refused (and_then x (and_then y z)) m (walked ours R m a)).memory (ours.page R a) (offset_of R l.address)
    by (Err x) y z p v q = clash (cc)
    by (Ok _) (Err y) z p v q = clash (cc)
    by (Ok _) (Ok _) (Err z) p v q = clash (cc)
    by (Ok _) (Ok _) (Ok _) p v q = let k = counted (walked ours R m a).reply q in wrote_held R m (record { pool = p; regime = v; bytes = b }) a w answer l d k.0 k.1

-- the same of the page that the write names
pub wrote_plain : (R : Regime) (m : List ℕ) → Bytes m → (a : Access) → writes a.kind ≡ true → (answer : Success)
    → uncounted (plainly ours R m a).reply ≡ answered (success answer) 0 → (page : ℕ) → page ≡ ours.page R a → (l : PageLeaf R m page) → dbm l.value ≡ true
    → Held R (plainly ours R m a).memory page (offset_of R l.address)
wrote_plain R m b a w answer e page on =
    subst⁻¹ (λ (p : ℕ). (l : PageLeaf R m p) → dbm l.value ≡ true → Held R (plainly ours R m a).memory p (offset_of R l.address)) on (λ l d. plain_held R m b a w l d answer e)

-- ---- any further walk leaves it

plain_still : (R : Regime) (m : List ℕ) → Bytes m → (page at : ℕ) → Held R m page at → (a : Access) → Held R (walk R a m).bytes page at
plain_still R m b page at h a =
    subst⁻¹ (λ (t : Told Reply). Held R t.memory page at) (lawful.plain_walk R m a) (by (first_of (memory_rows (length m) R)) (first_of (setting_rows R)) (first_of (access_rows R a)) refl refl)
  where
    by : (x y z : Checked) → first_of (memory_rows (length m) R) ≡ x → first_of (setting_rows R) ≡ y → Held R (unless_refused (and_then x (and_then y z)) m (walked ours R m a)).memory page at
    by (Err x) y z p v = h
    by (Ok _) (Err y) z p v = h
    by (Ok _) (Ok _) (Err z) p v = h
    by (Ok _) (Ok _) (Ok _) p v = walked_held R m (record { pool = p; regime = v; bytes = b }) page at h a

-- ---- the claim, of functions that do what `walk` and `harvest` say

module _ (r : Regime) (W : Walking) (H : Harvesting) (K : Refusing)
    (walks : (a : Access) (m : List ℕ) (o : Result) (n : List ℕ) → W a m o n → (o ≡ (walk r a m).result) × (n ≡ (walk r a m).bytes))
    (stays : (m n : List ℕ) → K m n → n ≡ m)
    (fills : (first count : ℕ) (m map filled : List ℕ) → H first count m map filled → ((harvest r first count m map).reply ≡ Ok tt) × (filled ≡ (harvest r first count m map).map)) where
  all_still : (page at : ℕ) {n k : List ℕ} → PlainCalls W K n k → Bytes n → Held r n page at → Bytes k × Held r k page at
  all_still page at none b h = (b, h)
  all_still page at (refused {n = n} {k = k} w made) b h =
      let i = all_still page at w b h in
      let q = stays n k made in
      (subst⁻¹ Bytes q i.0, subst⁻¹ (λ (l : List ℕ). Held r l page at) q i.1)
  all_still page at (plain.walk {n = n} {k = k} {a = a} {o = o} w made) b h =
      let i = all_still page at w b h in
      let q = (walks a n o k made).1 in
      (subst⁻¹ Bytes q (rule1.bytes r a n i.0), subst⁻¹ (λ (l : List ℕ). Held r l page at) q (plain_still r n i.0 page at i.1 a))

  pub no_page_lost_by : NoPageLostBy r W H K
  no_page_lost_by m b a o n made s q w l d k more-walks first count map filled hv asked =
      let page = page_of (page_bits_of r) a.address.0 in
      let at = offset_of r l.address in
      let t = walks a m o n made in
      let e : (walk r a m).result ≡ success s = sym t.0 ∙ q in
      let h : Held r (walk r a m).bytes page at = plain_held r m b a w l d _ (ap (λ (x : Result). uncounted (reply_of x)) e) in
      let i = all_still page at more-walks (subst⁻¹ Bytes t.1 (rule1.bytes r a m b)) (subst⁻¹ (λ (x : List ℕ). Held r x page at) t.1 h) in
      let f = fills first count k map filled hv in
      subst⁻¹ (λ (x : List ℕ). map_bit x (page - first) ≡ true) f.1 (covered r k first count map f.0 page at i.1 asked)
