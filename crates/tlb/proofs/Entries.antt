-- Entries of the code in the walker's values: what an entry holds and answers.
use Prim.Native.Nat.{ℕ, ◌≤◌}
use mathlib.Core.Bool.{Bool, true, false, ◌&&◌}
use mathlib.Core.List.{List}
use Rattle.std.proofs.lemmas.Option.{same_Some}
use Rattle.std.specs.Prelude.{Option, None, Some}
use mathlib.Core.Path.{◌≡◌, refl, sym, ap, subst, ◌∙◌}
use lib.Dec.{leb, eqb}
use borrow.Author.Tests.{leb-true, le-leb}
use Rattle.descriptor.specs.Bits.{pick}
use Rattle.descriptor.proofs.Tests.{clash, and_true}
use Rattle.vmsa.specs.Words.{flag}
use Rattle.vmsa.specs.Answers.{dirtied_in}
use Rattle.vmsa.specs.declared.Regime.{Regime}
use Rattle.vmsa.specs.declared.Access.{Access}
use Rattle.vmsa.specs.declared.Leaf.{Leaf}
use Rattle.vmsa.specs.declared.FaultKind.{FaultKind}
use Rattle.decision.specs.Decision.{Decision, failing, decision, hit_kind}
use Rattle.decision.specs.declared.HitKind.{HitKind}
use Rattle.decision.specs.declared.HitKind.TheVariants as hits
use Rattle.tlb.specs.declared.Entry.{Entry as EntryStruct}
use Rattle.tlb.specs.Replies.{Reply, answered, reply_of}
use Rattle.tlb.specs.Walker.{Entry, empty, holds, held_in, Walked, walked, access_held}
use Rattle.tlb.specs.Ours.{judged, ours}
use Rattle.tlb.specs.Entries.{entry_view, full_entry, answer_of, entry_answer, kind_of, entry_kind, leaf_in}
use Rattle.tlb.proofs.Deciding.{reply_decision, kind_success, kind_miss, kind_fault}

-- ---- what an entry holds of a page

abbrev stands : EntryStruct → Bool
stands e = flag e.held && leb e.left 3

-- a held leaf stands at a level
pub held_low : (e : EntryStruct) (page : ℕ) (l : Leaf) → held_in (entry_view e) page ≡ Some l → l.left ≤ 3
held_low e page l q = by (stands e) refl q
  where
    same : (b : Bool) → leb e.left 3 ≡ true → pick b (Some (leaf_in e)) None ≡ Some l → l.left ≤ 3
    same true h q = subst (λ (x : Leaf). x.left ≤ 3) (same_Some (leaf_in e) l q) (leb-true e.left 3 h)
    same false h q = clash (cc)

    by : (b : Bool) → stands e ≡ b → held_in (pick b (holds e.page (leaf_in e)) empty) page ≡ Some l → l.left ≤ 3
    by true h q = same (eqb e.page page) (and_true (flag e.held) (leb e.left 3) h).1 q
    by false h q = clash (cc)

-- ---- what an entry answers

module _ (r : Regime) (a : Access) (e : Entry) where
  pub answer_none : held_in e (ours.page r a) ≡ None → None ≡ entry_answer ours r a e
  answer_none q = rw q

  pub answer_dirty : (h : Leaf) → held_in e (ours.page r a) ≡ Some h → dirtied_in (judged r h a) ≡ true → None ≡ entry_answer ours r a e
  answer_dirty h q d = rw (q, d)

  pub answer_held : (h : Leaf) → held_in e (ours.page r a) ≡ Some h → dirtied_in (judged r h a) ≡ false → Some (answered (judged r h a) 0) ≡ entry_answer ours r a e
  answer_held h q d = rw (q, d)

-- ---- an access past its checks, by what its entry answers

module _ (r : Regime) (m : List ℕ) (a : Access) where
  -- what an answer of the entry gives: it changes nothing
  abbrev pub hit_with : Reply → Walked
  hit_with reply = record { reply = reply; memory = m; kept = None }

  pub hit_gives : (o : Option Leaf) (reply : Reply) → Some reply ≡ answer_of ours r a o → hit_with reply ≡ access_held ours r m a o
  hit_gives None reply q = clash (cc)
  hit_gives (Some h) reply q = by (dirtied_in (judged r h a)) q
    where
      by : (b : Bool) → Some reply ≡ pick b None (Some (answered (judged r h a) 0)) → hit_with reply ≡ pick b (walked ours r m a) (hit_with (answered (judged r h a) 0))
      by true q = clash (cc)
      by false q = ap hit_with (same_Some reply (answered (judged r h a) 0) q)

  pub walk_gives : (o : Option Leaf) → None ≡ answer_of ours r a o → walked ours r m a ≡ access_held ours r m a o
  walk_gives None q = refl
  walk_gives (Some h) q = by (dirtied_in (judged r h a)) q
    where
      by : (b : Bool) → None ≡ pick b None (Some (answered (judged r h a) 0)) → walked ours r m a ≡ pick b (walked ours r m a) (hit_with (answered (judged r h a) 0))
      by true q = refl
      by false q = clash (cc)

-- a leaf kept in an entry, in the walker's values
pub kept_view : (page : ℕ) (leaf : Leaf) → leaf.left ≤ 3 → entry_view (full_entry page leaf) ≡ holds page leaf
kept_view page leaf h = rw (le-leb leaf.left 3 h)

-- ---- an entry that answers

module _ (r : Regime) (a : Access) (e : EntryStruct) where
  -- the leaf that an entry holds is its own, and stands at a level
  own_leaf : (l : Leaf) → held_in (entry_view e) (ours.page r a) ≡ Some l → l ≡ leaf_in e
  own_leaf l q = by (stands e) q
    where
      same : (b : Bool) → pick b (Some (leaf_in e)) None ≡ Some l → l ≡ leaf_in e
      same true q = sym (same_Some (leaf_in e) l q)
      same false q = clash (cc)

      by : (b : Bool) → held_in (pick b (holds e.page (leaf_in e)) empty) (ours.page r a) ≡ Some l → l ≡ leaf_in e
      by true q = same (eqb e.page (ours.page r a)) q
      by false q = clash (cc)

  -- it answers by its leaf: steps 6 to 8 on it have this kind, and their answer, where it is one, is the entry's
  pub record Answers (kind : HitKind) : Type 0 where
    pub low : e.left ≤ 3
    pub same : hit_kind r a (leaf_in e) ≡ kind
    pub answer : dirtied_in (judged r (leaf_in e) a) ≡ false → Some (reply_of (decision r a (leaf_in e) 0).result) ≡ entry_answer ours r a (entry_view e)

  answers : (l : Leaf) (kind : HitKind) → held_in (entry_view e) (ours.page r a) ≡ Some l → hit_kind r a l ≡ kind → Answers kind
  answers l kind q h =
      let own = own_leaf l q in
      record {
        low = subst (λ (y : Leaf). y.left ≤ 3) own (held_low e (ours.page r a) l q);
        same = subst (λ (y : Leaf). hit_kind r a y ≡ kind) own h;
        answer = λ d. ap (λ (o : Reply). Some o) (reply_decision r a (leaf_in e) 0) ∙ answer_held r a (entry_view e) (leaf_in e) (q ∙ ap (λ (y : Leaf). Some y) own) d;
      }

  pub kind_answers : (kind : HitKind) → (hits.Miss ≡ kind → ⊥) → entry_kind r a (entry_view e) ≡ kind → Answers kind
  kind_answers kind other h = by (held_in (entry_view e) (ours.page r a)) refl h
    where
      by : (x : Option Leaf) → held_in (entry_view e) (ours.page r a) ≡ x → kind_of r a x ≡ kind → Answers kind
      by None q h = absurd (other h)
      by (Some l) q h = answers l kind q h

  pub success_answers : entry_kind r a (entry_view e) ≡ hits.Success → Answers hits.Success × (Some (reply_of (decision r a (leaf_in e) 0).result) ≡ entry_answer ours r a (entry_view e))
  success_answers h =
      let x = kind_answers hits.Success (λ q. clash (cc)) h in
      (x, x.answer (kind_success r a (leaf_in e) x.same))

  pub fault_answers : (kind : FaultKind) → entry_kind r a (entry_view e) ≡ hits.Fault kind → (e.left ≤ 3) × (Some (reply_of (failing (leaf_in e) 0 kind).result) ≡ entry_answer ours r a (entry_view e))
  unfolding judged failing
  fault_answers kind h =
      let x = kind_answers (hits.Fault kind) (λ q. clash (cc)) h in
      let f = kind_fault r a (leaf_in e) kind x.same in
      (x.low, ap (λ (d : Decision). Some (reply_of d.result)) (sym f) ∙ x.answer (ap (λ (d : Decision). dirtied_in d.result) f))

  pub miss_answers : entry_kind r a (entry_view e) ≡ hits.Miss → None ≡ entry_answer ours r a (entry_view e)
  miss_answers h = by (held_in (entry_view e) (ours.page r a)) refl h
    where
      by : (x : Option Leaf) → held_in (entry_view e) (ours.page r a) ≡ x → kind_of r a x ≡ hits.Miss → None ≡ entry_answer ours r a (entry_view e)
      by None q h = answer_none r a (entry_view e) q
      by (Some l) q h = answer_dirty r a (entry_view e) l q (kind_miss r a l h)
