-- Every call of the function harvest::harvest and of the C function vmsa_harvest is a `harvest`, of which rule 1 and the promises are proved.
use Prim.Native.Nat.{ℕ}
use mathlib.Core.Path.{◌≡◌, refl, sym, ap, ◌∙◌}
use borrow.Author.Tests.{eqb-false}
use Rattle.vmsa.specs.Answers.{number_of}
use Rattle.vmsa.specs.Words.{regime_of}
use Rattle.vmsa.specs.declared.Refusal.{Refusal}
use Rattle.checks.specs.Order.{Checked}
use Rattle.std.specs.Prelude.{Ok, Err}
use Rattle.tlb.specs.Replies.{reply_to}
use Rattle.harvest.specs.Harvest.{Harvested, harvest}
use Rattle.words.specs.Words.{refusal_byte}
use Rattle.words.proofs.Reply.{not_zero}
use Rattle.rules_harvest.specs.Harvest.{RefusedWith}
use Rattle.rules_harvest.specs.Code.{HarvestOfCode, HarvestFree, HarvestOfC}

pub harvest_code : HarvestOfCode
harvest_code lives memory r first count map after filled x h = h

pub harvest_free : HarvestFree
harvest_free lives memory r first count map = tt

-- ---- the number that the C function returns

number_not_zero : (x : Refusal) → number_of x ≡ 0 → ⊥
number_not_zero x = eqb-false (number_of x) 0 (not_zero x)

abbrev number_for : Checked → ℕ
number_for c = refusal_byte (reply_to c)

zero_accepted : (c : Checked) → number_for c ≡ 0 → c ≡ Ok tt
zero_accepted (Ok _) e = refl
zero_accepted (Err x) e = absurd (number_not_zero x e)

number_refused : (c : Checked) (k : ℕ) → number_for c ≡ k → (k ≡ 0 → ⊥) → RefusedWith k c
number_refused (Ok _) k e z = absurd (z (sym e))
number_refused (Err x) k e z = (x, refl, e)

refused_number : (c : Checked) (k : ℕ) → RefusedWith k c → (number_for c ≡ k) × (k ≡ 0 → ⊥)
refused_number c k w = (ap number_for w.1 ∙ w.2, λ z. number_not_zero w.0 (w.2 ∙ z))

pub harvest_c : HarvestOfC
harvest_c m g first count map after filled n h =
    let c = (harvest (regime_of g) first count m map).reply in
    let e : n ≡ number_for c = ap (λ (x : Harvested ℕ). x.reply) h in
    record {
      memory = ap (λ (x : Harvested ℕ). x.memory) h;
      map_left = ap (λ (x : Harvested ℕ). x.map) h;
      accepted = (λ z. zero_accepted c (sym e ∙ z), λ a. e ∙ ap number_for a);
      refused = λ k. (λ z. number_refused c k (sym e ∙ z.0) z.1, λ w. let q = refused_number c k w in (e ∙ q.0, q.1));
    }
