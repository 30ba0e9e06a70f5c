-- Rules 1 and 2 of vmsa_walk.
use Prim.Native.Nat.{ℕ, ◌≤◌}
use mathlib.Core.List.{List}
use mathlib.Core.Logic.{◌≢◌}
use mathlib.Core.Path.{◌≡◌, refl, sym, ap, subst⁻¹, ◌∙◌}
use lib.ListN.{length}
use Rattle.vmsa.specs.Answers.{Result, success, fault, refused}
use Rattle.vmsa.specs.Words.{regime_of}
use Rattle.vmsa.specs.declared.Regime.{Regime}
use Rattle.vmsa.specs.declared.RegimeWords.{RegimeWords}
use Rattle.vmsa.specs.declared.Access.{Access}
use Rattle.std.specs.Prelude.{Ok}
use Rattle.checks.specs.Order.{walk_check}
use Rattle.walk.specs.Walk.{Outcome, walk, pool_bytes}
use Rattle.rules.specs.Orders.{other_order, swapped_pool}
use Rattle.rules.specs.Tables.{trace_of}
use Rattle.rules.proofs.Rule1.{rule1}
use Rattle.rules.proofs.Rule2.{rule2}
use Rattle.tlb.specs.Replies.{Told, told}
use Rattle.words.specs.declared.AccessWords.{AccessWords}
use Rattle.words.specs.declared.AnswerWords.{AnswerWords}
use Rattle.words.specs.Words.{access_of, words_of, walk_words}
use Rattle.rules_c.specs.Readings.{success_in, fault_in}
use Rattle.rules_c.specs.RulesC.{WalkRules, WalkOfC}
use Rattle.rules_c.proofs.Numbers.{of_success, is_success, of_fault, is_fault, is_refused, of_refused}

module _ (m : List ℕ) (g : RegimeWords) (a : AccessWords) where
  abbrev R : Regime
  R = regime_of g

  abbrev A : Access
  A = access_of a

  abbrev x : Result
  x = (walk R A m).result

  abbrev w : AnswerWords
  w = words_of x

  succeeded : w.tag ≡ 0 → x ≡ success (success_in w)
  succeeded t = of_success w x refl t

  unrefused : w.tag ≢ 2 → (k : ℕ) → x ≢ refused k
  unrefused t k e = t (is_refused x k e).0

  -- one that is not refused was accepted
  accepted : w.tag ≢ 2 → walk_check (length m) R A ≡ Ok tt
  accepted t = (rule1.accepted R A m).1 (unrefused t)

  reads_of : (y : Result) → x ≡ y → (words_of y).tag ≢ 2 → ((words_of y).reads ≡ length (trace_of R A m).visited) × ((words_of y).reads ≤ 4)
  unfolding words_of
  reads_of (success s) e t = rule2.success_reads R A m s e
  reads_of (fault f) e t = rule2.fault_reads R A m f e
  reads_of (refused n) e t = absurd (t refl)

  rules : WalkRules m g a (walk R A m).bytes w
  rules =
      record {
        refusals = λ k. (
          λ p. (rule1.refusals R A m k).0 (of_refused x p.0 ∙ ap refused p.1),
          λ f. is_refused x k ((rule1.refusals R A m k).1 f),
        );
        kept = λ t. rule1.kept R A m w.refusal (of_refused x t);
        managed = λ t. rule1.managed R A m (unrefused t);
        long = rule1.long R A m;
        outside = rule1.outside R A m;
        unheard = λ n n' y h q p.
            let u = rule1.unheard R A m n q p in
            (ap words_of u.0 ∙ sym (ap (λ (t : Told AnswerWords). t.reply) h), u.1 ∙ ap (λ (t : Told AnswerWords). pool_bytes R.pool t.memory) (sym h));
        still_bytes = rule1.bytes R A m;
        succeeds = λ c. (
          λ t. (rule2.succeeds R A m (accepted c)).0 (success_in w, succeeded t),
          λ p. let s = (rule2.succeeds R A m (accepted c)).1 p in is_success x s.0 s.1,
        );
        faults = λ c k l p.
            let f = rule2.faults R A m (accepted c) k l p in
            let i = is_fault x f.0 f.1 in
            (i.0, i.1 ∙ f.2, i.2 ∙ f.3, f.4);
        placed = λ c l. rule2.placed R A m (accepted c) l;
        leaf = λ t. rule2.leaf R A m (success_in w) (succeeded t);
        right = λ t l. rule2.right R A m (success_in w) (succeeded t) l;
        below = λ t. rule2.below R A m (success_in w) (succeeded t);
        bytes = λ t b l. (rule2.marked R A m (success_in w) (succeeded t) b l).bytes;
        bits = λ t b l. (rule2.marked R A m (success_in w) (succeeded t) b l).bits;
        marks = λ t b l. ((rule2.marked R A m (success_in w) (succeeded t) b l).flag, (rule2.marked R A m (success_in w) (succeeded t) b l).dirty);
        probe = λ t b l. (rule2.marked R A m (success_in w) (succeeded t) b l).probe;
        accessed = λ t b l. (rule2.marked R A m (success_in w) (succeeded t) b l).accessed;
        cacheable = λ t b l. (rule2.marked R A m (success_in w) (succeeded t) b l).cacheable;
        faults_cacheable = λ t. rule2.fault_cacheable R A m (fault_in w) (of_fault w x refl t);
        written = λ t b k l. rule2.written R A m (success_in w) (succeeded t) b k l;
        bare = λ h. let e = rule2.bare R A m h in (ap (λ (o : Outcome). words_of o.result) e, ap (λ (o : Outcome). o.bytes) e);
        sum = rule2.sum R A m;
        read_only = λ t h. rule2.read_only R A m (success_in w) (succeeded t) h;
        orders = λ h n' y e s.
            let o = rule2.orders R A m in
            let k : told y n' ≡ walk_words (other_order R) A (swapped_pool R.pool m) = s ∙ ap (λ (r : Regime). walk_words r A (swapped_pool R.pool m)) e in (
              sym (ap (λ (t : Told AnswerWords). t.reply) k ∙ ap (λ (p : Outcome). words_of p.result) o),
              ap (λ (t : Told AnswerWords). t.memory) k ∙ ap (λ (p : Outcome). p.bytes) o,
            );
        reads = λ t. reads_of x refl t;
      }

pub walk_rules : WalkOfC
walk_rules m g a m' w h = subst⁻¹ (λ (t : Told AnswerWords). WalkRules m g a t.memory t.reply) h (rules m g a)
