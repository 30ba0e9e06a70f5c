-- The functions that a monitor calls do what the rules say of an offer, by their own contracts; so the promises are theirs.
use Prim.Native.Nat.{ℕ, ◌%◌, ◌<◌}
use mathlib.Core.Bool.{Bool, true, false}
use mathlib.Core.List.{List}
use mathlib.Core.Path.{◌≡◌, refl, sym, ap, subst, ◌∙◌}
use native.Mathlib.Nat.{mod-eq_of_lt, mod-lt}
use lib.Dec.{lit<}
use Rattle.descriptor.specs.Bits.{pick}
use Rattle.descriptor.proofs.Tests.{clash}
use Rattle.vmsa.specs.Words.{flag, regime_of, regime_spare0}
use Rattle.vmsa.specs.Fields.{sum_count}
use Rattle.vmsa.specs.Answers.{Result, number_of}
use Rattle.vmsa.proofs.Tables.{sum_below}
use Rattle.vmsa.specs.declared.RegimeWords.{RegimeWords}
use Rattle.vmsa.specs.declared.Refusal.TheVariants.{WalkEnded}
use Rattle.checks.specs.Order.{Checked}
use Rattle.std.specs.Prelude.{Ok, Err, Option, Some, None}
use Rattle.checks.specs.Order.{start_check}
use Rattle.lookup.specs.Steps.{First}
use Rattle.lookup.specs.Steps.{first_table}
use Rattle.tlb.specs.Replies.{Told}
use Rattle.stepwise.specs.declared.Wanting.{Wanting}
use Rattle.stepwise.specs.declared.Stepwise.{Stepwise}
use Rattle.stepwise.specs.declared.Stepwise.TheVariants as stepwise
use Rattle.stepwise.specs.declared.Offered.{Offered}
use Rattle.stepwise.specs.Stepwise.{Ended, Progress, wanting, ended, begun, started, start, offered, seen, Takes}
use Rattle.words.specs.declared.AccessWords.{AccessWords}
use Rattle.words.specs.declared.AnswerWords.{AnswerWords}
use Rattle.words.specs.Words.{access_of, access_spare0, words_of}
use Rattle.step_words.specs.declared.StepwiseWords.{StepwiseWords}
use Rattle.step_words.specs.Words.{wanting_of, end_words, progress_words, OfferedWords, offer_gives, offer_words}
use Rattle.rules_c.proofs.Numbers.{result_in_lem}
use Rattle.rules_stepwise.specs.Feeds.{Offer, Offering, Fed, none_yet, more}
use Rattle.rules_stepwise.specs.Code.{reply_number, Made, valued, unreached, EndsOfCode, WalksOfCode, end_in, walk_in, MadeC, valued_c, unreached_c, EndsOfC, WalksOfC, StartedOfC, SpareOfStart}
use Rattle.rules_stepwise.proofs.Lefts.{Left, refused, aborted, faulted, deeper, reached, left_by_lem}
use Rattle.rules_stepwise.proofs.Promises.{ends, walks}
use Rattle.stepwise.specs.declared.Update.{Update}

-- ---- by value

takes_goes : (s : Stepwise) (o : Option ℕ) (x : Offered) → Takes s o x → (w : Wanting) → seen s ≡ wanting w → (seen x.walk ≡ offered w o) × (reply_number x.reply ≡ 0)
takes_goes (stepwise.Wanting v) o x h w q = let e : v ≡ w = cc in (h.0 ∙ ap (λ (k : Wanting). offered k o) e, ap reply_number h.1)
takes_goes (stepwise.Ended c) o x h w q = clash (cc)

takes_late : (s : Stepwise) (o : Option ℕ) (x : Offered) → Takes s o x → (e : Ended) → seen s ≡ ended e → (x.walk ≡ s) × (reply_number x.reply ≡ number_of WalkEnded)
takes_late (stepwise.Wanting v) o x h e q = clash (cc)
takes_late (stepwise.Ended c) o x h e q = (ap (λ (y : Offered). y.walk) h, ap (λ (y : Offered). reply_number y.reply) h)

made_offering : Offering seen Made
made_offering = record { goes = goes; late = late }
  where
    goes : (s : Stepwise) (o : Option ℕ) (t : Stepwise) (n : ℕ) → Made s o t n → (w : Wanting) → seen s ≡ wanting w → (seen t ≡ offered w o) × (n ≡ 0)
    goes _ _ _ _ (valued s v x h) w q = takes_goes s (Some v) x h w q
    goes _ _ _ _ (unreached s x h) w q = takes_goes s None x h w q

    late : (s : Stepwise) (o : Option ℕ) (t : Stepwise) (n : ℕ) → Made s o t n → (e : Ended) → seen s ≡ ended e → (t ≡ s) × (n ≡ number_of WalkEnded)
    late _ _ _ _ (valued s v x h) e q = takes_late s (Some v) x h e q
    late _ _ _ _ (unreached s x h) e q = takes_late s None x h e q

pub ends_code : EndsOfCode
ends_code = ends seen Made made_offering

pub walks_code : WalksOfCode
walks_code r a s h = walks seen Made made_offering r a s h

-- ---- in C's numbers: a walk is read back from them

-- a walk that was started with g and a
abbrev Of : RegimeWords → AccessWords → Progress → Type 0
Of g a (wanting v) = (v.regime ≡ regime_of g) × (v.access ≡ access_of a) × (v.tables < sum_count)
Of g a (ended e) = Unit {0}

read_wanting : (g : RegimeWords) (a : AccessWords) (v : Wanting) → Of g a (wanting v) → walk_in (progress_words g a (wanting v)) ≡ wanting v
unfolding walk_in progress_words wanting_of
read_wanting g a v h =
    let t : v.tables % sum_count ≡ v.tables = mod-eq_of_lt h.2 in
    λ i. wanting (record { regime = sym h.0 i; access = sym h.1 i; address = v.address; left = v.left; tables = t i })

read_end : (g : RegimeWords) (a : AccessWords) (result : Result) (d : Option Update) → walk_in (end_words g a result d) ≡ ended (record { result = result; due = d })
unfolding walk_in
read_end g a result None = λ i. ended (record { result = result_in_lem result i; due = None })
read_end g a result (Some u) = λ i. ended (record { result = result_in_lem result i; due = Some u })

read_back : (g : RegimeWords) (a : AccessWords) (p : Progress) → Of g a p → walk_in (progress_words g a p) ≡ p
unfolding progress_words
read_back g a (wanting v) h = read_wanting g a v h
read_back g a (ended e) h = read_end g a e.result e.due

-- what a start and an offer leave

of_first : (g : RegimeWords) (a : AccessWords) (f : First) → Of (regime_spare0 g) (access_spare0 a) (begun (regime_of g) (access_of a) f)
unfolding regime_of access_of
of_first g a (Err kind) = tt
of_first g a (Ok root) = (refl, refl, lit< tt)

of_started : (g : RegimeWords) (a : AccessWords) (x : Checked) → Of (regime_spare0 g) (access_spare0 a) (started (regime_of g) (access_of a) x)
of_started g a (Err x) = tt
of_started g a (Ok _) = of_first g a (first_table (regime_of g) (access_of a).address.0)

of_start : (g : RegimeWords) (a : AccessWords) → Of (regime_spare0 g) (access_spare0 a) (start (regime_of g) (access_of a))
unfolding start
of_start g a = of_started g a (start_check (regime_of g) (access_of a))

of_left : (w : StepwiseWords) (o : Option ℕ) (p : Progress) → Left (wanting_of w) o p → Of w.regime w.access p
unfolding wanting_of
of_left w o p (refused x c) = tt
of_left w o p (aborted c e) = tt
of_left w o p (faulted c v e kind d) = tt
of_left w o p (reached c v e d) = tt
of_left w o p (deeper c v e table d) = (refl, refl, sum_below (w.tables % sum_count) v (mod-lt w.tables (lit< tt)))

-- by whether it has ended

says_goes : (w : StepwiseWords) (o : Option ℕ) (x : OfferedWords) → x ≡ offer_words w o → (b : Bool) → flag w.ended ≡ b → (v : Wanting) → walk_in w ≡ wanting v → (walk_in x.walk ≡ offered v o) × (x.refusal ≡ 0)
unfolding walk_in
says_goes w o x h true e v q = clash (let z : ended (end_in w) ≡ wanting v = sym (ap (λ (b : Bool). pick b (ended (end_in w)) (wanting (wanting_of w))) e) ∙ q in cc)
says_goes w o x h false e v q =
    let p = offered (wanting_of w) o in
    let k : x ≡ offer_gives 0 (progress_words w.regime w.access p) = h ∙ ap (λ (b : Bool). pick b (offer_gives (number_of WalkEnded) w) (offer_gives 0 (progress_words w.regime w.access p))) e in
    let z : wanting (wanting_of w) ≡ wanting v = sym (ap (λ (b : Bool). pick b (ended (end_in w)) (wanting (wanting_of w))) e) ∙ q in
    let y : wanting_of w ≡ v = cc in (
      ap (λ (t : OfferedWords). walk_in t.walk) k ∙ read_back w.regime w.access p (of_left w o p (left_by_lem (wanting_of w) o)) ∙ ap (λ (n : Wanting). offered n o) y,
      ap (λ (t : OfferedWords). t.refusal) k,
    )

says_late : (w : StepwiseWords) (o : Option ℕ) (x : OfferedWords) → x ≡ offer_words w o → (b : Bool) → flag w.ended ≡ b → (n : Ended) → walk_in w ≡ ended n → (x.walk ≡ w) × (x.refusal ≡ number_of WalkEnded)
unfolding walk_in
says_late w o x h false e n q = clash (let z : wanting (wanting_of w) ≡ ended n = sym (ap (λ (b : Bool). pick b (ended (end_in w)) (wanting (wanting_of w))) e) ∙ q in cc)
says_late w o x h true e n q =
    let p = offered (wanting_of w) o in
    let k : x ≡ offer_gives (number_of WalkEnded) w = h ∙ ap (λ (b : Bool). pick b (offer_gives (number_of WalkEnded) w) (offer_gives 0 (progress_words w.regime w.access p))) e in
    (ap (λ (t : OfferedWords). t.walk) k, ap (λ (t : OfferedWords). t.refusal) k)

made_offering_c : Offering walk_in MadeC
made_offering_c = record { goes = goes; late = late }
  where
    goes : (s : StepwiseWords) (o : Option ℕ) (t : StepwiseWords) (n : ℕ) → MadeC s o t n → (w : Wanting) → walk_in s ≡ wanting w → (walk_in t ≡ offered w o) × (n ≡ 0)
    goes _ _ _ _ (valued_c s v t n h) w q = says_goes s (Some v) (offer_gives n t) h (flag s.ended) refl w q
    goes _ _ _ _ (unreached_c s t n h) w q = says_goes s None (offer_gives n t) h (flag s.ended) refl w q

    late : (s : StepwiseWords) (o : Option ℕ) (t : StepwiseWords) (n : ℕ) → MadeC s o t n → (e : Ended) → walk_in s ≡ ended e → (t ≡ s) × (n ≡ number_of WalkEnded)
    late _ _ _ _ (valued_c s v t n h) e q = says_late s (Some v) (offer_gives n t) h (flag s.ended) refl e q
    late _ _ _ _ (unreached_c s t n h) e q = says_late s None (offer_gives n t) h (flag s.ended) refl e q

pub ends_c : EndsOfC
ends_c = ends walk_in MadeC made_offering_c

pub walks_c : WalksOfC
walks_c g a w h =
    walks walk_in MadeC made_offering_c (regime_of g) (access_of a) w (ap walk_in h ∙ read_back (regime_spare0 g) (access_spare0 a) (start (regime_of g) (access_of a)) (of_start g a))

-- ---- every number of the walk, and vmsa_walk beside it

-- its numbers are those of what C reads in it
abbrev Settled : RegimeWords → AccessWords → StepwiseWords → Type 0
Settled g a t = t ≡ progress_words g a (walk_in t)

settled_by : (g : RegimeWords) (a : AccessWords) (p : Progress) (t : StepwiseWords) → Of g a p → t ≡ progress_words g a p → Settled g a t
settled_by g a p t h e = e ∙ ap (progress_words g a) (sym (ap walk_in e ∙ read_back g a p h))

-- a walk keeps the regime and the access that it has
kept : (g : RegimeWords) (a : AccessWords) (p : Progress) → ((progress_words g a p).regime ≡ g) × ((progress_words g a p).access ≡ a)
unfolding progress_words
kept g a (wanting v) = (refl, refl)
kept g a (ended e) = by e.due
  where
    by : (d : Option Update) → ((end_words g a e.result d).regime ≡ g) × ((end_words g a e.result d).access ≡ a)
    by None = (refl, refl)
    by (Some u) = (refl, refl)

settled_offer : (g : RegimeWords) (a : AccessWords) (w : StepwiseWords) (o : Option ℕ) (x : OfferedWords) → Settled g a w → x ≡ offer_words w o → Settled g a x.walk
settled_offer g a w o x h e = by (flag w.ended) refl
  where
    same : (w.regime ≡ g) × (w.access ≡ a)
    same = (ap (λ (t : StepwiseWords). t.regime) h ∙ (kept g a (walk_in w)).0, ap (λ (t : StepwiseWords). t.access) h ∙ (kept g a (walk_in w)).1)

    is : (b : Bool) → flag w.ended ≡ b → x ≡ pick b (offer_gives (number_of WalkEnded) w) (offer_gives 0 (progress_words w.regime w.access (offered (wanting_of w) o)))
    is b k = e ∙ ap (λ (y : Bool). pick y (offer_gives (number_of WalkEnded) w) (offer_gives 0 (progress_words w.regime w.access (offered (wanting_of w) o)))) k

    by : (b : Bool) → flag w.ended ≡ b → Settled g a x.walk
    by true k = subst (λ (t : StepwiseWords). Settled g a t) (sym (ap (λ (y : OfferedWords). y.walk) (is true k))) h
    by false k =
        subst (λ (v : RegimeWords). Settled v a x.walk) same.0 (subst (λ (v : AccessWords). Settled w.regime v x.walk) same.1
        (settled_by w.regime w.access (offered (wanting_of w) o) x.walk (of_left w o (offered (wanting_of w) o) (left_by_lem (wanting_of w) o)) (ap (λ (y : OfferedWords). y.walk) (is false k))))

settled_made : (g : RegimeWords) (a : AccessWords) (s : StepwiseWords) (o : Option ℕ) (t : StepwiseWords) (n : ℕ) → Settled g a s → MadeC s o t n → Settled g a t
settled_made g a _ _ _ _ h (valued_c s v t n k) = settled_offer g a s (Some v) (offer_gives n t) h k
settled_made g a _ _ _ _ h (unreached_c s t n k) = settled_offer g a s None (offer_gives n t) h k

settled_fed : (g : RegimeWords) (a : AccessWords) {s t : StepwiseWords} {offers : List Offer} → Settled g a s → Fed walk_in MadeC s offers t → Settled g a t
settled_fed g a h none_yet = h
settled_fed g a h (more {s = s} {t = t} {n = n} {o = o} k f rest) = settled_fed g a (settled_made g a s o t n h f) rest

-- the answer of a walk that has ended
answer_is : (g : RegimeWords) (a : AccessWords) (e : Ended) → (progress_words g a (ended e)).answer ≡ words_of e.result
unfolding progress_words
answer_is g a e = by e.due
  where
    by : (d : Option Update) → (end_words g a e.result d).answer ≡ words_of e.result
    by None = refl
    by (Some u) = refl

pub started_c : StartedOfC
started_c g a w h = record {
  numbers = numbers;
  walked = λ m k l t offers f z e q m' x s.
      let p = (walks_c g a w h).pool m k l t offers f z e q in
      let y : t.answer ≡ words_of e.result = ap (λ (v : StepwiseWords). v.answer) (numbers t offers f ∙ ap (progress_words (regime_spare0 g) (access_spare0 a)) q) ∙ answer_is (regime_spare0 g) (access_spare0 a) e in
      (y ∙ ap words_of (sym p.0) ∙ sym (ap (λ (v : Told AnswerWords). v.reply) s), ap (λ (v : Told AnswerWords). v.memory) s ∙ p.1);
}
  where
    numbers : (t : StepwiseWords) (offers : List Offer) → Fed walk_in MadeC w offers t → t ≡ progress_words (regime_spare0 g) (access_spare0 a) (walk_in t)
    numbers t offers f = settled_fed (regime_spare0 g) (access_spare0 a) (settled_by (regime_spare0 g) (access_spare0 a) (start (regime_of g) (access_of a)) w (of_start g a) h) f

-- ---- spare numbers of a start

same_regime : (g : RegimeWords) → regime_of (regime_spare0 g) ≡ regime_of g
unfolding regime_of
same_regime g = refl

same_access : (a : AccessWords) → access_of (access_spare0 a) ≡ access_of a
unfolding access_of
same_access a = refl

pub spare_start : SpareOfStart
spare_start g h a b e f w x k l =
    let r : regime_of g ≡ regime_of h = sym (same_regime g) ∙ ap regime_of e ∙ same_regime h in
    let c : access_of a ≡ access_of b = sym (same_access a) ∙ ap access_of f ∙ same_access b in
    k ∙ (λ i. progress_words (e i) (f i) (start (r i) (c i))) ∙ sym l
