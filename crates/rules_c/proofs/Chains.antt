-- Rules 1 and 3 of the C functions of a session: any call, and every list of calls.
use Prim.Native.Nat.{ℕ}
use mathlib.Core.List.{List}
use mathlib.Core.Path.{◌≡◌, refl, ap, ◌∙◌}
use Rattle.vmsa.specs.Words.{regime_of}
use Rattle.checks.specs.Order.{Checked}
use Rattle.std.specs.Prelude.{Ok, Err}
use Rattle.harvest.specs.Harvest.{Harvested}
use Rattle.tlb.specs.Replies.{Reply, done, reply_to}
use Rattle.session.specs.declared.Session.{Session as SessionStruct}
use Rattle.session.specs.Model.{fresh, Handed, handed, Call, set_regime, access, store, harvest}
use Rattle.session.specs.View.{session_view, regime_held, emptied_after, harvest_of, leaves}
use Rattle.words.specs.declared.AnswerWords.{AnswerWords}
use Rattle.words.specs.Words.{access_of, refusal_byte, reply_words, replied}
use Rattle.capi_session.specs.Says.{EmptySays}
use Rattle.capi_harvest.specs.Says.{SessionHarvestSays}
use Rattle.calls.specs.Chains.{Leaving}
use Rattle.calls.proofs.Rule1.{rule1_leaves}
use Rattle.calls.proofs.Lists.{rule1_list, map_kept_in}
use Rattle.rule3.proofs.Final.{rule_3_of}
use Rattle.rules_c.specs.Readings.{answer_reply, number_reply, harvest_read}
use Rattle.rules_c.specs.Code.{MadeC, regime_set, accessed, stored, dropped_all, harvested_pages, Rule1OfCallC, Rule1OfC, Rule3OfC, MapKeptOfC}
use Rattle.rules_c.proofs.Numbers.{access_read, set_read, store_read, harvest_read_lem}

module _ (s : SessionStruct) (m : List ℕ) (c : Call) (s' : SessionStruct) (m' : List ℕ) where
  by_number : (n : ℕ) → number_reply (refusal_byte (leaves s m c).reply) ≡ (leaves s m c).reply → handed s' m' n ≡ replied refusal_byte (leaves s m c)
      → handed s' m' (number_reply n) ≡ leaves s m c
  by_number n d h =
      ap (λ (x : Handed SessionStruct ℕ). handed x.session x.memory (number_reply x.reply)) h ∙ ap (λ (y : Reply). handed (leaves s m c).session (leaves s m c).memory y) d

  by_answer : (w : AnswerWords) → answer_reply (reply_words (leaves s m c).reply) ≡ (leaves s m c).reply → handed s' m' w ≡ replied reply_words (leaves s m c)
      → handed s' m' (answer_reply w) ≡ leaves s m c
  by_answer w d h =
      ap (λ (x : Handed SessionStruct AnswerWords). handed x.session x.memory (answer_reply x.reply)) h ∙ ap (λ (y : Reply). handed (leaves s m c).session (leaves s m c).memory y) d

-- a harvest, with its map
module _ (s : SessionStruct) (m : List ℕ) (first count : ℕ) (map : List ℕ) (s' : SessionStruct) (m' map' : List ℕ) (n : ℕ) (h : SessionHarvestSays s m first count map s' m' map' n) where
  abbrev x : Harvested Checked
  x = harvest_of s first count m map

  by_map : handed s' m' (harvest_read n map') ≡ leaves s m (harvest first count map)
  by_map =
      ap (λ (y : SessionStruct × Harvested ℕ). handed y.0 y.1.memory (harvest_read y.1.reply y.1.map)) h
      ∙ ap (λ (y : Reply). handed (emptied_after s x.reply) x.memory y) (harvest_read_lem x.reply x.map)

  map_kept : (n ≡ 0 → ⊥) → map' ≡ map
  map_kept nonzero = ap (λ (y : SessionStruct × Harvested ℕ). y.1.map) h ∙ by x.reply refl
    where
      by : (c : Checked) → x.reply ≡ c → x.map ≡ map
      by (Ok _) e = absurd (nonzero (ap (λ (y : SessionStruct × Harvested ℕ). y.1.reply) h ∙ ap (λ (c : Checked). refusal_byte (reply_to c)) e))
      by (Err y) e = map_kept_in (regime_held s) first count m map y e

-- any call of the C functions, by its own contract, leaves what `leaves` says
pub made_is : {s : SessionStruct} {m : List ℕ} {c : Call} {x : Handed SessionStruct Reply} → MadeC s m c x → x ≡ leaves s m c
made_is (regime_set s m g s' m' n h) = by_number s m (set_regime (regime_of g)) s' m' n (set_read (session_view s) m (regime_of g)) h
made_is (accessed s m a s' m' w h) = by_answer s m (access (access_of a)) s' m' w (access_read (session_view s) m (access_of a)) h
made_is (stored s m address value s' m' n h) = by_number s m (store address value) s' m' n (store_read (session_view s) m address value) h
made_is (dropped_all s s' m h) = ap (λ (t : SessionStruct). handed t m done) h
made_is (harvested_pages s m first count map s' m' map' n h) = by_map s m first count map s' m' map' n h

pub made_leaves : Leaving MadeC
made_leaves s m c x made = made_is made

pub empty_fresh : (s : SessionStruct) → EmptySays s → session_view s ≡ fresh
empty_fresh s h = ap session_view h

-- ---- rule 1, and rule 3

pub rule_1_call_c : Rule1OfCallC
rule_1_call_c s m c x made = rule1_leaves MadeC made_leaves s m c x made

pub rule_1_c : Rule1OfC
rule_1_c s₀ m₀ s m past chain = rule1_list regime_held MadeC (rule1_leaves MadeC made_leaves) s₀ m₀ chain

pub rule_3_c : Rule3OfC
rule_3_c s₀ h = rule_3_of MadeC made_leaves s₀ (empty_fresh s₀ h)

-- ---- a harvest that is refused leaves its map as it was

pub map_kept_c : MapKeptOfC
map_kept_c s m first count map s' m' map' n h nonzero = map_kept s m first count map s' m' map' n h nonzero
