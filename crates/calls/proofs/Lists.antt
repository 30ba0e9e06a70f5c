-- Rule 1 holds of every list of calls, by any functions whose every call it holds of; and so of the functions of a session.
use Prim.Native.Nat.{ℕ}
use mathlib.Core.List.{List, ◌∷◌}
use mathlib.Core.Logic.{◌↔◌}
use Rattle.std.specs.Prelude.{Option, None, Some, Ok, Err}
use mathlib.Core.Path.{◌≡◌, refl, sym, ap, ap₂, subst, subst⁻¹, ◌∙◌}
use lib.ListN.{length, get_or}
use Rattle.descriptor.proofs.Tests.{clash}
use Rattle.vmsa.specs.declared.Regime.{Regime}
use Rattle.vmsa.specs.Answers.{number_of}
use Rattle.vmsa.specs.declared.Refusal.{Refusal}
use Rattle.checks.specs.Order.{Checked}
use Rattle.checks.specs.Order.{first_of, regime_rows, regime_check}
use Rattle.checks.proofs.Accept.{settled}
use Rattle.harvest.specs.Harvest.{Harvested, harvested as harvested_to}
use Rattle.harvest.proofs.Laws.{map_kept}
use Rattle.rules.specs.Rule1.{FirstNumber, Managed}
use Rattle.rules.proofs.Refusals.{refuses_first}
use Rattle.tlb.specs.Replies.{Reply, done, refused, answered, harvested}
use Rattle.tlb.specs.Ours.{ours}
use Rattle.session.specs.declared.Session.{Session as SessionStruct}
use Rattle.session.specs.Model.{Session, Handed, Call, set_regime, access, store, drop_all, harvest, harvest_in}
use Rattle.session.specs.View.{regime_held, leaves, harvest_leaves}
use Rattle.session.proofs.Promises.{set_promise, access_promise, store_promise, drop_promise, harvest_promise, harvest_handed}
use Rattle.calls.specs.Chains.{Event, event, Functions, Leaving, Calling, Chain, none_yet, more, regime_after, regime_from}
use Rattle.calls.specs.Rule1.{rows_of, Reach, Rule1Event, Same, Rule1Call, EachCall, ManagedIn, Reaches, calls, replies, Rule1List, Rule1OfLists}
use Rattle.calls.specs.Code.{Made, regime_set, accessed, stored, dropped_all, harvested_pages, Rule1OfCall, Rule1OfCode, MapKeptOfCode}
use Rattle.calls.proofs.Rule1.{rule_1_call, rule1_leaves}

-- a call's reply, whose refusals are those of its rows
abbrev Refusals : ℕ → Option Regime → Call → Reply → Type 0
Refusals n g c reply = (k : ℕ) → (reply ≡ refused k) ↔ FirstNumber (rows_of n g c) k

-- a regime that is accepted has HA where it has HD
set_managed : (n : ℕ) (g : Option Regime) (r : Regime) (reply : Reply) → ((k : ℕ) → reply ≡ refused k → ⊥) → Refusals n g (set_regime r) reply → Managed r
unfolding regime_check
set_managed n g r reply accepted f = by (first_of (regime_rows n r)) refl
  where
    by : (x : Checked) → first_of (regime_rows n r) ≡ x → Managed r
    by (Ok _) e = (settled n r e).managed
    by (Err x) e = absurd (accepted (number_of x) ((f (number_of x)).1 (x, refuses_first (regime_rows n r) x e, refl)))

after_managed : (n : ℕ) (g : Option Regime) (c : Call) (reply : Reply) → Refusals n g c reply → ManagedIn g → ManagedIn (regime_after c reply g)
after_managed n g (set_regime r) done f h = set_managed n g r done (λ k e. clash (cc)) f
after_managed n g (set_regime r) (refused k) f h = h
after_managed n g (set_regime r) (answered o k) f h = h
after_managed n g (set_regime r) (harvested map) f h = set_managed n g r (harvested map) (λ k e. clash (cc)) f
after_managed n g (access a) reply f h = h
after_managed n g (store address value) reply f h = h
after_managed n g drop_all reply f h = h
after_managed n g (harvest first count map) reply f h = h

module _ {S : Type 0} (regime : S → Option Regime) (F : Functions S) (rule : (s : S) (m : List ℕ) (c : Call) (x : Handed S Reply) → F s m c x → Rule1Call regime F s m c x) (s₀ : S) (m₀ : List ℕ) where
  -- the session's regime is the one last accepted
  pub known : {s : S} {m : List ℕ} {past : List Event} → Chain F s₀ m₀ s m past → regime s ≡ regime_from (regime s₀) past
  known none_yet = refl
  known (more {s = s} {m = m} {c = c} {x = x} before made) = (rule s m c x made).accepted ∙ ap (regime_after c x.reply) (known before)

  each : {s : S} {m : List ℕ} {past : List Event} → Chain F s₀ m₀ s m past → EachCall (regime s₀) past
  each none_yet = tt
  each (more {s = s} {m = m} {c = c} {x = x} before made) =
      (subst (λ (g : Option Regime). Rule1Event g (event c m x)) (known before) (rule s m c x made).shows, each before)

  managed : {s : S} {m : List ℕ} {past : List Event} → Chain F s₀ m₀ s m past → ManagedIn (regime s₀) → ManagedIn (regime s)
  managed none_yet h = h
  managed (more {s = s} {m = m} {c = c} {x = x} before made) h =
      subst⁻¹ ManagedIn (rule s m c x made).accepted (after_managed (length m) (regime s) c x.reply (rule s m c x made).shows.refusals (managed before h))

  long : {s : S} {m : List ℕ} {past : List Event} → Chain F s₀ m₀ s m past → length m ≡ length m₀
  long none_yet = refl
  long (more {s = s} {m = m} {c = c} {x = x} before made) = (rule s m c x made).shows.long ∙ long before

  module _ (At : ℕ → Type 0) where
    reach : {s : S} {m : List ℕ} {past : List Event} → Chain F s₀ m₀ s m past → (c : Call) → ((i : ℕ) → Reach (regime_from (regime s₀) past) c i → At i)
        → (i : ℕ) → Reach (regime s) c i → At i
    reach before c f = subst⁻¹ (λ (g : Option Regime). (i : ℕ) → Reach g c i → At i) (known before) f

    outside : {s : S} {m : List ℕ} {past : List Event} → Chain F s₀ m₀ s m past → Reaches At (regime s₀) past → (i : ℕ) → (At i → ⊥) → get_or m i 0 ≡ get_or m₀ i 0
    outside none_yet f i o = refl
    outside (more {s = s} {m = m} {c = c} {x = x} before made) f i o =
        (rule s m c x made).shows.outside i (λ q. o (reach before c f.0 i q)) ∙ outside before f.1 i o

    unheard : {s : S} {m : List ℕ} {past : List Event} → Chain F s₀ m₀ s m past → Reaches At (regime s₀) past → (n₀ : List ℕ) → Same At m₀ n₀
        → {t : S} {n : List ℕ} {other : List Event} → Chain F s₀ n₀ t n other → calls past ≡ calls other
        → (replies past ≡ replies other) × (s ≡ t) × Same At m n
    unheard none_yet f n₀ h none_yet e = (refl, refl, h)
    unheard none_yet f n₀ h (more before made) e = clash (cc)
    unheard (more before made) f n₀ h none_yet e = clash (cc)
    unheard (more {s = s} {m = m} {past = past} {c = c} {x = x} before made) f n₀ h (more {s = t} {m = n} {past = other} {c = d} {x = y} before' made') e =
        let ce : c ≡ d = cc in
        let le : calls past ≡ calls other = cc in
        let u = unheard before f.1 n₀ h before' le in
        let made'' : F s n c y = subst⁻¹ (λ (k : Call). F s n k y) ce (subst⁻¹ (λ (z : S). F z n d y) u.1 made') in
        let v = (rule s m c x made).unheard At (reach before c f.0) n u.2 y made'' in
        (ap₂ ◌∷◌ v.0 u.0, v.1, v.2)

  pub rule1_list : {s : S} {m : List ℕ} {past : List Event} → Chain F s₀ m₀ s m past → Rule1List regime F s₀ m₀ s m past
  rule1_list chain =
      record {
        each = each chain;
        managed = managed chain;
        long = long chain;
        outside = λ At f. outside At chain f;
        unheard = λ At f n₀ h t n other chain' e. unheard At chain f n₀ h chain' e;
      }

-- ---- the model

pub rule_1 : Rule1OfLists
rule_1 s₀ m₀ s m past chain =
    rule1_list (λ (t : Session). t.regime) Calling
    (λ s m c x e. subst⁻¹ (λ (y : Handed Session Reply). Rule1Call (λ (t : Session). t.regime) Calling s m c y) e (rule_1_call s m c)) s₀ m₀ chain

-- ---- the functions of a session, by their own contracts

made_is : {s : SessionStruct} {m : List ℕ} {c : Call} {x : Handed SessionStruct Reply} → Made s m c x → x ≡ leaves s m c
made_is (regime_set lives s memory r x h) = set_promise lives s memory r x h
made_is (accessed lives s memory a after x h) = access_promise lives s memory a after x h
made_is (stored lives s memory address value after x h) = store_promise lives s memory address value after x h
made_is (dropped_all s after m h) = drop_promise s after h m
made_is (harvested_pages lives s memory first count map after filled x h) =
    harvest_handed s x.session first count memory.now map.now after filled x.reply (harvest_promise lives s memory first count map after filled x h)

pub made_leaves : Leaving Made
made_leaves s m c x made = made_is made

pub rule_1_call_code : Rule1OfCall
rule_1_call_code s m c x made = rule1_leaves Made made_leaves s m c x made

pub rule_1_code : Rule1OfCode
rule_1_code s₀ m₀ s m past chain = rule1_list regime_held Made (rule1_leaves Made made_leaves) s₀ m₀ chain

-- ---- a harvest that is refused leaves its map as it was

pub map_kept_in : (g : Option Regime) (first count : ℕ) (m map : List ℕ) (y : Refusal) → (harvest_in ours g first count m map).reply ≡ Err y → (harvest_in ours g first count m map).map ≡ map
map_kept_in None first count m map y q = refl
map_kept_in (Some r) first count m map y q = map_kept r first count m map y q

pub map_kept_leaves : (s s' : SessionStruct) (first count : ℕ) (m map after filled : List ℕ) (x : Checked) → (s', harvested_to x after filled) ≡ harvest_leaves s first count m map
    → (y : Refusal) → x ≡ Err y → filled ≡ map
map_kept_leaves s s' first count m map after filled x e y q =
    ap (λ (t : SessionStruct × Harvested Checked). t.1.map) e
    ∙ map_kept_in (regime_held s) first count m map y (sym (ap (λ (t : SessionStruct × Harvested Checked). t.1.reply) e) ∙ q)

pub map_kept_code : MapKeptOfCode
map_kept_code lives s memory first count map after filled x h =
    map_kept_leaves s x.session first count memory.now map.now after filled x.reply (harvest_promise lives s memory first count map after filled x h)
