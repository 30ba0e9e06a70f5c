-- The functions, by their own contracts: in a session by value, over a lent session and in C; and the plain ones by value and in C.
use Prim.Native.Nat.{ℕ}
use mathlib.Core.List.{List}
use mathlib.Core.Path.{◌≡◌, refl, sym, ap, ◌∙◌}
use Rattle.vmsa.specs.Answers.{Result}
use Rattle.vmsa.specs.Words.{regime_of}
use Rattle.vmsa.specs.declared.Regime.{Regime}
use Rattle.vmsa.specs.declared.RegimeWords.{RegimeWords}
use Rattle.vmsa.specs.declared.Access.{Access}
use Rattle.checks.specs.Order.{Checked}
use Rattle.std.specs.Prelude.{Ok, Err}
use Rattle.walk.specs.Walk.{Outcome, walk}
use Rattle.walk.proofs.Promises.{walk_promise}
use Rattle.harvest.specs.Harvest.{Harvested, harvest}
use Rattle.harvest.proofs.Laws.{harvest_kept}
use Rattle.tlb.specs.Replies.{Told}
use Rattle.words.specs.declared.AnswerWords.{AnswerWords}
use Rattle.words.specs.Words.{access_of}
use Rattle.calls.proofs.Lists.{made_leaves}
use Rattle.rule3.proofs.Final.{begun_fresh}
use Rattle.rules_lent.proofs.Chains.{made_leaves as lent_leaves}
use Rattle.rules_c.specs.Readings.{result_in}
use Rattle.rules_c.proofs.Numbers.{result_in_lem}
use Rattle.rules_c.proofs.Chains.{made_leaves as c_leaves, empty_fresh}
use Rattle.rules_harvest.proofs.Tied.{harvest_code, harvest_c}
use Rattle.no_page_lost.specs.Code.{NoPageLostOfCode, NoPageLostOfLent, NoPageLostOfC, ReportedOnceOfCode, ReportedOnceOfLent, ReportedOnceOfC, WalkMade, walked, HarvestMade, harvested, HarvestRefused, refused, NoPageLostByCode, WalkMadeC, walked_c, HarvestMadeC, harvested_c, HarvestRefusedC, refused_c, NoPageLostByC}
use Rattle.no_page_lost.proofs.Plain.{no_page_lost_by}
use Rattle.no_page_lost.proofs.Watch.{reported_once_of, no_page_lost_of}

-- ---- in a session

pub no_page_lost_code : NoPageLostOfCode
no_page_lost_code s₀ h = no_page_lost_of _ made_leaves s₀ (begun_fresh s₀ h)

pub no_page_lost_lent : NoPageLostOfLent
no_page_lost_lent s₀ h = no_page_lost_of _ lent_leaves s₀ (begun_fresh s₀ h)

pub no_page_lost_c : NoPageLostOfC
no_page_lost_c s₀ h = no_page_lost_of _ c_leaves s₀ (empty_fresh s₀ h)

pub reported_once_code : ReportedOnceOfCode
reported_once_code s₀ h = reported_once_of _ made_leaves s₀ (begun_fresh s₀ h)

pub reported_once_lent : ReportedOnceOfLent
reported_once_lent s₀ h = reported_once_of _ lent_leaves s₀ (begun_fresh s₀ h)

pub reported_once_c : ReportedOnceOfC
reported_once_c s₀ h = reported_once_of _ c_leaves s₀ (empty_fresh s₀ h)

-- ---- by plain walks and the plain harvest

walks_code : (r : Regime) {a : Access} {m : List ℕ} {o : Result} {n : List ℕ} → WalkMade r a m o n → (o ≡ (walk r a m).result) × (n ≡ (walk r a m).bytes)
walks_code r (walked lives memory a after x h) =
    let e = walk_promise lives memory r a after x h in
    (ap (λ (t : Outcome). t.result) e, ap (λ (t : Outcome). t.bytes) e)

fills_code : (r : Regime) {first count : ℕ} {m map filled : List ℕ} → HarvestMade r first count m map filled
    → ((harvest r first count m map).reply ≡ Ok tt) × (filled ≡ (harvest r first count m map).map)
fills_code r (harvested lives memory first count map after filled h) =
    let e = harvest_code lives memory r first count map after filled (Ok tt) h in
    (sym (ap (λ (t : Harvested Checked). t.reply) e), ap (λ (t : Harvested Checked). t.map) e)

stays_code : (r : Regime) {m n : List ℕ} → HarvestRefused r m n → n ≡ m
stays_code r (refused lives memory first count map after filled y h) =
    let e = harvest_code lives memory r first count map after filled (Err y) h in
    ap (λ (t : Harvested Checked). t.memory) e ∙ harvest_kept r first count memory.now map.now y (sym (ap (λ (t : Harvested Checked). t.reply) e))

pub no_page_lost_by_code : NoPageLostByCode
no_page_lost_by_code r = no_page_lost_by r (WalkMade r) (HarvestMade r) (HarvestRefused r) (λ a m o n w. walks_code r w) (λ m n w. stays_code r w) (λ first count m map filled w. fills_code r w)

walks_c : (g : RegimeWords) {a : Access} {m : List ℕ} {o : Result} {n : List ℕ} → WalkMadeC g a m o n → (o ≡ (walk (regime_of g) a m).result) × (n ≡ (walk (regime_of g) a m).bytes)
walks_c g (walked_c m a m' w h) =
    (ap (λ (t : Told AnswerWords). result_in t.reply) h ∙ result_in_lem (walk (regime_of g) (access_of a) m).result, ap (λ (t : Told AnswerWords). t.memory) h)

fills_c : (g : RegimeWords) {first count : ℕ} {m map filled : List ℕ} → HarvestMadeC g first count m map filled
    → ((harvest (regime_of g) first count m map).reply ≡ Ok tt) × (filled ≡ (harvest (regime_of g) first count m map).map)
fills_c g (harvested_c m first count map m' map' h) = let e = harvest_c m g first count map m' map' 0 h in (e.accepted.0 refl, e.map_left)

stays_c : (g : RegimeWords) {m n : List ℕ} → HarvestRefusedC g m n → n ≡ m
stays_c g (refused_c m first count map m' map' n z h) =
    let e = harvest_c m g first count map m' map' n h in
    let x = (e.refused n).0 (refl, z) in
    e.memory ∙ harvest_kept (regime_of g) first count m map x.0 x.1

pub no_page_lost_by_c : NoPageLostByC
no_page_lost_by_c g = no_page_lost_by (regime_of g) (WalkMadeC g) (HarvestMadeC g) (HarvestRefusedC g) (λ a m o n w. walks_c g w) (λ m n w. stays_c g w) (λ first count m map filled w. fills_c g w)
