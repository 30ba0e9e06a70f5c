-- The promises of a harvest (specs/Harvest.antt) speak of `harvest`. These are every call of the function harvest::harvest and of the C function vmsa_harvest, by what their own contracts tell.
use Rattle.std.specs.Prelude.{ℕ, List, ◌↔◌, ◌≢◌, ◌≡◌, Ok}
use contract.Lifetimes.{Lfts}
use denote.Ref.{MutBor, at_last}
use Rattle.vmsa.specs.Words.{regime_of}
use Rattle.vmsa.specs.declared.Regime.{Regime}
use Rattle.vmsa.specs.declared.RegimeWords.{RegimeWords}
use Rattle.checks.specs.Order.{Checked}
use Rattle.harvest.specs.Harvest.{harvested, harvest}
use Rattle.harvest.proofs.harvest.Reads.{Learnt, Asked}
use Rattle.capi_harvest.specs.Says.{HarvestSays}
use Rattle.rules_harvest.specs.Harvest.{RefusedWith}

-- called with the memory, the regime r, the pages and the map, it returned x and left the memory at after and the map at filled
abbrev pub HarvestOfCode : Type 0
HarvestOfCode = (lives : Lfts 2) (memory : MutBor (List ℕ)) (r : Regime) (first count : ℕ) (map : MutBor (List ℕ)) (after filled : List ℕ) (x : Checked)
    → Learnt lives (memory, (r, (first, (count, (map, tt))))) x (at_last memory after, (r, (first, (count, (at_last map filled, tt)))))
    → harvested x after filled ≡ harvest r first count memory.now map.now

-- and asked nothing of its caller
abbrev pub HarvestFree : Type 0
HarvestFree = (lives : Lfts 2) (memory : MutBor (List ℕ)) (r : Regime) (first count : ℕ) (map : MutBor (List ℕ)) → Asked lives (memory, (r, (first, (count, (map, tt)))))

-- in C: the memory and the map that it left, and the number that it returned, 0 exactly where the harvest is accepted and else that of the refusal
pub record SaysHarvest (r : Regime) (first count : ℕ) (m map after filled : List ℕ) (n : ℕ) : Type 0 where
  pub memory : after ≡ (harvest r first count m map).memory
  pub map_left : filled ≡ (harvest r first count m map).map
  pub accepted : (n ≡ 0) ↔ ((harvest r first count m map).reply ≡ Ok tt)
  pub refused : (k : ℕ) → ((n ≡ k) × (k ≢ 0)) ↔ RefusedWith k (harvest r first count m map).reply

abbrev pub HarvestOfC : Type 0
HarvestOfC = (m : List ℕ) (g : RegimeWords) (first count : ℕ) (map after filled : List ℕ) (n : ℕ) → HarvestSays m g first count map after filled n
    → SaysHarvest (regime_of g) first count m map after filled n
