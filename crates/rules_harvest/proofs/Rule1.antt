-- Rule 1 of a harvest holds.
use Prim.Native.Nat.{ℕ, ◌-◌, ◌/◌, ◌<◌, ◌≤◌}
use mathlib.Core.List.{List}
use mathlib.Core.Path.{◌≡◌, refl, sym, ap, subst, ◌∙◌}
use native.Mathlib.Omega.{arith}
use lib.ListN.{length, get_or}
use Rattle.descriptor.specs.Bytes.{Bytes}
use Rattle.vmsa.specs.declared.Regime.{Regime}
use Rattle.checks.specs.Order.{Checked}
use Rattle.std.specs.Prelude.{Ok, Err}
use Rattle.checks.specs.Order.{regime_check, asked_check, harvest_rows, harvest_check}
use Rattle.checks.proofs.Accept.{settled}
use Rattle.walk.specs.Walk.{pool_bytes}
use Rattle.bitmap.specs.Map.{bytes_for}
use Rattle.bitmap.proofs.Laws.{mapped_length, mapped_bytes}
use Rattle.harvest.specs.Harvest.{reports, harvest}
use Rattle.harvest.proofs.Laws.{harvest_kept, map_kept, harvest_length, harvest_bytes, outside, unheard}
use Rattle.rules.specs.Rule1.{FirstNumber}
use Rattle.rules.proofs.Refusals.{first_refuses, refuses_first}
use Rattle.rules_harvest.specs.Harvest.{RefusedWith, final_byte, HarvestRule1s}
use Rattle.rules_harvest.proofs.Asked.{asked_good, good_asked, check_asked}
use Rattle.rules_harvest.proofs.Taken.{reply_check, Taken, taken, filled_same}

module _ (r : Regime) (first count : ℕ) (m map : List ℕ) where
  -- refused by the first row that applies
  by_row : (k : ℕ) → RefusedWith k (harvest r first count m map).reply → FirstNumber (harvest_rows (length m) r first count (length map)) k
  unfolding harvest_check
  by_row k w = (w.0, refuses_first (harvest_rows (length m) r first count (length map)) w.0 (sym (reply_check r first count m map) ∙ w.1), w.2)

  row_refuses : (k : ℕ) → FirstNumber (harvest_rows (length m) r first count (length map)) k → RefusedWith k (harvest r first count m map).reply
  unfolding harvest_check
  row_refuses k w = (w.0, reply_check r first count m map ∙ first_refuses w.1, w.2)

  -- accepted for what may be asked for
  as_asked : regime_check (length m) r ≡ Ok tt → (harvest r first count m map).reply ≡ asked_check r first count (length map)
  as_asked e = reply_check r first count m map ∙ check_asked (length m) r first count (length map) e

  -- what holds of the map as it was, and as an accepted harvest fills it
  map_either : (P : List ℕ → Type 0) → P map → (Taken r first count m map → P (harvest r first count m map).map) → P (harvest r first count m map).map
  map_either P p q = by (harvest r first count m map).reply refl
    where
      by : (c : Checked) → (harvest r first count m map).reply ≡ c → P (harvest r first count m map).map
      by (Ok _) e = q (taken r first count m map e)
      by (Err x) e = subst P (sym (map_kept r first count m map x e)) p

  map_long : length (harvest r first count m map).map ≡ length map
  map_long = map_either (λ (l : List ℕ). length l ≡ length map) refl (λ t. rw t.map_is (mapped_length (reports r (pool_bytes r.pool m) first) count map t.room))

  map_bytes : Bytes map → Bytes (harvest r first count m map).map
  map_bytes b = map_either Bytes b (λ t. rw t.map_is (mapped_bytes (reports r (pool_bytes r.pool m) first) count map b))

  -- another map of that length
  module _ (other : List ℕ) (e : length map ≡ length other) where
    same_reply : (harvest r first count m map).reply ≡ (harvest r first count m other).reply
    same_reply = reply_check r first count m map ∙ ap (harvest_check (length m) r first count) e ∙ sym (reply_check r first count m other)

    same_memory : (harvest r first count m map).memory ≡ (harvest r first count m other).memory
    same_memory = by (harvest r first count m map).reply refl
      where
        by : (c : Checked) → (harvest r first count m map).reply ≡ c → (harvest r first count m map).memory ≡ (harvest r first count m other).memory
        by (Ok _) q = (taken r first count m map q).memory ∙ sym (taken r first count m other (sym same_reply ∙ q)).memory
        by (Err x) q = harvest_kept r first count m map x q ∙ sym (harvest_kept r first count m other x (sym same_reply ∙ q))

    same_filled : (harvest r first count m map).reply ≡ Ok tt → (j : ℕ) → j ≤ final_byte count
        → get_or (harvest r first count m map).map j 0 ≡ get_or (harvest r first count m other).map j 0
    same_filled q j h =
        ap (λ (l : List ℕ). get_or l j 0) (taken r first count m map q).map_is
        ∙ filled_same (reports r (pool_bytes r.pool m) first) count map other j (let z = (taken r first count m map q).some in let k : j ≤ (count - 1) / 8 = h in let s : j < bytes_for count = omega arith in s)
        ∙ ap (λ (l : List ℕ). get_or l j 0) (sym (taken r first count m other (sym same_reply ∙ q)).map_is)

pub rule_1_harvest : HarvestRule1s
rule_1_harvest r first count m map = record {
  refusals = λ k. (by_row r first count m map k, row_refuses r first count m map k);
  accepted = λ e.
      let z = (settled (length m) r e).sized in
      let q = as_asked r first count m map e in
      (λ a. good_asked r first count (length map) z (sym q ∙ a), λ h. q ∙ asked_good r first count (length map) z h);
  kept = λ k w. (harvest_kept r first count m map w.0 w.1, map_kept r first count m map w.0 w.1);
  long = (harvest_length r first count m map, map_long r first count m map);
  outside = outside r first count m map;
  bytes = (harvest_bytes r first count m map, map_bytes r first count m map);
  unheard = λ n e s. let h = unheard r first count m n map e s in (h.reply, h.map, h.pool);
  unread = λ other e. (same_reply r first count m map other e, same_memory r first count m map other e, same_filled r first count m map other e);
}
