-- The walk a descriptor at a time (RULES 16): what a start and each offer leave of it.
use Rattle.std.specs.Prelude.{ℕ, suc, ◌-◌, min, false, ◌≡◌, Ok, Err, Option, Some, None}
use Rattle.descriptor.specs.Bits.{pick}
use Rattle.vmsa.specs.Fields.{no_tables, with_table}
use Rattle.vmsa.specs.Answers.{Result, fault as faulted, refused, code_of, number_of, view}
use Rattle.geometry.specs.Geometry.{level_of}
use Rattle.vmsa.specs.declared.Regime.{Regime}
use Rattle.vmsa.specs.declared.Access.{Access}
use Rattle.vmsa.specs.declared.Refusal.{Refusal}
use Rattle.vmsa.specs.declared.Refusal.TheVariants.{WalkEnded}
use Rattle.vmsa.specs.declared.FaultKind.{FaultKind}
use Rattle.vmsa.specs.declared.FaultKind.TheVariants.{ExternalAbort}
use Rattle.vmsa.specs.declared.Leaf.{Leaf}
use Rattle.checks.specs.Order.{Checked}
use Rattle.checks.specs.Order.{start_check}
use Rattle.lookup.specs.declared.Context.{Context}
use Rattle.lookup.specs.Steps.{First}
use Rattle.lookup.specs.declared.Next.{Next}
use Rattle.lookup.specs.declared.Next.TheVariants as next
use Rattle.lookup.specs.Trace.{End, fault, leaf, leaf_under_hpd}
use Rattle.lookup.specs.Steps.{decoded, entry_at, range_of, context_of, left_at_first, first_table}
use Rattle.decision.specs.Decision.{Decision, decision}
use Rattle.stepwise.specs.declared.Wanting.{Wanting}
use Rattle.stepwise.specs.declared.Conclusion.{Conclusion}
use Rattle.stepwise.specs.declared.Stepwise.{Stepwise}
use Rattle.stepwise.specs.declared.Stepwise.TheVariants as stepwise
use Rattle.stepwise.specs.declared.Offered.{Offered}
use Rattle.stepwise.specs.declared.Update.{Update}

-- how a walk ends: its answer in numbers, and the update that is due
pub record Ended : Type 0 where
  pub result : Result
  pub due : Option Update

-- a walk wants a descriptor, or has ended
pub data Progress : Type 0 where
  wanting : Wanting → Progress
  ended : Ended → Progress

-- a walk of the code, in these values
abbrev pub seen_end : Conclusion → Ended
seen_end c = record { result = view c.answer; due = c.due }

abbrev pub seen : Stepwise → Progress
seen (stepwise.Wanting w) = wanting w
seen (stepwise.Ended c) = ended (seen_end c)

-- ---- how it ends (RULES 16.4)

-- the one update: of the leaf's descriptor, from the value that was read to the leaf's new value
abbrev pub due_of : ℕ → ℕ → Decision → Option Update
due_of at v d = pick d.update (Some (record { address = record { 0 = at }; expected = v; value = d.value })) None

-- a fault of steps 1 to 5: no update is due
abbrev pub lookup_fault : FaultKind → ℕ → ℕ → Ended
lookup_fault kind level reads = record { result = faulted (record { code = code_of kind level; level = level; cacheable = false; reads = reads }); due = None }

-- the answer of the plain walk to the end of steps 1 to 5, so many descriptors having been read
abbrev pub conclusion : Regime → Access → ℕ → End → Ended
conclusion r a reads (fault kind level) = lookup_fault kind level reads
conclusion r a reads (leaf at l) = record { result = (decision r a l reads).result; due = due_of at l.value (decision r a l reads) }

-- a refusal carries its number alone
abbrev pub declined : Refusal → Ended
declined x = record { result = refused (number_of x); due = None }

-- ---- the start (RULES 16.1)

-- what a walk wants of a table: its entry at a level, with so many levels left below it
abbrev pub wanting_entry : Regime → Access → ℕ → ℕ → ℕ → Wanting
wanting_entry r a left sum table =
    record { regime = r; access = a; address = record { 0 = entry_at (context_of r a.address.0) left table }; left = left; tables = sum }

abbrev pub begun : Regime → Access → First → Progress
begun r a (Err kind) = ended (conclusion r a 0 (fault kind 0))
begun r a (Ok root) = wanting (wanting_entry r a (left_at_first r a.address.0) no_tables root.0)

abbrev pub started : Regime → Access → Checked → Progress
started r a (Err x) = ended (declined x)
started r a (Ok _) = begun r a (first_table r a.address.0)

unfoldable pub start : Regime → Access → Progress
start r a = started r a (start_check r a)

-- ---- an offer to a walk that wants a descriptor (RULES 16.2)

module _ (w : Wanting) where
  -- the levels left at the first level, and below the descriptor that is wanted: never more than those (RULES 16.6)
  abbrev pub left_at_start : ℕ
  left_at_start = left_at_first w.regime w.access.address.0

  unfoldable pub left_at : ℕ
  left_at = min w.left left_at_start

  -- the count of reads with this one: one at each level, from the first on
  unfoldable pub reads_at : ℕ
  reads_at = suc (left_at_start - left_at)

  -- the leaf v, under the tables on the way where HPD of the address's range is off
  abbrev pub leaf_at : ℕ → Leaf
  leaf_at v = leaf_under_hpd (range_of w.regime w.access.address.0).hpd (record { value = v; left = left_at; tables = w.tables })

  abbrev pub ended_at : End → Progress
  ended_at e = ended (conclusion w.regime w.access reads_at e)

  -- by what the descriptor v says: a table's entry is wanted next, one level lower and its bits in the sum
  abbrev pub after_value : ℕ → Next → Progress
  after_value v (next.Fault kind) = ended_at (fault kind (level_of left_at))
  after_value v (next.Table table) = wanting (wanting_entry w.regime w.access (left_at - 1) (with_table w.tables v) table.0)
  after_value v next.Leaf = ended_at (leaf w.address.0 (leaf_at v))

  abbrev pub context_at : Context
  context_at = context_of w.regime w.access.address.0

  abbrev pub taken : Option ℕ → Progress
  taken (Some v) = after_value v (decoded context_at.page context_at.limit.0 left_at v)
  taken None = ended_at (fault ExternalAbort (level_of left_at))

  -- a walk under a regime or for an access that a start refuses ends with that refusal; no call leaves one (RULES 16.6)
  abbrev pub offered_by : Option ℕ → Checked → Progress
  offered_by o (Err x) = ended (declined x)
  offered_by o (Ok _) = taken o

  unfoldable pub offered : Option ℕ → Progress
  offered o = offered_by o (start_check w.regime w.access)

-- ---- an offer to any walk: after the end it is refused with 12, and changes nothing (RULES 16.3)

abbrev pub Takes : Stepwise → Option ℕ → Offered → Type 0
Takes (stepwise.Wanting w) o x = (seen x.walk ≡ offered w o) × (x.reply ≡ Ok tt)
Takes (stepwise.Ended c) o x = x ≡ record { walk = stepwise.Ended c; reply = Err WalkEnded }
