-- The table is proved: antt computes the quick walk of every row, and one law turns that into the walk.
use mathlib.Core.Bool.{Bool, true, ◌&&◌}
use mathlib.Core.Path.{◌≡◌, refl, ap, ◌∙◌}
use Prim.Native.Nat.{ℕ, ◌+◌, ◌-◌, ◌≤◌}
use mathlib.Core.List.{List, [], ◌∷◌}
use lib.Dec.{eqb, lit≤}
use lib.ListN.{replicate, take, drop, length-replicate}
use borrow.Author.Tests.{eqb-true}
use Rattle.descriptor.specs.Bytes.{digits, in_order, bytes_of}
use Rattle.descriptor.specs.Bits.{set_bit, clear_bit}
use Rattle.descriptor.proofs.Laws.{take_put}
use Rattle.descriptor.proofs.Tests.{and_true}
use Rattle.geometry.specs.Geometry.{page_size, stride_bits, unaligned, page_of, level_of, shift_of, span, block_at, first_left, cut, output_bits, output_limit}
use Rattle.vmsa.specs.Attributes.{attribute, device, normal}
use Rattle.vmsa.specs.Fields.{table_bits, with_table}
use Rattle.refusals.specs.Tests.{memory_pool_bad, pool_address_bad, tsz_bad, sizes_bad, root_bad, roots_bad, attribute_bad, attributes_bad, dirty_state_bad, size_bad, access_size_bad, last_byte, crossing}
use Rattle.checks.specs.Order.{walk_check}
use Rattle.vmsa.specs.declared.Regime.{Regime}
use Rattle.vmsa.specs.declared.AccessKind.TheVariants.{Read}
use Rattle.lookup.specs.Trace.{Trace}
use Rattle.lookup.specs.Steps.{invalid, is_table, address_in, decoded, entry_at, followed, entered, descend, upper, range_of, outside, context_of, lookup, locate}
use Rattle.permission.specs.Permission.{attribute_of, writable, clean, user, uxn, pxn, may_read, may_write, may_fetch_with, may_fetch, permitted, misaligned, flag_fails, alignment_fails, permission_fails}
use Rattle.decision.specs.Decision.{flag_due, dirty_due, updated, cacheable, output_of, failing, passing, decision}
use Rattle.walk.specs.Walk.{Outcome}
use Rattle.cases.specs.Cases.{pool_address, base, big_endian, usual, leaf_address, with_leaf, with_third, puts, memory_of, Row, expected, Holds, All, write_row, swapped_descriptor, read_swapped, rows, visited_in, leaf_bytes, first_bytes, Worked}
use Rattle.cases.proofs.Quick.{placed, all_placed, value_at, quick, quick_walk}
use Rattle.cases.proofs.Sparse.{memory_length, traced_quick, walk_quick}

-- the pool starts the memory, and the descriptors lie in it
abbrev sound : Row → Bool
sound r = eqb r.regime.pool.start 0 && all_placed r.regime.pool.length r.found

abbrev computed : Row → Outcome
computed r = quick_walk r.regime.pool.length r.found r.regime r.access

all_sound : List Row → Bool
all_sound [] = true
all_sound (r ∷ rs) = sound r && all_sound rs

outcomes : (Row → Outcome) → List Row → List Outcome
outcomes f [] = []
outcomes f (r ∷ rs) = f r ∷ outcomes f rs

holds : (r : Row) → sound r ≡ true → computed r ≡ expected r → Holds r
unfolding Holds
holds r s q =
    let t = and_true (eqb r.regime.pool.start 0) (all_placed r.regime.pool.length r.found) s in
    walk_quick r.regime r.access r.found (eqb-true r.regime.pool.start 0 t.0) t.1 ∙ q

each : (rs : List Row) → all_sound rs ≡ true → outcomes computed rs ≡ outcomes expected rs → All rs
unfolding All all_sound outcomes
each [] s q = tt
each (r ∷ rs) s q =
    let t = and_true (sound r) (all_sound rs) s in
    let e : computed r ≡ expected r = cc in
    let es : outcomes computed rs ≡ outcomes expected rs = cc in
    (holds r t.0 e, each rs t.1 es)

all_sound_lem : all_sound rows ≡ true
unfolding all_sound rows all_placed placed
all_sound_lem = refl

all_computed : outcomes computed rows ≡ outcomes expected rows
unfolding outcomes rows puts value_at quick quick_walk set_bit clear_bit page_size stride_bits unaligned page_of level_of shift_of span block_at first_left cut output_bits output_limit attribute device normal memory_pool_bad pool_address_bad tsz_bad sizes_bad root_bad roots_bad attribute_bad attributes_bad dirty_state_bad size_bad access_size_bad last_byte crossing walk_check invalid is_table address_in decoded entry_at followed entered descend upper range_of outside context_of lookup locate table_bits with_table attribute_of writable clean user uxn pxn may_read may_write may_fetch_with may_fetch permitted misaligned flag_fails alignment_fails permission_fails flag_due dirty_due updated cacheable output_of failing passing decision
all_computed = refl

visited : (ds : List (ℕ × ℕ)) → all_placed base.pool.length ds ≡ true → visited_in ds ≡ (locate base (quick base.ee base.pool.length ds pool_address) (usual Read).address.0).visited
visited ds ok = ap (λ (t : Trace). t.visited) (traced_quick base (usual Read).address.0 ds ok)

-- the bytes that a write leaves of the leaf, from its row
leaf_bytes_lem : (r : Regime) (v output w : ℕ) → all_placed r.pool.length (with_leaf v) ≡ true → leaf_address - pool_address + 8 ≤ r.pool.length → Holds (write_row r v output w)
    → leaf_bytes (write_row r v output w) ≡ bytes_of r.ee w
unfolding Holds puts
leaf_bytes_lem r v output w ok k h =
    let n = r.pool.length in
    ap (λ (o : Outcome). take 8 (drop (leaf_address - pool_address) o.bytes)) h
    ∙ take_put r.ee (memory_of r.ee n (with_leaf v)) (leaf_address - pool_address) w (rw (memory_length r.ee n (with_leaf v) ok) k)

-- those of one descriptor, the first, in a memory of zeros
first_bytes_lem : (r : Regime) → 8 ≤ r.pool.length → first_bytes (read_swapped r) ≡ bytes_of r.ee swapped_descriptor
unfolding memory_of puts
first_bytes_lem r k = take_put r.ee (replicate r.pool.length 0) 0 swapped_descriptor (rw (length-replicate {A = ℕ} r.pool.length 0) k)

pub worked : Worked
unfolding Worked All rows bytes_of in_order digits all_placed placed value_at quick page_size stride_bits unaligned page_of level_of shift_of span block_at first_left cut output_bits output_limit attribute device normal memory_pool_bad pool_address_bad tsz_bad sizes_bad root_bad roots_bad attribute_bad attributes_bad dirty_state_bad size_bad access_size_bad last_byte crossing walk_check invalid is_table address_in decoded entry_at followed entered descend upper range_of outside context_of lookup locate table_bits with_table
worked =
    let all = each rows all_sound_lem all_computed in (
      all,
      leaf_bytes_lem base _ _ _ refl (lit≤ tt) all.1.0,
      leaf_bytes_lem big_endian _ _ _ refl (lit≤ tt) all.1.1.0,
      leaf_bytes_lem base _ _ _ refl (lit≤ tt) all.1.1.1.0,
      leaf_bytes_lem big_endian _ _ _ refl (lit≤ tt) all.1.1.1.1.0,
      first_bytes_lem big_endian (lit≤ tt),
      first_bytes_lem base (lit≤ tt),
      visited (with_third 0x4000F003) refl,
      visited (with_third 0x40010003) refl,
      refl,
      refl,
      refl,
      refl,
      refl,
      refl,
    )
