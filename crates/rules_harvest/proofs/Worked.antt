-- The worked harvests, computed: over a memory that is 0 but for a few descriptors a harvest looks these up.
use Prim.Native.Nat.{ℕ, zero, suc, ◌+◌, ◌*◌, ◌-◌, ◌≤◌}
use mathlib.Core.Bool.{Bool, true, false}
use mathlib.Core.List.{List, [], ◌∷◌, ◌++◌, append-nil, append_assoc}
use mathlib.Core.Path.{◌≡◌, refl, sym, ap, ◌∙◌, fun_ext, subst⁻¹}
use native.Mathlib.Omega.{arith}
use native.Mathlib.Nat.{zero-add}
use lib.Dec.{lit≤}
use lib.ListN.{length, take, drop, replicate, length-append}
use lib.Seq.{take-length, drop-length, length-take-le, take_at, drop_at}
use Rattle.descriptor.specs.Bytes.{digits, in_order, bytes_of, put}
use Rattle.descriptor.specs.Bits.{set_bit}
use Rattle.descriptor.proofs.Laws.{length_bytes, take_put}
use Rattle.geometry.specs.Geometry.{page_size, stride_bits, unaligned, level_of, shift_of, span, block_at, first_left, cut, output_bits, output_limit}
use Rattle.vmsa.specs.Attributes.{attribute, device, normal}
use Rattle.vmsa.specs.Fields.{table_bits, with_table}
use Rattle.vmsa.specs.Granules.{page_bits_of}
use Rattle.vmsa.specs.Settings.{disabled_range, with_range0, with_ha}
use Rattle.vmsa.specs.declared.Granule.TheVariants.{Kib16, Kib64}
use Rattle.vmsa.specs.declared.Regime.{Regime}
use Rattle.vmsa.specs.declared.Refusal.TheVariants.{PageRange, MapLength, DirtyState}
use Rattle.refusals.specs.Tests.{memory_pool_bad, pool_address_bad, tsz_bad, sizes_bad, root_bad, roots_bad, attribute_bad, attributes_bad, dirty_state_bad, in_range0, in_range1, page_range_bad, map_length_bad}
use Rattle.checks.specs.Order.{Checked}
use Rattle.std.specs.Prelude.{Ok, Err}
use Rattle.checks.specs.Order.{harvest_check}
use Rattle.lookup.specs.Trace.{End, Trace}
use Rattle.lookup.specs.Steps.{invalid, is_table, address_in, decoded, entry_at, followed, entered, descend, upper, range_of, outside, context_of, lookup, locate}
use Rattle.walk.specs.Walk.{pool_bytes, traced}
use Rattle.bitmap.specs.Map.{byte_of, bytes_from, below, mapped}
use Rattle.gather.specs.Ends.{dirty, dirty_end, pages_in}
use Rattle.clean.specs.Clean.{pages, whole_in, cleaned_by}
use Rattle.harvest.specs.Harvest.{reached, reports, asked_of, clean_pool, Harvested, harvested, harvest_by, harvest}
use Rattle.cases.specs.Cases.{pool_address, base, big_endian, leaf_address, accessed_leaf, leaf_now, granuled, puts, memory_of}
use Rattle.cases.proofs.Quick.{placed, all_placed, value_at, quick}
use Rattle.cases.proofs.Sparse.{memory_length, traced_quick}
use Rattle.rules_harvest.specs.Worked.{memory_in, eight_bits, dirty_tables, clean_tables, old_tables, unmarked_tables, block_tables, shared_tables, tables16, tables64, ones, first_byte, Leaves, memory_left, leaf_bytes_left, WorkedHarvest}

-- ---- a harvest that looks descriptors up

-- where a page ends
abbrev quick_end : Regime → List (ℕ × ℕ) → ℕ → End
quick_end r ds page = (locate r (quick r.ee r.pool.length ds r.pool.address.0) (page * page_size (page_bits_of r))).end

-- what a harvest leaves by where each page ends
abbrev left_by : Regime → ℕ → ℕ → List ℕ → List ℕ → (ℕ → End) → Checked → Harvested Checked
left_by r first count m map ends (Err x) = harvested (Err x) m map
left_by r first count m map ends (Ok _) =
    harvested (Ok tt) (pages (cleaned_by (asked_of r first count) ends) first count m) (mapped (λ (n : ℕ). dirty_end (ends (first + n))) count map)

unfoldable quick_harvest : Regime → ℕ → ℕ → List (ℕ × ℕ) → List ℕ → Harvested Checked
quick_harvest r first count ds map = left_by r first count (memory_in r ds) map (quick_end r ds) (harvest_check r.pool.length r first count (length map))

-- a pool that is the whole memory
part_whole : (m : List ℕ) (s l : ℕ) → s ≡ 0 → l ≡ length m → take l (drop s m) ≡ m
part_whole m s l p q = rw (p, q, take-length m)

with_whole : (m bytes : List ℕ) (s l : ℕ) → s ≡ 0 → l ≡ length m → take s m ++ bytes ++ drop (s + l) m ≡ bytes
with_whole m bytes s l p q = rw (p, q, zero-add (length m), drop-length m, append-nil bytes)

ends_left : (r : Regime) (first count : ℕ) (m map : List ℕ) → ◌≡◌ {A = Harvested Checked} (harvested (Ok tt) (clean_pool r first count m) (mapped (reports r m first) count map)) (left_by r first count m map (reached r m) (Ok tt))
unfolding clean_pool reports
ends_left r first count m map = refl

over_whole : (r : Regime) (first count : ℕ) (m map : List ℕ) (c : Checked) → r.pool.start ≡ 0 → r.pool.length ≡ length m → harvest_by r first count m map c ≡ left_by r first count m map (reached r m) c
over_whole r first count m map (Err x) s l = refl
over_whole r first count m map (Ok _) s l =
    let whole = pool_bytes r.pool m in
    ap (λ (x : List ℕ). harvested (Ok tt) x (mapped (reports r whole first) count map)) (with_whole m (clean_pool r first count whole) r.pool.start r.pool.length s l)
    ∙ ap (λ (p : List ℕ). harvested (Ok tt) (clean_pool r first count p) (mapped (reports r p first) count map)) (part_whole m r.pool.start r.pool.length s l)
    ∙ ends_left r first count m map

reached_quick : (r : Regime) (ds : List (ℕ × ℕ)) → all_placed r.pool.length ds ≡ true → reached r (memory_in r ds) ≡ quick_end r ds
unfolding reached traced
reached_quick r ds ok = fun_ext (λ (page : ℕ). ap (λ (t : Trace). t.end) (traced_quick r (page * page_size (page_bits_of r)) ds ok))

harvest_quick : (r : Regime) (first count : ℕ) (ds : List (ℕ × ℕ)) (map : List ℕ) → r.pool.start ≡ 0 → all_placed r.pool.length ds ≡ true
    → harvest r first count (memory_in r ds) map ≡ quick_harvest r first count ds map
unfolding harvest quick_harvest
harvest_quick r first count ds map s ok =
    let m = memory_in r ds in
    let e : length m ≡ r.pool.length = memory_length r.ee r.pool.length ds ok in
    over_whole r first count m map (harvest_check (length m) r first count (length map)) s (sym e)
    ∙ ap (λ (n : ℕ). left_by r first count m map (reached r m) (harvest_check n r first count (length map))) e
    ∙ ap (λ (ends : ℕ → End). left_by r first count m map ends (harvest_check r.pool.length r first count (length map))) (reached_quick r ds ok)

-- the bits that it reports
reports_quick : (r : Regime) (first : ℕ) (ds : List (ℕ × ℕ)) → all_placed r.pool.length ds ≡ true → reports r (memory_in r ds) first ≡ (λ (n : ℕ). dirty_end (quick_end r ds (first + n)))
unfolding reports
reports_quick r first ds ok = fun_ext (λ (n : ℕ). ap (λ (ends : ℕ → End). dirty_end (ends (first + n))) (reached_quick r ds ok))

-- the bytes that it leaves of the leaf
leaf_bytes_lem : (r : Regime) → all_placed r.pool.length dirty_tables ≡ true → leaf_address - pool_address + 8 ≤ r.pool.length → Leaves r 0x400 8 dirty_tables (leaf_now accessed_leaf) ones (first_byte 0x08)
    → leaf_bytes_left r ≡ bytes_of r.ee accessed_leaf
unfolding puts
leaf_bytes_lem r ok k h =
    let n = r.pool.length in
    ap (λ (x : Harvested Checked). take 8 (drop (leaf_address - pool_address) x.memory)) h
    ∙ take_put r.ee (memory_in r dirty_tables) (leaf_address - pool_address) accessed_leaf (rw (memory_length r.ee n dirty_tables ok) k)

-- ---- descriptors put one after another

puts_append : (ee : Bool) (m : List ℕ) (ds es : List (ℕ × ℕ)) → puts ee m (ds ++ es) ≡ puts ee (puts ee m ds) es
unfolding puts
puts_append ee m [] es = refl
puts_append ee m (d ∷ ds) es = puts_append ee (put ee m d.0 d.1) ds es

memory_append : (r : Regime) (ds es : List (ℕ × ℕ)) → memory_in r (ds ++ es) ≡ puts r.ee (memory_in r ds) es
unfolding memory_of
memory_append r ds es = puts_append r.ee (replicate r.pool.length 0) ds es

-- a second harvest, over the tables that the first leaves
after_first : Leaves base 0x400 8 dirty_tables (leaf_now accessed_leaf) ones (first_byte 0x08) → Leaves base 0x400 8 (dirty_tables ++ leaf_now accessed_leaf) [] ones (first_byte 0x00)
    → harvest base 0x400 8 (memory_left base) ones ≡ harvested (Ok tt) (memory_left base) (first_byte 0x00)
unfolding puts
after_first h g =
    subst⁻¹ (λ (m : List ℕ). harvest base 0x400 8 m ones ≡ harvested (Ok tt) m (first_byte 0x00))
    (ap (λ (x : Harvested Checked). x.memory) h ∙ sym (memory_append base dirty_tables (leaf_now accessed_leaf))) g

-- the same one twice is once, and so any number of times
put_twice : (ee : Bool) (l : List ℕ) (i v : ℕ) → i + 8 ≤ length l → put ee (put ee l i v) i v ≡ put ee l i v
unfolding put
put_twice ee l i v fits =
    let head = take i l in
    let bytes = bytes_of ee v in
    let tail = drop (i + 8) l in
    let p : length head ≡ i = length-take-le i l (omega arith) in
    let q : length (head ++ bytes) ≡ i + 8 = length-append head bytes ∙ rw (p, length_bytes ee v) in
    let t : take i (head ++ bytes ++ tail) ≡ head = ap (take i) (append_assoc head bytes tail) ∙ take_at head (bytes ++ tail) i p in
    let d : drop (i + 8) (head ++ bytes ++ tail) ≡ tail = drop_at (head ++ bytes) tail (i + 8) q in
    ap (λ (x : List ℕ). x ++ bytes ++ drop (i + 8) (head ++ bytes ++ tail)) t ∙ ap (λ (x : List ℕ). head ++ bytes ++ x) d

puts_once : (ee : Bool) (m : List ℕ) (d : ℕ × ℕ) → d.0 + 8 ≤ length m → (n : ℕ) → puts ee m (replicate (suc n) d) ≡ puts ee m (d ∷ [])
unfolding puts
puts_once ee m d fits zero = refl
puts_once ee m d fits (suc n) = ap (λ (x : List ℕ). puts ee x (replicate n d)) (put_twice ee m d.0 d.1 fits) ∙ puts_once ee m d fits n

-- a leaf that many pages reach is put once for each
once : (r : Regime) (first count : ℕ) (found : List (ℕ × ℕ)) (map filled : List ℕ) (d : ℕ × ℕ) (n : ℕ) → all_placed r.pool.length found ≡ true → d.0 + 8 ≤ r.pool.length
    → Leaves r first count found (replicate (suc n) d) map filled → Leaves r first count found (d ∷ []) map filled
once r first count found map filled d n ok fits h =
    h ∙ ap (λ (m : List ℕ). harvested (Ok tt) m filled) (puts_once r.ee (memory_in r found) d (rw (memory_length r.ee r.pool.length found ok) fits) n)

-- ---- the rows

pub worked_harvest : WorkedHarvest
unfolding quick_harvest puts value_at quick all_placed placed set_bit page_size stride_bits unaligned level_of shift_of span block_at first_left cut output_bits output_limit attribute device normal memory_pool_bad pool_address_bad tsz_bad sizes_bad root_bad roots_bad attribute_bad attributes_bad dirty_state_bad in_range0 in_range1 page_range_bad map_length_bad harvest_check invalid is_table address_in decoded entry_at followed entered descend upper range_of outside context_of lookup locate table_bits with_table byte_of bytes_from below mapped dirty pages_in pages whole_in cleaned_by bytes_of in_order digits
worked_harvest =
    record {
      dirty = harvest_quick base 0x400 8 dirty_tables ones refl refl;
      bits = ap eight_bits (reports_quick base 0x400 dirty_tables refl);
      bytes = leaf_bytes_lem base refl (lit≤ tt) (harvest_quick base 0x400 8 dirty_tables ones refl refl);
      again =
          after_first (harvest_quick base 0x400 8 dirty_tables ones refl refl) (harvest_quick base 0x400 8 (dirty_tables ++ leaf_now accessed_leaf) ones refl refl);
      big = harvest_quick big_endian 0x400 8 dirty_tables ones refl refl;
      big_bytes = leaf_bytes_lem big_endian refl (lit≤ tt) (harvest_quick big_endian 0x400 8 dirty_tables ones refl refl);
      clean = harvest_quick base 0x400 8 clean_tables ones refl refl;
      old = harvest_quick base 0x400 8 old_tables ones refl refl;
      unmarked = harvest_quick base 0x400 8 unmarked_tables ones refl refl;
      single = harvest_quick base 0x400 8 dirty_tables (0xFF ∷ []) refl refl;
      after = harvest_quick base 0x404 8 dirty_tables ones refl refl;
      last = harvest_quick base 0x401 3 dirty_tables ones refl refl;
      second = harvest_quick base 0x3FB 9 dirty_tables ones refl refl;
      upper = harvest_quick base 0xFFFF000000400 8 dirty_tables ones refl refl;
      disabled = harvest_quick (with_range0 base disabled_range) 0x400 8 dirty_tables ones refl refl;
      block = harvest_quick base 0x400 8 block_tables ones refl refl;
      nearly = harvest_quick base 0x401 511 block_tables (replicate 65 0xFF) refl refl;
      whole = once base 0x400 512 block_tables (replicate 65 0x00) _ (0x2010, 0x00080000800007C1) 511 refl (lit≤ tt) (harvest_quick base 0x400 512 block_tables (replicate 65 0x00) refl refl);
      shared = once base 0x403 513 shared_tables (replicate 66 0xFF) _ (leaf_address - pool_address, accessed_leaf) 1 refl (lit≤ tt) (harvest_quick base 0x403 513 shared_tables (replicate 66 0xFF) refl refl);
      kib16 = harvest_quick (granuled Kib16 16) 0x301603400 8 tables16 ones refl refl;
      kib64 = harvest_quick (granuled Kib64 16) 0x9600B000 8 tables64 ones refl refl;
      end0 = harvest_quick base 0xFFFFFFFFF 1 dirty_tables ones refl refl;
      end1 = harvest_quick base 0xFFFFFFFFFFFFF 1 dirty_tables ones refl refl;
      most = ap (λ (x : Harvested Checked). x.reply) (harvest_quick base 0x400 65536 dirty_tables (replicate 8192 0xFF) refl refl);
      none = (PageRange, refl, harvest_quick base 0x400 0 dirty_tables ones refl refl);
      many = (PageRange, refl, harvest_quick base 0x400 65537 dirty_tables (replicate 8193 0xFF) refl refl);
      past0 = (PageRange, refl, harvest_quick base 0xFFFFFFFFF 2 dirty_tables ones refl refl);
      between = (PageRange, refl, harvest_quick base 0x1000000000 1 dirty_tables ones refl refl);
      past1 = (PageRange, refl, harvest_quick base 0xFFFFFFFFFFFFF 2 dirty_tables ones refl refl);
      short = (MapLength, refl, harvest_quick base 0x400 8 dirty_tables [] refl refl);
      ninth = (MapLength, refl, harvest_quick base 0x400 9 dirty_tables (0xFF ∷ []) refl refl);
      shorter = (MapLength, refl, harvest_quick base 0x400 65536 dirty_tables (replicate 8191 0xFF) refl refl);
      both = (PageRange, refl, harvest_quick base 0x400 0 dirty_tables [] refl refl);
      settings = (DirtyState, refl, harvest_quick (with_ha base false) 0x400 0 dirty_tables [] refl refl);
    }
