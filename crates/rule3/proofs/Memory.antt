-- The lookups of a session over its memory: where a leaf is found, and what an update of one descriptor does to every lookup.
use Prim.Native.Nat.{ℕ, ◌+◌, ◌-◌, ◌*◌, ◌/◌, ◌%◌, ◌^◌, ◌<◌, ◌≤◌}
use mathlib.Core.Bool.{Bool, true, false, ◌&&◌}
use mathlib.Core.List.{List}
use mathlib.Core.Path.{◌≡◌, refl, sym, ap, subst, ◌∙◌}
use native.Mathlib.Omega.{arith}
use lib.Dec.{leb, eqb, lit<}
use lib.ListN.{length, drop}
use lib.Pow.{field as field_mod}
use borrow.Author.Tests.{eqb-true, eqb-false, eq-eqb, ne_eqb, leb-true}
use Rattle.descriptor.specs.Bytes.{desc, put}
use Rattle.descriptor.specs.Bits.{pick, set_bit, clear_bit}
use Rattle.descriptor.proofs.Tests.{and_true}
use Rattle.descriptor.proofs.Laws.{length_put, desc_put_aligned}
use Rattle.descriptor.proofs.Numbers.{desc_small, bytes_take, bytes_drop}
use Rattle.descriptor.proofs.BitLaws.{set_above, clear_above, set_other, clear_other}
use Rattle.vmsa.specs.Granules.{page_bits_of}
use Rattle.vmsa.specs.Limits.{address_limit}
use Rattle.geometry.specs.Geometry.{page_size}
use Rattle.vmsa.specs.Answers.{Result, dirtied_in}
use Rattle.vmsa.specs.declared.Regime.{Regime}
use Rattle.vmsa.specs.declared.Leaf.{Leaf}
use Rattle.std.specs.Prelude.{Ok, Some, None}
use Rattle.checks.specs.Order.{first_of, memory_rows, setting_rows}
use Rattle.checks.proofs.Accept.{clear, Pooled, pooled, Addressed, addressed}
use Rattle.lookup.specs.Trace.{End}
use Rattle.lookup.specs.Steps.{fetched, pool_reader, context_of}
use Rattle.lookup.proofs.Decoding.{Alike, decoded_same}
use Rattle.lookup.proofs.Reach.{context_paged, locate_read}
use Rattle.lookup.proofs.Readers.{AlikeWords, unreachable, values, AlikeEnds, faults, leaves, AlikeTraces, locate_alike}
use Rattle.vmsa.proofs.Tables.{set_bits, clear_bits}
use Rattle.decision.specs.Decision.{updated}
use Rattle.walk.specs.Walk.{pool_bytes, traced}
use Rattle.walk.proofs.Parts.{part_put, length_part}
use Rattle.walk.proofs.Ends.{found, multiple8}
use Rattle.rules.proofs.Updates.{updated_small}
use Rattle.tlb.specs.Walker.{found as found_at, put_word}
use Rattle.tlb.specs.Ours.{usable, offset_of, spot_at, spot_of, located, accessed_in, stamped, ours}
use Rattle.tlb.proofs.Walking.{usable_sized, usable_root, put_is}
use Rattle.tlb.proofs.Found.{Where, where_found, in_the_pool}
use Rattle.rule3.specs.Lawful.{restamped, Admitted}

-- ---- leaves that are found

pub reads : (r : Regime) (m : List ℕ) (p : ℕ) {at : ℕ} {u : Leaf} {n : ℕ} → located r m p ≡ found_at at u n → 1 ≤ n
unfolding traced
reads r m p q =
    let w = where_found r m p q in
    rw w.count at (locate_read r (pool_reader r (pool_bytes r.pool m)) (p * page_size (page_bits_of r)) w.end)

pub one : (r : Regime) (m : List ℕ) (p q : ℕ) {at : ℕ} {u v : Leaf} {n k : ℕ} → located r m p ≡ found_at at u n → located r m q ≡ found_at at v k → u.value ≡ v.value
one r m p q e f =
    let x = where_found r m p e in
    let y = where_found r m q f in
    let a = (in_the_pool r m p x).inside in
    let b = (in_the_pool r m q y).inside in
    let s : x.address - r.pool.address.0 ≡ y.address - r.pool.address.0 = (let z : offset_of r x.address ≡ offset_of r y.address = x.offset ∙ sym y.offset in omega arith) in
    sym a.same ∙ ap (desc r.ee (pool_bytes r.pool m)) s ∙ b.same

-- ---- what acceptance gives

pub accepted_pool : (r : Regime) (n : ℕ) → first_of (memory_rows n r) ≡ Ok tt → Pooled n r
accepted_pool r n e = pooled n r (clear (memory_rows n r) e).0

pub accepted_usable : (r : Regime) → first_of (setting_rows r) ≡ Ok tt → usable r ≡ true
accepted_usable r e = let c = clear (setting_rows r) e in rw (c.1.0, c.1.1.0)

pub accepted_address : (r : Regime) → first_of (setting_rows r) ≡ Ok tt → Addressed r
accepted_address r e = addressed r (clear (setting_rows r) e).0

pub leaf_room : (r : Regime) (m : List ℕ) → Admitted ours r m → (p : ℕ) {at : ℕ} {u : Leaf} {n : ℕ} → located r m p ≡ found_at at u n → at + 8 ≤ length m
leaf_room r m s p q =
    let w = where_found r m p q in
    let i = (in_the_pool r m p w).inside in
    let f = (accepted_pool r (length m) s.pool).fits in
    let l = length_part m r.pool.start r.pool.length f in
    rw (← w.offset) (omega (arith, i.least, i.most))

-- ---- an update that no step sees

alike_updated : (f d : Bool) (v : ℕ) → Alike v (updated f d v)
unfolding updated
alike_updated f d v = by f d
  where
    above_set : (x : ℕ) → set_bit 10 x % address_limit / 4096 ≡ x % address_limit / 4096
    above_set x = field_mod (set_bit 10 x) 36 12 ∙ ap (λ (y : ℕ). y % 2 ^ 36) (set_above 10 x 12 (lit< tt)) ∙ sym (field_mod x 36 12)

    above_clear : (x : ℕ) → clear_bit 7 x % address_limit / 4096 ≡ x % address_limit / 4096
    above_clear x = field_mod (clear_bit 7 x) 36 12 ∙ ap (λ (y : ℕ). y % 2 ^ 36) (clear_above 7 x 12 (lit< tt)) ∙ sym (field_mod x 36 12)

    flagged : (x : ℕ) → Alike x (set_bit 10 x)
    flagged x = record { bit0 = sym (set_other 10 x 0 (λ e. omega arith)); bit1 = sym (set_other 10 x 1 (λ e. omega arith)); address = sym (above_set x); tables = sym (set_bits x) }

    dirtied : (x : ℕ) → Alike x (clear_bit 7 x)
    dirtied x = record { bit0 = sym (clear_other 7 x 0 (λ e. omega arith)); bit1 = sym (clear_other 7 x 1 (λ e. omega arith)); address = sym (above_clear x); tables = sym (clear_bits x) }

    then_too : (x y z : ℕ) → Alike x y → Alike y z → Alike x z
    then_too x y z a b = record { bit0 = a.bit0 ∙ b.bit0; bit1 = a.bit1 ∙ b.bit1; address = a.address ∙ b.address; tables = a.tables ∙ b.tables }

    by : (f d : Bool) → Alike v (pick d (clear_bit 7 (pick f (set_bit 10 v) v)) (pick f (set_bit 10 v) v))
    by true true = then_too v (set_bit 10 v) (clear_bit 7 (set_bit 10 v)) (flagged v) (dirtied (set_bit 10 v))
    by true false = flagged v
    by false true = dirtied v
    by false false = record { bit0 = refl; bit1 = refl; address = refl; tables = refl }

alike_self : (v : ℕ) → Alike v v
alike_self v = record { bit0 = refl; bit1 = refl; address = refl; tables = refl }

-- ---- a descriptor of the pool updated: the readers before and after

module _ (ee : Bool) (pool : List ℕ) (base i w : ℕ) (b8 : base % 8 ≡ 0) (i8 : i % 8 ≡ 0) (fits : i + 8 ≤ length pool) (small : w < 2 ^ 64) (unseen : Alike (desc ee pool i) w) where
  after : List ℕ
  after = put ee pool i w

  value_after_lem : (j : ℕ) → j % 8 ≡ 0 → j + 8 ≤ length pool → desc ee after j ≡ pick (eqb i j) w (desc ee pool j)
  unfolding after
  value_after_lem j j8 h = desc_put_aligned ee pool i w j i8 j8 fits h small

  alike_at : (j : ℕ) → j % 8 ≡ 0 → j + 8 ≤ length pool → Alike (desc ee pool j) (desc ee after j)
  alike_at j j8 h = rw (value_after_lem j j8 h) (by (eqb i j) refl)
    where
      by : (b : Bool) → eqb i j ≡ b → Alike (desc ee pool j) (pick b w (desc ee pool j))
      by true e = rw (← eqb-true i j e) unseen
      by false e = alike_self (desc ee pool j)

  opened : (p : List ℕ) → length p ≡ length pool → (a : ℕ) → fetched ee p base a ≡ pick (leb base a && leb (a + 8) (base + length pool)) (Some (desc ee p (a - base))) None
  unfolding fetched
  opened p e a = rw e

  alike_words : (a : ℕ) → a % 8 ≡ 0 → AlikeWords Alike (fetched ee pool base a) (fetched ee after base a)
  unfolding after
  alike_words a a8 = rw (opened pool refl a, opened (put ee pool i w) (length_put ee pool i w fits) a) (by (leb base a && leb (a + 8) (base + length pool)) refl)
    where
      by : (b : Bool) → (leb base a && leb (a + 8) (base + length pool)) ≡ b
          → AlikeWords Alike (pick b (Some (desc ee pool (a - base))) None) (pick b (Some (desc ee after (a - base))) None)
      by false e = unreachable
      by true e =
          let t = and_true (leb base a) (leb (a + 8) (base + length pool)) e in
          let l = leb-true base a t.0 in
          let h = leb-true (a + 8) (base + length pool) t.1 in
          values (alike_at (a - base) (omega arith) (omega arith))

-- ---- every lookup after an update

-- how two traces end, in the memory before and after: the leaf at the updated descriptor has the new value
module _ (r : Regime) (pool : List ℕ) (i w : ℕ) (b8 : r.pool.address.0 % 8 ≡ 0) (i8 : i % 8 ≡ 0) (fits : i + 8 ≤ length pool) (small : w < 2 ^ 64)
    (unseen : Alike (desc r.ee pool i) w) (u : usable r ≡ true) (x : ℕ) where
  abbrev later : List ℕ
  later = put r.ee pool i w

  traces : AlikeTraces Alike (traced r pool x) (traced r later x)
  unfolding traced after
  traces =
      locate_alike Alike r x
      (λ left v y k. sym (decoded_same (context_of r x).page (context_of r x).limit.0 left v y (context_paged r x).least k))
      (λ v y k. sym k.tables)
      (pool_reader r pool) (pool_reader r later) (alike_words r.ee pool r.pool.address.0 i w b8 i8 fits small unseen) (usable_root r x u)

  spot_by : (n : ℕ) {e f : End} → AlikeEnds Alike e f → (traced r pool x).end ≡ e → (traced r later x).end ≡ f
      → spot_at r n f ≡ restamped (r.pool.start + i) w (spot_at r n e)
  spot_by n (faults kind level) p q = refl
  spot_by n (leaves a left sum {v = v} {w = y} k) p q =
      let g = found r pool x a (record { value = v; left = left; tables = sum }) (usable_sized r u) (usable_root r x u) p in
      let h = found r (put r.ee pool i w) x a (record { value = y; left = left; tables = sum }) (usable_sized r u) (usable_root r x u) q in
      let j = a - r.pool.address.0 in
      let jl : j + 8 ≤ length pool = omega (arith, g.inside.least, g.inside.most) in
      let j8 : j % 8 ≡ 0 = omega (arith, g.reached.aligned, g.inside.least) in
      let val : y ≡ pick (eqb i j) w v = sym h.inside.same ∙ desc_put_aligned r.ee pool i w j i8 j8 fits jl small ∙ rw g.inside.same in
      by j (eqb i j) refl val
    where
      test : (j : ℕ) (b : Bool) → eqb i j ≡ b → eqb (r.pool.start + j) (r.pool.start + i) ≡ b
      test j true e = eq-eqb (r.pool.start + j) (r.pool.start + i) (let z = eqb-true i j e in omega arith)
      test j false e = ne_eqb (r.pool.start + j) (r.pool.start + i) (λ z. eqb-false i j e (omega arith))

      by : (j : ℕ) (b : Bool) → eqb i j ≡ b → y ≡ pick b w v
          → found_at (r.pool.start + j) (record { value = y; left = left; tables = sum }) n
          ≡ found_at (r.pool.start + j) (pick (eqb (r.pool.start + j) (r.pool.start + i)) (record { value = w; left = left; tables = sum }) (record { value = v; left = left; tables = sum })) n
      by j true e z = rw (test j true e, z)
      by j false e z = rw (test j false e, z)

  pub spot_after : spot_of r (traced r later x) ≡ restamped (r.pool.start + i) w (spot_of r (traced r pool x))
  spot_after =
      ap (λ (l : List ℕ). spot_at r (length l) (traced r later x).end) (sym traces.visited)
      ∙ spot_by (length (traced r pool x).visited) traces.ends refl refl

marked_where : (r : Regime) (m : List ℕ) → Admitted ours r m → (q : ℕ) (f d : Bool) {at : ℕ} {u : Leaf} {n : ℕ} (y : Where r m q at u n) (p : ℕ)
    → located r (put_word ours r m (offset_of r y.address) (updated f d u.value)) p ≡ restamped (offset_of r y.address) (updated f d u.value) (located r m p)
unfolding located
marked_where r m s q f d {u = u} y p =
    let g = in_the_pool r m q y in
    let pool = pool_bytes r.pool m in
    let v = updated f d u.value in
    let i = y.address - r.pool.address.0 in
    let fits = (accepted_pool r (length m) s.pool).fits in
    let l : length pool ≡ r.pool.length = length_part m r.pool.start r.pool.length fits in
    let b8 : r.pool.address.0 % 8 ≡ 0 = multiple8 r r.pool.address.0 (accepted_address r s.regime).aligned in
    let i8 : i % 8 ≡ 0 = omega (arith, g.reached.aligned, g.inside.least) in
    let room : i + 8 ≤ length pool = omega (arith, g.inside.least, g.inside.most) in
    let value : desc r.ee pool i ≡ u.value = g.inside.same in
    let bytes = bytes_take (drop r.pool.start m) r.pool.length (bytes_drop m r.pool.start s.bytes) in
    let small : v < 2 ^ 64 = updated_small u.value f d (rw (← value) (desc_small r.ee pool i bytes)) in
    let unseen : Alike (desc r.ee pool i) v = rw value (alike_updated f d u.value) in
    let mem : pool_bytes r.pool (put_word ours r m (offset_of r y.address) v) ≡ put r.ee pool i v =
    ap (pool_bytes r.pool) (put_is r m (offset_of r y.address) v) ∙ part_put r.ee m r.pool.start r.pool.length i v fits (rw (← l) room) in
    rw (y.regime, mem) (spot_after r pool i v b8 i8 room small unseen y.regime (p * page_size (page_bits_of r)))

marked_by : (r : Regime) (m : List ℕ) → Admitted ours r m → (q : ℕ) (f d : Bool) {at : ℕ} {u : Leaf} {n : ℕ} → located r m q ≡ found_at at u n → (p : ℕ)
    → located r (put_word ours r m at (updated f d u.value)) p ≡ restamped at (updated f d u.value) (located r m p)
marked_by r m s q f d {u = u} e p =
    let y = where_found r m q e in
    subst (λ (x : ℕ). located r (put_word ours r m x (updated f d u.value)) p ≡ restamped x (updated f d u.value) (located r m p)) y.offset (marked_where r m s q f d y p)

pub marks : (r : Regime) (m : List ℕ) → Admitted ours r m → (q : ℕ) (o : Result) {at : ℕ} {u : Leaf} {n : ℕ} → located r m q ≡ found_at at u n → (p : ℕ)
    → located r (put_word ours r m at (stamped o u.value)) p ≡ restamped at (stamped o u.value) (located r m p)
unfolding stamped
marks r m s q o e p = marked_by r m s q (accessed_in o) (dirtied_in o) e p
