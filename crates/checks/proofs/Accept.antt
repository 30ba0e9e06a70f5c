-- What a call that is not refused can rely on.
use Prim.Native.Nat.{ℕ, zero, suc, ◌+◌, ◌%◌, ◌<◌, ◌≤◌}
use mathlib.Core.Bool.{Bool, true, false, not, ◌&&◌, ◌||◌}
use mathlib.Core.List.{List, [], ◌∷◌}
use mathlib.Core.Path.{◌≡◌, refl, sym, ◌∙◌}
use native.Mathlib.Omega.{arith}
use lib.Dec.{leb, ltb, eqb}
use borrow.Author.Tests.{ltb-false, leb-false, not-false, eqb-true, eqb-false}
use Rattle.descriptor.proofs.Tests.{or_false}
use Rattle.vmsa.specs.Limits.{memory_limit, pool_limit, address_limit, tsz_least, tsz_most, output_most, harvest_limit, Sized}
use Rattle.vmsa.specs.Granules.{page_bits_of}
use Rattle.geometry.specs.Geometry.{unaligned, page_of}
use Rattle.vmsa.specs.Kinds.{is_fetch, is_probe}
use Rattle.vmsa.specs.declared.Regime.{Regime}
use Rattle.vmsa.specs.declared.Access.{Access}
use Rattle.vmsa.specs.declared.Refusal.{Refusal}
use Rattle.std.specs.Prelude.{Ok, Err}
use Rattle.bitmap.specs.Map.{bytes_for}
use Rattle.refusals.specs.Tests.{memory_pool_bad, pool_address_bad, tsz_bad, sizes_bad, root_bad, roots_bad, dirty_state_bad, size_bad, access_size_bad, last_byte, crossing, in_range0, in_range1, page_range_bad, map_length_bad}
use Rattle.checks.specs.Order.{Checked, first_of, regime_rows, access_rows, walk_rows, start_rows, regime_check, access_check, walk_check, start_check, asked_rows, asked_check, harvest_check}
use Rattle.checks.proofs.Rows.{both, harvest_apart}

-- no test of the rows applies
abbrev pub Clear : List (Bool × Refusal) → Type 0
Clear [] = Unit {0}
Clear (row ∷ rows) = (row.0 ≡ false) × Clear rows

never : (x : Refusal) → ◌≡◌ {A = Checked} (Err x) (Ok tt) → ⊥
never x e = let z : ◌≡◌ {A = ℕ} 0 1 = cc in omega arith

-- where the rows refuse nothing, none of their tests applies
pub clear : (rows : List (Bool × Refusal)) → first_of rows ≡ Ok tt → Clear rows
clear [] e = tt
clear (row ∷ rows) e = by row.0 refl (clear rows)
  where
    by : (b : Bool) → row.0 ≡ b → (first_of rows ≡ Ok tt → Clear rows) → (row.0 ≡ false) × Clear rows
    by true h rest = absurd (never row.1 (rw h at e))
    by false h rest = (h, rest (rw h at e))

-- of a memory and a pool (rows 1 and 2)
pub record Pooled (n : ℕ) (r : Regime) : Type 0 where
  pub memory : n ≤ memory_limit
  pub start : unaligned (page_bits_of r) r.pool.start ≡ false
  pub length : unaligned (page_bits_of r) r.pool.length ≡ false
  pub most : r.pool.length ≤ pool_limit
  pub fits : r.pool.start + r.pool.length ≤ n

pub record Addressed (r : Regime) : Type 0 where
  pub aligned : unaligned (page_bits_of r) r.pool.address.0 ≡ false
  pub below : r.pool.address.0 + r.pool.length ≤ address_limit

-- of a root (row 4)
pub record Rooted (p root : ℕ) : Type 0 where
  pub aligned : unaligned p root ≡ false
  pub below : root < address_limit

-- of an access (rows 6 and 7)
pub record Shaped (r : Regime) (a : Access) : Type 0 where
  pub positive : 0 < a.size
  pub one_page : page_of (page_bits_of r) a.address.0 ≡ page_of (page_bits_of r) (last_byte a)

-- of a regime over n bytes
pub record Settled (n : ℕ) (r : Regime) : Type 0 where
  pub pool : Pooled n r
  pub address : Addressed r
  pub sized : Sized r
  pub root0 : Rooted (page_bits_of r) r.range0.root.0
  pub root1 : Rooted (page_bits_of r) r.range1.root.0
  pub managed : r.hd ≡ true → r.ha ≡ true

pub pooled : (n : ℕ) (r : Regime) → memory_pool_bad n r ≡ false → Pooled n r
unfolding memory_pool_bad
pooled n r e =
    let t1 = ltb memory_limit n in
    let t2 = unaligned (page_bits_of r) r.pool.start in
    let t3 = unaligned (page_bits_of r) r.pool.length in
    let t4 = eqb r.pool.length 0 in
    let t5 = ltb pool_limit r.pool.length in
    let t6 = ltb n (r.pool.start + r.pool.length) in
    let s6 = or_false (t1 || t2 || t3 || t4 || t5) t6 e in
    let s5 = or_false (t1 || t2 || t3 || t4) t5 s6.0 in
    let s4 = or_false (t1 || t2 || t3) t4 s5.0 in
    let s3 = or_false (t1 || t2) t3 s4.0 in
    let s2 = or_false t1 t2 s3.0 in
    record {
      memory = ltb-false memory_limit n s2.0;
      start = s2.1;
      length = s3.1;
      most = ltb-false pool_limit r.pool.length s5.1;
      fits = ltb-false n (r.pool.start + r.pool.length) s6.1;
    }

pub addressed : (r : Regime) → pool_address_bad r ≡ false → Addressed r
unfolding pool_address_bad
addressed r e =
    let s = or_false (unaligned (page_bits_of r) r.pool.address.0) (ltb address_limit (r.pool.address.0 + r.pool.length)) e in
    record { aligned = s.0; below = ltb-false address_limit (r.pool.address.0 + r.pool.length) s.1 }

tsz_of : (t : ℕ) → tsz_bad t ≡ false → (tsz_least ≤ t) × (t ≤ tsz_most)
unfolding tsz_bad
tsz_of t e =
    let s = or_false (ltb t tsz_least) (ltb tsz_most t) e in
    (ltb-false t tsz_least s.0, ltb-false tsz_most t s.1)

pub sized : (r : Regime) → sizes_bad r ≡ false → Sized r
unfolding sizes_bad
sized r e =
    let t0 = tsz_bad r.range0.tsz in
    let t1 = tsz_bad r.range1.tsz in
    let s = or_false (t0 || t1) (ltb output_most r.output) e in
    let ts = or_false t0 t1 s.0 in
    let a = tsz_of r.range0.tsz ts.0 in
    let b = tsz_of r.range1.tsz ts.1 in
    record { least0 = a.0; most0 = a.1; least1 = b.0; most1 = b.1; output = ltb-false output_most r.output s.1 }

pub rooted : (p root : ℕ) → root_bad p root ≡ false → Rooted p root
unfolding root_bad
rooted p root e =
    let s = or_false (unaligned p root) (leb address_limit root) e in
    record { aligned = s.0; below = leb-false address_limit root s.1 }

positive_size : (s : ℕ) → (eqb s 1 || eqb s 2 || eqb s 4 || eqb s 8 || eqb s 16) ≡ true → 0 < s
positive_size zero e = absurd (no e)
  where
    no : false ≡ true → ⊥
    no e = let z : ◌≡◌ {A = ℕ} 0 1 = cc in omega arith
positive_size (suc s) e = omega arith

pub shaped : (r : Regime) (a : Access) → access_size_bad a ≡ false → crossing r a ≡ false → Shaped r a
unfolding access_size_bad size_bad crossing
shaped r a e f =
    let s = eqb a.size 1 || eqb a.size 2 || eqb a.size 4 || eqb a.size 8 || eqb a.size 16 in
    let t = is_fetch a.kind && (not (eqb a.size 4) || not (eqb (a.address.0 % 4) 0)) in
    let u = is_probe a.kind && not (eqb a.size 1) in
    let p = page_of (page_bits_of r) a.address.0 in
    let q = page_of (page_bits_of r) (last_byte a) in
    record {
      positive = positive_size a.size (not-false s (or_false (not s) t (or_false (not s || t) u e).0).0);
      one_page = eqb-true p q (not-false (eqb p q) f);
    }

settled_by : (n : ℕ) (r : Regime) → memory_pool_bad n r ≡ false → pool_address_bad r ≡ false → sizes_bad r ≡ false → roots_bad r ≡ false → dirty_state_bad r ≡ false → Settled n r
unfolding roots_bad dirty_state_bad
settled_by n r e1 e2 e3 e4 e13 =
    let s = or_false (root_bad (page_bits_of r) r.range0.root.0) (root_bad (page_bits_of r) r.range1.root.0) e4 in
    record {
      pool = pooled n r e1;
      address = addressed r e2;
      sized = sized r e3;
      root0 = rooted (page_bits_of r) r.range0.root.0 s.0;
      root1 = rooted (page_bits_of r) r.range1.root.0 s.1;
      managed = λ h. not-false r.ha (rw h at e13);
    }

-- a regime that is accepted
pub settled : (n : ℕ) (r : Regime) → regime_check n r ≡ Ok tt → Settled n r
unfolding regime_check
settled n r e = let c = clear (regime_rows n r) e in settled_by n r c.0 c.1.0 c.1.1.0 c.1.1.1.0 c.1.1.1.1.1.0

-- an access that is accepted
pub access_shaped : (r : Regime) (a : Access) → access_check r a ≡ Ok tt → Shaped r a
unfolding access_check
access_shaped r a e = let c = clear (access_rows r a) e in shaped r a c.0 c.1.0

-- a plain walk that is accepted
pub walk_accepted : (n : ℕ) (r : Regime) (a : Access) → walk_check n r a ≡ Ok tt → Settled n r × Shaped r a
unfolding walk_check
walk_accepted n r a e =
    let c = clear (walk_rows n r a) e in
    (settled_by n r c.0 c.1.0 c.1.1.0 c.1.1.1.0 c.1.1.1.1.1.0, shaped r a c.1.1.1.1.1.1.0 c.1.1.1.1.1.1.1.0)

-- a walk a descriptor at a time that is accepted
pub start_accepted : (r : Regime) (a : Access) → start_check r a ≡ Ok tt → Sized r × Shaped r a
unfolding start_check
start_accepted r a e =
    let c = clear (start_rows r a) e in
    (sized r c.0, shaped r a c.1.1.1.1.0 c.1.1.1.1.1.0)

-- of the pages and the map of a harvest (rows 10 and 11)
pub record Ranged (r : Regime) (first count : ℕ) : Type 0 where
  pub some : 0 < count
  pub most : count ≤ harvest_limit
  pub in_range : (in_range0 (page_bits_of r) r.range0.tsz first count || in_range1 (page_bits_of r) r.range1.tsz first count) ≡ true

pub ranged : (r : Regime) (first count : ℕ) → page_range_bad r first count ≡ false → Ranged r first count
unfolding page_range_bad
ranged r first count e =
    let t0 = in_range0 (page_bits_of r) r.range0.tsz first count in
    let t1 = in_range1 (page_bits_of r) r.range1.tsz first count in
    let s = or_false (eqb count 0 || ltb harvest_limit count) (not (t0 || t1)) e in
    let u = or_false (eqb count 0) (ltb harvest_limit count) s.0 in
    let z : count ≡ 0 → ⊥ = eqb-false count 0 u.0 in
    record { some = omega arith; most = ltb-false harvest_limit count u.1; in_range = not-false (t0 || t1) s.1 }

pub map_room : (count bytes : ℕ) → map_length_bad count bytes ≡ false → bytes_for count ≤ bytes
unfolding map_length_bad
map_room count bytes e = ltb-false bytes (bytes_for count) e

pub asked_accepted : (r : Regime) (first count bytes : ℕ) → asked_check r first count bytes ≡ Ok tt → Ranged r first count × (bytes_for count ≤ bytes)
unfolding asked_check
asked_accepted r first count bytes e = let c = clear (asked_rows r first count bytes) e in (ranged r first count c.0, map_room count bytes c.1.0)

-- a harvest that is accepted
pub harvest_accepted : (n : ℕ) (r : Regime) (first count bytes : ℕ) → harvest_check n r first count bytes ≡ Ok tt
    → (regime_check n r ≡ Ok tt) × (asked_check r first count bytes ≡ Ok tt)
harvest_accepted n r first count bytes e = both (regime_check n r) (asked_check r first count bytes) (sym (harvest_apart n r first count bytes) ∙ e)
