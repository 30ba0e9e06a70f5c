use Prim.Native.Nat.{ℕ, ◌*◌, ◌/◌, ◌%◌, ◌^◌, ◌<◌}
use mathlib.Core.Path.{◌≡◌, sym, ap, subst, ◌∙◌}
use native.Mathlib.Omega.{arith}
use lib.ListN.{length}
use Rattle.vmsa.specs.Granules.{page_bits_of}
use Rattle.vmsa.specs.declared.PhysAddr.{PhysAddr}
use Rattle.geometry.specs.Geometry.{page_size, first_left}
use Rattle.std.specs.Prelude.{Ok}
use Rattle.lookup.specs.declared.Context.{Context}
use Rattle.lookup.specs.Steps.{range_of, context_of, first_table, Below}
use Rattle.bitmap.specs.Map.{bytes_for}
use Rattle.bitmap.proofs.Laws.{cleared_length}
use Rattle.checks.proofs.Accept.{settled, asked_accepted}
use Rattle.walk.proofs.Ends.{multiple8, root_aligned}
use Rattle.harvest.proofs.Place.{placed}
use Rattle.harvest.proofs.Pool.{limited, table_root, fits_first, from_fits, fault_map, fault_pool, table_map, table_pool}
use Rattle.harvest.proofs.harvest_pool.Goals as goal

pub overflow_mul-a : goal.overflow_mul-a
overflow_mul-a c =
    let a = c.args in
    let z = (settled _ _ c.requires.0.1).sized in
    let k = (asked_accepted _ _ _ _ c.requires.1).0 in
    let h : a.first * c.page_size.result < 2 ^ 64 = rw (c.page_size.ensures.0, c.page_bits-page.ensures.0) (fits_first a.r a.first a.count z (placed a.r a.first a.count z k) k.some) in
    omega (arith, h)

pub returns-in_default : goal.returns-in_default
returns-in_default c =
    let a = c.args in
    let z = (settled _ _ c.requires.0.1).sized in
    let k = (asked_accepted _ _ _ _ c.requires.1).0 in
    let pl = placed a.r a.first a.count z k in
    let x : a.first * c.page_size.result ≡ a.first * page_size (page_bits_of a.r) = rw (c.page_size.ensures.0, c.page_bits-page.ensures.0) in
    let e = ap (first_table a.r) (sym x) ∙ sym c.first_table.ensures.0 ∙ c.in_default.is in
    (c.clear.ensures ∙ fault_map a.r a.first a.count z pl k.some _ e a.pool.now a.map.now, fault_pool a.r a.first a.count z pl k.some _ e a.pool.now)

pub overflow_add-to : goal.overflow_add-to
overflow_add-to c =
    let a = c.args in
    let s = settled _ _ c.requires.0.1 in
    let k = asked_accepted _ _ _ _ c.requires.1 in
    let pl = placed a.r a.first a.count s.sized k.0 in
    let x : a.first * c.page_size.result ≡ a.first * page_size (page_bits_of a.r) = rw (c.page_size.ensures.0, c.page_bits-page.ensures.0) in
    let t = c.context_of-c in
    let m = from_fits a.r a.first a.count s.sized pl k.0.some _ t.result _ x t.ensures.0 c.page_size-2.ensures.0 in
    omega (arith, m)

pub invariant_of-search : goal.invariant_of-search
invariant_of-search c =
    let a = c.args in
    let t = c.context_of-c in
    let x : a.first * c.page_size.result ≡ a.first * page_size (page_bits_of a.r) = rw (c.page_size.ensures.0, c.page_bits-page.ensures.0) in
    record { paged = t.ensures.1; limited = ∣ limited a.r (a.first * page_size (page_bits_of a.r)) t.result (t.ensures.0 ∙ ap (context_of a.r) x) ∣₁ }

pub gather-requires : goal.gather-requires
gather-requires c =
    let a = c.args in
    let s = settled _ _ c.requires.0.1 in
    let k = asked_accepted _ _ _ _ c.requires.1 in
    let pl = placed a.r a.first a.count s.sized k.0 in
    let x : a.first * c.page_size.result ≡ a.first * page_size (page_bits_of a.r) = rw (c.page_size.ensures.0, c.page_bits-page.ensures.0) in
    let t = c.context_of-c in
    let m = from_fits a.r a.first a.count s.sized pl k.0.some _ t.result _ x t.ensures.0 c.page_size-2.ensures.0 in
    let l = c.first_left-left in
    let b : Below (Ok c.in-Ok.root) = subst Below c.in-Ok.is c.first_table.ensures.1 in
    let n = ap length c.clear.ensures ∙ cleared_length (bytes_for a.count) a.map.now k.1 in
    (record { paged = t.ensures.1; low = l.ensures.1; forward = omega arith; small = omega (arith, m) }, record { begin = omega arith; fits = omega (arith, n, k.1) }, b)

pub clean-requires : goal.clean-requires
unfolding context_of
clean-requires c =
    let a = c.args in
    let s = settled _ _ c.requires.0.1 in
    let k = asked_accepted _ _ _ _ c.requires.1 in
    let pl = placed a.r a.first a.count s.sized k.0 in
    let x : a.first * c.page_size.result ≡ a.first * page_size (page_bits_of a.r) = rw (c.page_size.ensures.0, c.page_bits-page.ensures.0) in
    let t = c.context_of-c in
    let m = from_fits a.r a.first a.count s.sized pl k.0.some _ t.result _ x t.ensures.0 c.page_size-2.ensures.0 in
    let l = c.first_left-left in
    let e = ap (first_table a.r) (sym x) ∙ sym c.first_table.ensures.0 ∙ c.in-Ok.is in
    let q : c.in-Ok.root.0 % 8 ≡ 0 =
    ap (λ (j : PhysAddr). j.0 % 8) (sym (table_root a.r (a.first * page_size (page_bits_of a.r)) _ e)) ∙ root_aligned a.r (a.first * page_size (page_bits_of a.r)) s.root0 s.root1 in
    let b : Below (Ok c.in-Ok.root) = subst Below c.in-Ok.is c.first_table.ensures.1 in (
      record { paged = t.ensures.1; low = l.ensures.1; forward = omega arith; small = omega (arith, m) },
      record { begin = omega arith; end = omega arith; base_aligned = ap (λ (j : Context). j.base.0 % 8) t.ensures.0 ∙ multiple8 a.r a.r.pool.address.0 s.address.aligned; aligned = q },
      b,
    )

pub returns : goal.returns
returns c =
    let a = c.args in
    let s = settled _ _ c.requires.0.1 in
    let k = asked_accepted _ _ _ _ c.requires.1 in
    let pl = placed a.r a.first a.count s.sized k.0 in
    let x : a.first * c.page_size.result ≡ a.first * page_size (page_bits_of a.r) = rw (c.page_size.ensures.0, c.page_bits-page.ensures.0) in
    let t = c.context_of-c in
    let d : t.result ≡ context_of a.r (a.first * page_size (page_bits_of a.r)) = t.ensures.0 ∙ ap (context_of a.r) x in
    let y = c.page_size-2 in
    let f : t.result.input.0 / y.result ≡ t.result.input.0 / page_size t.result.page = ap (λ (j : ℕ). t.result.input.0 / j) y.ensures.0 in
    let l = c.first_left-left in
    let g = c.range_of-range.ensures.0 ∙ ap (range_of a.r) x in
    let e = ap (first_table a.r) (sym x) ∙ sym c.first_table.ensures.0 ∙ c.in-Ok.is in
    let el = l.ensures.0 ∙ ap (λ (j : _). first_left t.result.page j.tsz) g in
    let u = t.result.input.0 / y.result in (
      table_map a.r a.first a.count s.sized pl k.0.some _ e a.pool.now t.result d l.result u el f a.map.now _ _ k.1 (λ i. omega (arith, c.slice_known-2-1.given i)) c.clear.ensures c.gather.ensures,
      table_pool a.r a.first a.count s.sized pl k.0.some _ e a.pool.now t.result d l.result u el f _ (λ i. omega (arith, c.slice_known-1.given i)) c.clean.ensures,
    )
