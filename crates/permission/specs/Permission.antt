-- What a leaf permits under the tables above it (RULES 7), and when each of steps 6 to 8 fails (RULES 6.6 to 6.8).
use Rattle.std.specs.Prelude.{ℕ, ◌%◌, Bool, not, ◌&&◌, ◌||◌, eqb}
use Rattle.descriptor.specs.Bits.{pick}
use Rattle.vmsa.specs.Kinds.{is_fetch, is_probe, asks_write}
use Rattle.vmsa.specs.Attributes.{attribute, device}
use Rattle.vmsa.specs.Fields.{attribute_index, ap1, ap2, af, dbm, pxn as pxn_in, uxn as uxn_in, no_write_below, no_user_below, uxn_below, pxn_below}
use Rattle.vmsa.specs.declared.Regime.{Regime}
use Rattle.vmsa.specs.declared.Access.{Access}
use Rattle.vmsa.specs.declared.Leaf.{Leaf}

-- the attribute byte of a leaf
unfoldable pub attribute_of : Regime → Leaf → ℕ
attribute_of r l = attribute r.attributes (attribute_index l.value)

-- W: no table takes writing away, and AP[2] is 0, or DBM, HA and HD are all 1
unfoldable pub writable : Regime → Leaf → Bool
writable r l = not (no_write_below l.tables) && (not (ap2 l.value) || dbm l.value && r.ha && r.hd)

-- writable-clean: writable with AP[2] still 1
unfoldable pub clean : Regime → Leaf → Bool
clean r l = ap2 l.value && writable r l

-- EL0 may access: AP[1], counted as 0 where a table says so
unfoldable pub user : Leaf → Bool
user l = ap1 l.value && not (no_user_below l.tables)

-- UXN and PXN, of the leaf or of a table
unfoldable pub uxn : Leaf → Bool
uxn l = uxn_in l.value || uxn_below l.tables

unfoldable pub pxn : Leaf → Bool
pxn l = pxn_in l.value || pxn_below l.tables

-- EL1 reads always. EL0 reads if AP[1]
unfoldable pub may_read : Bool → Leaf → Bool
may_read el0 l = not el0 || user l

-- EL1 writes if W. EL0 writes if AP[1] and W
unfoldable pub may_write : Regime → Bool → Leaf → Bool
may_write r el0 l = may_read el0 l && writable r l

-- EL1 may fetch unless PXN, or AP[1] and W, or WXN and W. EL0 may fetch unless UXN, or WXN and AP[1] and W. Here w is W
unfoldable pub may_fetch_with : Bool → Bool → Bool → Leaf → Bool
may_fetch_with wxn el0 w l = pick el0 (not (uxn l || wxn && user l && w)) (not (pxn l || user l && w || wxn && w))

unfoldable pub may_fetch : Regime → Bool → Leaf → Bool
may_fetch r el0 l = may_fetch_with r.wxn el0 (writable r l) l

unfoldable pub permitted : Regime → Access → Leaf → Bool
permitted r a l = pick (is_fetch a.kind) (may_fetch r a.el0 l) (pick (asks_write a.kind) (may_write r a.el0 l) (may_read a.el0 l))

-- a read, write or update whose address is not a multiple of its size
unfoldable pub misaligned : Access → Bool
misaligned a = not (is_fetch a.kind || is_probe a.kind) && not (eqb (a.address.0 % a.size) 0)

-- ---- when each of steps 6 to 8 fails

-- 6: AF clear and HA off
unfoldable pub flag_fails : Regime → Leaf → Bool
flag_fails r l = not (af l.value) && not r.ha

-- 7: misaligned, on Device memory
unfoldable pub alignment_fails : Regime → Access → Leaf → Bool
alignment_fails r a l = misaligned a && device (attribute_of r l)

-- 8: not permitted, or a permitted fetch from Device memory
unfoldable pub permission_fails : Regime → Access → Leaf → Bool
permission_fails r a l = not (permitted r a l) || is_fetch a.kind && device (attribute_of r l)
