-- Leaves with the same effective W, AP[1], UXN and PXN (RULES 7.1) permit the same.
use mathlib.Core.Path.{◌≡◌}
use Rattle.vmsa.specs.declared.Regime.{Regime}
use Rattle.vmsa.specs.declared.Access.{Access}
use Rattle.vmsa.specs.declared.Leaf.{Leaf}
use Rattle.permission.specs.Permission.{attribute_of, writable, user, uxn, pxn, may_read, may_write, may_fetch_with, may_fetch, permitted, permission_fails}

module _ (r : Regime) (a : Access) (l k : Leaf) (w : writable r l ≡ writable r k) (u : user l ≡ user k) (x : uxn l ≡ uxn k) (p : pxn l ≡ pxn k) where
  read_same : may_read a.el0 l ≡ may_read a.el0 k
  unfolding may_read
  read_same = rw u

  write_same : may_write r a.el0 l ≡ may_write r a.el0 k
  unfolding may_write
  write_same = rw (read_same, w)

  fetch_same : may_fetch r a.el0 l ≡ may_fetch r a.el0 k
  unfolding may_fetch may_fetch_with
  fetch_same = rw (w, u, x, p)

  -- and with the same attribute byte step 8 fails for both or for neither
  pub permission_same : attribute_of r l ≡ attribute_of r k → permission_fails r a l ≡ permission_fails r a k
  unfolding permission_fails permitted
  permission_same e = rw (fetch_same, write_same, read_same, e)
