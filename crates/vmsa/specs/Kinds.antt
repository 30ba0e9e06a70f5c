-- What each kind of access asks (RULES 4).
use Rattle.std.specs.Prelude.{Bool, true, false}
use Rattle.vmsa.specs.declared.AccessKind.{AccessKind}
use Rattle.vmsa.specs.declared.AccessKind.TheVariants.{Read, Write, Update, Fetch, ProbeRead, ProbeWrite}

abbrev pub is_fetch : AccessKind → Bool
is_fetch Read = false
is_fetch Write = false
is_fetch Update = false
is_fetch Fetch = true
is_fetch ProbeRead = false
is_fetch ProbeWrite = false

abbrev pub is_probe : AccessKind → Bool
is_probe Read = false
is_probe Write = false
is_probe Update = false
is_probe Fetch = false
is_probe ProbeRead = true
is_probe ProbeWrite = true

-- an update or probe-write asks what a write asks
abbrev pub asks_write : AccessKind → Bool
asks_write Read = false
asks_write Write = true
asks_write Update = true
asks_write Fetch = false
asks_write ProbeRead = false
asks_write ProbeWrite = true

-- a write or update: what makes a page dirty
abbrev pub writes : AccessKind → Bool
writes Read = false
writes Write = true
writes Update = true
writes Fetch = false
writes ProbeRead = false
writes ProbeWrite = false
