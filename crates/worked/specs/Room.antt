-- What the program asks of a memory; no rule speaks of it.
use Rattle.std.specs.Prelude.{ℕ, ◌≤◌, List, length}

-- room for the four descriptors: the leaf, at offset 0x3018, is the last
abbrev pub Roomy : List ℕ → Type 0
Roomy memory = 0x3020 ≤ length memory
