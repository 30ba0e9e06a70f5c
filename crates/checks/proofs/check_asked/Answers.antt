use mathlib.Core.Path.{sym, ◌∙◌}
use Rattle.checks.proofs.Accept.{ranged}
use Rattle.checks.proofs.check_asked.Goals as goal

pub map_length_bad-requires : goal.map_length_bad-requires
map_length_bad-requires c = let a = c.args in (ranged a.r a.first a.count (sym c.page_range_bad.ensures ∙ c.if-page_range_bad.false)).most
