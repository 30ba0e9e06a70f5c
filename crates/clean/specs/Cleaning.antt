-- What a cleaning asks for.
use Rattle.std.specs.Prelude.{◌-◌}
use Rattle.clean.specs.declared.Cleaning.{Cleaning}
use Rattle.clean.specs.Clean.{Asked, asked}

abbrev pub asked_by : Cleaning → Asked
asked_by c = asked c.search.ee c.search.base.0 c.search.page c.search.from (c.to - c.search.from)
