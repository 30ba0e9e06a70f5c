-- Every call of the plain walk is `walk`, of which rules 1 and 2 are proved.
use Rattle.walk.proofs.Promises.{walk_promise}
use Rattle.rules.specs.Code.{WalkOfCode}

pub walk_code : WalkOfCode
walk_code lives memory r a after x h = walk_promise lives memory r a after x h
