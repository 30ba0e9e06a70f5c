use Rattle.std.proofs.Common.{◌+◌, ◌*◌}
use Rattle.lookup.proofs.+enter_follow.Given as goal

abbrev pub decreases-enter : goal.decreases-enter
decreases-enter l = 2 * l.left + 1

abbrev pub decreases-follow : goal.decreases-follow
decreases-follow l = 2 * l.left
