-- `listing::read_input`: the count of what is kept stays within its slice.
use Rattle.std.proofs.Common.{◌<◌}
use Rattle.listing.proofs.read_input.Given as goal

abbrev pub invariant-loop : goal.invariant-loop
invariant-loop g l = l.count < 4128
