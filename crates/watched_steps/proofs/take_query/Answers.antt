-- What the temporary behind it holds is what is asked.
use Rattle.std.proofs.Common.{add-one}
use Rattle.watched_steps.proofs.take_query.Goals as goal

pub returns : goal.returns
returns c =
    let e = rw add-one at c.in_ok-pointer.ensures in
    rw (← e, ← c.query.ensures) c.take_evaluated.ensures
