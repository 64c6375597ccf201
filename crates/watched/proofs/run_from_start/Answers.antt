use Rattle.rules.specs.Nodes.{target_statement_at}
use Rattle.watched.proofs.EntryLaws.{leaves-start}
use Rattle.watched.proofs.run_from_start.Goals as goal

pub returns-clause-outcome : goal.returns-clause-outcome
returns-clause-outcome c =
    let a = c.args in
    leaves-start (target_statement_at a.table.now a.n) a.fuel
    (rw c.start_variables-variables.ensures at c.run.ensures.outcome)
