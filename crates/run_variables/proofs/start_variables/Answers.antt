use Rattle.run_variables.proofs.VariableLaws.{variables-start}
use Rattle.run_variables.proofs.start_variables.Goals as goal

pub returns : goal.returns
returns c = variables-start
