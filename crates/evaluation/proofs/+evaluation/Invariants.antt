-- The record number falls at each call, or stays from an operand to its evaluation.
use Rattle.std.proofs.Common.{◌+◌, ◌*◌}
use Rattle.evaluation.proofs.+evaluation.Given as goal

abbrev pub decreases-evaluate : goal.decreases-evaluate
decreases-evaluate l = l.n * 2

abbrev pub decreases-evaluate_operand : goal.decreases-evaluate_operand
decreases-evaluate_operand l = l.n * 2 + 1

abbrev pub decreases-find_place : goal.decreases-find_place
decreases-find_place l = l.n * 2
