-- The record number falls at each call.
use Rattle.evaluation_predicates.proofs.+evaluate_predicate.Given as goal

abbrev pub decreases-evaluate_predicate : goal.decreases-evaluate_predicate
decreases-evaluate_predicate l = l.n
