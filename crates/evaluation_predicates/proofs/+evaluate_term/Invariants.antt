-- The record number falls at each call.
use Rattle.evaluation_predicates.proofs.+evaluate_term.Given as goal

abbrev pub decreases-evaluate_term : goal.decreases-evaluate_term
decreases-evaluate_term l = l.n
