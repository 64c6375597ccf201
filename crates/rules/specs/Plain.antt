-- The plain run.
use Rattle.std.specs.Prelude.{ℕ, zero, suc, Err, Ok, true, false}
use Rattle.rules.specs.Types.{Test, Stop}
use Rattle.rules.specs.Trees.{Statement}
use Rattle.rules.specs.Memory.{Memory, Change, changed, stopped, fixed, make_block, end_block}
use Rattle.rules.specs.Memory.{assigned, allocated, freed}
use Rattle.rules.specs.Evaluation.{Variables, evaluate_source, find_source, evaluate_predicate, condition}
use Rattle.rules.specs.Flow.{Outcome, Meaning, run_by}

-- "33 assertion false"
abbrev pub asserted : {S : Type 0} → S → Test → Change S
asserted x (Ok true) = changed x
asserted x (Ok false) = stopped Stop.FalseAssertion x
asserted x (Err c) = stopped c x

-- the state of a plain run is its memory
abbrev pub plain_meaning : Meaning Memory
plain_meaning = record {
  assigns = λ p e ρ m. assigned m (find_source p ρ m) (evaluate_source e ρ m);
  allocates = λ p e ρ m. allocated m (find_source p ρ m) (evaluate_source e ρ m);
  frees = λ e ρ m. freed m (evaluate_source e ρ m);
  asserts = λ s p ρ m f. asserted m (condition (evaluate_predicate p ρ m));
  decides = λ e ρ m. condition (evaluate_source e ρ m);
  makes = λ m. make_block m fixed 1;
  ends = end_block;
}

abbrev pub run : Statement → Variables → Memory → ℕ → Outcome Memory
run a ρ m f = run_by plain_meaning a ρ m f

-- "Variable 0 is in scope throughout: block 1 is its cell"
abbrev pub start_variables : Variables
start_variables zero = 1
start_variables (suc x) = 0
