-- Source statements whose queries and operators are those of their kinds, so that they have records.
use mathlib.Core.Bool.{true, ◌||◌}
use mathlib.Core.Path.{◌≡◌}
use lib.Dec.{eqb}
use Rattle.rules.specs.Kinds.{between}
use Rattle.rules.specs.Trees.{Term, value, asked, combined, Predicate, holds, compared, negated, both, either}
use Rattle.rules.specs.Trees.{Statement, skip, assign, new, free, sequence, branch, while, let_in, assert}
use Rattle.rules.specs.Emission.{operator_number}
use Rattle.rules.specs.SourceRecords.{query_kind}

-- 21 to 23 ask of a term; operators 1–5 or 8
abbrev pub WritableTerm : Term → Type 0
WritableTerm (value e) = Unit {0}
WritableTerm (asked q t) = (between 21 23 (query_kind q) ≡ true) × WritableTerm t
WritableTerm (combined o a b) =
    ((between 1 5 (operator_number o) || eqb (operator_number o) 8) ≡ true) × WritableTerm a × WritableTerm b

-- 30 and 31 are predicates; operators 6 or 7
abbrev pub WritablePredicate : Predicate → Type 0
WritablePredicate (holds q t) = (between 30 31 (query_kind q) ≡ true) × WritableTerm t
WritablePredicate (compared o a b) = (between 6 7 (operator_number o) ≡ true) × WritableTerm a × WritableTerm b
WritablePredicate (negated a) = WritablePredicate a
WritablePredicate (both a b) = WritablePredicate a × WritablePredicate b
WritablePredicate (either a b) = WritablePredicate a × WritablePredicate b

abbrev pub Writable : Statement → Type 0
Writable (skip s) = Unit {0}
Writable (assign s p e) = Unit {0}
Writable (new s p e) = Unit {0}
Writable (free s e) = Unit {0}
Writable (sequence s a b) = Writable a × Writable b
Writable (branch s e a b) = Writable a × Writable b
Writable (while s e b) = Writable b
Writable (let_in s x b) = Writable b
Writable (assert s p) = WritablePredicate p
