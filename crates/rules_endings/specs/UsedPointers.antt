-- 02 §2: "Repairers treat a freed block and an overrun as two different repairs". The pointer whose read or store ended
-- a run, worked out again from the statement of the ending, the variables' blocks and the state as then.
use Rattle.std.specs.Prelude.{ℕ, ◌≤◌, ◌≡◌, ℤ, pos, negsuc}
use Rattle.std.proofs.Math.Option.{Option, none, some}
use Rattle.rules.specs.Types.{Evaluated, stop_number}
use Rattle.rules.specs.declared.{Pointer.Pointer, Stop.Stop, Block.Block, Recorded.Recorded}
use Rattle.rules.specs.Trees.{Expression, literal, read, address, operation, shifted, Place, variable, pointed}
use Rattle.rules.specs.Trees.{temporary, Term, value, asked, combined, Predicate, holds, compared, negated, both}
use Rattle.rules.specs.Trees.{either, Statement, skip, assign, new, free, sequence, branch, while, let_in, assert}
use Rattle.rules.specs.TargetTrees.{TargetStatement}
use Rattle.rules.specs.TargetTrees as target
use Rattle.rules.specs.Numbers.{tested}
use Rattle.rules.specs.Memory.{Memory, recorded_of, block_of, locate, at_cell, on_value, on_place}
use Rattle.rules.specs.Evaluation.{Variables, Holding, no_temporaries, evaluate, find_place, evaluate_term}
use Rattle.rules.specs.Evaluation.{evaluate_predicate, on_test}
use Rattle.rules.specs.Watched.{WatchedState, temporary_of}

-- a read or a store with a pointer, where it leads to no cell
abbrev pub astray : Memory → Pointer → Option Pointer
astray m p = at_cell (λ i. none) (λ c. some p) (locate m p)

-- "Evaluation goes A, then B": where A stops, what A used, else what B used
abbrev pub in_turn : Evaluated → Option Pointer → Option Pointer → Option Pointer
in_turn a u v = on_value a (λ c. u) (λ x. v)

-- "Places evaluate expressions and expressions read places."
unfoldable mutual
  pub used_by : {T : Type 0} → Expression T → Holding T → Variables → Memory → Option Pointer
  used_by (literal z) τ ρ m = none
  used_by (read p) τ ρ m = on_place (find_place p τ ρ m) (λ c. used_to p τ ρ m) (astray m)
  used_by (address p) τ ρ m = used_to p τ ρ m
  used_by (operation o a b) τ ρ m = in_turn (evaluate a τ ρ m) (used_by a τ ρ m) (used_by b τ ρ m)
  used_by (shifted a b) τ ρ m = in_turn (evaluate a τ ρ m) (used_by a τ ρ m) (used_by b τ ρ m)

  pub used_to : {T : Type 0} → Place T → Holding T → Variables → Memory → Option Pointer
  used_to (variable x) τ ρ m = none
  used_to (pointed e) τ ρ m = used_by e τ ρ m
  used_to (temporary t) τ ρ m = none

-- a query reads no cell
abbrev pub used_by_term : Term → Variables → Memory → Option Pointer
used_by_term (value e) ρ m = used_by e no_temporaries ρ m
used_by_term (asked q t) ρ m = used_by_term t ρ m
used_by_term (combined o a b) ρ m = in_turn (evaluate_term a ρ m) (used_by_term a ρ m) (used_by_term b ρ m)

-- "'and' and 'or' skip B when A decides": what is used where A is true, and where it is 0
abbrev pub unless_decided : Evaluated → Option Pointer → Option Pointer → Option Pointer → Option Pointer
unless_decided a u v w = on_value a (λ c. u) (λ x. on_test (tested x) (λ c. none) v w)

abbrev pub used_by_predicate : Predicate → Variables → Memory → Option Pointer
used_by_predicate (holds q t) ρ m = used_by_term t ρ m
used_by_predicate (compared o a b) ρ m = in_turn (evaluate_term a ρ m) (used_by_term a ρ m) (used_by_term b ρ m)
used_by_predicate (negated a) ρ m = used_by_predicate a ρ m
used_by_predicate (both a b) ρ m =
    unless_decided (evaluate_predicate a ρ m) (used_by_predicate a ρ m) (used_by_predicate b ρ m) none
used_by_predicate (either a b) ρ m =
    unless_decided (evaluate_predicate a ρ m) (used_by_predicate a ρ m) none (used_by_predicate b ρ m)

-- kinds 41 and 42: the place, then the value or the size, then the store
abbrev pub used_storing : {T : Type 0} → Place T → Expression T → Holding T → Variables → Memory → Option Pointer
used_storing p e τ ρ m =
    on_place (find_place p τ ρ m) (λ c. used_to p τ ρ m) (λ q.
    on_value (evaluate e τ ρ m) (λ c. used_by e τ ρ m) (λ v. astray m q))

abbrev pub used_in : Statement → Variables → Memory → Option Pointer
used_in (skip s) ρ m = none
used_in (assign s p e) ρ m = used_storing p e no_temporaries ρ m
used_in (new s p e) ρ m = used_storing p e no_temporaries ρ m
used_in (free s e) ρ m = used_by e no_temporaries ρ m
used_in (sequence s a b) ρ m = none
used_in (branch s e a b) ρ m = used_by e no_temporaries ρ m
used_in (while s e b) ρ m = used_by e no_temporaries ρ m
used_in (let_in s x b) ρ m = none
used_in (assert s p) ρ m = used_by_predicate p ρ m

-- the same in a watched run: its temporaries hold pointers, and its calls of the observation memory read no cell
abbrev pub used_with : TargetStatement → Holding ℕ → Variables → Memory → Option Pointer
used_with (target.skip s) τ ρ m = none
used_with (target.assign s p e) τ ρ m = used_storing p e τ ρ m
used_with (target.new s p e) τ ρ m = used_storing p e τ ρ m
used_with (target.free s e) τ ρ m = used_by e τ ρ m
used_with (target.sequence s a b) τ ρ m = none
used_with (target.branch s e a b) τ ρ m = used_by e τ ρ m
used_with (target.while s e b) τ ρ m = used_by e τ ρ m
used_with (target.let_in s y b) τ ρ m = none
used_with (target.take_address s n p) τ ρ m = used_to p τ ρ m
used_with (target.take_value s n e) τ ρ m = used_by e τ ρ m
used_with (target.take_operation s n o) τ ρ m = none
used_with (target.take_query s n q) τ ρ m = none
used_with (target.take_not s n) τ ρ m = none
used_with (target.branch_on s n a b) τ ρ m = none
used_with (target.assert_on s n) τ ρ m = none
used_with (target.store_block s n) τ ρ m = none
used_with (target.delete_block s n) τ ρ m = none
used_with (target.initialise s n) τ ρ m = none

abbrev pub used_in_target : TargetStatement → Variables → WatchedState → Option Pointer
used_in_target a ρ x = used_with a (temporary_of x.temporaries) ρ x.memory

-- "42 means that the block is dead"
abbrev pub IsDead : Memory → Pointer → Type 0
IsDead m p = block_of m p.name ≡ Block.Dead

-- "50, offset outside a live block": below 0, or not below its length
abbrev pub Outside : ℤ → ℕ → Type 0
Outside (pos o) n = n ≤ o
Outside (negsuc o) n = Unit {0}

pub record IsOutside (m : Memory) (p : Pointer) : Type 0 where
  pub first : ℕ
  pub length : ℕ
  pub live : recorded_of (block_of m p.name) ≡ Recorded.Live first length
  pub outside : Outside p.offset length

-- a pointer was used, and P holds of it
pub record Used (P : Pointer → Type 0) (u : Option Pointer) : Type 0 where
  pub pointer : Pointer
  pub used : u ≡ some pointer
  pub is : P pointer

-- what an ending's number tells of the pointer that was used: which of the two repairs it is
pub record ToldApart (c : Stop) (m : Memory) (u : Option Pointer) : Type 0 where
  pub dead : stop_number c ≡ 42 → Used (IsDead m) u
  pub outside : stop_number c ≡ 50 → Used (IsOutside m) u
