-- P1 to P4 as a listing and runs of whole tables, by computation. No law of translations or memories is used, so that a
-- wrong definition is refused by the case that it gets wrong.
use Prim.Native.Nat.{ℕ, ◌^◌}
use mathlib.Core.List.{List, ◌++◌, map}
use mathlib.Core.Path.{◌≡◌, refl, ap}
use lib.IntN.{ℤ, pos}
use lib.ListN.{replicate, length-replicate}
use Rattle.std.specs.Prelude.{Ok}
use Rattle.rules.specs.Sizes.{memory_length, observation_length}
use Rattle.rules.specs.Words.{little, digits, word_at, flat}
use Rattle.rules.specs.Records.{Record, table_bytes}
use Rattle.rules.specs.Kinds.{source, target, look_up, form_of}
use Rattle.rules.specs.Checker.{lowest, record_fault, times_child_of, times_child, shape_fault, parent_of, in_scope}
use Rattle.rules.specs.Checker.{scope_fault, level_of, level_fault, check}
use Rattle.rules.specs.Nodes.{make_node, nodes, node_at}
use Rattle.rules.specs.Numbers.{on_integers, operate}
use Rattle.rules.specs.Memory.{Memory, locate, all_free, lowest_run, start_memory}
use Rattle.rules.specs.Evaluation.{evaluate, evaluate_term, evaluate_predicate}
use Rattle.rules.specs.Flow.{Ending, run_by}
use Rattle.rules.specs.Flow as flow
use Rattle.rules.specs.Observation.{covered, mark_all}
use Rattle.rules.specs.Watched.{WatchedState, watch}
use Rattle.rules.specs.Emission.{expression_tree, statement_tree, emit}
use Rattle.rules.specs.Translation.{embed, translate_term, translate_predicate, translate, translated_records}
use Rattle.rules.specs.Translation.{translation}
use Rattle.rules.specs.Layout.{block_bytes, cell_bytes, memory_image}
use Rattle.rules.specs.Answers.{PlainRun, plain_outcome, plain_ended, watched_outcome, watched_ended}
use Rattle.rules.specs.Listing.{decimal_digits, record_lines, listing}
use Rattle.rules.specs.Cases.{inputs, minus, plain, watched, stop, ending, endings, p1, listing_on_paper}
use Rattle.rules.specs.Cases.{division, assertion, variable_cell, divided, quotient, no_quotient}
use Rattle.rules.proofs.Claim.UnrefusedRuns.{plain_runs, watched-runs}

-- "P1: source .. gives" these lines
pub listing-of-P1 : listing (table_bytes p1) ≡ listing_on_paper
unfolding little digits word_at flat look_up form_of lowest record_fault times_child_of times_child shape_fault parent_of
    in_scope scope_fault level_of level_fault check make_node nodes node_at embed translate_term translate_predicate
    translate expression_tree statement_tree emit translated_records decimal_digits record_lines
listing-of-P1 = refl

-- the endings of a program, of which a run's answer and memories are made
abbrev pub plainly : List Record → Ending Memory
plainly rs = flow.ending (plain_outcome (table_bytes rs) inputs 0)

abbrev pub watchedly : List Record → Ending WatchedState
watchedly rs = flow.ending (watched_outcome (translation (table_bytes rs)) inputs 0)

-- A run of an accepted table is its outcome: the lent memories are of the right length.
pub plain-is : (rs : List Record) → check source (table_bytes rs) ≡ Ok tt
    → plain rs ≡ plain_ended (plainly rs)
unfolding plain digits
plain-is rs c =
    plain_runs (table_bytes rs) inputs 0 (replicate memory_length 0) c refl (length-replicate {A = ℕ} memory_length 0)

pub watched-is : (rs : List Record) → check target (translation (table_bytes rs)) ≡ Ok tt
    → watched rs ≡ watched_ended (watchedly rs)
unfolding watched digits
watched-is rs c =
    watched-runs (translation (table_bytes rs)) inputs 0 (replicate memory_length 0) (replicate observation_length 0) c
    refl (length-replicate {A = ℕ} memory_length 0) (length-replicate {A = ℕ} observation_length 0)

pub ending-is : (rs : List Record) → check source (table_bytes rs) ≡ Ok tt
    → ending rs ≡ stop (plain_ended (plainly rs)).answer
unfolding ending
ending-is rs c = ap (λ (r : PlainRun). stop r.answer) (plain-is rs c)

pub endings-are : (rs : List Record) → check source (table_bytes rs) ≡ Ok tt
    → check target (translation (table_bytes rs)) ≡ Ok tt
    → endings rs ≡ stop (plain_ended (plainly rs)).answer ++ stop (watched_ended (watchedly rs)).answer
unfolding endings
endings-are rs c d = λ i. ending-is rs c i ++ stop (watched-is rs d i).answer

-- what a division shows, of its outcomes
abbrev shown : ℕ → ℤ → ℤ → ℤ → List ℤ
shown o x y z =
    map pos ((stop (plain_ended (plainly (division o x y))).answer
    ++ stop (watched_ended (watchedly (division o x y))).answer)
    ++ (stop (plain_ended (plainly (assertion o x y z))).answer
    ++ stop (watched_ended (watchedly (assertion o x y z))).answer))
    ++ variable_cell (memory_image (plainly (division o x y)).state)
    ++ variable_cell (memory_image (watchedly (division o x y)).state.memory)

abbrev Accepted : ℕ → ℤ → ℤ → ℤ → Type 0
Accepted o x y z =
    (check source (table_bytes (division o x y)) ≡ Ok tt)
    × (check target (translation (table_bytes (division o x y))) ≡ Ok tt)
    × (check source (table_bytes (assertion o x y z)) ≡ Ok tt)
    × (check target (translation (table_bytes (assertion o x y z))) ≡ Ok tt)

shown-is : (o : ℕ) (x y z : ℤ) → Accepted o x y z → divided o x y z ≡ shown o x y z
unfolding divided
shown-is o x y z e = λ i.
    map pos (endings-are (division o x y) e.0 e.1 i ++ endings-are (assertion o x y z) e.2 e.3 i)
    ++ variable_cell (plain-is (division o x y) e.0 i).memory
    ++ variable_cell (watched-is (division o x y) e.1 i).memory

-- the tables of operators 4 and 5 are accepted, whatever they divide
accepted : (x y z : ℤ) → Accepted 4 x y z × Accepted 5 x y z
unfolding little digits word_at flat look_up form_of lowest record_fault times_child_of times_child shape_fault parent_of
    in_scope scope_fault level_of level_fault check make_node nodes node_at embed translate_term translate_predicate
    translate expression_tree statement_tree emit translated_records
accepted x y z = ((refl, refl, refl, refl), (refl, refl, refl, refl))

by-four : (x y z : ℤ) → divided 4 x y z ≡ shown 4 x y z
by-four x y z = shown-is 4 x y z (accepted x y z).0

by-five : (x y z : ℤ) → divided 5 x y z ≡ shown 5 x y z
by-five x y z = shown-is 5 x y z (accepted x y z).1

-- "P2 operator 5: 7 by 2 is 4, −7 by 2 is −4", 02 §1: "5 by 2 is 2, .. −5 by 2 is −2", "1 by 3 is 0. P3 operator 4:
-- −7 by 2 is −3. P4: −2^63 by −1 ends 43, by 0 ends 44."
pub divisions-of-P2-to-P4 :
    (divided 5 (pos 7) (pos 2) (pos 4) ≡ quotient (pos 4))
    × (divided 5 (minus 7) (pos 2) (minus 4) ≡ quotient (minus 4))
    × (divided 5 (pos 5) (pos 2) (pos 2) ≡ quotient (pos 2))
    × (divided 5 (minus 5) (pos 2) (minus 2) ≡ quotient (minus 2))
    × (divided 5 (pos 1) (pos 3) (pos 0) ≡ quotient (pos 0))
    × (divided 4 (minus 7) (pos 2) (minus 3) ≡ quotient (minus 3))
    × (divided 4 (minus (2 ^ 63)) (minus 1) (pos 0) ≡ no_quotient 43)
    × (divided 4 (minus (2 ^ 63)) (pos 0) (pos 0) ≡ no_quotient 44)
    × (divided 5 (minus (2 ^ 63)) (minus 1) (pos 0) ≡ no_quotient 43)
    × (divided 5 (minus (2 ^ 63)) (pos 0) (pos 0) ≡ no_quotient 44)
unfolding little digits word_at flat look_up form_of lowest record_fault make_node nodes node_at on_integers operate locate
    all_free lowest_run start_memory evaluate evaluate_term evaluate_predicate run_by covered mark_all watch embed
    translate_term translate_predicate translate expression_tree statement_tree emit translated_records block_bytes
    cell_bytes memory_image
divisions-of-P2-to-P4 = (
  by-five (pos 7) (pos 2) (pos 4),
  by-five (minus 7) (pos 2) (minus 4),
  by-five (pos 5) (pos 2) (pos 2),
  by-five (minus 5) (pos 2) (minus 2),
  by-five (pos 1) (pos 3) (pos 0),
  by-four (minus 7) (pos 2) (minus 3),
  by-four (minus (2 ^ 63)) (minus 1) (pos 0),
  by-four (minus (2 ^ 63)) (pos 0) (pos 0),
  by-five (minus (2 ^ 63)) (minus 1) (pos 0),
  by-five (minus (2 ^ 63)) (pos 0) (pos 0),
)
