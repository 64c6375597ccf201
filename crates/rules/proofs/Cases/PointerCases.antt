-- A read and a store with a pointer into a dead block end 42 wherever it points, outside a live one 50, and a comparison
-- of such a pointer 47, by computation.
use mathlib.Core.List.{[], ◌∷◌}
use mathlib.Core.Path.{◌≡◌, refl}
use lib.IntN.{pos, negsuc}
use Rattle.rules.specs.Words.{little, digits, word_at, flat, tabulate}
use Rattle.rules.specs.Kinds.{look_up, form_of}
use Rattle.rules.specs.Checker.{lowest, record_fault}
use Rattle.rules.specs.Nodes.{make_node, nodes, node_at}
use Rattle.rules.specs.Numbers.{on_integers, on_pointer_and_integer, on_pointers, operate}
use Rattle.rules.specs.Memory.{locate, all_free, lowest_run, start_memory}
use Rattle.rules.specs.Evaluation.{evaluate, queried, evaluate_term, evaluate_predicate}
use Rattle.rules.specs.Flow.{turns, run_by}
use Rattle.rules.specs.Observation.{covered, mark_all}
use Rattle.rules.specs.Watched.{watch}
use Rattle.rules.specs.Translation.{embed, translate_term, translate_predicate, translate}
use Rattle.rules.specs.Cases.{five}
use Rattle.rules.specs.CommonErrors.{plainly, watchedly, stops}
use Rattle.rules.specs.PointerCases.{read_at, store_at, new_at, assert_at, read_freed, store_freed, assert_freed}
use Rattle.rules.specs.PointerCases.{variable_zero, compare_after_free, assert_equal_after_free}

-- number and statement of the plain run, then of the watched one, program by program
pub pointers-told-apart :
    -- one past the end, and offset −1
    (stops (read_at (pos 2)) ≡ (50 ∷ 8 ∷ 50 ∷ 8 ∷ []))
    × (stops (read_at (negsuc 0)) ≡ (50 ∷ 8 ∷ 50 ∷ 8 ∷ []))
    × (stops (store_at (pos 2)) ≡ (50 ∷ 7 ∷ 50 ∷ 7 ∷ []))
    × (stops (store_at (negsuc 0)) ≡ (50 ∷ 7 ∷ 50 ∷ 7 ∷ []))
    × (stops (new_at (pos 2)) ≡ (50 ∷ 7 ∷ 50 ∷ 7 ∷ []))
    × (stops (assert_at (pos 2)) ≡ (50 ∷ 11 ∷ 50 ∷ 11 ∷ []))
    × (stops (assert_at (negsuc 0)) ≡ (50 ∷ 11 ∷ 50 ∷ 11 ∷ []))
    -- "found after 42": the offset is of no account
    × (stops (read_freed (pos 0)) ≡ (42 ∷ 14 ∷ 42 ∷ 14 ∷ []))
    × (stops (read_freed (pos 2)) ≡ (42 ∷ 14 ∷ 42 ∷ 14 ∷ []))
    × (stops (read_freed (negsuc 0)) ≡ (42 ∷ 14 ∷ 42 ∷ 14 ∷ []))
    × (stops (store_freed (pos 0)) ≡ (42 ∷ 13 ∷ 42 ∷ 13 ∷ []))
    × (stops (store_freed (negsuc 0)) ≡ (42 ∷ 13 ∷ 42 ∷ 13 ∷ []))
    × (stops (assert_freed (pos 0)) ≡ (42 ∷ 17 ∷ 42 ∷ 17 ∷ []))
    -- a cell that there is
    × (stops (read_at (pos 1)) ≡ (0 ∷ 0 ∷ 0 ∷ 0 ∷ []))
    × (stops (store_at (pos 1)) ≡ (0 ∷ 0 ∷ 0 ∷ 0 ∷ []))
    × (stops (assert_at (pos 1)) ≡ (0 ∷ 0 ∷ 0 ∷ 0 ∷ []))
unfolding little digits word_at tabulate flat look_up form_of lowest record_fault make_node nodes node_at on_integers
    on_pointer_and_integer on_pointers operate locate all_free lowest_run start_memory evaluate queried evaluate_term
    evaluate_predicate turns run_by covered mark_all watch embed translate_term translate_predicate translate plainly
    watchedly stops
pointers-told-apart =
    (refl, refl, refl, refl, refl, refl, refl, refl, refl, refl, refl, refl, refl, refl, refl, refl)

-- 02 §4: freed on the left, on the right and on both sides; and two live ones
pub freed-pointers-not-compared :
    (stops (compare_after_free five variable_zero) ≡ (47 ∷ 13 ∷ 47 ∷ 13 ∷ []))
    × (stops (compare_after_free variable_zero five) ≡ (47 ∷ 13 ∷ 47 ∷ 13 ∷ []))
    × (stops (compare_after_free five five) ≡ (47 ∷ 13 ∷ 47 ∷ 13 ∷ []))
    × (stops (compare_after_free variable_zero variable_zero) ≡ (0 ∷ 0 ∷ 0 ∷ 0 ∷ []))
    × (stops (assert_equal_after_free five variable_zero) ≡ (47 ∷ 14 ∷ 47 ∷ 14 ∷ []))
    × (stops (assert_equal_after_free variable_zero five) ≡ (47 ∷ 14 ∷ 47 ∷ 14 ∷ []))
    × (stops (assert_equal_after_free five five) ≡ (47 ∷ 14 ∷ 47 ∷ 14 ∷ []))
    × (stops (assert_equal_after_free variable_zero variable_zero) ≡ (0 ∷ 0 ∷ 0 ∷ 0 ∷ []))
unfolding little digits word_at tabulate flat look_up form_of lowest record_fault make_node nodes node_at on_integers
    on_pointer_and_integer on_pointers operate locate all_free lowest_run start_memory evaluate queried evaluate_term
    evaluate_predicate turns run_by covered mark_all watch embed translate_term translate_predicate translate plainly
    watchedly stops
freed-pointers-not-compared = (refl, refl, refl, refl, refl, refl, refl, refl)
