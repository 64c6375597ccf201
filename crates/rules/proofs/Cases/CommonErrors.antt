-- Where people err the rules give the right endings and memories, by computation.
use mathlib.Core.List.{[], ◌∷◌, ◌++◌}
use mathlib.Core.Path.{◌≡◌, refl}
use lib.IntN.{pos}
use Rattle.rules.specs.Words.{little, digits, word_at, flat, tabulate}
use Rattle.rules.specs.Kinds.{look_up, form_of}
use Rattle.rules.specs.Checker.{lowest, record_fault, times_child_of, times_child, shape_fault, parent_of, in_scope}
use Rattle.rules.specs.Checker.{scope_fault, level_of, level_fault, check}
use Rattle.rules.specs.Nodes.{make_node, nodes, node_at}
use Rattle.rules.specs.Numbers.{on_integers, on_pointer_and_integer, on_pointers, operate}
use Rattle.rules.specs.Memory.{locate, all_free, lowest_run, start_memory}
use Rattle.rules.specs.Evaluation.{evaluate, queried, evaluate_term, evaluate_predicate}
use Rattle.rules.specs.Flow.{turns, run_by}
use Rattle.rules.specs.Observation.{covered, mark_all}
use Rattle.rules.specs.Watched.{watch}
use Rattle.rules.specs.Emission.{expression_tree, statement_tree, emit}
use Rattle.rules.specs.Translation.{embed, translate_term, translate_predicate, translate, translated_records}
use Rattle.rules.specs.Layout.{block_bytes, recorded_bytes}
use Rattle.rules.specs.Cases.{p5, p6, p7, p9}
use Rattle.rules.specs.CommonErrors.{plainly, watchedly, stops, read_back, undecided, later, dangling, freed_block}
use Rattle.rules.specs.CommonErrors.{states, watched_states, told, right}

-- program by program, so that a wrong definition is refused by the program that it gets wrong
pub each_right :
    (stops (p5 (pos 0)) ≡ (0 ∷ 0 ∷ 0 ∷ 0 ∷ []))
    × (stops p6 ≡ (0 ∷ 0 ∷ 0 ∷ 0 ∷ []))
    × (stops p7 ≡ (0 ∷ 0 ∷ 0 ∷ 0 ∷ []))
    × (states (plainly p9).state ≡ (3 ∷ 3 ∷ []))
    × (stops undecided ≡ (41 ∷ 7 ∷ 41 ∷ 7 ∷ []))
    × (stops later ++ read_back later ≡ (33 ∷ 12 ∷ 33 ∷ 12 ∷ 33 ∷ 12 ∷ []))
    × (stops dangling ≡ (42 ∷ 11 ∷ 42 ∷ 11 ∷ []))
    × (states (plainly freed_block).state ++ watched_states (watchedly freed_block).state
    ≡ (3 ∷ 3 ∷ 3 ∷ 3 ∷ 2 ∷ 2 ∷ []))
unfolding little digits word_at tabulate flat look_up form_of lowest record_fault times_child_of times_child shape_fault
    parent_of in_scope scope_fault level_of level_fault check make_node nodes node_at on_integers on_pointer_and_integer
    on_pointers operate locate all_free lowest_run start_memory evaluate queried evaluate_term evaluate_predicate turns
    run_by covered mark_all watch embed translate_term translate_predicate translate expression_tree statement_tree emit
    translated_records block_bytes recorded_bytes plainly watchedly stops read_back
each_right = (refl, refl, refl, refl, refl, refl, refl, refl)

pub told-right : told ≡ right
unfolding told right
told-right =
    let e = each_right in
    λ i. e.0 i ∷ e.1 i ∷ e.2 i ∷ e.3 i ∷ e.4 i ∷ e.5 i ∷ e.6 i ∷ e.7 i ∷ []
