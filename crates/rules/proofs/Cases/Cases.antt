-- The rules give what document 01 works out on paper: P1 to P4 from FirstCases, P5 to P10 by computation.
use Prim.Native.Nat.{ℕ, zero, suc, ◌-◌, ◌≤◌, ◌<◌}
use native.Mathlib.Omega.{arith}
use mathlib.Core.Bool.{Bool, true, false}
use mathlib.Core.List.{List, [], ◌∷◌, ◌++◌, map}
use mathlib.Core.Path.{◌≡◌, refl, ap, ◌∙◌}
use lib.IntN.{pos}
use lib.ListN.{get_or-replicate}
use Rattle.std.specs.Prelude.{Ok, Some}
use Rattle.rules.specs.Types.{Value, Cell}
use Rattle.rules.specs.Sizes.{cell_count}
use Rattle.rules.specs.Words.{little, digits, part, word_at, flat}
use Rattle.rules.specs.Records.{Record, table_bytes}
use Rattle.rules.specs.Kinds.{source, look_up, form_of}
use Rattle.rules.specs.Checker.{lowest, record_fault, times_child_of, times_child, shape_fault, parent_of, in_scope}
use Rattle.rules.specs.Checker.{scope_fault, level_of, level_fault, check}
use Rattle.rules.specs.Nodes.{source_program, make_node, nodes, node_at}
use Rattle.rules.specs.Trees.{literal, variable, new}
use Rattle.rules.specs.TargetTrees.{TargetStatement}
use Rattle.rules.specs.Numbers.{on_integers, on_pointer_and_integer, on_pointers, operate}
use Rattle.rules.specs.Memory.{Memory, locate, cell_of, is_free, all_free, lowest_run, free_run, fixed, freeable}
use Rattle.rules.specs.Memory.{with_block, make_at, store_new, end_block, start_memory}
use Rattle.rules.specs.Evaluation.{extend, evaluate, queried, evaluate_term, evaluate_predicate}
use Rattle.rules.specs.Flow.{finished, into, next, after, in_let, turns, run_by}
use Rattle.rules.specs.Flow as flow
use Rattle.rules.specs.Plain.{run, start_variables}
use Rattle.rules.specs.Observation.{covered, mark_all}
use Rattle.rules.specs.Watched.{watch}
use Rattle.rules.specs.Translation.{embed, translate_term, translate_predicate, translate}
use Rattle.rules.specs.Layout.{block_bytes, memory_image, block_place}
use Rattle.rules.specs.Answers.{PlainRun, inputs_of, plain_ended, watched_start, watched_ended}
use Rattle.rules.specs.Cases.{minus, inputs, stop, ending, endings, p5, p6, p7, p8, p9, p10, block_after}
use Rattle.rules.specs.Cases.{worked, on_paper}
use Rattle.rules.specs.CommonErrors.{stops}
use Rattle.rules.specs.CommonErrors as errors
use Rattle.rules.proofs.Cases.FirstCases.{listing-of-P1, divisions-of-P2-to-P4, plainly, plain-is, ending-is}
use Rattle.rules.proofs.Cases.FirstCases.{endings-are}
use Rattle.rules.proofs.Cases.CommonErrors.{each_right}
use Rattle.rules.proofs.Acceptance.Sound.{start_scope, SoundStatement}
use Rattle.rules.proofs.Acceptance.AcceptedPrograms.{accepted-program}
use Rattle.rules.proofs.Translation.SizeBound.{size-bound}
use Rattle.rules.proofs.Translation.TranslatedTables.{translated_size, translation-accepted, translation-program}
use Rattle.rules.proofs.Lists.SearchLaws.{lowest-here, lowest-next}
use Rattle.rules.proofs.Memory.MemoryLaws.{fill-above, all_free-all, all_free-taken}

-- A translation is accepted, and read back as the translated tree: it need not be emitted.
stops-are : (rs : List Record) → check source (table_bytes rs) ≡ Ok tt → endings rs ≡ stops rs
unfolding little digits word_at stops errors.plainly errors.watchedly
stops-are rs c =
    let t : List ℕ = table_bytes rs in
    let a = accepted-program source t c in
    let sound : SoundStatement (source_program t) start_scope = a.last.sound in
    let small : translated_size t ≤ 4096 = omega (arith, size-bound t c, a.not-too-many) in
    endings-are rs c (translation-accepted t sound small)
    ∙ ap (λ (p : TargetStatement).
    stop (plain_ended (plainly rs)).answer
    ++ stop (watched_ended (flow.ending (watch p start_variables (watched_start (inputs_of inputs)) 0))).answer)
    (translation-program t sound small)

-- no bytes of a cell are worked out for a block's record
block-is : (rs : List Record) (k : ℕ) → check source (table_bytes rs) ≡ Ok tt
    → block_after rs k ≡ part 8 (memory_image (plainly rs).state) (block_place (k - 1))
unfolding block_after
block-is rs k c = ap (λ (r : PlainRun). part 8 r.memory (block_place (k - 1))) (plain-is rs c)

-- P8: 1,020 cells are the last run that is free inside one let
start : Memory
start = start_memory (pos 7 ∷ pos 9 ∷ [])

in_let_five : Memory
in_let_five = with_block start fixed 3 3 1

free-at-start : (i : ℕ) → 3 ≤ i → i < cell_count → cell_of start i ≡ Cell.Free
unfolding start start_memory
free-at-start zero h b = absurd (omega arith)
free-at-start (suc zero) h b = absurd (omega arith)
free-at-start (suc (suc zero)) h b = absurd (omega arith)
free-at-start (suc (suc (suc i))) h b = get_or-replicate (cell_count - 3) i Cell.Free Cell.Free (omega arith)

free-from-four : (i : ℕ) → 4 ≤ i → i < cell_count → is_free (cell_of in_let_five i) ≡ true
unfolding in_let_five
free-from-four i h b =
    ap is_free (fill-above start.cells 3 1 (Cell.Holds 3 Value.Undefined) i Cell.Free h
    ∙ free-at-start i (omega arith) b)

first-room : free_run start 1 ≡ Some 3
unfolding start start_memory lowest_run all_free lowest
first-room = refl

taken : (is_free (cell_of in_let_five 0) ≡ false) × (is_free (cell_of in_let_five 1) ≡ false)
    × (is_free (cell_of in_let_five 2) ≡ false) × (is_free (cell_of in_let_five 3) ≡ false)
unfolding in_let_five start start_memory
taken = (refl, refl, refl, refl)

last-room : free_run in_let_five 1020 ≡ Some 4
unfolding lowest_run
last-room =
    let p : ℕ → Bool = λ i. is_free (cell_of in_let_five i) in
    let q : ℕ → Bool = λ s. all_free p s 1020 in
    lowest-next q 0 4 (all_free-taken p 0 1019 taken.0)
    ∙ lowest-next q 1 3 (all_free-taken p 1 1019 taken.1)
    ∙ lowest-next q 2 2 (all_free-taken p 2 1019 taken.2)
    ∙ lowest-next q 3 1 (all_free-taken p 3 1019 taken.3)
    ∙ lowest-here q 4 0 (all_free-all p 4 1020 (λ i a b. free-from-four i a b))

last_fits : stop (plain_ended (plainly (p8 1020))).answer ≡ (0 ∷ 0 ∷ [])
unfolding little digits word_at flat look_up form_of lowest record_fault make_node nodes node_at locate start_memory evaluate
    run_by start in_let_five
last_fits =
    (λ i. stop (plain_ended (flow.ending (in_let 4 start_variables start 0
    (make_at start fixed 1 (Some 3) (first-room i)) end_block (λ k m f.
    into 0 (run (new 3 (variable 5) (literal (pos 1020))) (extend start_variables 5 k) m f))))).answer)
    ∙ (λ i. stop (plain_ended (flow.ending (next (into 0 (after 3 (extend start_variables 5 3) 0
    (store_new in_let_five (record { name = 3; offset = pos 0 })
    (make_at in_let_five freeable 1020 (Some 4) (last-room i)))))
    (λ m f. finished (end_block m 3) f)))).answer)

-- P5 to P10; P6, P7 and an offset of P5 are told where people err
runs :
    (endings (p5 (pos 0)) ≡ (0 ∷ 0 ∷ 0 ∷ 0 ∷ []))
    × (endings (p5 (pos 1)) ≡ (0 ∷ 0 ∷ 0 ∷ 0 ∷ []))
    × (endings (p5 (minus 1)) ≡ (33 ∷ 7 ∷ 33 ∷ 7 ∷ []))
    × (endings (p5 (pos 2)) ≡ (33 ∷ 7 ∷ 33 ∷ 7 ∷ []))
    × (endings p6 ≡ (0 ∷ 0 ∷ 0 ∷ 0 ∷ []))
    × (endings p7 ≡ (0 ∷ 0 ∷ 0 ∷ 0 ∷ []))
    × (ending (p8 1020) ≡ (0 ∷ 0 ∷ []))
    × (ending (p8 1021) ≡ (30 ∷ 3 ∷ []))
    × (ending (p8 0) ≡ (45 ∷ 3 ∷ []))
    × (endings p9 ≡ (0 ∷ 0 ∷ 0 ∷ 0 ∷ []))
    × (endings p10 ≡ (33 ∷ 13 ∷ 33 ∷ 13 ∷ []))
unfolding little digits word_at flat look_up form_of lowest record_fault times_child_of times_child shape_fault parent_of
    in_scope scope_fault level_of level_fault check make_node nodes node_at on_integers on_pointer_and_integer on_pointers
    operate locate all_free lowest_run start_memory evaluate queried evaluate_term evaluate_predicate turns run_by covered
    mark_all watch embed translate_term translate_predicate translate stops errors.plainly errors.watchedly
runs = (
  stops-are (p5 (pos 0)) refl ∙ each_right.0,
  stops-are (p5 (pos 1)) refl,
  stops-are (p5 (minus 1)) refl,
  stops-are (p5 (pos 2)) refl,
  stops-are p6 refl ∙ each_right.1,
  stops-are p7 refl ∙ each_right.2,
  ending-is (p8 1020) refl ∙ last_fits,
  ending-is (p8 1021) refl,
  ending-is (p8 0) refl,
  stops-are p9 refl,
  stops-are p10 refl,
)

-- the blocks of P9
blocks :
    (block_after (p8 6) 4 ≡ (2 ∷ 0 ∷ 4 ∷ 0 ∷ 6 ∷ 0 ∷ 0 ∷ 0 ∷ []))
    × (block_after p9 4 ≡ (3 ∷ 0 ∷ 0 ∷ 0 ∷ 0 ∷ 0 ∷ 0 ∷ 0 ∷ []))
    × (block_after p9 5 ≡ (2 ∷ 0 ∷ 4 ∷ 0 ∷ 6 ∷ 0 ∷ 0 ∷ 0 ∷ []))
unfolding little digits word_at flat look_up form_of lowest record_fault times_child_of times_child shape_fault parent_of
    in_scope scope_fault level_of level_fault check make_node nodes node_at locate all_free lowest_run start_memory evaluate
    turns run_by block_bytes memory_image
blocks = (block-is (p8 6) 4 refl, block-is p9 4 refl, block-is p9 5 refl)

pub as-on-paper : worked ≡ on_paper
unfolding worked on_paper
as-on-paper =
    let d = divisions-of-P2-to-P4 in
    λ i.
    map pos (listing-of-P1 i)
    ∷ (d.0 i ++ d.1 i ++ d.2 i ++ d.3 i ++ d.4 i)
    ∷ d.5 i
    ∷ (d.6 i ++ d.7 i ++ d.8 i ++ d.9 i)
    ∷ map pos (runs.0 i ++ runs.1 i ++ runs.2 i ++ runs.3 i)
    ∷ map pos (runs.4 i)
    ∷ map pos (runs.5 i)
    ∷ map pos (runs.6 i ++ runs.7 i ++ runs.8 i)
    ∷ map pos (runs.9 i ++ blocks.0 i ++ blocks.1 i ++ blocks.2 i)
    ∷ map pos (runs.10 i)
    ∷ []
