-- The entry: the table with bytes behind it, the start, and what is copied out.
use Prim.Native.Nat.{ℕ, ◌+◌, ◌*◌, ◌/◌, ◌≤◌}
use native.Mathlib.Nat.{le_refl}
use native.Mathlib.Omega.{arith}
use mathlib.Core.Bool.{false}
use mathlib.Core.List.{List}
use mathlib.Core.Path.{◌≡◌, sym, ap, ◌∙◌}
use lib.ListN.{length, drop, replicate}
use Rattle.std.specs.Prelude.{None, Ok}
use Rattle.rules.specs.Sizes.{temporary_count, target_limit}
use Rattle.rules.specs.Words.{word_at, integer_at, put}
use Rattle.rules.specs.Records.{record_count}
use Rattle.rules.specs.Kinds.{target}
use Rattle.rules.specs.Checker.{check, inputs_fault}
use Rattle.rules.specs.Nodes.{target_statement, target_program, target_statement_at}
use Rattle.rules.specs.TargetTrees.{TargetStatement}
use Rattle.rules.specs.Memory.{count_free, start_memory}
use Rattle.rules.specs.Observation.{start_observation}
use Rattle.rules.specs.Flow.{ending}
use Rattle.rules.specs.Plain.{start_variables}
use Rattle.rules.specs.Watched.{start_temporaries, WatchedState, watching, watch}
use Rattle.rules.specs.Layout.{cell_from, memory_of, memory_image, observation_of, observation_image}
use Rattle.rules.specs.Answers.{inputs_of, watched_outcome, watched_ended}
use Rattle.rules.proofs.Lists.Rows.{tabulate-all, get_d-zero}
use Rattle.rules.proofs.Acceptance.Sound.{start_scope}
use Rattle.rules.proofs.Acceptance.AcceptedPrograms.{accepted-program, padded-program}
use Rattle.rules.specs.Fits.{FitsMemory}
use Rattle.rules.proofs.Layouts.KeptPredicates.{start_observation-fits}
use Rattle.rules.proofs.Layouts.LayoutLaws.{memory-back, observation-back}
use Rattle.rules.proofs.Layouts.ReachableRoundTrip.{start-inside}
use Rattle.rules.proofs.Acceptance.Padding.{node-padded}
use Rattle.rules.proofs.Claim.Inputs.{inputs-length}
use Rattle.evaluation_temporaries.specs.Bytes.{temporary_in, temporary_place, temporaries_length, temporary_at}
use Rattle.evaluation_temporaries.specs.Bytes.{temporaries_of}
use Rattle.run_endings.specs.Ending.{Ended, ended_answer}
use Rattle.run_endings.proofs.EndingLaws.{ended-answers}
use Rattle.watched_statements.specs.Watching.{lent, Ready, Ran, Leaves, watch_from, AnsweredBy}

-- ---- the start
pub temporaries-start : temporaries_of (replicate temporaries_length 0) ≡ start_temporaries
unfolding temporaries_of temporary_at
temporaries-start = tabulate-all temporary_count 0 (temporary_at (replicate temporaries_length 0)) None empty
  where
    empty : (n : ℕ) → temporary_at (replicate temporaries_length 0) n ≡ None
    empty n =
        ap (λ (k : ℕ). temporary_in (cell_from k 0 (word_at 2 (replicate temporaries_length 0) (temporary_place n + 4))
        (integer_at (replicate temporaries_length 0) (temporary_place n + 8))))
        (get_d-zero temporaries_length (temporary_place n))

-- a run from there
pub leaves-start : (s : TargetStatement) (f : ℕ) {r : Ended} {l l₁ o o₁ τ₁ : List ℕ}
    → Ran (watch_from s start_variables (lent l o (replicate temporaries_length 0)) f) r
    (lent l o (replicate temporaries_length 0)) (lent l₁ o₁ τ₁)
    → Leaves (watch s start_variables (watching (memory_of l) (observation_of o) start_temporaries) f) r l l₁ o o₁
leaves-start s f w =
    let v = rw temporaries-start at w in
    record { answer = v.answer; memory = v.memory; observation = v.observation }

module _ (t l : List ℕ) (h : check target t ≡ (Ok tt)) where
  pub table-length : length t ≤ target_limit * 16
  table-length = let a = accepted-program target t h in omega (arith, a.whole, a.not-too-many)

  pub same-program : target_statement_at (put l 0 t) (record_count t) ≡ target_program t
  same-program =
      ap target_statement (node-padded t (drop (0 + length t) l) target (record_count t) (le_refl (record_count t)))

  pub ready-start : Ready (put l 0 t) (record_count t)
  ready-start =
      let p = padded-program target t (drop (0 + length t) l) h in
      record { is = p.is; scope = start_scope; sound = p.sound }

-- ---- the end
module _ (i : List ℕ) (e : inputs_fault i ≡ false) (l o : List ℕ) (s : l ≡ memory_image (start_memory (inputs_of i)))
    (u : o ≡ observation_image (start_observation (length i / 8))) where
  start_fits : FitsMemory (start_memory (inputs_of i))
  start_fits = (start-inside i e).memory-fits

  start-view : memory_of l ≡ start_memory (inputs_of i)
  start-view = ap memory_of s ∙ memory-back (start_memory (inputs_of i)) start_fits

  observation-start : o ≡ observation_image (start_observation (length (inputs_of i)))
  observation-start = u ∙ ap (λ (n : ℕ). observation_image (start_observation n)) (sym (inputs-length i))

  observation-view : observation_of o ≡ start_observation (length (inputs_of i))
  observation-view =
      ap observation_of observation-start
      ∙ observation-back (start_observation (length (inputs_of i))) (start_observation-fits (length (inputs_of i)))

  -- what a run leaves is exact
  pub entry-ends : (t : List ℕ) (f : ℕ) {r : Ended} {l₁ o₁ : List ℕ} {k : ℕ}
      → Leaves
      (watch (target_program t) start_variables (watching (memory_of l) (observation_of o) start_temporaries) f) r l l₁
      o o₁
      → k ≡ count_free (memory_of l₁).cells
      → AnsweredBy (watched_ended (ending (watched_outcome t i f))) (ended_answer r k) l₁ o₁
  entry-ends t f {r} {l₁} {o₁} w g =
      let v : Leaves (watched_outcome t i f) r l l₁ o o₁ = rw (start-view, observation-view) at w in
      record {
        answer =
            rw (v.answer, g, v.memory.view)
            (sym (ended-answers (λ (x : WatchedState). x.memory) (watched_outcome t i f)));
        memory = v.memory.exact (s ∙ ap memory_image (sym start-view)) ∙ ap memory_image v.memory.view;
        observation =
            v.observation.exact (observation-start ∙ ap observation_image (sym observation-view))
            ∙ ap observation_image v.observation.view;
      }
