-- The entry: the table with bytes behind it, the start, and what is copied out.
use Prim.Native.Nat.{ℕ, ◌+◌, ◌*◌, ◌≤◌}
use native.Mathlib.Nat.{le_refl}
use native.Mathlib.Omega.{arith}
use mathlib.Core.List.{List}
use mathlib.Core.Path.{◌≡◌, sym, ap, ap₂, ◌∙◌}
use lib.ListN.{length, drop}
use Rattle.std.specs.Prelude.{Ok, false}
use Rattle.rules.specs.Sizes.{target_limit, memory_length}
use Rattle.rules.specs.Words.{put}
use Rattle.rules.specs.Records.{record_count}
use Rattle.rules.specs.Kinds.{source}
use Rattle.rules.specs.Checker.{check, inputs_fault}
use Rattle.rules.specs.Nodes.{source_statement, source_program, statement_at}
use Rattle.rules.specs.Memory.{Memory, count_free, start_memory}
use Rattle.rules.specs.Flow.{ending}
use Rattle.rules.specs.Plain.{run, start_variables}
use Rattle.rules.specs.Layout.{memory_of, memory_image}
use Rattle.rules.specs.Answers.{inputs_of, plain_outcome, plain_ended}
use Rattle.rules.specs.declared.{Answer.Answer}
use Rattle.rules.proofs.Acceptance.Sound.{start_scope}
use Rattle.rules.proofs.Acceptance.AcceptedPrograms.{accepted-program, padded-program}
use Rattle.rules.proofs.Layouts.LayoutLaws.{memory-back}
use Rattle.rules.proofs.Layouts.ReachableRoundTrip.{start-inside, plain-round-trip}
use Rattle.rules.proofs.Acceptance.Padding.{node-padded}
use Rattle.run_endings.specs.Ending.{Ended, ended_answer}
use Rattle.run_endings.proofs.EndingLaws.{ended-answers}
use Rattle.plain_runs.specs.Running.{Ready, EndsSo}
use Rattle.plain_runs.proofs.Laws.{ends-is}
use Rattle.plain.specs.Answering.{AnsweredBy}

-- ---- the start
module _ (t l : List ℕ) (h : check source t ≡ Ok tt) where
  pub table-length : length t ≤ target_limit * 16
  table-length = let a = accepted-program source t h in omega (arith, a.whole, a.not-too-many)

  pub same-program : statement_at (put l 0 t) (record_count t) ≡ source_program t
  same-program =
      ap source_statement (node-padded t (drop (0 + length t) l) source (record_count t) (le_refl (record_count t)))

  pub ready-start : Ready (put l 0 t) (record_count t)
  ready-start =
      let p = padded-program source t (drop (0 + length t) l) h in
      record { is = p.is; scope = start_scope; sound = p.sound }

-- ---- the end
module _ (i : List ℕ) (e : inputs_fault i ≡ false) (l : List ℕ)
    (s : l ≡ memory_image (start_memory (inputs_of i))) where
  start-view : memory_of l ≡ start_memory (inputs_of i)
  start-view = ap memory_of s ∙ memory-back (start_memory (inputs_of i)) (start-inside i e).memory-fits

  module _ (t : List ℕ) (f : ℕ) (r : Ended) (l₁ : List ℕ)
      (w : EndsSo (run (source_program t) start_variables (memory_of l) f) r l l₁) where
    from-start : EndsSo (plain_outcome t i f) r l l₁
    from-start = ends-is (ap (λ (m : Memory). run (source_program t) start_variables m f) (sym start-view)) w

    -- what a run leaves is laid out as the rules say, and so has its length
    left-image : l₁ ≡ memory_image (ending (plain_outcome t i f)).state
    left-image =
        from-start.memory.exact (s ∙ ap memory_image (sym start-view)) ∙ ap memory_image from-start.memory.view

    pub exit_length : check source t ≡ Ok tt → length l₁ ≡ memory_length
    exit_length h =
        ap length left-image ∙ (plain-round-trip t i f (accepted-program source t h).last.sound e).image-length

    pub entry-ends : (k : ℕ) (a : Answer) (exit : List ℕ) → k ≡ count_free (memory_of l₁).cells → a ≡ ended_answer r k
        → exit ≡ l₁ → AnsweredBy (plain_ended (ending (plain_outcome t i f))) a exit
    entry-ends k a exit g c x =
        record {
          answer = c
              ∙ ap₂ ended_answer from-start.answer (g ∙ ap (λ (m : Memory). count_free m.cells) from-start.memory.view)
              ∙ sym (ended-answers (λ m. m) (plain_outcome t i f));
          memory = x ∙ left-image;
        }
