-- Demand 3, undivided: over every accepted source table, inputs, fuel and old memories, down to bytes.
use Prim.Native.Nat.{ℕ, ◌≤◌}
use native.Mathlib.Omega.{arith}
use mathlib.Core.Bool.{false}
use mathlib.Core.List.{List}
use mathlib.Core.Path.{◌≡◌, sym, ap, ◌∙◌}
use Rattle.std.specs.Prelude.{Ok}
use Rattle.rules.specs.Sizes.{source_limit}
use Rattle.rules.specs.Records.{record_count}
use Rattle.rules.specs.Kinds.{source}
use Rattle.rules.specs.Checker.{check, inputs_fault}
use Rattle.rules.specs.TargetTrees.{TargetStatement}
use Rattle.rules.specs.Nodes.{source_program, target_program}
use Rattle.rules.specs.Observation.{mirror}
use Rattle.rules.specs.Flow.{Outcome, ending}
use Rattle.rules.specs.Watched.{WatchedState}
use Rattle.rules.specs.Translation.{translate, translation}
use Rattle.rules.specs.Layout.{memory_image, observation_image}
use Rattle.rules.specs.Answers.{PlainRun, WatchedRun, inputs_of, plain_outcome, plain_ended, watched_outcome}
use Rattle.rules.specs.Answers.{watched_ended}
use Rattle.rules.specs.Demand3.{Agreement, Demand3}
use Rattle.rules.proofs.Claim.UnrefusedRuns.{plain_runs, watched-runs}
use Rattle.rules.proofs.Acceptance.Sound.{start_scope, SoundStatement}
use Rattle.rules.proofs.Acceptance.Acceptance.{accepted-says}
use Rattle.rules.proofs.Acceptance.AcceptedPrograms.{accepted-program}
use Rattle.rules.proofs.Translation.RecordCopies.{at-most-14}
use Rattle.rules.proofs.Translation.SizeBound.{all-records, size-bound}
use Rattle.rules.proofs.Translation.TranslatedTables.{translated_size, translation-count, translation-accepted}
use Rattle.rules.proofs.Translation.TranslatedTables.{translation-program}
use Rattle.rules.proofs.Layouts.ReachableRoundTrip.{plain-round-trip}
use Rattle.rules.proofs.Claim.Inputs.{inputs-few, inputs-some}
use Rattle.rules.proofs.Claim.WholeRun.{Same, watched_from, runs_same, up-to-first-false}

-- the translation's run is that of the translated tree
watched-from : (t i : List ℕ) (f : ℕ) → target_program (translation t) ≡ translate (source_program t)
    → watched_outcome (translation t) i f ≡ watched_from (translate (source_program t)) (inputs_of i) f
watched-from t i f e = ap (λ (a : TargetStatement). watched_from a (inputs_of i) f) e

module _ (t i : List ℕ) (f : ℕ) (c : check source t ≡ Ok tt) (e : inputs_fault i ≡ false) where
  few : record_count t ≤ source_limit
  few = (accepted-program source t c).not-too-many

  sound : SoundStatement (source_program t) start_scope
  sound = (accepted-program source t c).last.sound

  small : translated_size t ≤ 4096
  small = omega (arith, size-bound t c, few)

  same : Same (ending (plain_outcome t i f)) (ending (watched_from (translate (source_program t)) (inputs_of i) f))
  same = runs_same (source_program t) start_scope (inputs_of i) f sound (inputs-some i e) (inputs-few i e)

  -- the two runs, of whatever answers they are
  agreement : (p : PlainRun) (w : WatchedRun) → p ≡ plain_ended (ending (plain_outcome t i f))
      → w ≡ watched_ended (ending (watched_from (translate (source_program t)) (inputs_of i) f)) → Agreement t i f p w
  agreement p w r s = rw (r, s) record {
    accepted = translation-accepted t sound small;
    bounded = at-most-14 t (accepted-says source t c);
    all-counted = all-records t (accepted-says source t c) ∙ sym (translation-count t);
    neither-refused = same.unrefused;
    same_answer = sym same.same_answer;
    same_memory = ap memory_image (sym same.same_memory);
    first-false = ap plain_ended (up-to-first-false (source_program t) (inputs_of i) f);
    exact = λ h.
        ap observation_image
        (same.mirrors h ∙ ap mirror (sym (plain-round-trip t i f sound e).image-back));
    never-48 = same.no-contradiction.0;
    never-49 = same.no-contradiction.1;
  }

pub demand-3 : Demand3
demand-3 t i f memory memory₁ observation c e h h₁ k =
    let s = sound t i f c e in
    let d = small t i f c e in
    agreement t i f c e _ _ (plain_runs t i f memory c e h)
    (watched-runs (translation t) i f memory₁ observation (translation-accepted t s d) e h₁ k
    ∙ ap (λ (o : Outcome WatchedState). watched_ended (ending o)) (watched-from t i f (translation-program t s d)))
