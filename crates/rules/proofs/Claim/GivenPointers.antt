-- No cell and no temporary points to a name that was never given, in any run of an accepted table.
use Prim.Native.Nat.{ℕ, zero, suc, ◌-◌, ◌≤◌}
use native.Mathlib.Omega.{arith}
use mathlib.Core.Path.{◌≡◌, refl, sym, subst}
use mathlib.Core.Bool.{true, false, false≢true}
use mathlib.Core.List.{List, [], ◌∷◌, map}
use lib.IntN.{ℤ, pos}
use lib.ListN.{length}
use Rattle.std.specs.Prelude.{None, Ok}
use Rattle.rules.specs.Types.{Value, Cell}
use Rattle.rules.specs.Sizes.{cell_count, temporary_count, input_limit}
use Rattle.rules.specs.Kinds.{source, target}
use Rattle.rules.specs.Checker.{check, inputs_fault}
use Rattle.rules.specs.Nodes.{source_program, target_program}
use Rattle.rules.specs.TargetTrees.{TargetStatement}
use Rattle.rules.specs.Memory.{start_memory}
use Rattle.rules.specs.Flow.{ending}
use Rattle.rules.specs.Plain.{start_variables}
use Rattle.rules.specs.Watched.{start_temporaries, WatchedState, watch}
use Rattle.rules.specs.Translation.{translate}
use Rattle.rules.specs.Answers.{inputs_of, plain_outcome, watched_start, watched_outcome}
use Rattle.rules.specs.Fits.{All, none, also}
use Rattle.rules.proofs.Acceptance.Sound.{start_scope, SoundTarget}
use Rattle.rules.proofs.Translation.SoundTranslation.{sound-translation}
use Rattle.rules.proofs.Acceptance.AcceptedPrograms.{accepted-program}
use Rattle.rules.proofs.Runs.Keeping.{AnyNumber}
use Rattle.rules.proofs.Runs.Outcomes.{outcomes-state}
use Rattle.rules.proofs.Lists.Lists.{all_append, all_replicate}
use Rattle.rules.proofs.Runs.EvaluatedValues.{CellHas}
use Rattle.rules.proofs.Memory.WatchedGiven.{PointersGiven, GivenState, watch-given}
use Rattle.rules.proofs.Memory.GivenNames.{IsGiven, GivenValue, CellsGiven, TemporariesGiven}
use Rattle.rules.proofs.Claim.Start.{start-invariant}
use Rattle.rules.proofs.Claim.Inputs.{inputs-few, inputs-some}
use Rattle.rules.proofs.Claim.WholeRun.{runs_same}

start-given : (is : List ℤ) → length is ≤ input_limit
    → PointersGiven start_scope start_variables (start_memory is) start_temporaries
unfolding start_memory
start-given is le = record {
  invariant = start-invariant is le;
  cells =
      also {x = Cell.Holds 1 (Value.Pointer (record { name = 2; offset = pos 0 }))} (omega arith, omega arith, refl)
      (all_append (integers is) (all_replicate (cell_count - 1 - length is) Cell.Free tt));
  temporaries = all_replicate temporary_count None tt;
  variables = λ x e. first x e;
}
  where
    integers : (is₁ : List ℤ)
        → All (CellHas (GivenValue (start_memory is))) (map (λ z. Cell.Holds 2 (Value.Integer z)) is₁)
    integers [] = none
    integers (z ∷ is₁) = also tt (integers is₁)

    first : (x : ℕ) → start_scope x ≡ true → IsGiven (start_memory is) (start_variables x)
    first zero e = (omega arith, omega arith, refl)
    first (suc x) e = absurd (false≢true e)

-- every pointer that a watched run leaves in a cell or in a temporary has a name that was given
abbrev pub AllGiven : WatchedState → Type 0
AllGiven x = CellsGiven x.memory × TemporariesGiven x.memory x.temporaries

from_start : (a : TargetStatement) (is : List ℤ) (f : ℕ) → SoundTarget a start_scope → length is ≤ input_limit
    → AllGiven (ending (watch a start_variables (watched_start is) f)).state
from_start a is f h le =
    let g =
    (outcomes-state (λ y k. GivenState start_scope start_variables y × (k ≤ f)) AnyNumber
    (watch a start_variables (watched_start is) f)
    (watch-given a start_scope h start_variables (watched_start is) f (start-given is le))).0
    in
    (g.cells, g.temporaries)

-- every accepted target table, a hand-made one too
pub watched-given : (t i : List ℕ) (f : ℕ) → check target t ≡ Ok tt → inputs_fault i ≡ false
    → AllGiven (ending (watched_outcome t i f)).state
watched-given t i f c e =
    from_start (target_program t) (inputs_of i) f (accepted-program target t c).last.sound (inputs-few i e)

-- every accepted source table: its plain run leaves the memory of its translation's watched run
pub plain-given : (t i : List ℕ) (f : ℕ) → check source t ≡ Ok tt → inputs_fault i ≡ false
    → CellsGiven (ending (plain_outcome t i f)).state
plain-given t i f c e =
    let sound = (accepted-program source t c).last.sound in
    let is = inputs_of i in
    let same = runs_same (source_program t) start_scope is f sound (inputs-some i e) (inputs-few i e) in
    subst CellsGiven (sym same.same_memory)
    (from_start (translate (source_program t)) is f
    (sound-translation (source_program t) start_scope sound) (inputs-few i e)).0
