-- Which numbers a statement's change of the memory ends with.
use Prim.Native.Nat.{ℕ, suc}
use mathlib.Core.List.{List}
use mathlib.Core.Path.{refl}
use Rattle.std.specs.Prelude.{Err, Ok, true, false}
use Rattle.rules.specs.Types.{Evaluated, Found, Test, Stop, stop_number}
use Rattle.rules.specs.Memory.{Memory, Use, freeable, make_block, next_name, free_run, assigned, allocated, freed}
use Rattle.rules.specs.Evaluation.{condition}
use Rattle.rules.specs.Answers.{evaluation_endings, temporary_endings, plain_endings, watched_endings}
use Rattle.rules.proofs.Lists.Among.{StopsAmong, among-more}
use Rattle.rules.proofs.Runs.Keeping.{AnyValue, AnyPlace, AnyState, AnyMade, Gives, TestStops, ChangeKeeps}
use Rattle.rules.proofs.Runs.Keeping.{MadeKeeps, assigned-keeps, make_at-keeps, allocated_keeps, freed-keeps}
use Rattle.rules.proofs.Runs.EvaluationEndings.{EvaluatedAmong, FoundAmong, condition-among}

-- the numbers that evaluating stops with, and those that a run ends with
pub record Numbers (stopping ending : List ℕ) : Type 0 where
  pub enough : (c : Stop) → StopsAmong evaluation_endings c → StopsAmong stopping c
  pub known : (c : Stop) → StopsAmong plain_endings c → StopsAmong ending c
  pub widen : (c : Stop) → StopsAmong stopping c → StopsAmong ending c

pub plainly : Numbers evaluation_endings plain_endings
plainly = record {
  enough = λ c h. h;
  known = λ c h. h;
  widen = λ c h. among-more evaluation_endings plain_endings (stop_number c) refl h;
}

pub watchedly : Numbers temporary_endings watched_endings
watchedly = record {
  enough = λ c h. among-more evaluation_endings temporary_endings (stop_number c) refl h;
  known = λ c h. among-more plain_endings watched_endings (stop_number c) refl h;
  widen = λ c h. among-more temporary_endings watched_endings (stop_number c) refl h;
}

-- a statement's change of the memory
module _ {stopping ending : List ℕ} (w : Numbers stopping ending) where
  ends-test : (t : Test) → TestStops (StopsAmong stopping) t → TestStops (StopsAmong ending) t
  ends-test (Ok true) h = tt
  ends-test (Ok false) h = tt
  ends-test (Err c) h = w.widen c h

  pub ends-evaluated : (e : Evaluated) → EvaluatedAmong AnyValue stopping e → Gives AnyValue (StopsAmong ending) e
  ends-evaluated (Ok v) h = tt
  ends-evaluated (Err c) h = w.widen c h

  pub ends-condition : (e : Evaluated) → EvaluatedAmong AnyValue stopping e
      → TestStops (StopsAmong ending) (condition e)
  ends-condition e h =
      ends-test (condition e) (condition-among AnyValue (λ z. tt) (λ p. tt) stopping w.enough e h)

  pub ends-assigned : (m : Memory) (f : Found) (e : Evaluated) → FoundAmong stopping f
      → EvaluatedAmong AnyValue stopping e → ChangeKeeps AnyState (StopsAmong ending) (assigned m f e)
  ends-assigned m f e h k =
      assigned-keeps AnyState (StopsAmong stopping) (StopsAmong ending) w.known w.widen AnyValue AnyPlace m f e tt h k
      (λ p v x y i. tt)

  pub ends-make_block : (m : Memory) (u : Use) (n : ℕ) → MadeKeeps AnyMade (StopsAmong ending) (make_block m u n)
  ends-make_block m u n =
      make_at-keeps AnyState (StopsAmong stopping) (StopsAmong ending) w.known w.widen AnyValue AnyPlace AnyMade m u n
      (next_name m) (free_run m n) (λ k first x y. tt)

  pub ends-allocated : (m : Memory) (f : Found) (e : Evaluated) → FoundAmong stopping f
      → EvaluatedAmong AnyValue stopping e → ChangeKeeps AnyState (StopsAmong ending) (allocated m f e)
  ends-allocated m f e h k =
      allocated_keeps AnyState (StopsAmong stopping) (StopsAmong ending) w.known w.widen AnyValue AnyPlace {K = AnyMade}
      m f e tt h k (w.enough Stop.WrongSort refl) (λ n. ends-make_block m freeable (suc n)) (λ j m₁ x. tt)
      (λ p x j m₁ y i. tt)

  pub ends-freed : (m : Memory) (e : Evaluated) → EvaluatedAmong AnyValue stopping e
      → ChangeKeeps AnyState (StopsAmong ending) (freed m e)
  ends-freed m e k =
      freed-keeps AnyState (StopsAmong stopping) (StopsAmong ending) w.known w.widen AnyValue AnyPlace m e tt k
      (w.enough Stop.WrongSort refl) (λ j. tt)
