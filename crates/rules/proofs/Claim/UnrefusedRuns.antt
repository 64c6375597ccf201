-- Every call is refused, with one of the numbers of refusals and its buffers as they were, or runs; it runs where the
-- table is accepted, the inputs are without fault and the lent memories of the right length.
use Prim.Native.Nat.{ℕ}
use mathlib.Core.Bool.{Bool, true, false, not}
use mathlib.Core.List.{List}
use mathlib.Core.Path.{◌≡◌, refl, ap, ◌∙◌}
use native.Mathlib.Omega.{arith}
use borrow.Author.Tests.{eq-eqb, ne_eqb}
use lib.Dec.{eqb}
use lib.ListN.{length}
use Rattle.std.specs.Prelude.{Ok, Err}
use Rattle.rules.specs.Types.{Checked, Refusal, Rule, rule_number}
use Rattle.rules.specs.Sizes.{memory_length, observation_length}
use Rattle.rules.specs.Kinds.{source, target}
use Rattle.rules.specs.Checker.{refuse_if, ◌otherwise◌, check, inputs_fault, memory_fault, observation_fault}
use Rattle.rules.specs.Flow.{ending}
use Rattle.rules.specs.Answers.{refusals, PlainRun, WatchedRun, plain_outcome, plain_refused, plain_ended, plain_as}
use Rattle.rules.specs.Answers.{plain_by, run_plain, watched_outcome, watched_refused, watched_ended, watched_as}
use Rattle.rules.specs.Answers.{watched_by, run_watched}
use Rattle.rules.proofs.Lists.Among.{Among}
use Rattle.rules.proofs.Acceptance.CheckLaws.{Numbered, check-numbered}

-- a buffer of the right length is not refused
right-length : (l : List ℕ) (n : ℕ) → length l ≡ n → not (eqb (length l) n) ≡ false
right-length l n e = ap not (eq-eqb (length l) n e)

-- 02 §5: "21 tests for 49,144 bytes and 22 for 33,784"
pub lengths-tested : (memory observation : List ℕ)
    → (memory_fault memory ≡ not (eqb (length memory) 49144))
    × (observation_fault observation ≡ not (eqb (length observation) 33784))
lengths-tested memory observation = (refl, refl)

-- 02 §5: "Old images are not read."
pub old-images-refused : (memory observation : List ℕ) → length memory ≡ 18424 → length observation ≡ 3064
    → (memory_fault memory ≡ true) × (observation_fault observation ≡ true)
old-images-refused memory observation e h = (
  ap not (ne_eqb (length memory) memory_length (λ q. omega (arith, e, q))),
  ap not (ne_eqb (length observation) observation_length (λ q. omega (arith, h, q))),
)

-- a run that is not refused
pub plain_runs : (t i : List ℕ) (f : ℕ) (memory : List ℕ) → check source t ≡ Ok tt → inputs_fault i ≡ false
    → length memory ≡ memory_length → run_plain t i f memory ≡ plain_ended (ending (plain_outcome t i f))
plain_runs t i f memory c e h =
    ap (λ x. plain_by x t i f memory) c
    ∙ (λ k. plain_as (refuse_if Rule.Inputs (e k)
    otherwise refuse_if Rule.Memory (right-length memory memory_length h k)) t i f memory)

pub watched-runs : (t i : List ℕ) (f : ℕ) (memory observation : List ℕ) → check target t ≡ Ok tt
    → inputs_fault i ≡ false → length memory ≡ memory_length → length observation ≡ observation_length
    → run_watched t i f memory observation ≡ watched_ended (ending (watched_outcome t i f))
watched-runs t i f memory observation c e h k =
    ap (λ x. watched_by x t i f memory observation) c
    ∙ (λ j. watched_as
    (refuse_if Rule.Inputs (e j) otherwise refuse_if Rule.Memory (right-length memory memory_length h j)
    otherwise refuse_if Rule.Observation (right-length observation observation_length k j))
    t i f memory observation)

-- "Numbers 1–22 return the number and record (0 where none) and write no lent byte."
pub data PlainAnswered (t i : List ℕ) (f : ℕ) (memory : List ℕ) : PlainRun → Type 0 where
  refused : (r : Refusal) → Among refusals (rule_number r.rule) → PlainAnswered t i f memory (plain_refused r memory)
  ran : PlainAnswered t i f memory (plain_ended (ending (plain_outcome t i f)))

pub plain-answered : (t i : List ℕ) (f : ℕ) (memory : List ℕ) → PlainAnswered t i f memory (run_plain t i f memory)
plain-answered t i f memory = by-check (check source t) (check-numbered source t)
  where
    by_tests : (p q : Bool)
        → PlainAnswered t i f memory (plain_as (refuse_if Rule.Inputs p otherwise refuse_if Rule.Memory q) t i f memory)
    by_tests true q = refused (record { rule = Rule.Inputs; «record» = 0 }) refl
    by_tests false true = refused (record { rule = Rule.Memory; «record» = 0 }) refl
    by_tests false false = ran

    by-check : (c : Checked) → Numbered c → PlainAnswered t i f memory (plain_by c t i f memory)
    by-check (Err r) h = refused r h
    by-check (Ok u) h = by_tests (inputs_fault i) (memory_fault memory)

pub data WatchedAnswered (t i : List ℕ) (f : ℕ) (memory observation : List ℕ) : WatchedRun → Type 0 where
  refused : (r : Refusal) → Among refusals (rule_number r.rule)
      → WatchedAnswered t i f memory observation (watched_refused r memory observation)
  ran : WatchedAnswered t i f memory observation (watched_ended (ending (watched_outcome t i f)))

pub watched-answered : (t i : List ℕ) (f : ℕ) (memory observation : List ℕ)
    → WatchedAnswered t i f memory observation (run_watched t i f memory observation)
watched-answered t i f memory observation = by-check (check target t) (check-numbered target t)
  where
    by_tests : (p q r : Bool)
        → WatchedAnswered t i f memory observation
        (watched_as (refuse_if Rule.Inputs p otherwise refuse_if Rule.Memory q otherwise refuse_if Rule.Observation r)
        t i f memory observation)
    by_tests true q r = refused (record { rule = Rule.Inputs; «record» = 0 }) refl
    by_tests false true r = refused (record { rule = Rule.Memory; «record» = 0 }) refl
    by_tests false false true = refused (record { rule = Rule.Observation; «record» = 0 }) refl
    by_tests false false false = ran

    by-check : (c : Checked) → Numbered c
        → WatchedAnswered t i f memory observation (watched_by c t i f memory observation)
    by-check (Err r) h = refused r h
    by-check (Ok u) h = by_tests (inputs_fault i) (memory_fault memory) (observation_fault observation)
