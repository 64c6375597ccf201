-- How the statements of a run follow one another: one control flow for every run, whatever its state S is.
use Rattle.std.specs.Prelude.{ℕ, zero, suc, List, [], ◌∷◌, get_or, Err, Ok, true, false}
use Rattle.std.proofs.Math.Option.{Option, none, some}
use Rattle.rules.specs.Types.{Test, Stop, stop_number}
use Rattle.rules.specs.Trees.{Place, Expression, Predicate, Statement, skip, assign, new, free, sequence, branch}
use Rattle.rules.specs.Trees.{while, let_in, assert}
use Rattle.rules.specs.Memory.{Change, changed, stopped, Made, made, unmade}
use Rattle.rules.specs.Evaluation.{Variables, extend}

-- the path down a program to a statement: the child taken at each statement, A being 0
abbrev pub TreePath : Type 0
TreePath = List ℕ

-- the statements that are children of a source statement, each in its place: A, B, C
abbrev pub parts : Statement → List (Option Statement)
parts (skip s) = []
parts (assign s p e) = []
parts (new s p e) = []
parts (free s e) = []
parts (sequence s a b) = some a ∷ some b ∷ []
parts (branch s e a b) = none ∷ some a ∷ some b ∷ []
parts (while s e b) = none ∷ some b ∷ []
parts (let_in s x b) = some b ∷ []
parts (assert s p) = []

-- the statement to which a path leads, if there is one
abbrev pub of_child : {A : Type 0} → Option A → (A → Option A) → Option A
of_child none on = none
of_child (some b) on = on b

unfoldable pub statement_on : {A : Type 0} → (A → List (Option A)) → TreePath → A → Option A
statement_on parts [] a = some a
statement_on parts (n ∷ w) a = of_child (get_or (parts a) n none) (λ b. statement_on parts w b)

-- how a statement comes out: finished, with state and fuel; or ended, with number, statement, state and fuel, and with
-- what no answer tells: the variables' blocks as then, and the path to the statement
pub data Outcome (S : Type 0) : Type 0 where
  finished : S → ℕ → Outcome S
  ended : Stop → ℕ → Variables → TreePath → S → ℕ → Outcome S

-- "Endings return number, source statement, fuel left ..": what answers tell of an outcome. "0 finished (statement 0)."
pub record Ending (S : Type 0) : Type 0 where
  pub number : ℕ
  pub statement : ℕ
  pub state : S
  pub fuel : ℕ

abbrev pub ending : {S : Type 0} → Outcome S → Ending S
ending (finished x f) = record { number = 0; statement = 0; state = x; fuel = f }
ending (ended c s ρ w x f) = record { number = stop_number c; statement = s; state = x; fuel = f }

-- a statement is child n of another
abbrev pub into : {S : Type 0} → ℕ → Outcome S → Outcome S
into n (finished x f) = finished x f
into n (ended c s ρ w x f) = ended c s ρ (n ∷ w) x f

abbrev pub next : {S : Type 0} → Outcome S → (S → ℕ → Outcome S) → Outcome S
next (finished x f) k = k x f
next (ended c s ρ w x f) k = ended c s ρ w x f

-- a change that statement s makes
abbrev pub after : {S : Type 0} → ℕ → Variables → ℕ → Change S → Outcome S
after s ρ f (changed x) = finished x f
after s ρ f (stopped c x) = ended c s ρ [] x f

-- go on by a test of statement s
abbrev pub decide : {S : Type 0} → ℕ → Variables → Test → S → ℕ → Outcome S → Outcome S → Outcome S
decide s ρ (Ok true) x f a b = a
decide s ρ (Ok false) x f a b = b
decide s ρ (Err c) x f a b = ended c s ρ [] x f

-- "One unit of fuel .. goes for each while test, before the condition is evaluated"; "32 fuel is 0 at a while test".
-- The first number only bounds the turns: it starts as the fuel, of which each turn takes one.
unfoldable pub turns : {S : Type 0} → ℕ → ℕ → Variables → (S → Test) → (S → ℕ → Outcome S) → S → ℕ → Outcome S
turns zero s ρ holds body x f = ended Stop.NoFuel s ρ [] x f
turns (suc g) s ρ holds body x zero = ended Stop.NoFuel s ρ [] x zero
turns (suc g) s ρ holds body x (suc f) =
    decide s ρ (holds x) x f (next (body x f) (λ x₁ f₁. turns g s ρ holds body x₁ f₁)) (finished x f)

-- "Let makes one undefined cell, a fixed block, ending with its statement." "A stop clears nothing up."
abbrev pub in_let : {S : Type 0} → ℕ → Variables → S → ℕ → Made S → (S → ℕ → S) → (ℕ → S → ℕ → Outcome S) → Outcome S
in_let s ρ x f (unmade c) close body = ended c s ρ [] x f
in_let s ρ x f (made k x₁) close body = next (body k x₁ f) (λ x₂ f₂. finished (close x₂ k) f₂)

-- what a run of a source program means over states S by its statements without statements in them, by a condition, and
-- by a let's block, made and ended
pub record Meaning (S : Type 0) : Type 0 where
  pub assigns : Place ⊥ → Expression ⊥ → Variables → S → Change S
  pub allocates : Place ⊥ → Expression ⊥ → Variables → S → Change S
  pub frees : Expression ⊥ → Variables → S → Change S
  pub asserts : ℕ → Predicate → Variables → S → ℕ → Change S
  pub decides : Expression ⊥ → Variables → S → Test
  pub makes : S → Made S
  pub ends : S → ℕ → S

unfoldable pub run_by : {S : Type 0} → Meaning S → Statement → Variables → S → ℕ → Outcome S
run_by M (skip s) ρ x f = finished x f
run_by M (assign s p e) ρ x f = after s ρ f (M.assigns p e ρ x)
run_by M (new s p e) ρ x f = after s ρ f (M.allocates p e ρ x)
run_by M (free s e) ρ x f = after s ρ f (M.frees e ρ x)
run_by M (sequence s a b) ρ x f = next (into 0 (run_by M a ρ x f)) (λ x₁ f₁. into 1 (run_by M b ρ x₁ f₁))
run_by M (branch s e a b) ρ x f =
    decide s ρ (M.decides e ρ x) x f (into 1 (run_by M a ρ x f)) (into 2 (run_by M b ρ x f))
run_by M (while s e b) ρ x f = turns f s ρ (λ x₁. M.decides e ρ x₁) (λ x₁ f₁. into 1 (run_by M b ρ x₁ f₁)) x f
run_by M (let_in s y b) ρ x f =
    in_let s ρ x f (M.makes x) M.ends (λ k x₁ f₁. into 0 (run_by M b (extend ρ y k) x₁ f₁))
run_by M (assert s p) ρ x f = after s ρ f (M.asserts s p ρ x f)
