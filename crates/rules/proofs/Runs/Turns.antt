-- The natural equation of a while, of every run: at fuel 0 it ends 32, else it is one turn and then itself again.
use Prim.Native.Nat.{ℕ, zero, suc, ◌≤◌}
use native.Mathlib.Omega.{arith}
use mathlib.Core.List.{[]}
use mathlib.Core.Path.{◌≡◌, refl, ap}
use Rattle.rules.specs.Types.{Test, Stop}
use Rattle.rules.specs.Trees.{Statement, Expression}
use Rattle.rules.specs.Trees as tree
use Rattle.rules.specs.TargetTrees.{TargetStatement}
use Rattle.rules.specs.TargetTrees as target
use Rattle.rules.specs.Evaluation.{Variables, condition}
use Rattle.rules.specs.Flow.{Outcome, finished, ended, ending, into, next, decide, turns, Meaning, run_by}
use Rattle.rules.specs.Watched.{WatchedState, value_in, watch}
use Rattle.rules.proofs.Runs.Fuel.{run-fuel, watch-fuel}

into-fuel : {S : Type 0} (n f : ℕ) (o : Outcome S) → (ending o).fuel ≤ f → (ending (into n o)).fuel ≤ f
into-fuel n f (finished x g) h = h
into-fuel n f (ended c s ρ w x g) h = h

next-same : {S : Type 0} (o : Outcome S) (k l : S → ℕ → Outcome S) (f : ℕ) → (ending o).fuel ≤ f
    → ((x : S) (g : ℕ) → g ≤ f → k x g ≡ l x g) → next o k ≡ next o l
next-same (finished x g) k l f h q = q x g h
next-same (ended c s ρ w x g) k l f h q = refl

-- any counter of at least the fuel is the same
pub turns_same : {S : Type 0} (s : ℕ) (ρ : Variables) (holds : S → Test) (body : S → ℕ → Outcome S)
    → ((x : S) (f : ℕ) → (ending (body x f)).fuel ≤ f) → (g h : ℕ) (x : S) (f : ℕ) → f ≤ g → f ≤ h
    → turns g s ρ holds body x f ≡ turns h s ρ holds body x f
unfolding turns
turns_same s ρ holds body b zero zero x f p q = refl
turns_same s ρ holds body b zero (suc h) x zero p q = refl
turns_same s ρ holds body b zero (suc h) x (suc f) p q = absurd (omega arith)
turns_same s ρ holds body b (suc g) zero x zero p q = refl
turns_same s ρ holds body b (suc g) zero x (suc f) p q = absurd (omega arith)
turns_same s ρ holds body b (suc g) (suc h) x zero p q = refl
turns_same s ρ holds body b (suc g) (suc h) x (suc f) p q =
    ap (λ o. decide s ρ (holds x) x f o (finished x f)) (next-same (body x f) _ _ f (b x f) (λ y k l.
    turns_same s ρ holds body b g h y k (omega arith) (omega arith)))

-- from one turn to the next, the counter is the fuel that is left
turn : {S : Type 0} (s : ℕ) (ρ : Variables) (holds : S → Test) (body : S → ℕ → Outcome S)
    → ((x : S) (f : ℕ) → (ending (body x f)).fuel ≤ f) → (x : S) (f : ℕ)
    → turns (suc f) s ρ holds body x (suc f)
    ≡ decide s ρ (holds x) x f (next (body x f) (λ y g. turns g s ρ holds body y g)) (finished x f)
unfolding turns
turn s ρ holds body b x f =
    ap (λ o. decide s ρ (holds x) x f o (finished x f)) (next-same (body x f) _ _ f (b x f) (λ y g l.
    turns_same s ρ holds body b f g y g l (omega arith)))

-- a source run
pub while-zero : {S : Type 0} (M : Meaning S) (s : ℕ) (e : Expression ⊥) (b : Statement) (ρ : Variables) (x : S)
    → run_by M (tree.while s e b) ρ x 0 ≡ ended Stop.NoFuel s ρ [] x 0
unfolding run_by turns
while-zero M s e b ρ x = refl

pub while-suc : {S : Type 0} (M : Meaning S) (s : ℕ) (e : Expression ⊥) (b : Statement) (ρ : Variables) (x : S) (f : ℕ)
    → run_by M (tree.while s e b) ρ x (suc f)
    ≡ decide s ρ (M.decides e ρ x) x f
    (next (into 1 (run_by M b ρ x f)) (λ y g. run_by M (tree.while s e b) ρ y g)) (finished x f)
unfolding run_by
while-suc M s e b ρ x f =
    turn s ρ (λ y. M.decides e ρ y) (λ y g. into 1 (run_by M b ρ y g))
    (λ y g. into-fuel 1 g (run_by M b ρ y g) (run-fuel M b ρ y g)) x f

-- a watched run
pub watched-while-zero : (s : ℕ) (e : Expression ℕ) (b : TargetStatement) (ρ : Variables) (x : WatchedState)
    → watch (target.while s e b) ρ x 0 ≡ ended Stop.NoFuel s ρ [] x 0
unfolding watch turns
watched-while-zero s e b ρ x = refl

pub watched-while-suc : (s : ℕ) (e : Expression ℕ) (b : TargetStatement) (ρ : Variables) (x : WatchedState) (f : ℕ)
    → watch (target.while s e b) ρ x (suc f)
    ≡ decide s ρ (condition (value_in e ρ x)) x f
    (next (into 1 (watch b ρ x f)) (λ y g. watch (target.while s e b) ρ y g)) (finished x f)
unfolding watch
watched-while-suc s e b ρ x f =
    turn s ρ (λ y. condition (value_in e ρ y)) (λ y g. into 1 (watch b ρ y g))
    (λ y g. into-fuel 1 g (watch b ρ y g) (watch-fuel b ρ y g)) x f
