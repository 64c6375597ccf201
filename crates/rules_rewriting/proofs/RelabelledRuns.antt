-- A run of a program with other statement numbers is the program's run with these numbers, plain and watched.
use Prim.Native.Nat.{ℕ, zero, suc}
use mathlib.Core.Path.{◌≡◌, refl, sym, ap, ◌∙◌}
use Rattle.std.specs.Prelude.{Err, Ok, true, false}
use Rattle.rules.specs.Types.{Test}
use Rattle.rules.specs.Trees.{Predicate, Statement}
use Rattle.rules.specs.Trees as tree
use Rattle.rules.specs.TargetTrees.{TargetStatement, skip, assign, new, free, sequence, branch, while, let_in}
use Rattle.rules.specs.TargetTrees.{take_address, take_value, take_operation, take_query, take_not, branch_on}
use Rattle.rules.specs.TargetTrees.{assert_on, store_block, delete_block, initialise}
use Rattle.rules.specs.Memory.{Memory, Change, changed, stopped, Made, made, unmade}
use Rattle.rules.specs.Evaluation.{Variables, address_of, condition, extend}
use Rattle.rules.specs.Flow.{Outcome, finished, ended, into, next, after, decide, turns, in_let, Meaning, run_by}
use Rattle.rules.specs.Plain.{asserted, plain_meaning, run}
use Rattle.rules.specs.Watched.{WatchedState, value_in, place_in, holding, taken, observed, watch}
use Rattle.rules.specs.Translation.{translate}
use Rattle.rules.specs.SourceRecords.{numbered}
use Rattle.rules.specs.Relabelling.{relabel, relabel_target, relabel_outcome}
use Rattle.rules.proofs.Runs.TargetRuns.{assigning, allocating, freeing, operating, querying, negating, storing}
use Rattle.rules.proofs.Runs.TargetRuns.{deleting, initialising, making, closing}
use Rattle.rules_rewriting.proofs.Relabelled.{relabel-translate, numbered-only}

module _ {S : Type 0} (g : ℕ → ℕ) where
  -- how two parts of a run come out, one the other relabelled
  abbrev Same : (S → ℕ → Outcome S) → (S → ℕ → Outcome S) → Type 0
  Same x u = (y : S) (f : ℕ) → x y f ≡ relabel_outcome g (u y f)

  into-relabelled : (n : ℕ) (q o : Outcome S) → q ≡ relabel_outcome g o → into n q ≡ relabel_outcome g (into n o)
  into-relabelled n q o e = ap (into n) e ∙ same o
    where
      same : (o : Outcome S) → into n (relabel_outcome g o) ≡ relabel_outcome g (into n o)
      same (finished x f) = refl
      same (ended c s ρ w x f) = refl

  next-relabelled : (q o : Outcome S) (x u : S → ℕ → Outcome S) → q ≡ relabel_outcome g o → Same x u
      → next q x ≡ relabel_outcome g (next o u)
  next-relabelled q o x u e p = ap (λ (r : Outcome S). next r x) e ∙ same o
    where
      same : (o : Outcome S) → next (relabel_outcome g o) x ≡ relabel_outcome g (next o u)
      same (finished y f) = p y f
      same (ended c s ρ w y f) = refl

  after-relabelled : (s : ℕ) (ρ : Variables) (f : ℕ) (c : Change S)
      → after (g s) ρ f c ≡ relabel_outcome g (after s ρ f c)
  after-relabelled s ρ f (changed x) = refl
  after-relabelled s ρ f (stopped c x) = refl

  decide-relabelled : (s : ℕ) (ρ : Variables) (t : Test) (x : S) (f : ℕ) (a b c d : Outcome S)
      → a ≡ relabel_outcome g c → b ≡ relabel_outcome g d
      → decide (g s) ρ t x f a b ≡ relabel_outcome g (decide s ρ t x f c d)
  decide-relabelled s ρ (Ok true) x f a b c d p q = p
  decide-relabelled s ρ (Ok false) x f a b c d p q = q
  decide-relabelled s ρ (Err k) x f a b c d p q = refl

  turns-relabelled : (n s : ℕ) (ρ : Variables) (holds : S → Test) (x u : S → ℕ → Outcome S) → Same x u
      → Same (turns n (g s) ρ holds x) (turns n s ρ holds u)
  unfolding turns
  turns-relabelled zero s ρ holds x u p y f = refl
  turns-relabelled (suc n) s ρ holds x u p y zero = refl
  turns-relabelled (suc n) s ρ holds x u p y (suc f) =
      decide-relabelled s ρ (holds y) y f _ _ _ (finished y f)
      (next-relabelled (x y f) (u y f) _ _ (p y f) (turns-relabelled n s ρ holds x u p)) refl

  in_let-relabelled : (s : ℕ) (ρ : Variables) (y : S) (f : ℕ) (r : Made S) (close : S → ℕ → S)
      (x u : ℕ → S → ℕ → Outcome S) → ((k : ℕ) → Same (x k) (u k))
      → in_let (g s) ρ y f r close x ≡ relabel_outcome g (in_let s ρ y f r close u)
  in_let-relabelled s ρ y f (unmade c) close x u p = refl
  in_let-relabelled s ρ y f (made k z) close x u p =
      next-relabelled (x k z f) (u k z f) _ _ (p k z f) (λ z₁ f₁. refl)

-- a source run whose assertions do not tell their numbers
module _ {S : Type 0} (g : ℕ → ℕ) (M : Meaning S)
    (untold : (s : ℕ) (p : Predicate) (ρ : Variables) (x : S) (f : ℕ) → M.asserts (g s) p ρ x f ≡ M.asserts s p ρ x f)
  where
    pub run_by-relabelled : (a : tree.Statement) (ρ : Variables) (x : S) (f : ℕ)
        → run_by M (relabel g a) ρ x f ≡ relabel_outcome g (run_by M a ρ x f)
    unfolding run_by relabel
    run_by-relabelled (tree.skip s) ρ x f = refl
    run_by-relabelled (tree.assign s p e) ρ x f = after-relabelled g s ρ f (M.assigns p e ρ x)
    run_by-relabelled (tree.new s p e) ρ x f = after-relabelled g s ρ f (M.allocates p e ρ x)
    run_by-relabelled (tree.free s e) ρ x f = after-relabelled g s ρ f (M.frees e ρ x)
    run_by-relabelled (tree.sequence s a b) ρ x f =
        next-relabelled g _ (into 0 (run_by M a ρ x f)) _ (λ y h. into 1 (run_by M b ρ y h))
        (into-relabelled g 0 _ (run_by M a ρ x f) (run_by-relabelled a ρ x f))
        (λ y h. into-relabelled g 1 _ (run_by M b ρ y h) (run_by-relabelled b ρ y h))
    run_by-relabelled (tree.branch s e a b) ρ x f =
        decide-relabelled g s ρ (M.decides e ρ x) x f _ _ (into 1 (run_by M a ρ x f)) (into 2 (run_by M b ρ x f))
        (into-relabelled g 1 _ (run_by M a ρ x f) (run_by-relabelled a ρ x f))
        (into-relabelled g 2 _ (run_by M b ρ x f) (run_by-relabelled b ρ x f))
    run_by-relabelled (tree.while s e b) ρ x f =
        turns-relabelled g f s ρ (λ y. M.decides e ρ y) _ (λ y h. into 1 (run_by M b ρ y h))
        (λ y h. into-relabelled g 1 _ (run_by M b ρ y h) (run_by-relabelled b ρ y h)) x f
    run_by-relabelled (tree.let_in s z b) ρ x f =
        in_let-relabelled g s ρ x f (M.makes x) M.ends _ (λ k y h. into 0 (run_by M b (extend ρ z k) y h))
        (λ k y h. into-relabelled g 0 _ (run_by M b (extend ρ z k) y h) (run_by-relabelled b (extend ρ z k) y h))
    run_by-relabelled (tree.assert s p) ρ x f =
        ap (after (g s) ρ f) (untold s p ρ x f) ∙ after-relabelled g s ρ f (M.asserts s p ρ x f)

module _ (g : ℕ → ℕ) where
  pub run-relabelled : (a : Statement) (ρ : Variables) (m : Memory) (f : ℕ)
      → run (relabel g a) ρ m f ≡ relabel_outcome g (run a ρ m f)
  run-relabelled = run_by-relabelled g plain_meaning (λ s p ρ m f. refl)

  -- a target statement that makes a change, and those with statements in them
  pub watch-relabelled : (a : TargetStatement) (ρ : Variables) (x : WatchedState) (f : ℕ)
      → watch (relabel_target g a) ρ x f ≡ relabel_outcome g (watch a ρ x f)
  unfolding watch relabel_target
  watch-relabelled (skip s) ρ x f = refl
  watch-relabelled (assign s p e) ρ x f = after-relabelled g s ρ f (assigning p e ρ x)
  watch-relabelled (new s p e) ρ x f = after-relabelled g s ρ f (allocating p e ρ x)
  watch-relabelled (free s e) ρ x f = after-relabelled g s ρ f (freeing e ρ x)
  watch-relabelled (sequence s a b) ρ x f =
      next-relabelled g _ (into 0 (watch a ρ x f)) _ (λ y h. into 1 (watch b ρ y h))
      (into-relabelled g 0 _ (watch a ρ x f) (watch-relabelled a ρ x f))
      (λ y h. into-relabelled g 1 _ (watch b ρ y h) (watch-relabelled b ρ y h))
  watch-relabelled (branch s e a b) ρ x f =
      decide-relabelled g s ρ (condition (value_in e ρ x)) x f _ _ (into 1 (watch a ρ x f)) (into 2 (watch b ρ x f))
      (into-relabelled g 1 _ (watch a ρ x f) (watch-relabelled a ρ x f))
      (into-relabelled g 2 _ (watch b ρ x f) (watch-relabelled b ρ x f))
  watch-relabelled (while s e b) ρ x f =
      turns-relabelled g f s ρ (λ y. condition (value_in e ρ y)) _ (λ y h. into 1 (watch b ρ y h))
      (λ y h. into-relabelled g 1 _ (watch b ρ y h) (watch-relabelled b ρ y h)) x f
  watch-relabelled (let_in s z b) ρ x f =
      in_let-relabelled g s ρ x f (making x) closing _ (λ k y h. into 0 (watch b (extend ρ z k) y h))
      (λ k y h. into-relabelled g 0 _ (watch b (extend ρ z k) y h) (watch-relabelled b (extend ρ z k) y h))
  watch-relabelled (take_address s n p) ρ x f = after-relabelled g s ρ f (taken x n (address_of (place_in p ρ x)))
  watch-relabelled (take_value s n e) ρ x f = after-relabelled g s ρ f (taken x n (value_in e ρ x))
  watch-relabelled (take_operation s n q) ρ x f = after-relabelled g s ρ f (taken x n (operating q n x))
  watch-relabelled (take_query s n q) ρ x f = after-relabelled g s ρ f (taken x n (querying q n x))
  watch-relabelled (take_not s n) ρ x f = after-relabelled g s ρ f (taken x n (negating n x))
  watch-relabelled (branch_on s n a b) ρ x f =
      decide-relabelled g s ρ (condition (holding x n)) x f _ _ (into 1 (watch a ρ x f)) (into 2 (watch b ρ x f))
      (into-relabelled g 1 _ (watch a ρ x f) (watch-relabelled a ρ x f))
      (into-relabelled g 2 _ (watch b ρ x f) (watch-relabelled b ρ x f))
  watch-relabelled (assert_on s n) ρ x f = after-relabelled g s ρ f (asserted x (condition (holding x n)))
  watch-relabelled (store_block s n) ρ x f = after-relabelled g s ρ f (observed x (storing n x))
  watch-relabelled (delete_block s n) ρ x f = after-relabelled g s ρ f (observed x (deleting n x))
  watch-relabelled (initialise s n) ρ x f = after-relabelled g s ρ f (observed x (initialising n x))

  -- and of the translation
  pub translation-relabelled : (a : Statement) (ρ : Variables) (x : WatchedState) (f : ℕ)
      → watch (translate (relabel g a)) ρ x f ≡ relabel_outcome g (watch (translate a) ρ x f)
  translation-relabelled a ρ x f =
      ap (λ (b : TargetStatement). watch b ρ x f) (relabel-translate g a) ∙ watch-relabelled (translate a) ρ x f

-- a program numbered by its records comes out as it did, but for the statement at which it ends
pub numbered-run : (a : Statement) (n : ℕ) (ρ : Variables) (m : Memory) (f : ℕ)
    → relabel_outcome (λ s. 0) (run (numbered a n) ρ m f) ≡ relabel_outcome (λ s. 0) (run a ρ m f)
numbered-run a n ρ m f =
    sym (run-relabelled (λ s. 0) (numbered a n) ρ m f)
    ∙ ap (λ (b : Statement). run b ρ m f) (numbered-only a n)
    ∙ run-relabelled (λ s. 0) a ρ m f

pub numbered-watch : (a : Statement) (n : ℕ) (ρ : Variables) (x : WatchedState) (f : ℕ)
    → relabel_outcome (λ s. 0) (watch (translate (numbered a n)) ρ x f)
    ≡ relabel_outcome (λ s. 0) (watch (translate a) ρ x f)
numbered-watch a n ρ x f =
    sym (translation-relabelled (λ s. 0) (numbered a n) ρ x f)
    ∙ ap (λ (b : Statement). watch (translate b) ρ x f) (numbered-only a n)
    ∙ translation-relabelled (λ s. 0) a ρ x f
