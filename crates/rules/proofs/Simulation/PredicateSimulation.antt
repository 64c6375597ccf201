-- The watched run of a translated term or predicate leaves in its temporary what evaluating gives.
use Prim.Native.Nat.{ℕ, suc, ◌<◌}
use native.Mathlib.Omega.{arith}
use mathlib.Core.Path.{◌≡◌, refl, ap, ◌∙◌, sym}
use mathlib.Core.Logic.{◌≢◌}
use lib.ListN.{length, set, length-set}
use lib.Seq.{get_or-set_same, get_or-set_other}
use Rattle.std.specs.Prelude.{Err, None, Ok, Some, true, false}
use Rattle.rules.specs.Types.{Value, Evaluated, Test, Stop}
use Rattle.rules.specs.Sizes.{temporary_count}
use Rattle.rules.specs.Trees.{Operator, shift, Query, Expression, literal, read, address, operation, shifted}
use Rattle.rules.specs.Trees.{Place, variable, pointed, temporary, Term, value, asked, combined, Predicate}
use Rattle.rules.specs.Trees.{holds, compared, negated, both, either}
use Rattle.rules.specs.TargetTrees.{skip, sequence, take_operation, take_query, take_not, branch_on}
use Rattle.rules.specs.Numbers.{operate, tested}
use Rattle.rules.specs.Memory.{Memory, read_cell, on_value, on_place, live_block}
use Rattle.rules.specs.Evaluation.{Variables, pointed_by, address_of, operated, evaluate, find_place, query_memory}
use Rattle.rules.specs.Evaluation.{evaluate_source, find_source, evaluate_term, on_test, opposite, and_then, or_else}
use Rattle.rules.specs.Evaluation.{evaluate_predicate, condition}
use Rattle.rules.specs.Observation.{Observation, mirror, live_record}
use Rattle.rules.specs.Flow.{TreePath, Outcome, finished, ended, into, next, after, decide}
use Rattle.rules.specs.Watched.{Temporaries, temporary_of, held_in, WatchedState, watching, taken, watch}
use Rattle.rules.specs.Translation.{embed, embed_place, translate_term, translate_predicate}
use Rattle.rules.proofs.Acceptance.Sound.{Scope, SoundTerm, SoundPredicate}
use Rattle.rules.proofs.Runs.TargetRuns.{operating, querying, negating}
use Rattle.rules.proofs.Simulation.Mirror.{mirror-query, mirror-live}

-- a source expression gives the same in the target, whatever the temporaries hold
mutual
  unfolding evaluate embed

  pub embed-is : (e : Expression ⊥) (τ : Temporaries) (ρ : Variables) (m : Memory)
      → evaluate (embed e) (temporary_of τ) ρ m ≡ evaluate_source e ρ m
  embed-is (literal z) τ ρ m = refl
  embed-is (read p) τ ρ m = ap (λ r. on_place r Err (read_cell m)) (embed_place-is p τ ρ m)
  embed-is (address p) τ ρ m = ap address_of (embed_place-is p τ ρ m)
  embed-is (operation o a b) τ ρ m = λ i. operated (live_block m) o (embed-is a τ ρ m i) (embed-is b τ ρ m i)
  embed-is (shifted a b) τ ρ m = λ i. operated (live_block m) shift (embed-is a τ ρ m i) (embed-is b τ ρ m i)

  pub embed_place-is : (p : Place ⊥) (τ : Temporaries) (ρ : Variables) (m : Memory)
      → find_place (embed_place p) (temporary_of τ) ρ m ≡ find_source p ρ m
  embed_place-is (variable x) τ ρ m = refl
  embed_place-is (pointed e) τ ρ m = ap pointed_by (embed-is e τ ρ m)
  embed_place-is (temporary t) τ ρ m = elim t [ ]

-- the temporaries are 64, and temporary n holds v
abbrev pub Full : Temporaries → Type 0
Full τ = length τ ≡ temporary_count

abbrev pub put : Temporaries → ℕ → Value → Temporaries
put τ n v = set τ n (Some v)

pub full_put : (τ : Temporaries) (n : ℕ) (v : Value) → Full τ → Full (put τ n v)
full_put τ n v h = length-set τ n (Some v) ∙ h

pub put_same : (τ : Temporaries) (n : ℕ) (v : Value) → Full τ → n < 64
    → temporary_of (put τ n v) n ≡ Some v
put_same τ n v h l = get_or-set_same τ n (Some v) None (omega arith)

pub put_other : (τ : Temporaries) (n k : ℕ) (v : Value) → k ≢ n → temporary_of (put τ n v) k ≡ temporary_of τ k
put_other τ n k v d = get_or-set_other τ n k (Some v) None d

-- temporaries that are alike below n
abbrev Alike : ℕ → Temporaries → Temporaries → Type 0
Alike n τ₁ τ = (k : ℕ) → k < n → temporary_of τ₁ k ≡ temporary_of τ k

-- the result is in temporary n, those below n are as before, nothing else has changed
pub data Gives (n s : ℕ) (ρ : Variables) (τ : Temporaries) (m : Memory) (o : Observation) (f : ℕ)
    : Evaluated → Outcome WatchedState → Type 0 where
  gives : {v : Value} {τ₁ : Temporaries} → temporary_of τ₁ n ≡ Some v → Full τ₁ → Alike n τ₁ τ
      → Gives n s ρ τ m o f (Ok v) (finished (watching m o τ₁) f)
  stops : {c : Stop} {w : TreePath} {τ₁ : Temporaries}
      → Gives n s ρ τ m o f (Err c) (ended c s ρ w (watching m o τ₁) f)

module _ (s : ℕ) (ρ : Variables) (m : Memory) (o : Observation) (f : ℕ) where
  gives-from : {n : ℕ} {τ τ₁ : Temporaries} {r : Evaluated} {w : Outcome WatchedState} → Alike n τ₁ τ
      → Gives n s ρ τ₁ m o f r w
      → Gives n s ρ τ m o f r w
  gives-from p (gives h l q) = gives h l (λ k b. q k b ∙ p k b)
  gives-from p stops = stops

  gives_into : {n : ℕ} {τ : Temporaries} {r : Evaluated} {w : Outcome WatchedState} (j : ℕ) → Gives n s ρ τ m o f r w
      → Gives n s ρ τ m o f r (into j w)
  gives_into j (gives h l q) = gives h l q
  gives_into j stops = stops

  gives-taken : (n : ℕ) (τ τ₁ : Temporaries) (r : Evaluated) → n < 64 → Full τ₁ → Alike n τ₁ τ
      → Gives n s ρ τ m o f r (after s ρ f (taken (watching m o τ₁) n r))
  gives-taken n τ τ₁ (Ok v) l h p =
      gives (put_same τ₁ n v h l) (full_put τ₁ n v h) (λ k b. put_other τ₁ n k v (omega arith) ∙ p k b)
  gives-taken n τ τ₁ (Err c) l h p = stops

  gives-next : {n n₁ : ℕ} {τ : Temporaries} {r : Evaluated} {w : Outcome WatchedState} (kr : Value → Evaluated)
      (kw : WatchedState → ℕ → Outcome WatchedState)
      → Gives n₁ s ρ τ m o f r w
      → ((v : Value) (τ₁ : Temporaries) → temporary_of τ₁ n₁ ≡ Some v → Full τ₁ → Alike n₁ τ₁ τ
      → Gives n s ρ τ m o f (kr v) (kw (watching m o τ₁) f))
      → Gives n s ρ τ m o f (on_value r Err kr) (next (into 0 w) (λ x g. into 1 (kw x g)))
  gives-next kr kw (gives {v} {τ₁} h l p) g = gives_into 1 (g v τ₁ h l p)
  gives-next kr kw stops g = stops

  gives-test : (n : ℕ) (τ : Temporaries) (t : Test) (x y : Evaluated) (u v : Outcome WatchedState)
      → Gives n s ρ τ m o f x u → Gives n s ρ τ m o f y v
      → Gives n s ρ τ m o f (on_test t Err x y) (decide s ρ t (watching m o τ) f u v)
  gives-test n τ (Ok true) x y u v p q = p
  gives-test n τ (Ok false) x y u v p q = q
  gives-test n τ (Err c) x y u v p q = stops

  -- 'and' and 'or'
  gives_both : (n : ℕ) (τ : Temporaries) (v : Value) (r : Evaluated) (w : Outcome WatchedState)
      → temporary_of τ n ≡ Some v → Full τ → Gives n s ρ τ m o f r w
      → Gives n s ρ τ m o f (and_then v r)
      (decide s ρ (condition (held_in τ n)) (watching m o τ) f (into 1 w) (finished (watching m o τ) f))
  gives_both n τ v r w h l g =
      rw h (gives-test n τ (tested v) r (Ok v) (into 1 w) (finished (watching m o τ) f) (gives_into 1 g)
      (gives h l (λ k b. refl)))

  gives-either : (n : ℕ) (τ : Temporaries) (v : Value) (r : Evaluated) (w : Outcome WatchedState)
      → temporary_of τ n ≡ Some v → Full τ → Gives n s ρ τ m o f r w
      → Gives n s ρ τ m o f (or_else v r)
      (decide s ρ (condition (held_in τ n)) (watching m o τ) f (finished (watching m o τ) f) (into 2 w))
  gives-either n τ v r w h l g =
      rw h (gives-test n τ (tested v) (Ok v) r (finished (watching m o τ) f) (into 2 w)
      (gives h l (λ k b. refl)) (gives_into 2 g))

  gives-not : (n : ℕ) (v : Value) (τ τ₁ : Temporaries) → n < 64 → temporary_of τ₁ (suc n) ≡ Some v
      → Full τ₁
      → Alike (suc n) τ₁ τ
      → Gives n s ρ τ m o f (opposite v) (after s ρ f (taken (watching m o τ₁) n (negating n (watching m o τ₁))))
  gives-not n v τ τ₁ b h l p = rw h (gives-taken n τ τ₁ (opposite v) b l (λ k c. p k (omega arith)))

  gives-operation : (q : Operator) (n : ℕ) (v u : Value) (τ₁ τ₂ : Temporaries) → n < 64
      → temporary_of τ₁ (suc n) ≡ Some v → temporary_of τ₂ (suc (suc n)) ≡ Some u → Full τ₂
      → Alike (suc (suc n)) τ₂ τ₁
      → Gives n s ρ τ₁ m o f (operate (live_record o) q v u)
      (after s ρ f (taken (watching m o τ₂) n (operating q n (watching m o τ₂))))
  gives-operation q n v u τ₁ τ₂ b h g l p =
      rw (p (suc n) (omega arith) ∙ h, g)
      (gives-taken n τ₁ τ₂ (operate (live_record o) q v u) b l (λ k c. p k (omega arith)))

-- a query of the mirror is a query of the execution memory
gives-query : (q : Query) (s : ℕ) (ρ : Variables) (n : ℕ) (m : Memory) (f : ℕ) (v : Value) (τ τ₁ : Temporaries)
    → n < 64 → temporary_of τ₁ (suc n) ≡ Some v → Full τ₁ → Alike (suc n) τ₁ τ
    → Gives n s ρ τ m (mirror m) f (query_memory q m v)
    (after s ρ f (taken (watching m (mirror m) τ₁) n (querying q n (watching m (mirror m) τ₁))))
gives-query q s ρ n m f v τ τ₁ b h l p =
    rw (h, mirror-query m q v)
    (gives-taken s ρ m (mirror m) f n τ τ₁ (query_memory q m v) b l (λ k c. p k (omega arith)))

pub term-agrees : (t : Term) (σ : Scope) (ρ : Variables) (m : Memory) (s n : ℕ) (τ : Temporaries) (f : ℕ)
    → SoundTerm t σ n → Full τ
    → Gives n s ρ τ m (mirror m) f (evaluate_term t ρ m) (watch (translate_term t s n) ρ (watching m (mirror m) τ) f)
unfolding evaluate_term watch translate_term
term-agrees (value e) σ ρ m s n τ f d l =
    rw (embed-is e τ ρ m) (gives-taken s ρ m (mirror m) f n τ τ (evaluate_source e ρ m) d.0 l (λ k b. refl))
term-agrees (asked q t) σ ρ m s n τ f d l =
    gives-next s ρ m (mirror m) f _ (watch (take_query s n q) ρ) (term-agrees t σ ρ m s (suc n) τ f d.1 l)
    (λ v τ₁ h l₁ p. gives-query q s ρ n m f v τ τ₁ (omega arith) h l₁ p)
term-agrees (combined o a b) σ ρ m s n τ f d l =
    gives-next s ρ m (mirror m) f _ (watch (sequence s (translate_term b s (suc (suc n))) (take_operation s n o)) ρ)
    (term-agrees a σ ρ m s (suc n) τ f d.1 l)
    (λ v τ₁ h l₁ p. gives-from s ρ m (mirror m) f (λ k c. p k (omega arith))
    (gives-next s ρ m (mirror m) f _ (watch (take_operation s n o) ρ)
    (term-agrees b σ ρ m s (suc (suc n)) τ₁ f d.2 l₁)
    (λ u τ₂ g l₂ q. rw (sym (mirror-live m)) (gives-operation s ρ m (mirror m) f o n v u τ₁ τ₂ (omega arith) h g l₂ q))))

pub predicate-agrees : (a : Predicate) (σ : Scope) (ρ : Variables) (m : Memory) (s n : ℕ) (τ : Temporaries) (f : ℕ)
    → SoundPredicate a σ n → Full τ
    → Gives n s ρ τ m (mirror m) f (evaluate_predicate a ρ m)
    (watch (translate_predicate a s n) ρ (watching m (mirror m) τ) f)
unfolding evaluate_term evaluate_predicate watch translate_term translate_predicate
predicate-agrees (holds q t) σ ρ m s n τ f d l = term-agrees (asked q t) σ ρ m s n τ f d l
predicate-agrees (compared o a b) σ ρ m s n τ f d l = term-agrees (combined o a b) σ ρ m s n τ f d l
predicate-agrees (negated a) σ ρ m s n τ f d l =
    gives-next s ρ m (mirror m) f _ (watch (take_not s n) ρ) (predicate-agrees a σ ρ m s (suc n) τ f d.1 l)
    (λ v τ₁ h l₁ p. gives-not s ρ m (mirror m) f n v τ τ₁ (omega arith) h l₁ p)
predicate-agrees (both a b) σ ρ m s n τ f d l =
    gives-next s ρ m (mirror m) f _ (watch (branch_on s n (translate_predicate b s n) (skip s)) ρ)
    (predicate-agrees a σ ρ m s n τ f d.1 l)
    (λ v τ₁ h l₁ p. gives-from s ρ m (mirror m) f p
    (gives_both s ρ m (mirror m) f n τ₁ v (evaluate_predicate b ρ m) _ h l₁
    (predicate-agrees b σ ρ m s n τ₁ f d.2 l₁)))
predicate-agrees (either a b) σ ρ m s n τ f d l =
    gives-next s ρ m (mirror m) f _ (watch (branch_on s n (skip s) (translate_predicate b s n)) ρ)
    (predicate-agrees a σ ρ m s n τ f d.1 l)
    (λ v τ₁ h l₁ p. gives-from s ρ m (mirror m) f p
    (gives-either s ρ m (mirror m) f n τ₁ v (evaluate_predicate b ρ m) _ h l₁
    (predicate-agrees b σ ρ m s n τ₁ f d.2 l₁)))
