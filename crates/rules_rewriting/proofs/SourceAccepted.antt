-- The bytes of an emitted source tree are accepted.
use Prim.Native.Nat.{ℕ, suc, ◌≤◌}
use native.Mathlib.Omega.{arith}
use mathlib.Core.Bool.{true, false, false≢true}
use mathlib.Core.List.{List}
use mathlib.Core.Path.{◌≡◌, ◌∙◌, subst}
use Rattle.std.specs.Prelude.{Ok}
use Rattle.rules.specs.Records.{table_bytes}
use Rattle.rules.specs.Kinds.{source}
use Rattle.rules.specs.Checker.{level_fault, check}
use Rattle.rules.specs.Trees.{valid, initialised, base, offset, block_length, Expression, literal, read, address}
use Rattle.rules.specs.Trees.{operation, shifted, Place, variable, pointed, temporary, Term, value, asked}
use Rattle.rules.specs.Trees.{combined, Predicate, holds, compared, negated, both, either, Statement, skip}
use Rattle.rules.specs.Trees.{assign, new, free, sequence, branch, while, let_in, assert}
use Rattle.rules.specs.Emission.{expression_tree, tree_size, emit}
use Rattle.rules.specs.Translation.{embed}
use Rattle.rules.specs.SourceRecords.{source_expression, source_place, term_tree, predicate_tree, source_tree}
use Rattle.rules.proofs.Acceptance.Sound.{Scope, start_scope, adding, SoundTerm, SoundPredicate, SoundStatement}
use Rattle.rules.proofs.Translation.FittingTrees.{Fitting}
use Rattle.rules.proofs.Translation.EmittedBytes.{emitted, emitted-count}
use Rattle.rules.proofs.Acceptance.CheckLaws.{Keeps, none-fails, check-kept}
use Rattle.rules_rewriting.proofs.LevelsKept.{Levels, levels-kept}
use Rattle.rules.proofs.Translation.TargetAccepted.{tree-keeps}
use Rattle.rules_rewriting.proofs.Writable.{WritableTerm, WritablePredicate, Writable}
use Rattle.rules_rewriting.proofs.SourceFitting.{statement-sort, statement-fits}

-- what is no term or predicate names nothing
no-level : {A : Type 0} → false ≡ true → A
no-level e = absurd (false≢true e)

mutual
  unfolding embed expression_tree

  expression-levels : (e : Expression ⊥) (v : ℕ) → Levels (source_expression e) v
  expression-levels (literal z) v = (no-level, tt, tt, tt)
  expression-levels (read p) v = (no-level, place-levels p 0, tt, tt)
  expression-levels (address p) v = (no-level, place-levels p 0, tt, tt)
  expression-levels (operation o a b) v = (no-level, expression-levels a 0, expression-levels b 0, tt)
  expression-levels (shifted a b) v = (no-level, expression-levels a 0, expression-levels b 0, tt)

  place-levels : (p : Place ⊥) (v : ℕ) → Levels (source_place p) v
  place-levels (variable x) v = (no-level, tt, tt, tt)
  place-levels (pointed e) v = (no-level, expression-levels e 0, tt, tt)
  place-levels (temporary x) v = elim x [ ]

term-levels : (u : Term) (ρ : Scope) (v : ℕ) → SoundTerm u ρ v → WritableTerm u → Levels (term_tree u) v
unfolding term_tree
term-levels (value e) ρ v h w = (λ p. h.0, expression-levels e 0, tt, tt)
term-levels (asked valid u) ρ v h w = absurd (false≢true w.0)
term-levels (asked initialised u) ρ v h w = absurd (false≢true w.0)
term-levels (asked base u) ρ v h w = (λ p. h.0, term-levels u ρ (suc v) h.1 w.1, tt, tt)
term-levels (asked offset u) ρ v h w = (λ p. h.0, term-levels u ρ (suc v) h.1 w.1, tt, tt)
term-levels (asked block_length u) ρ v h w = (λ p. h.0, term-levels u ρ (suc v) h.1 w.1, tt, tt)
term-levels (combined o a b) ρ v h w = (
  λ p. h.0,
  subst (Levels (term_tree a)) (omega arith) (term-levels a ρ (suc v) h.1 w.1),
  subst (Levels (term_tree b)) (omega arith) (term-levels b ρ (suc (suc v)) h.2 w.2),
  tt,
)

predicate-levels : (p : Predicate) (ρ : Scope) (v : ℕ) → SoundPredicate p ρ v → WritablePredicate p
    → Levels (predicate_tree p) v
unfolding predicate_tree
predicate-levels (holds valid u) ρ v h w = (λ p. h.0, term-levels u ρ (suc v) h.1 w.1, tt, tt)
predicate-levels (holds initialised u) ρ v h w = (λ p. h.0, term-levels u ρ (suc v) h.1 w.1, tt, tt)
predicate-levels (holds base u) ρ v h w = absurd (false≢true w.0)
predicate-levels (holds offset u) ρ v h w = absurd (false≢true w.0)
predicate-levels (holds block_length u) ρ v h w = absurd (false≢true w.0)
predicate-levels (compared o a b) ρ v h w = (
  λ p. h.0,
  subst (Levels (term_tree a)) (omega arith) (term-levels a ρ (suc v) h.1 w.1),
  subst (Levels (term_tree b)) (omega arith) (term-levels b ρ (suc (suc v)) h.2 w.2),
  tt,
)
predicate-levels (negated a) ρ v h w = (λ p. h.0, predicate-levels a ρ (suc v) h.1 w, tt, tt)
predicate-levels (both a b) ρ v h w =
    (λ p. h.0, predicate-levels a ρ v h.1 w.0, predicate-levels b ρ v h.2 w.1, tt)
predicate-levels (either a b) ρ v h w =
    (λ p. h.0, predicate-levels a ρ v h.1 w.0, predicate-levels b ρ v h.2 w.1, tt)

statement-levels : (a : Statement) (ρ : Scope) → SoundStatement a ρ → Writable a → Levels (source_tree a) 0
unfolding source_tree
statement-levels (skip s) ρ h w = (no-level, tt, tt, tt)
statement-levels (assign s p e) ρ h w = (no-level, place-levels p 0, expression-levels e 0, tt)
statement-levels (new s p e) ρ h w = (no-level, place-levels p 0, expression-levels e 0, tt)
statement-levels (free s e) ρ h w = (no-level, expression-levels e 0, tt, tt)
statement-levels (sequence s a b) ρ (d, ha, hb) w =
    (no-level, statement-levels a ρ ha w.0, statement-levels b ρ hb w.1, tt)
statement-levels (branch s e a b) ρ (d, he, ha, hb) w =
    (no-level, expression-levels e 0, statement-levels a ρ ha w.0, statement-levels b ρ hb w.1)
statement-levels (while s e b) ρ (d, he, hb) w =
    (no-level, expression-levels e 0, statement-levels b ρ hb w, tt)
statement-levels (let_in s x b) ρ (d, hx, out, hb) w =
    (no-level, statement-levels b (adding ρ x) hb w, tt, tt)
statement-levels (assert s p) ρ (d, hp) w = (no-level, predicate-levels p ρ 0 hp w, tt, tt)

pub source-accepted : (a : Statement) → SoundStatement a start_scope → Writable a → tree_size (source_tree a) ≤ 256
    → check source (table_bytes (emit (source_tree a) 0)) ≡ Ok tt
source-accepted a h w s =
    let t : List ℕ = table_bytes (emit (source_tree a) 0) in
    let fitting : Fitting source (source_tree a) start_scope = statement-fits a start_scope h w in
    let keeps : Keeps source t = tree-keeps source (source_tree a) fitting (statement-sort a) s in
    check-kept source t keeps
    ∙ rw (none-fails t (level_fault t) (levels-kept t (source_tree a) keeps.passed (emitted-count (source_tree a))
    (emitted source (source_tree a) start_scope fitting (omega arith)).records fitting
    (statement-levels a start_scope h w)))
