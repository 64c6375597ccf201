-- The tree of a sound source statement that has records keeps the rules of the source language.
use Prim.Native.Nat.{ℕ, suc, ◌≤◌}
use native.Mathlib.Omega.{arith}
use mathlib.Core.Bool.{false≢true}
use mathlib.Core.Path.{◌≡◌, refl, subst}
use Rattle.rules.specs.Records.{table_bytes}
use Rattle.rules.specs.Kinds.{source, expression, place, term, predicate, statement, sort_number, look_up, form_of}
use Rattle.rules.specs.Checker.{sort_of}
use Rattle.rules.specs.Trees.{valid, initialised, base, offset, block_length, Expression, literal, read, address}
use Rattle.rules.specs.Trees.{operation, shifted, Place, variable, pointed, temporary, Term, value, asked}
use Rattle.rules.specs.Trees.{combined, Predicate, holds, compared, negated, both, either, Statement, skip}
use Rattle.rules.specs.Trees.{assign, new, free, sequence, branch, while, let_in, assert}
use Rattle.rules.specs.Nodes.{source_program}
use Rattle.rules.specs.Emission.{expression_tree, tree_size, emit}
use Rattle.rules.specs.Translation.{embed}
use Rattle.rules.specs.SourceRecords.{source_expression, source_place, term_tree, predicate_tree, source_tree}
use Rattle.rules.specs.SourceRecords.{numbered}
use Rattle.rules.proofs.Acceptance.Sound.{Scope, start_scope, adding, SoundExpression, SoundPlace, NoName}
use Rattle.rules.proofs.Acceptance.Sound.{SoundTerm}
use Rattle.rules.proofs.Acceptance.Sound.{SoundPredicate, SoundStatement}
use Rattle.rules.proofs.Translation.FittingTrees.{root_kind, Fitting}
use Rattle.rules.proofs.Translation.TargetFitting.{operator-range, plain-range, below-let, fits, up_to, no-tree}
use Rattle.rules_rewriting.proofs.Writable.{WritableTerm, WritablePredicate, Writable}
use Rattle.rules_rewriting.proofs.SourceReadBack.{source-back}

-- the sorts of the trees
expression-sort : (e : Expression ⊥) → sort_of source (root_kind (source_expression e)) ≡ sort_number expression
unfolding embed expression_tree form_of look_up
expression-sort (literal z) = refl
expression-sort (read p) = refl
expression-sort (address p) = refl
expression-sort (operation o a b) = refl
expression-sort (shifted a b) = refl

place-sort : (p : Place ⊥) → sort_of source (root_kind (source_place p)) ≡ sort_number place
unfolding embed expression_tree form_of look_up
place-sort (variable x) = refl
place-sort (pointed e) = refl
place-sort (temporary x) = elim x [ ]

term-sort : (u : Term) → WritableTerm u → sort_of source (root_kind (term_tree u)) ≡ sort_number term
unfolding term_tree form_of look_up
term-sort (value e) w = refl
term-sort (asked valid u) w = absurd (false≢true w.0)
term-sort (asked initialised u) w = absurd (false≢true w.0)
term-sort (asked base u) w = refl
term-sort (asked offset u) w = refl
term-sort (asked block_length u) w = refl
term-sort (combined o a b) w = refl

predicate-sort : (p : Predicate) → WritablePredicate p
    → sort_of source (root_kind (predicate_tree p)) ≡ sort_number predicate
unfolding predicate_tree form_of look_up
predicate-sort (holds valid u) w = refl
predicate-sort (holds initialised u) w = refl
predicate-sort (holds base u) w = absurd (false≢true w.0)
predicate-sort (holds offset u) w = absurd (false≢true w.0)
predicate-sort (holds block_length u) w = absurd (false≢true w.0)
predicate-sort (compared o a b) w = refl
predicate-sort (negated a) w = refl
predicate-sort (both a b) w = refl
predicate-sort (either a b) w = refl

pub statement-sort : (a : Statement) → sort_of source (root_kind (source_tree a)) ≡ sort_number statement
unfolding source_tree form_of look_up
statement-sort (skip s) = refl
statement-sort (assign s p e) = refl
statement-sort (new s p e) = refl
statement-sort (free s e) = refl
statement-sort (sequence s a b) = refl
statement-sort (branch s e a b) = refl
statement-sort (while s e b) = refl
statement-sort (let_in s x b) = refl
statement-sort (assert s p) = refl

mutual
  unfolding embed expression_tree form_of look_up

  expression-fits : (e : Expression ⊥) (ρ : Scope) → SoundExpression e NoName ρ
      → Fitting source (source_expression e) ρ
  expression-fits (literal z) ρ h = (fits refl (omega arith) h refl refl no-tree no-tree no-tree tt, tt, tt, tt)
  expression-fits (read p) ρ h =
      (fits refl (omega arith) refl refl refl (place-sort p) no-tree no-tree tt, place-fits p ρ h, tt, tt)
  expression-fits (address p) ρ h =
      (fits refl (omega arith) refl refl refl (place-sort p) no-tree no-tree tt, place-fits p ρ h, tt, tt)
  expression-fits (operation o a b) ρ h = (
    fits refl (omega (arith, operator-range o)) refl refl (plain-range o h.0) (expression-sort a)
        (expression-sort b) no-tree tt,
    expression-fits a ρ h.1,
    expression-fits b ρ h.2,
    tt,
  )
  expression-fits (shifted a b) ρ h = (
    fits refl (omega arith) refl refl refl (expression-sort a) (expression-sort b) no-tree tt,
    expression-fits a ρ h.0,
    expression-fits b ρ h.1,
    tt,
  )

  place-fits : (p : Place ⊥) (ρ : Scope) → SoundPlace p NoName ρ → Fitting source (source_place p) ρ
  place-fits (variable x) ρ h =
      (fits refl (omega arith) refl refl (up_to 63 x (omega arith)) no-tree no-tree no-tree h.1, tt, tt, tt)
  place-fits (pointed e) ρ h =
      (fits refl (omega arith) refl refl refl (expression-sort e) no-tree no-tree tt, expression-fits e ρ h, tt, tt)
  place-fits (temporary x) ρ h = elim x [ ]

term_fits : (u : Term) (ρ : Scope) (n : ℕ) → SoundTerm u ρ n → WritableTerm u → Fitting source (term_tree u) ρ
unfolding term_tree form_of look_up
term_fits (value e) ρ n h w = (
  fits refl (omega arith) refl refl refl (expression-sort e) no-tree no-tree tt,
  expression-fits e ρ h.1,
  tt,
  tt,
)
term_fits (asked valid u) ρ n h w = absurd (false≢true w.0)
term_fits (asked initialised u) ρ n h w = absurd (false≢true w.0)
term_fits (asked base u) ρ n h w = (
  fits refl (omega arith) refl refl refl (term-sort u w.1) no-tree no-tree tt,
  term_fits u ρ (suc n) h.1 w.1,
  tt,
  tt,
)
term_fits (asked offset u) ρ n h w = (
  fits refl (omega arith) refl refl refl (term-sort u w.1) no-tree no-tree tt,
  term_fits u ρ (suc n) h.1 w.1,
  tt,
  tt,
)
term_fits (asked block_length u) ρ n h w = (
  fits refl (omega arith) refl refl refl (term-sort u w.1) no-tree no-tree tt,
  term_fits u ρ (suc n) h.1 w.1,
  tt,
  tt,
)
term_fits (combined o a b) ρ n h w = (
  fits refl (omega (arith, operator-range o)) refl refl w.0 (term-sort a w.1) (term-sort b w.2) no-tree tt,
  term_fits a ρ (suc n) h.1 w.1,
  term_fits b ρ (suc (suc n)) h.2 w.2,
  tt,
)

predicate-fits : (p : Predicate) (ρ : Scope) (n : ℕ) → SoundPredicate p ρ n → WritablePredicate p
    → Fitting source (predicate_tree p) ρ
unfolding predicate_tree form_of look_up
predicate-fits (holds valid u) ρ n h w = (
  fits refl (omega arith) refl refl refl (term-sort u w.1) no-tree no-tree tt,
  term_fits u ρ (suc n) h.1 w.1,
  tt,
  tt,
)
predicate-fits (holds initialised u) ρ n h w = (
  fits refl (omega arith) refl refl refl (term-sort u w.1) no-tree no-tree tt,
  term_fits u ρ (suc n) h.1 w.1,
  tt,
  tt,
)
predicate-fits (holds base u) ρ n h w = absurd (false≢true w.0)
predicate-fits (holds offset u) ρ n h w = absurd (false≢true w.0)
predicate-fits (holds block_length u) ρ n h w = absurd (false≢true w.0)
predicate-fits (compared o a b) ρ n h w = (
  fits refl (omega (arith, operator-range o)) refl refl w.0 (term-sort a w.1) (term-sort b w.2) no-tree tt,
  term_fits a ρ (suc n) h.1 w.1,
  term_fits b ρ (suc (suc n)) h.2 w.2,
  tt,
)
predicate-fits (negated a) ρ n h w = (
  fits refl (omega arith) refl refl refl (predicate-sort a w) no-tree no-tree tt,
  predicate-fits a ρ (suc n) h.1 w,
  tt,
  tt,
)
predicate-fits (both a b) ρ n h w = (
  fits refl (omega arith) refl refl refl (predicate-sort a w.0) (predicate-sort b w.1) no-tree tt,
  predicate-fits a ρ n h.1 w.0,
  predicate-fits b ρ n h.2 w.1,
  tt,
)
predicate-fits (either a b) ρ n h w = (
  fits refl (omega arith) refl refl refl (predicate-sort a w.0) (predicate-sort b w.1) no-tree tt,
  predicate-fits a ρ n h.1 w.0,
  predicate-fits b ρ n h.2 w.1,
  tt,
)

pub statement-fits : (a : Statement) (ρ : Scope) → SoundStatement a ρ → Writable a → Fitting source (source_tree a) ρ
unfolding source_tree form_of look_up
statement-fits (skip s) ρ h w = (fits refl (omega arith) refl refl refl no-tree no-tree no-tree tt, tt, tt, tt)
statement-fits (assign s p e) ρ (d, hp, he) w = (
  fits refl (omega arith) refl refl refl (place-sort p) (expression-sort e) no-tree tt,
  place-fits p ρ hp,
  expression-fits e ρ he,
  tt,
)
statement-fits (new s p e) ρ (d, hp, he) w = (
  fits refl (omega arith) refl refl refl (place-sort p) (expression-sort e) no-tree tt,
  place-fits p ρ hp,
  expression-fits e ρ he,
  tt,
)
statement-fits (free s e) ρ (d, he) w =
    (fits refl (omega arith) refl refl refl (expression-sort e) no-tree no-tree tt, expression-fits e ρ he, tt, tt)
statement-fits (sequence s a b) ρ (d, ha, hb) w = (
  fits refl (omega arith) refl refl refl (statement-sort a) (statement-sort b) no-tree tt,
  statement-fits a ρ ha w.0,
  statement-fits b ρ hb w.1,
  tt,
)
statement-fits (branch s e a b) ρ (d, he, ha, hb) w = (
  fits refl (omega arith) refl refl refl (expression-sort e) (statement-sort a) (statement-sort b) tt,
  expression-fits e ρ he,
  statement-fits a ρ ha w.0,
  statement-fits b ρ hb w.1,
)
statement-fits (while s e b) ρ (d, he, hb) w = (
  fits refl (omega arith) refl refl refl (expression-sort e) (statement-sort b) no-tree tt,
  expression-fits e ρ he,
  statement-fits b ρ hb w,
  tt,
)
statement-fits (let_in s x b) ρ (d, hx, out, hb) w = (
  fits refl (omega arith) refl refl (up_to 63 x (omega arith)) (statement-sort b) no-tree no-tree out,
  subst (Fitting source (source_tree b)) (below-let ρ x) (statement-fits b (adding ρ x) hb w),
  tt,
  tt,
)
statement-fits (assert s p) ρ (d, hp) w = (
  fits refl (omega arith) refl refl refl (predicate-sort p w) no-tree no-tree tt,
  predicate-fits p ρ 0 hp w,
  tt,
  tt,
)

-- the bytes of a sound source statement are read back as the statement, numbered by its records
pub sound_back : (a : Statement) → SoundStatement a start_scope → Writable a → tree_size (source_tree a) ≤ 256
    → source_program (table_bytes (emit (source_tree a) 0)) ≡ numbered a 0
sound_back a h w s = source-back a start_scope w (statement-fits a start_scope h w) s
