-- The tree of a sound target statement keeps the rules of the target language.
use Prim.Native.Nat.{ℕ, ◌^◌, ◌≤◌, ◌<◌}
use native.Mathlib.Omega.{arith}
use mathlib.Core.Path.{◌≡◌, refl, subst}
use mathlib.Core.Bool.{true}
use mathlib.Core.Option.{some}
use lib.Dec.{leb}
use lib.IntN.{ℤ, pos}
use borrow.Author.Tests.{lt-ltb, le-leb}
use Rattle.rules.specs.Kinds.{Language, target, expression, place, statement, sort_number, statement_literal}
use Rattle.rules.specs.Kinds.{Form, between, field_of, look_up, form_of}
use Rattle.rules.specs.Checker.{sort_of, literal_fits, field_fits}
use Rattle.rules.specs.Numbers.{in_range}
use Rattle.rules.specs.Trees.{Operator, add, subtract, multiply, divide, nearest, at_most, equal, shift, Query}
use Rattle.rules.specs.Trees.{valid, initialised, base, offset, block_length, Expression, literal, read, address}
use Rattle.rules.specs.Trees.{operation, shifted, Place, variable, pointed, temporary}
use Rattle.rules.specs.TargetTrees.{TargetStatement, skip, assign, new, free, sequence, branch, while, let_in}
use Rattle.rules.specs.TargetTrees.{take_address, take_value, take_operation, take_query, take_not, branch_on}
use Rattle.rules.specs.TargetTrees.{assert_on, store_block, delete_block, initialise}
use Rattle.rules.specs.Emission.{RecordTree, none, operator_number, query_number, expression_tree, place_tree}
use Rattle.rules.specs.Emission.{statement_tree}
use Rattle.rules.proofs.Acceptance.Sound.{Scope, adding, is_plain_operator, SoundExpression, SoundPlace, Named}
use Rattle.rules.proofs.Acceptance.Sound.{Numbered}
use Rattle.rules.proofs.Acceptance.Sound.{SoundTarget}
use Rattle.rules.proofs.Lists.BooleanLaws.{both_true}
use Rattle.rules.proofs.Acceptance.ScopeLaws.{adding-is}
use Rattle.rules.proofs.Translation.FittingTrees.{root_kind, FieldTree, OwnScope, scope_below, Fits, Fitting}

pub between-true : (low high x : ℕ) → low ≤ x → x ≤ high → between low high x ≡ true
between-true low high x p q = both_true (leb low x) (leb x high) (le-leb low x p) (le-leb x high q)

pub operator-range : (o : Operator) → (1 ≤ operator_number o) × (operator_number o ≤ 8)
operator-range add = omega arith
operator-range subtract = omega arith
operator-range multiply = omega arith
operator-range divide = omega arith
operator-range nearest = omega arith
operator-range at_most = omega arith
operator-range equal = omega arith
operator-range shift = omega arith

pub plain-range : (o : Operator) → is_plain_operator o ≡ true → between 1 7 (operator_number o) ≡ true
plain-range add h = refl
plain-range subtract h = refl
plain-range multiply h = refl
plain-range divide h = refl
plain-range nearest h = refl
plain-range at_most h = refl
plain-range equal h = refl
plain-range shift h = h

pub query-range : (q : Query) → (1 ≤ query_number q) × (query_number q ≤ 5)
query-range valid = omega arith
query-range initialised = omega arith
query-range base = omega arith
query-range offset = omega arith
query-range block_length = omega arith

-- the sorts of the trees
pub expression-sort : (e : Expression ℕ) → sort_of target (root_kind (expression_tree e)) ≡ sort_number expression
unfolding expression_tree form_of look_up
expression-sort (literal z) = refl
expression-sort (read p) = refl
expression-sort (address p) = refl
expression-sort (operation o a b) = refl
expression-sort (shifted a b) = refl

pub place-sort : (p : Place ℕ) → sort_of target (root_kind (place_tree p)) ≡ sort_number place
unfolding expression_tree form_of look_up
place-sort (variable x) = refl
place-sort (pointed e) = refl
place-sort (temporary n) = refl

pub statement-sort : (w : TargetStatement) → sort_of target (root_kind (statement_tree w)) ≡ sort_number statement
unfolding statement_tree form_of look_up
statement-sort (skip s) = refl
statement-sort (assign s p e) = refl
statement-sort (new s p e) = refl
statement-sort (free s e) = refl
statement-sort (sequence s a b) = refl
statement-sort (branch s e a b) = refl
statement-sort (while s e b) = refl
statement-sort (let_in s x b) = refl
statement-sort (take_address s n p) = refl
statement-sort (take_value s n e) = refl
statement-sort (take_operation s n o) = refl
statement-sort (take_query s n q) = refl
statement-sort (take_not s n) = refl
statement-sort (branch_on s n a b) = refl
statement-sort (assert_on s n) = refl
statement-sort (store_block s n) = refl
statement-sort (delete_block s n) = refl
statement-sort (initialise s n) = refl

-- below a let its variable is in scope
pub below-let : (ρ : Scope) (m : ℕ) → adding ρ m ≡ scope_below 47 m ρ
below-let ρ m = λ i x. adding-is ρ m x i

-- a record of the rules, its form found from its kind
pub fits : {l : Language} {k m : ℕ} {z : ℤ} {x : ℕ} {a b c : RecordTree} {ρ : Scope} {f : Form}
    → form_of l k ≡ some f → (k < 256) × (m < 256) × (x < 65536) → in_range z ≡ true
    → literal_fits f.literal z ≡ true → field_fits f.mark m ≡ true
    → FieldTree l (field_of f 0) a 0 → FieldTree l (field_of f 1) b 0 → FieldTree l (field_of f 2) c x
    → OwnScope k m ρ → Fits l k m z x a b c ρ
fits {f} e s r l m fa fb fc q = record {
  form = f;
  is-form = e;
  small = s;
  in-range = r;
  mark = m;
  field-a = fa;
  field-b = fb;
  field-c = fc;
  literal = l;
  scope = q;
}

-- one with a statement's number for its literal
numbered : {k m s x : ℕ} {a b c : RecordTree} {ρ : Scope} {f : Form} → Numbered s → form_of target k ≡ some f
    → f.literal ≡ statement_literal → (k < 256) × (m < 256) × (x < 65536) → field_fits f.mark m ≡ true
    → FieldTree target (field_of f 0) a 0 → FieldTree target (field_of f 1) b 0 → FieldTree target (field_of f 2) c x
    → OwnScope k m ρ → Fits target k m (pos s) x a b c ρ
numbered {s} d e l h m fa fb fc q =
    fits e h (lt-ltb s (2 ^ 63) (omega arith))
    (rw l (both_true (leb 1 s) (leb s 256) (le-leb 1 s d.0) (le-leb s 256 d.1))) m fa fb fc q

pub up_to : (high m : ℕ) → m ≤ high → between 0 high m ≡ true
up_to high m h = between-true 0 high m (omega arith) h

abbrev pub no-tree : (none ≡ none) × (◌≡◌ {A = ℕ} 0 0)
no-tree = (refl, refl)

mutual
  unfolding expression_tree form_of look_up

  pub expression-fits : (e : Expression ℕ) (ρ : Scope) → SoundExpression e Named ρ
      → Fitting target (expression_tree e) ρ
  expression-fits (literal z) ρ h = (fits refl (omega arith) h refl refl no-tree no-tree no-tree tt, tt, tt, tt)
  expression-fits (read p) ρ h =
      (fits refl (omega arith) refl refl refl (place-sort p) no-tree no-tree tt, place-fits p ρ h, tt, tt)
  expression-fits (address p) ρ h =
      (fits refl (omega arith) refl refl refl (place-sort p) no-tree no-tree tt, place-fits p ρ h, tt, tt)
  expression-fits (operation o a b) ρ h = (
    fits refl (omega (arith, operator-range o)) refl refl (plain-range o h.0) (expression-sort a)
        (expression-sort b) no-tree tt,
    expression-fits a ρ h.1,
    expression-fits b ρ h.2,
    tt,
  )
  expression-fits (shifted a b) ρ h = (
    fits refl (omega arith) refl refl refl (expression-sort a) (expression-sort b) no-tree tt,
    expression-fits a ρ h.0,
    expression-fits b ρ h.1,
    tt,
  )

  pub place-fits : (p : Place ℕ) (ρ : Scope) → SoundPlace p Named ρ → Fitting target (place_tree p) ρ
  place-fits (variable x) ρ h =
      (fits refl (omega arith) refl refl (up_to 63 x (omega arith)) no-tree no-tree no-tree h.1, tt, tt, tt)
  place-fits (pointed e) ρ h =
      (fits refl (omega arith) refl refl refl (expression-sort e) no-tree no-tree tt, expression-fits e ρ h, tt, tt)
  place-fits (temporary n) ρ h =
      (fits refl (omega arith) refl refl (up_to 63 n (omega arith)) no-tree no-tree no-tree tt, tt, tt, tt)

pub statement-fits : (w : TargetStatement) (ρ : Scope) → SoundTarget w ρ → Fitting target (statement_tree w) ρ
unfolding statement_tree form_of look_up
statement-fits (skip s) ρ d = (numbered d refl refl (omega arith) refl no-tree no-tree no-tree tt, tt, tt, tt)
statement-fits (assign s p e) ρ (d, hp, he) = (
  numbered d refl refl (omega arith) refl (place-sort p) (expression-sort e) no-tree tt,
  place-fits p ρ hp,
  expression-fits e ρ he,
  tt,
)
statement-fits (new s p e) ρ (d, hp, he) = (
  numbered d refl refl (omega arith) refl (place-sort p) (expression-sort e) no-tree tt,
  place-fits p ρ hp,
  expression-fits e ρ he,
  tt,
)
statement-fits (free s e) ρ (d, he) =
    (numbered d refl refl (omega arith) refl (expression-sort e) no-tree no-tree tt, expression-fits e ρ he, tt, tt)
statement-fits (sequence s a b) ρ (d, ha, hb) = (
  numbered d refl refl (omega arith) refl (statement-sort a) (statement-sort b) no-tree tt,
  statement-fits a ρ ha,
  statement-fits b ρ hb,
  tt,
)
statement-fits (branch s e a b) ρ (d, he, ha, hb) = (
  numbered d refl refl (omega arith) refl (expression-sort e) (statement-sort a) (statement-sort b) tt,
  expression-fits e ρ he,
  statement-fits a ρ ha,
  statement-fits b ρ hb,
)
statement-fits (while s e b) ρ (d, he, hb) = (
  numbered d refl refl (omega arith) refl (expression-sort e) (statement-sort b) no-tree tt,
  expression-fits e ρ he,
  statement-fits b ρ hb,
  tt,
)
statement-fits (let_in s x b) ρ (d, hx, out, hb) = (
  numbered d refl refl (omega arith) (up_to 63 x (omega arith)) (statement-sort b) no-tree no-tree out,
  subst (Fitting target (statement_tree b)) (below-let ρ x) (statement-fits b (adding ρ x) hb),
  tt,
  tt,
)
statement-fits (take_address s n p) ρ (d, hn, hp) = (
  numbered d refl refl (omega arith) (up_to 63 n (omega arith)) (place-sort p) no-tree no-tree tt,
  place-fits p ρ hp,
  tt,
  tt,
)
statement-fits (take_value s n e) ρ (d, hn, he) = (
  numbered d refl refl (omega arith) (up_to 63 n (omega arith)) (expression-sort e) no-tree no-tree tt,
  expression-fits e ρ he,
  tt,
  tt,
)
statement-fits (take_operation s n o) ρ (d, hn) = (
  numbered d refl refl (omega (arith, operator-range o)) (up_to 61 n (omega arith)) no-tree no-tree
      (refl, between-true 1 8 (operator_number o) (operator-range o).0 (operator-range o).1) tt,
  tt,
  tt,
  tt,
)
statement-fits (take_query s n q) ρ (d, hn) = (
  numbered d refl refl (omega (arith, query-range q)) (up_to 62 n (omega arith)) no-tree no-tree
      (refl, between-true 1 5 (query_number q) (query-range q).0 (query-range q).1) tt,
  tt,
  tt,
  tt,
)
statement-fits (take_not s n) ρ (d, hn) =
    (numbered d refl refl (omega arith) (up_to 62 n (omega arith)) no-tree no-tree no-tree tt, tt, tt, tt)
statement-fits (branch_on s n a b) ρ (d, hn, ha, hb) = (
  numbered d refl refl (omega arith) (up_to 63 n (omega arith)) no-tree (statement-sort a) (statement-sort b) tt,
  tt,
  statement-fits a ρ ha,
  statement-fits b ρ hb,
)
statement-fits (assert_on s n) ρ (d, hn) =
    (numbered d refl refl (omega arith) (up_to 63 n (omega arith)) no-tree no-tree no-tree tt, tt, tt, tt)
statement-fits (store_block s n) ρ (d, hn) =
    (numbered d refl refl (omega arith) (up_to 62 n (omega arith)) no-tree no-tree no-tree tt, tt, tt, tt)
statement-fits (delete_block s n) ρ (d, hn) =
    (numbered d refl refl (omega arith) (up_to 63 n (omega arith)) no-tree no-tree no-tree tt, tt, tt, tt)
statement-fits (initialise s n) ρ (d, hn) =
    (numbered d refl refl (omega arith) (up_to 63 n (omega arith)) no-tree no-tree no-tree tt, tt, tt, tt)
