-- What an accepted table's tree keeps: numbers in their ranges, variables in scope, temporaries below 64.
use Prim.Native.Nat.{ℕ, zero, suc, ◌≤◌, ◌<◌}
use mathlib.Core.Bool.{Bool, true, false, cond}
use mathlib.Core.Path.{◌≡◌}
use lib.Dec.{eqb}
use Rattle.rules.specs.Trees.{Operator, add, subtract, multiply, divide, nearest, at_most, equal, shift}
use Rattle.rules.specs.Trees.{Expression, literal, read, address, operation, shifted, Place, variable, pointed}
use Rattle.rules.specs.Trees.{temporary, Term, value, asked, combined, Predicate, holds, compared, negated}
use Rattle.rules.specs.Trees.{both, either, Statement}
use Rattle.rules.specs.Trees as tree
use Rattle.rules.specs.TargetTrees.{TargetStatement, skip, assign, new, free, sequence, branch, while, let_in}
use Rattle.rules.specs.TargetTrees.{take_address, take_value, take_operation, take_query, take_not, branch_on}
use Rattle.rules.specs.TargetTrees.{assert_on, store_block, delete_block, initialise}
use Rattle.rules.specs.Numbers.{in_range}

-- the variables in scope
abbrev pub Scope : Type 0
Scope = ℕ → Bool

abbrev pub start_scope : Scope
start_scope zero = true
start_scope (suc x) = false

abbrev pub adding : Scope → ℕ → Scope
adding ρ x y = cond (eqb y x) true (ρ y)

-- operators 1–7, all but the shift
abbrev pub is_plain_operator : Operator → Bool
is_plain_operator add = true
is_plain_operator subtract = true
is_plain_operator multiply = true
is_plain_operator divide = true
is_plain_operator nearest = true
is_plain_operator at_most = true
is_plain_operator equal = true
is_plain_operator shift = false

-- N is what a temporary's name keeps
abbrev mutual
  pub SoundExpression : {T : Type 0} → Expression T → (T → Type 0) → Scope → Type 0
  SoundExpression (literal z) N ρ = in_range z ≡ true
  SoundExpression (read p) N ρ = SoundPlace p N ρ
  SoundExpression (address p) N ρ = SoundPlace p N ρ
  SoundExpression (operation o a b) N ρ = (is_plain_operator o ≡ true) × SoundExpression a N ρ × SoundExpression b N ρ
  SoundExpression (shifted a b) N ρ = SoundExpression a N ρ × SoundExpression b N ρ

  pub SoundPlace : {T : Type 0} → Place T → (T → Type 0) → Scope → Type 0
  SoundPlace (variable x) N ρ = (x < 64) × (ρ x ≡ true)
  SoundPlace (pointed e) N ρ = SoundExpression e N ρ
  SoundPlace (temporary t) N ρ = N t

-- a source table names no temporary; a target table those below 64
abbrev pub NoName : ⊥ → Type 0
NoName t = Unit {0}

abbrev pub Named : ℕ → Type 0
Named n = n < 64

-- terms and predicates at level n: the temporaries that their own target records name are below 64
abbrev pub SoundTerm : Term → Scope → ℕ → Type 0
SoundTerm (value e) ρ n = (n < 64) × SoundExpression e NoName ρ
SoundTerm (asked q t) ρ n = (suc n < 64) × SoundTerm t ρ (suc n)
SoundTerm (combined o a b) ρ n = (suc (suc n) < 64) × SoundTerm a ρ (suc n) × SoundTerm b ρ (suc (suc n))

abbrev pub SoundPredicate : Predicate → Scope → ℕ → Type 0
SoundPredicate (holds q t) ρ n = (suc n < 64) × SoundTerm t ρ (suc n)
SoundPredicate (compared o a b) ρ n = (suc (suc n) < 64) × SoundTerm a ρ (suc n) × SoundTerm b ρ (suc (suc n))
SoundPredicate (negated a) ρ n = (suc n < 64) × SoundPredicate a ρ (suc n)
SoundPredicate (both a b) ρ n = (n < 64) × SoundPredicate a ρ n × SoundPredicate b ρ n
SoundPredicate (either a b) ρ n = (n < 64) × SoundPredicate a ρ n × SoundPredicate b ρ n

-- the number of a source statement
abbrev pub Numbered : ℕ → Type 0
Numbered s = (1 ≤ s) × (s ≤ 256)

abbrev pub SoundStatement : Statement → Scope → Type 0
SoundStatement (tree.skip s) ρ = Numbered s
SoundStatement (tree.assign s p e) ρ = Numbered s × SoundPlace p NoName ρ × SoundExpression e NoName ρ
SoundStatement (tree.new s p e) ρ = Numbered s × SoundPlace p NoName ρ × SoundExpression e NoName ρ
SoundStatement (tree.free s e) ρ = Numbered s × SoundExpression e NoName ρ
SoundStatement (tree.sequence s a b) ρ = Numbered s × SoundStatement a ρ × SoundStatement b ρ
SoundStatement (tree.branch s e a b) ρ =
    Numbered s × SoundExpression e NoName ρ × SoundStatement a ρ × SoundStatement b ρ
SoundStatement (tree.while s e b) ρ = Numbered s × SoundExpression e NoName ρ × SoundStatement b ρ
SoundStatement (tree.let_in s x b) ρ = Numbered s × (x < 64) × (ρ x ≡ false) × SoundStatement b (adding ρ x)
SoundStatement (tree.assert s p) ρ = Numbered s × SoundPredicate p ρ 0

abbrev pub SoundTarget : TargetStatement → Scope → Type 0
SoundTarget (skip s) ρ = Numbered s
SoundTarget (assign s p e) ρ = Numbered s × SoundPlace p Named ρ × SoundExpression e Named ρ
SoundTarget (new s p e) ρ = Numbered s × SoundPlace p Named ρ × SoundExpression e Named ρ
SoundTarget (free s e) ρ = Numbered s × SoundExpression e Named ρ
SoundTarget (sequence s a b) ρ = Numbered s × SoundTarget a ρ × SoundTarget b ρ
SoundTarget (branch s e a b) ρ = Numbered s × SoundExpression e Named ρ × SoundTarget a ρ × SoundTarget b ρ
SoundTarget (while s e b) ρ = Numbered s × SoundExpression e Named ρ × SoundTarget b ρ
SoundTarget (let_in s x b) ρ = Numbered s × (x < 64) × (ρ x ≡ false) × SoundTarget b (adding ρ x)
SoundTarget (take_address s n p) ρ = Numbered s × (n < 64) × SoundPlace p Named ρ
SoundTarget (take_value s n e) ρ = Numbered s × (n < 64) × SoundExpression e Named ρ
SoundTarget (take_operation s n o) ρ = Numbered s × (suc (suc n) < 64)
SoundTarget (take_query s n q) ρ = Numbered s × (suc n < 64)
SoundTarget (take_not s n) ρ = Numbered s × (suc n < 64)
SoundTarget (branch_on s n a b) ρ = Numbered s × (n < 64) × SoundTarget a ρ × SoundTarget b ρ
SoundTarget (assert_on s n) ρ = Numbered s × (n < 64)
SoundTarget (store_block s n) ρ = Numbered s × (suc n < 64)
SoundTarget (delete_block s n) ρ = Numbered s × (n < 64)
SoundTarget (initialise s n) ρ = Numbered s × (n < 64)
