-- A statement that may run: so may its parts.
use Prim.Native.Nat.{ℕ, ◌+◌, ◌≤◌, ◌<◌}
use native.Mathlib.Decide.{ℕ_discrete}
use native.Mathlib.Omega.{arith}
use mathlib.Core.List.{List}
use mathlib.Core.Path.{◌≡◌, sym, subst}
use Rattle.std.specs.Prelude.{Option, Some, None}
use Rattle.rules.specs.Kinds.{source, expression, statement}
use Rattle.rules.specs.Nodes.{statement_at}
use Rattle.rules.specs.Records.{kind_of, mark_of, child_a, child_b, child_c}
use Rattle.rules.proofs.Acceptance.Sound.{adding, SoundStatement}
use Rattle.rules.proofs.Runs.StatementArms.{statement-within, sequence-children, branch-children, while-children}
use Rattle.rules.proofs.Runs.StatementArms.{let-child, sound-sequence, sound-branch, sound-while}
use Rattle.rules.proofs.Runs.StatementArms.{sound-let}
use Rattle.rules.proofs.Runs.PlainArms.{Under}
use Rattle.table.specs.Within.{Within}
use Rattle.run_children.specs.Children.{first_of, rest_of}
use Rattle.run_children.proofs.Sequences.{rest-is, rest-nothing, first_by, first-within, first-smaller}
use Rattle.plain_runs.specs.Running.{Ready, Inside}

-- what is left to run, if anything, may run, and is no later record than n
abbrev pub LeftReady : List ℕ → ℕ → Option ℕ → Type 0
LeftReady t n (Some k) = Ready t k × (k ≤ n)
LeftReady t n None = Unit {0}

-- how much that is
abbrev pub left_size : Option ℕ → ℕ
left_size (Some k) = k + 1
left_size None = 0

module _ {t : List ℕ} {n : ℕ} (r : Ready t n) where
  pub ready-within : Within t n
  ready-within = statement-within source t n r.is

  -- its parts
  sequence-parts : kind_of t n ≡ 44 → Under statement t n (child_a t n) × Under statement t n (child_b t n)
  sequence-parts = sequence-children source t n r.is

  pub branch-parts : kind_of t n ≡ 45
      → Under expression t n (child_a t n) × Under statement t n (child_b t n) × Under statement t n (child_c t n)
  branch-parts = branch-children source t n r.is

  pub while-parts : kind_of t n ≡ 46 → Under expression t n (child_a t n) × Under statement t n (child_b t n)
  while-parts = while-children source t n r.is

  ready-part : (x : ℕ) → Under statement t n x → SoundStatement (statement_at t x) r.scope → Ready t x
  ready-part x h s = record { is = h.2; scope = r.scope; sound = s }

  -- what it runs first, and what is left then
  pub ready-first : Ready t (first_of t n)
  ready-first =
      first_by t n (Ready t)
      (λ q. ready-part (child_a t n) (sequence-parts q).0 (sound-sequence source t n r.is r.scope r.sound q).0)
      (λ d. r)

  pub first-up-to : first_of t n ≤ n
  first-up-to = first-within t n (λ q. (sequence-parts q).0.1)

  pub first-below : kind_of t n ≡ 44 → first_of t n < n
  first-below = first-smaller t n (λ q. (sequence-parts q).0.1)

  rest_by : (P : Option ℕ → Type 0) → (kind_of t n ≡ 44 → P (Some (child_b t n))) → P None → P (rest_of t n)
  rest_by P a b = by (ℕ_discrete (kind_of t n) 44)
    where
      by : Dec (kind_of t n ≡ 44) → P (rest_of t n)
      by (yes q) = subst P (sym (rest-is t n q)) (a q)
      by (no d) = subst P (sym (rest-nothing t n d)) b

  pub ready-rest : {m : ℕ} → n ≤ m → LeftReady t m (rest_of t n)
  ready-rest {m} l =
      rest_by (LeftReady t m)
      (λ q. (
        ready-part (child_b t n) (sequence-parts q).1 (sound-sequence source t n r.is r.scope r.sound q).1,
        omega (arith, (sequence-parts q).1.1),
      ))
      tt

  pub rest-below : left_size (rest_of t n) < left_size (Some n)
  rest-below =
      rest_by (λ x. left_size x < left_size (Some n)) (λ q. omega (arith, (sequence-parts q).1.1)) (omega arith)

  pub ready-then : kind_of t n ≡ 45 → Ready t (child_b t n)
  ready-then e =
      ready-part (child_b t n) (branch-parts e).1 (sound-branch source t n r.is r.scope r.sound e).0

  pub ready-else : kind_of t n ≡ 45 → Ready t (child_c t n)
  ready-else e =
      ready-part (child_c t n) (branch-parts e).2 (sound-branch source t n r.is r.scope r.sound e).1

  pub ready-turn : kind_of t n ≡ 46 → Ready t (child_b t n)
  ready-turn e =
      ready-part (child_b t n) (while-parts e).1 (sound-while source t n r.is r.scope r.sound e)

  pub ready-inside : kind_of t n ≡ 47 → Inside t n
  ready-inside e = record {
    within = ready-within;
    smaller = (let-child source t n r.is e).1;
    mark = (sound-let source t n r.is r.scope r.sound e).0;
    body = record {
      is = (let-child source t n r.is e).2;
      scope = adding r.scope (mark_of t n);
      sound = (sound-let source t n r.is r.scope r.sound e).1;
    };
  }
