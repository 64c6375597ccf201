-- A statement that may run: so may its parts.
use Prim.Native.Nat.{ℕ, ◌≤◌, ◌<◌}
use mathlib.Core.List.{List}
use mathlib.Core.Logic.{inl, inr}
use mathlib.Core.Path.{◌≡◌}
use Rattle.rules.specs.Kinds.{target, expression, statement}
use Rattle.rules.specs.Records.{kind_of, mark_of, child_a, child_b, child_c}
use Rattle.rules.specs.Nodes.{target_statement_at}
use Rattle.rules.proofs.Acceptance.Sound.{adding, SoundTarget}
use Rattle.rules.proofs.Runs.StatementArms.{statement-within, sequence-children, branch-children, while-children}
use Rattle.rules.proofs.Runs.StatementArms.{let-child, sound-sequence, sound-branch, sound-while, sound-let}
use Rattle.rules.proofs.Runs.TargetFields.{Under, branch-on-fields, sound-branch-on}
use Rattle.table.specs.Within.{Within}
use Rattle.run_children.specs.Children.{first_of}
use Rattle.run_children.proofs.Sequences.{first_by, first-within, first-smaller}
use Rattle.watched_choices.specs.Branches.{IsBranch}
use Rattle.watched_statements.specs.Watching.{Ready, Inside}

module _ {t : List ℕ} {n : ℕ} (h : Ready t n) where
  pub ready-within : Within t n
  ready-within = statement-within target t n h.is

  ready-part : (k : ℕ) → Under statement t n k → SoundTarget (target_statement_at t k) h.scope → Ready t k
  ready-part k u s = record { is = u.2; scope = h.scope; sound = s }

  -- its parts
  pub sequence-parts : kind_of t n ≡ 44 → Under statement t n (child_a t n) × Under statement t n (child_b t n)
  sequence-parts = sequence-children target t n h.is

  pub while-parts : kind_of t n ≡ 46 → Under expression t n (child_a t n) × Under statement t n (child_b t n)
  while-parts = while-children target t n h.is

  pub ready-first : kind_of t n ≡ 44 → Ready t (child_a t n)
  ready-first e =
      ready-part (child_a t n) (sequence-parts e).0
      (sound-sequence target t n h.is h.scope h.sound e).0

  pub ready-second : kind_of t n ≡ 44 → Ready t (child_b t n)
  ready-second e =
      ready-part (child_b t n) (sequence-parts e).1
      (sound-sequence target t n h.is h.scope h.sound e).1

  -- what it runs first
  pub ready-run-first : Ready t (first_of t n)
  ready-run-first = first_by t n (Ready t) ready-first (λ d. h)

  pub run-first-within : first_of t n ≤ n
  run-first-within = first-within t n (λ q. (sequence-parts q).0.1)

  pub run-first-smaller : kind_of t n ≡ 44 → first_of t n < n
  run-first-smaller = first-smaller t n (λ q. (sequence-parts q).0.1)

  pub branch-parts : IsBranch (kind_of t n) → Under statement t n (child_b t n) × Under statement t n (child_c t n)
  branch-parts (inl e) = let u = branch-children target t n h.is e in (u.1, u.2)
  branch-parts (inr e) = let u = branch-on-fields t n h.is e in (u.1, u.2)

  sound-parts : IsBranch (kind_of t n)
      → SoundTarget (target_statement_at t (child_b t n)) h.scope
      × SoundTarget (target_statement_at t (child_c t n)) h.scope
  sound-parts (inl e) = sound-branch target t n h.is h.scope h.sound e
  sound-parts (inr e) = sound-branch-on t n h.is h.scope h.sound e

  pub ready-then : IsBranch (kind_of t n) → Ready t (child_b t n)
  ready-then q = ready-part (child_b t n) (branch-parts q).0 (sound-parts q).0

  pub ready-else : IsBranch (kind_of t n) → Ready t (child_c t n)
  ready-else q = ready-part (child_c t n) (branch-parts q).1 (sound-parts q).1

  pub ready-turn : kind_of t n ≡ 46 → Ready t (child_b t n)
  ready-turn e =
      ready-part (child_b t n) (while-parts e).1
      (sound-while target t n h.is h.scope h.sound e)

  pub ready-inside : kind_of t n ≡ 47 → Inside t n
  ready-inside q = record {
    within = ready-within;
    smaller = (let-child target t n h.is q).1;
    mark = (sound-let target t n h.is h.scope h.sound q).0;
    body = record {
      is = (let-child target t n h.is q).2;
      scope = adding h.scope (mark_of t n);
      sound = (sound-let target t n h.is h.scope h.sound q).1;
    };
  }
