-- The statements of a target table: their kinds and fields. The kinds that both languages have get their children
-- from StatementArms.
use Prim.Native.Nat.{ℕ, suc, ◌≤◌, ◌<◌}
use native.Mathlib.Omega.{arith}
use mathlib.Core.Bool.{Bool, true, false, cond, false≢true}
use mathlib.Core.List.{List}
use mathlib.Core.Logic.{◌≢◌}
use mathlib.Core.Path.{◌≡◌, refl, sym, subst}
use borrow.Author.Tests.{leb-true}
use lib.Dec.{T, leb, eqb}
use lib.IntN.{ℤ, pos}
use lib.Signed.{non_neg}
use mir.Syntax.{w32}
use mir.Val.{Fits}
use Rattle.rules.specs.Records.{kind_of, mark_of, child_a, child_b, child_c, literal_of}
use Rattle.rules.specs.Kinds.{target, sort_number, Sort, expression, place, statement, Literal, zero_literal}
use Rattle.rules.specs.Kinds.{any_literal, statement_literal, Form}
use Rattle.rules.specs.Nodes.{HasSort, target_statement_at, number_at}
use Rattle.rules.proofs.Lists.BooleanLaws.{and_split}
use Rattle.rules.proofs.Acceptance.KindViews.{form_at, found-passes, TargetKind}
use Rattle.rules.proofs.Acceptance.KindViews as kind
use Rattle.rules.proofs.Acceptance.FormLaws.{FormHolds, LiteralHolds}
use Rattle.rules.proofs.Acceptance.Standing.{stands}
use Rattle.rules.proofs.Acceptance.Sound.{Scope, Numbered, SoundTarget}
use Rattle.rules.proofs.Acceptance.SoundSource.{up_to}
use Rattle.rules.proofs.Runs.StatementArms.{ChildOfSort, statement-form, sound-as}

-- a child of record n
abbrev pub Under : Sort → List ℕ → ℕ → ℕ → Type 0
Under s t n x = ChildOfSort target s t n x

-- every statement of the target language has the number of a source statement
is_statement_literal : Literal → Bool
is_statement_literal zero_literal = false
is_statement_literal any_literal = false
is_statement_literal statement_literal = true

numbered_form : Form → Bool
numbered_form f = cond (eqb (sort_number f.sort) (sort_number statement)) (is_statement_literal f.literal) true

literal-numbered : (l : Literal) → is_statement_literal l ≡ true → l ≡ statement_literal
unfolding is_statement_literal
literal-numbered zero_literal h = absurd (false≢true h)
literal-numbered any_literal h = absurd (false≢true h)
literal-numbered statement_literal h = refl

module _ (t : List ℕ) (n : ℕ) (h : HasSort target statement t n) where
  form : (k : ℕ) → kind_of t n ≡ k → FormHolds target t n (form_at target k)
  form = statement-form target t n h

  -- the last kind is what is left
  pub statement-kinds : kind_of t n ≢ 40 → kind_of t n ≢ 41 → kind_of t n ≢ 42 → kind_of t n ≢ 43 → kind_of t n ≢ 44
      → kind_of t n ≢ 45 → kind_of t n ≢ 46 → kind_of t n ≢ 47 → kind_of t n ≢ 60 → kind_of t n ≢ 61 → kind_of t n ≢ 63
      → kind_of t n ≢ 64 → kind_of t n ≢ 65 → kind_of t n ≢ 66 → kind_of t n ≢ 67 → kind_of t n ≢ 68 → kind_of t n ≢ 69
      → kind_of t n ≡ 70
  statement-kinds = go (stands target t n statement h).kind
    where
      go : {k : ℕ} → TargetKind statement k → k ≢ 40 → k ≢ 41 → k ≢ 42 → k ≢ 43 → k ≢ 44 → k ≢ 45 → k ≢ 46 → k ≢ 47
          → k ≢ 60 → k ≢ 61 → k ≢ 63 → k ≢ 64 → k ≢ 65 → k ≢ 66 → k ≢ 67 → k ≢ 68 → k ≢ 69 → k ≡ 70
      go kind.skip a b c d e f g i a₁ b₁ c₁ d₁ e₁ f₁ g₁ h₁ i₁ = absurd (a refl)
      go kind.assign a b c d e f g i a₁ b₁ c₁ d₁ e₁ f₁ g₁ h₁ i₁ = absurd (b refl)
      go kind.new a b c d e f g i a₁ b₁ c₁ d₁ e₁ f₁ g₁ h₁ i₁ = absurd (c refl)
      go kind.free a b c d e f g i a₁ b₁ c₁ d₁ e₁ f₁ g₁ h₁ i₁ = absurd (d refl)
      go kind.sequence a b c d e f g i a₁ b₁ c₁ d₁ e₁ f₁ g₁ h₁ i₁ = absurd (e refl)
      go kind.branch a b c d e f g i a₁ b₁ c₁ d₁ e₁ f₁ g₁ h₁ i₁ = absurd (f refl)
      go kind.while a b c d e f g i a₁ b₁ c₁ d₁ e₁ f₁ g₁ h₁ i₁ = absurd (g refl)
      go kind.let_in a b c d e f g i a₁ b₁ c₁ d₁ e₁ f₁ g₁ h₁ i₁ = absurd (i refl)
      go kind.take_address a b c d e f g i a₁ b₁ c₁ d₁ e₁ f₁ g₁ h₁ i₁ = absurd (a₁ refl)
      go kind.take_value a b c d e f g i a₁ b₁ c₁ d₁ e₁ f₁ g₁ h₁ i₁ = absurd (b₁ refl)
      go kind.take_operation a b c d e f g i a₁ b₁ c₁ d₁ e₁ f₁ g₁ h₁ i₁ = absurd (c₁ refl)
      go kind.take_query a b c d e f g i a₁ b₁ c₁ d₁ e₁ f₁ g₁ h₁ i₁ = absurd (d₁ refl)
      go kind.take_not a b c d e f g i a₁ b₁ c₁ d₁ e₁ f₁ g₁ h₁ i₁ = absurd (e₁ refl)
      go kind.branch_on a b c d e f g i a₁ b₁ c₁ d₁ e₁ f₁ g₁ h₁ i₁ = absurd (f₁ refl)
      go kind.assert_on a b c d e f g i a₁ b₁ c₁ d₁ e₁ f₁ g₁ h₁ i₁ = absurd (g₁ refl)
      go kind.store_block a b c d e f g i a₁ b₁ c₁ d₁ e₁ f₁ g₁ h₁ i₁ = absurd (h₁ refl)
      go kind.delete_block a b c d e f g i a₁ b₁ c₁ d₁ e₁ f₁ g₁ h₁ i₁ = absurd (i₁ refl)
      go kind.initialise a b c d e f g i a₁ b₁ c₁ d₁ e₁ f₁ g₁ h₁ i₁ = refl

  -- its number, 1–256
  statement-literal : LiteralHolds statement_literal (literal_of t n)
  unfolding numbered_form is_statement_literal
  statement-literal =
      let s = stands target t n statement h in
      let p : numbered_form s.form ≡ true = found-passes numbered_form target (kind_of t n) s.form refl s.found in
      let q : is_statement_literal s.form.literal ≡ true = rw s.sort at p in
      subst (λ (l : Literal). LiteralHolds l (literal_of t n)) (literal-numbered s.form.literal q)
      s.holds.literal

  pub statement-numbered : Numbered (number_at t n)
  statement-numbered = (statement-literal.0, statement-literal.1)

  pub literal-is : literal_of t n ≡ pos (number_at t n)
  literal-is = statement-literal.2

  pub literal-natural : T (non_neg (literal_of t n))
  literal-natural = subst (λ (z : ℤ). T (non_neg z)) (sym literal-is) tt

  pub number_fits : Fits w32 (number_at t n)
  number_fits = record { fits = omega (arith, statement-numbered) }

  -- the fields of the kinds that the target alone has: the highest temporary named is below 64
  pub address-fields : kind_of t n ≡ 60 → (mark_of t n < 64) × Under place t n (child_a t n)
  address-fields e = (omega (arith, up_to 63 (mark_of t n) (form 60 e).mark), (form 60 e).a)

  pub value-fields : kind_of t n ≡ 61 → (mark_of t n < 64) × Under expression t n (child_a t n)
  value-fields e = (omega (arith, up_to 63 (mark_of t n) (form 61 e).mark), (form 61 e).a)

  pub operation-fields : kind_of t n ≡ 63 → (suc (suc (mark_of t n)) < 64) × (1 ≤ child_c t n) × (child_c t n ≤ 8)
  operation-fields e =
      let r = and_split (leb 1 (child_c t n)) (leb (child_c t n) 8) (form 63 e).c in
      (omega (arith, up_to 61 (mark_of t n) (form 63 e).mark), leb-true 1 _ r.0, leb-true _ 8 r.1)

  pub query-fields : kind_of t n ≡ 64 → (suc (mark_of t n) < 64) × (1 ≤ child_c t n) × (child_c t n ≤ 5)
  query-fields e =
      let r = and_split (leb 1 (child_c t n)) (leb (child_c t n) 5) (form 64 e).c in
      (omega (arith, up_to 62 (mark_of t n) (form 64 e).mark), leb-true 1 _ r.0, leb-true _ 5 r.1)

  pub not-fields : kind_of t n ≡ 65 → suc (mark_of t n) < 64
  not-fields e = omega (arith, up_to 62 (mark_of t n) (form 65 e).mark)

  pub branch-on-fields : kind_of t n ≡ 66
      → (mark_of t n < 64) × Under statement t n (child_b t n) × Under statement t n (child_c t n)
  branch-on-fields e = (omega (arith, up_to 63 (mark_of t n) (form 66 e).mark), (form 66 e).b, (form 66 e).c)

  pub assert-on-fields : kind_of t n ≡ 67 → mark_of t n < 64
  assert-on-fields e = omega (arith, up_to 63 (mark_of t n) (form 67 e).mark)

  pub store-block-fields : kind_of t n ≡ 68 → suc (mark_of t n) < 64
  store-block-fields e = omega (arith, up_to 62 (mark_of t n) (form 68 e).mark)

  pub delete-block-fields : kind_of t n ≡ 69 → mark_of t n < 64
  delete-block-fields e = omega (arith, up_to 63 (mark_of t n) (form 69 e).mark)

  pub initialise-fields : kind_of t n ≡ 70 → mark_of t n < 64
  initialise-fields e = omega (arith, up_to 63 (mark_of t n) (form 70 e).mark)

  pub sound-branch-on : (σ : Scope) → SoundTarget (target_statement_at t n) σ → kind_of t n ≡ 66
      → SoundTarget (target_statement_at t (child_b t n)) σ × SoundTarget (target_statement_at t (child_c t n)) σ
  sound-branch-on σ s e = let w = sound-as target t n h σ s 66 e in (w.2, w.3)
