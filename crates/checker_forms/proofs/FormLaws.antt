-- The code's forms are those of the definitions.
use Prim.Native.Nat.{ℕ, zero, suc}
use mathlib.Core.Bool.{true}
use mathlib.Core.List.{List, [], ◌∷◌}
use mathlib.Core.Path.{◌≡◌, refl, subst, ◌∙◌}
use lib.ListN.{get_or}
use Rattle.rules.specs.Records.{child_a, child_b, child_c, record_at}
use Rattle.rules.specs.Kinds.{Field, unnamed, child, number, field_of}
use Rattle.rules.specs.Checker.{field_fits, fields_fit}
use Rattle.rules.proofs.Acceptance.FormLaws.{fields_split}
use Rattle.checker_forms.specs.declared.{Form.Form}
use Rattle.checker_forms.specs.Forms.{field_from, child_from, with_first, form_from}

-- what a form has in a field
first-at : (f : Field) (fs : List Field) (i : ℕ) → get_or (with_first f fs) i unnamed ≡ get_or (f ∷ fs) i unnamed
first-at unnamed [] zero = refl
first-at unnamed [] (suc i) = refl
first-at unnamed (f ∷ fs) i = refl
first-at (child s) fs i = refl
first-at (number p) fs i = refl

module _ (k : ℕ) (f : Form) where
  abbrev last : List Field
  last = with_first (field_from f.c) []

  abbrev later : List Field
  later = with_first (child_from f.b) last

  pub field-a : field_of (form_from k f) 0 ≡ child_from f.a
  field-a = first-at (child_from f.a) later 0

  pub field-b : field_of (form_from k f) 1 ≡ child_from f.b
  field-b = first-at (child_from f.a) later 1 ∙ first-at (child_from f.b) last 0

  pub field-c : field_of (form_from k f) 2 ≡ field_from f.c
  field-c = first-at (child_from f.a) later 2 ∙ first-at (child_from f.b) last 1 ∙ first-at (field_from f.c) [] 0

-- what a record has whose fields fit
pub fields_there : (f : Form) (t : List ℕ) (n : ℕ)
    → fields_fit (form_from 0 f) (record_at t n) ≡ true
    → (field_fits (child_from f.a) (child_a t n) ≡ true) × (field_fits (child_from f.b) (child_b t n) ≡ true)
    × (field_fits (field_from f.c) (child_c t n) ≡ true)
fields_there f t n h =
    let p = fields_split (form_from 0 f) (record_at t n) h in (
      subst (λ (g : Field). field_fits g (child_a t n) ≡ true) (field-a 0 f) p.1,
      subst (λ (g : Field). field_fits g (child_b t n) ≡ true) (field-b 0 f) p.2,
      subst (λ (g : Field). field_fits g (child_c t n) ≡ true) (field-c 0 f) p.3,
    )
