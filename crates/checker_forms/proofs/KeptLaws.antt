-- What a record that keeps 3 to 5 has.
use Prim.Native.Nat.{ℕ, suc, ◌<◌}
use Rattle.std.proofs.Common.{rules}
use mathlib.Core.Bool.{Bool, ◌&&◌}
use mathlib.Core.List.{List}
use mathlib.Core.Path.{◌≡◌, refl, sym, ap, ◌∙◌}
use borrow.Author.Tests.{lt-ltb}
use denote.Enum.Bare.{sameb}
use denote.Enum.Declared.{tag_of}
use lib.Dec.{eqb, eqb-suc-suc}
use Rattle.std.specs.Prelude.{Option, None, Some, Ok, Err}
use Rattle.rules.specs.declared.{Rule.Rule}
use Rattle.rules.specs.contracts.Sort.{the_type}
use Rattle.rules.specs.Records.{kind_of, record_at}
use Rattle.rules.specs.Kinds.{Language, source, target, Sort, expression, place, term, predicate, statement}
use Rattle.rules.specs.Kinds.{sort_number, child, forms, form_of}
use Rattle.rules.specs.Checker.{fields_fit, form_sort, sort_of, child_fits, children_fit, fault_of, record_fault}
use Rattle.rules.proofs.Acceptance.KindViews.{Each, found-form}
use Rattle.rules.proofs.Acceptance.FormLaws.{faultless}
use Rattle.rules.proofs.Acceptance.SaidLaws.{faults}
use Rattle.checker_forms.specs.declared.{Form.Form}
use Rattle.checker_forms.specs.Forms.{form_from, asked, sort_by}

-- rules 3 to 5 by the form of a record's kind
module _ (l : Language) (t : List ℕ) (n k : ℕ) (o : Option Form)
    (kind : k ≡ kind_of t n) (asks : form_of l k ≡ asked k o) where
  fault-asked : record_fault l t n ≡ fault_of l t n (asked k o)
  unfolding record_fault
  fault-asked = ap (λ (i : ℕ). fault_of l t n (form_of l i)) (sym kind) ∙ ap (fault_of l t n) asks

  pub no_form : o ≡ None → record_fault l t n ≡ Err Rule.Kind
  no_form e = fault-asked ∙ ap (λ (p : Option Form). fault_of l t n (asked k p)) e

  pub some_form : (f : Form) → o ≡ Some f → record_fault l t n
      ≡ faults (fields_fit (form_from 0 f) (record_at t n)) (children_fit l t n (form_from 0 f) (record_at t n))
  some_form f e =
      fault-asked ∙ ap (λ (p : Option Form). fault_of l t n (asked k p)) e

-- ---- the sort by the kind
each-sort : (l : Language) → Each (λ f. f.sort ≡ sort_by f.kind) (forms l)
each-sort source = search rules
each-sort target = search rules

pub kept-sort : (l : Language) (t : List ℕ) (n : ℕ) → record_fault l t n ≡ Ok tt
    → sort_of l (kind_of t n) ≡ sort_number (sort_by (kind_of t n))
kept-sort l t n h =
    let r = faultless l t n h in
    let p = found-form (λ f. f.sort ≡ sort_by f.kind) l (kind_of t n) r.form (each-sort l) r.found in
    ap form_sort r.found ∙ ap sort_number p.0 ∙ sym (ap (λ (k : ℕ). sort_number (sort_by k)) p.1)

-- sorts are the same just when their numbers are
number-tag : (s : Sort) → sort_number s ≡ suc (tag_of the_type s)
number-tag expression = refl
number-tag place = refl
number-tag term = refl
number-tag predicate = refl
number-tag statement = refl

pub same-sort : (r s : Sort) → sameb the_type r s ≡ eqb (sort_number r) (sort_number s)
same-sort r s = sym ((λ i. eqb (number-tag r i) (number-tag s i)) ∙ eqb-suc-suc (tag_of the_type r) (tag_of the_type s))

pub child-sort : (l : Language) (t : List ℕ) (n x : ℕ) (r s : Sort) → x < n → record_fault l t x ≡ Ok tt
    → r ≡ sort_by (kind_of t x) → sameb the_type r s ≡ child_fits l t n (child s) x
child-sort l t n x r s p h e =
    same-sort r s ∙ ap (λ (k : ℕ). eqb k (sort_number s)) (ap sort_number e ∙ sym (kept-sort l t x h))
    ∙ sym (ap (λ (b : Bool). b && eqb (sort_of l (kind_of t x)) (sort_number s)) (lt-ltb x n p))
