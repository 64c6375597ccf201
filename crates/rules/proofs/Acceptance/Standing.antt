-- A node's sort tells what its record is: one of the table, of a kind of that sort, that keeps its form.
use Prim.Native.Nat.{ℕ, ◌≤◌}
use native.Mathlib.Omega.{arith}
use mathlib.Core.Bool.{Bool, true, false}
use mathlib.Core.List.{List, [], ◌∷◌}
use mathlib.Core.Option.{some}
use mathlib.Core.Path.{◌≡◌, refl, sym, ap, ◌∙◌, subst}
use borrow.Author.Tests.{ltb-true, leb-true, eqb-true}
use lib.Dec.{ltb, leb, eqb}
use Rattle.std.specs.Prelude.{is_ok}
use Rattle.rules.specs.Records.{record_count, kind_of}
use Rattle.rules.specs.Kinds.{Language, source, target, Sort, sort_number, expression, place, term, predicate}
use Rattle.rules.specs.Kinds.{statement, Form, forms, form_of}
use Rattle.rules.specs.Checker.{record_fault}
use Rattle.rules.specs.Nodes.{NodeOf, build_node, sort_of_node, guarded, node_at}
use Rattle.rules.proofs.Acceptance.KindViews.{and_split, form_at, found_at, every, found-passes, KindOf}
use Rattle.rules.proofs.Acceptance.KindViews.{kind-view}
use Rattle.rules.proofs.Acceptance.NodeLaws.{node_law, junk-sort}
use Rattle.rules.proofs.Acceptance.FormLaws.{some-sort, faultless, record_as, FormHolds, nodes_under, node_under}
use Rattle.rules.proofs.Acceptance.FormLaws.{in_table}
use Rattle.rules.proofs.Acceptance.FormLaws.{node-built}
use Rattle.rules.proofs.Acceptance.SaidLaws.{ok-kept}

not-guarded : (l : Language) (b : Bool) (x : NodeOf l) → 1 ≤ sort_of_node l (guarded l b x) → b ≡ true
not-guarded l true x h = refl
not-guarded l false x h = absurd (omega (arith, junk-sort l))

-- a node that has a sort: its record is in the table, of a kind of that sort, and keeps its form
pub record Stands (l : Language) (t : List ℕ) (n : ℕ) (s : Sort) : Type 0 where
  pub from_one : 1 ≤ n
  pub within : n ≤ record_count t
  pub form : Form
  pub found : form_of l (kind_of t n) ≡ some form
  pub sort : form.sort ≡ s
  pub holds : FormHolds l t n form
  pub kind : KindOf l s (kind_of t n)

abbrev sort_fits : (l : Language) → ℕ → List ℕ → NodeOf l → NodeOf l → NodeOf l → Form → Bool
sort_fits l n t a b c f =
    eqb (sort_of_node l (build_node l n (record_as f.kind t n) (a ∷ b ∷ c ∷ []))) (sort_number f.sort)

each-sort : (l : Language) (n : ℕ) (t : List ℕ) (a b c : NodeOf l) → every (sort_fits l n t a b c) (forms l) ≡ true
each-sort source n t a b c = refl
each-sort target n t a b c = refl

-- a node has its form's sort
pub form-sort : (l : Language) (t : List ℕ) (n : ℕ) (f : Form) → form_of l (kind_of t n) ≡ some f → FormHolds l t n f
    → sort_of_node l (node_at l t n) ≡ sort_number f.sort
form-sort l t n f o h =
    ap (sort_of_node l) h.node
    ∙ eqb-true _ (sort_number f.sort)
    (found-passes (sort_fits l n t _ _ _) l (kind_of t n) f (each-sort l n t _ _ _) o)

pub sort-by-number : (r s : Sort) → sort_number r ≡ sort_number s → r ≡ s
sort-by-number r s e = sym (by-number-of r) ∙ ap by_number e ∙ by-number-of s
  where
    by_number : ℕ → Sort
    by_number n =
        elim (eqb n 1) [
          | true ↦ expression
          | false ↦
              elim (eqb n 2) [
                | true ↦ place
                | false ↦
                    elim (eqb n 3) [
                      | true ↦ term
                      | false ↦
                          elim (eqb n 4) [ true ↦ predicate | false ↦ statement ]
                    ]
              ]
        ]

    by-number-of : (s : Sort) → by_number (sort_number s) ≡ s
    by-number-of expression = refl
    by-number-of place = refl
    by-number-of term = refl
    by-number-of predicate = refl
    by-number-of statement = refl

-- a node's sort tells what its record is
pub stands : (l : Language) (t : List ℕ) (n : ℕ) (s : Sort) → sort_of_node l (node_at l t n) ≡ sort_number s
    → Stands l t n s
stands l t n s e =
    let g = not-guarded l (in_table l t n (form_of l (kind_of t n))) (node_under l t n)
    (omega (arith, some-sort s, e, ap (sort_of_node l) (node_law l t n))) in
    let w = and_split _ (nodes_under l t n (form_of l (kind_of t n))) g in
    let v = and_split _ (is_ok (record_fault l t n)) w.0 in
    let u = and_split (ltb 0 n) (leb n (record_count t)) v.0 in
    let p = ltb-true 0 n u.0 in
    let q = leb-true n (record_count t) u.1 in
    let r = ok-kept (record_fault l t n) v.1 in
    let f = faultless l t n r in
    let h = node-built l t n f.form p q r f.found f.fields (rw f.found at w.1) in
    let k = sort-by-number f.form.sort s (sym (form-sort l t n f.form f.found h) ∙ e) in
    record {
      from_one = p;
      within = q;
      form = f.form;
      found = f.found;
      sort = k;
      holds = h;
      kind = subst (λ (r : Sort). KindOf l r (kind_of t n)) k (kind-view l (kind_of t n) f.form f.found);
    }

-- the same by the kind's number: at a literal k the form computes, and so does the node
pub stands_at : (l : Language) (t : List ℕ) (n k : ℕ) (s : Sort) → sort_of_node l (node_at l t n) ≡ sort_number s
    → kind_of t n ≡ k → FormHolds l t n (form_at l k)
stands_at l t n k s e d =
    let r = stands l t n s e in
    subst (FormHolds l t n) (found_at l (kind_of t n) r.form r.found ∙ ap (form_at l) d) r.holds
