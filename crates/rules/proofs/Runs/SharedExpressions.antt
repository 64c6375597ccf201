-- An expression or a place of a source table is one of the target table with the same bytes.
use Prim.Native.Nat.{ℕ, zero, suc, ◌≤◌, ◌<◌}
use native.Mathlib.Omega.{arith}
use mathlib.Core.Bool.{Bool, true, ◌&&◌}
use mathlib.Core.List.{List}
use mathlib.Core.Option.{some}
use mathlib.Core.Path.{◌≡◌, refl, sym, ap, ap₂, ◌∙◌}
use borrow.Author.Tests.{lt-ltb, le-leb, eq-eqb}
use lib.Dec.{ltb, eqb}
use lib.IntN.{ℤ}
use Rattle.std.specs.Prelude.{Ok}
use Rattle.rules.specs.Records.{record_count, kind_of, mark_of, child_a, child_b, child_c, literal_of, record_at}
use Rattle.rules.specs.Kinds.{Language, source, target, Sort, sort_number, expression, place, term, predicate}
use Rattle.rules.specs.Kinds.{statement, Field, unnamed, child, number, Literal, zero_literal, any_literal}
use Rattle.rules.specs.Kinds.{statement_literal, Form, field_of, look_up, form_of}
use Rattle.rules.specs.Checker.{field_fits, literal_fits, fields_fit, form_sort, sort_of, child_fits, children_fit}
use Rattle.rules.specs.Checker.{fault_of, record_fault}
use Rattle.rules.specs.Trees.{Expression, Place}
use Rattle.rules.specs.Trees as tree
use Rattle.rules.specs.Nodes.{operator_of, SourceNode, TargetNode, expression_node, place_node, term_node}
use Rattle.rules.specs.Nodes.{predicate_node, statement_node, junk, node_sort, as_expression, as_place, sort_of_node}
use Rattle.rules.specs.Nodes.{node_fits, node_at}
use Rattle.rules.specs.Memory.{Memory}
use Rattle.rules.specs.Evaluation.{Variables, evaluate, find_place, evaluate_source, find_source}
use Rattle.rules.specs.Watched.{Temporaries, temporary_of}
use Rattle.rules.specs.Translation.{embed, embed_place}
use Rattle.rules.proofs.Acceptance.KindViews.{form_at, SourceKind, literal, read, address, operation, shifted}
use Rattle.rules.proofs.Acceptance.KindViews.{variable}
use Rattle.rules.proofs.Acceptance.KindViews.{pointed}
use Rattle.rules.proofs.Acceptance.NodeLaws.{node_before, node-earlier}
use Rattle.rules.proofs.Acceptance.FormLaws.{FieldHolds, LiteralHolds, FormHolds, node_as, nodes_under}
use Rattle.rules.proofs.Acceptance.FormLaws.{node-built}
use Rattle.rules.proofs.Acceptance.Standing.{stands, stands_at}
use Rattle.rules.proofs.Simulation.PredicateSimulation.{embed-is, embed_place-is}
use Rattle.rules.proofs.Acceptance.SaidLaws.{faults}

and-join : (a b : Bool) → a ≡ true → b ≡ true → (a && b) ≡ true
and-join a b p q = rw (p, q)

-- fields that hold pass their tests
literal-passes : (f : Literal) (z : ℤ) → LiteralHolds f z → literal_fits f z ≡ true
literal-passes zero_literal z h = rw h
literal-passes any_literal z h = refl
literal-passes statement_literal z h = rw h.2 (and-join _ _ (le-leb _ _ h.0) (le-leb _ _ h.1))

field-passes : (l : Language) (t : List ℕ) (n : ℕ) (f : Field) (x : ℕ) → FieldHolds l t n f x → field_fits f x ≡ true
field-passes l t n unnamed x h = eq-eqb x 0 h
field-passes l t n (child s) x h = lt-ltb 0 x h.0
field-passes l t n (number p) x h = h

child-passes : (l : Language) (t : List ℕ) (n : ℕ) (f : Field) (x : ℕ) → FieldHolds l t n f x
    → child_fits l t n f x ≡ true
child-passes l t n unnamed x h = refl
child-passes l t n (child s) x h =
    let r = stands l t x s h.2 in
    and-join (ltb x n) (eqb (sort_of l (kind_of t x)) (sort_number s)) (lt-ltb x n h.1)
    (eq-eqb (sort_of l (kind_of t x)) (sort_number s) (ap form_sort r.found ∙ ap sort_number r.sort))
child-passes l t n (number p) x h = refl

node-passes : (l : Language) (t : List ℕ) (n : ℕ) (f : Field) (x : ℕ) → FieldHolds l t n f x
    → node_fits l f (node_before l t n x) ≡ true
node-passes l t n unnamed x h = refl
node-passes l t n (child s) x h =
    eq-eqb (sort_of_node l (node_before l t n x)) (sort_number s)
    (ap (sort_of_node l) (node-earlier l t n x h.1) ∙ h.2)
node-passes l t n (number p) x h = refl

-- a record whose fields hold keeps its form
pub form-made : (l : Language) (t : List ℕ) (n : ℕ) (f : Form) → 1 ≤ n → n ≤ record_count t
    → form_of l (kind_of t n) ≡ some f
    → field_fits f.mark (mark_of t n) ≡ true → FieldHolds l t n (field_of f 0) (child_a t n)
    → FieldHolds l t n (field_of f 1) (child_b t n) → FieldHolds l t n (field_of f 2) (child_c t n)
    → LiteralHolds f.literal (literal_of t n) → FormHolds l t n f
unfolding record_fault
form-made l t n f p q o m a b c z =
    let x = field-passes l t n (field_of f 0) (child_a t n) a in
    let y = field-passes l t n (field_of f 1) (child_b t n) b in
    let w = field-passes l t n (field_of f 2) (child_c t n) c in
    let v = literal-passes f.literal (literal_of t n) z in
    let h : fields_fit f (record_at t n) ≡ true =
    and-join _ _ (and-join _ _ (and-join _ _ (and-join _ _ m x) y) w) v in
    let g : children_fit l t n f (record_at t n) ≡ true =
    and-join _ _ (and-join _ _ (child-passes l t n (field_of f 0) (child_a t n) a)
    (child-passes l t n (field_of f 1) (child_b t n) b))
    (child-passes l t n (field_of f 2) (child_c t n) c) in
    let k : nodes_under l t n (some f) ≡ true =
    and-join _ _ (and-join _ _ (node-passes l t n (field_of f 0) (child_a t n) a)
    (node-passes l t n (field_of f 1) (child_b t n) b))
    (node-passes l t n (field_of f 2) (child_c t n) c) in
    let e : record_fault l t n ≡ Ok tt =
    ap (fault_of l t n) o
    ∙ ap₂ (λ (u v : Bool). faults u v) h g in
    node-built l t n f p q e o h k

-- the node of an expression or a place as one of a target table
abbrev pub embed_node : SourceNode → TargetNode
embed_node (expression_node e) = expression_node (embed e)
embed_node (place_node p) = place_node (embed_place p)
embed_node (term_node t) = junk
embed_node (predicate_node p) = junk
embed_node (statement_node s) = junk
embed_node junk = junk

embed-expression : (x : SourceNode) → as_expression (embed_node x) ≡ embed (as_expression x)
unfolding embed
embed-expression (expression_node e) = refl
embed-expression (place_node p) = refl
embed-expression (term_node t) = refl
embed-expression (predicate_node p) = refl
embed-expression (statement_node s) = refl
embed-expression junk = refl

embed-place : (x : SourceNode) → as_place (embed_node x) ≡ embed_place (as_place x)
unfolding embed
embed-place (expression_node e) = refl
embed-place (place_node p) = refl
embed-place (term_node t) = refl
embed-place (predicate_node p) = refl
embed-place (statement_node s) = refl
embed-place junk = refl

embed-sort : (x : SourceNode) → node_sort x ≤ 2 → node_sort (embed_node x) ≡ node_sort x
embed-sort (expression_node e) h = refl
embed-sort (place_node p) h = refl
embed-sort (term_node t) h = absurd (omega arith)
embed-sort (predicate_node p) h = absurd (omega arith)
embed-sort (statement_node s) h = absurd (omega arith)
embed-sort junk h = refl

abbrev Shared : List ℕ → ℕ → Type 0
Shared t n = node_at target t n ≡ embed_node (node_at source t n)

-- one record, those before it being shared
module _ (t : List ℕ) (n : ℕ)
    (before : (s : Sort) (x : ℕ) → x < n → sort_number s ≤ 2 → node_sort (node_at source t x) ≡ sort_number s
    → Shared t x) where
  shared-child : (s : Sort) (x : ℕ) → sort_number s ≤ 2 → FieldHolds source t n (child s) x
      → FieldHolds target t n (child s) x
  shared-child s x b h = (
    h.0,
    h.1,
    ap node_sort (before s x h.1 b h.2)
        ∙ embed-sort (node_at source t x) (omega (arith, h.2)) ∙ h.2,
  )

  expression-under : (x : ℕ) → FieldHolds source t n (child expression) x
      → as_expression (node_at target t x) ≡ embed (as_expression (node_at source t x))
  expression-under x h =
      ap as_expression (before expression x h.1 (omega arith) h.2) ∙ embed-expression (node_at source t x)

  place-under : (x : ℕ) → FieldHolds source t n (child place) x
      → as_place (node_at target t x) ≡ embed_place (as_place (node_at source t x))
  place-under x h = ap as_place (before place x h.1 (omega arith) h.2) ∙ embed-place (node_at source t x)

  -- the record's form in the target
  module _ (p : 1 ≤ n) (q : n ≤ record_count t) where
    expression-shared : {k : ℕ} → SourceKind expression k → kind_of t n ≡ k → FormHolds source t n (form_at source k)
        → node_at target t n ≡ embed_node (node_as source (form_at source k).kind t n)
    unfolding form_of look_up embed
    expression-shared literal e h =
        (form-made target t n (form_at target 1) p q (ap (form_of target) e) (eq-eqb _ 0 h.mark) h.a h.b h.c
        h.literal).node
    expression-shared read e h =
        (form-made target t n (form_at target 2) p q (ap (form_of target) e) (eq-eqb _ 0 h.mark)
        (shared-child place (child_a t n) (omega arith) h.a) h.b h.c h.literal).node
        ∙ ap (λ (x : Place ℕ). expression_node (tree.read x)) (place-under (child_a t n) h.a)
    expression-shared address e h =
        (form-made target t n (form_at target 3) p q (ap (form_of target) e) (eq-eqb _ 0 h.mark)
        (shared-child place (child_a t n) (omega arith) h.a) h.b h.c h.literal).node
        ∙ ap (λ (x : Place ℕ). expression_node (tree.address x)) (place-under (child_a t n) h.a)
    expression-shared operation e h =
        (form-made target t n (form_at target 4) p q (ap (form_of target) e) h.mark
        (shared-child expression (child_a t n) (omega arith) h.a)
        (shared-child expression (child_b t n) (omega arith) h.b) h.c h.literal).node
        ∙ ap₂ (λ (x y : Expression ℕ). expression_node (tree.operation (operator_of (mark_of t n)) x y))
        (expression-under (child_a t n) h.a) (expression-under (child_b t n) h.b)
    expression-shared shifted e h =
        (form-made target t n (form_at target 5) p q (ap (form_of target) e) (eq-eqb _ 0 h.mark)
        (shared-child expression (child_a t n) (omega arith) h.a)
        (shared-child expression (child_b t n) (omega arith) h.b) h.c h.literal).node
        ∙ ap₂ (λ (x y : Expression ℕ). expression_node (tree.shifted x y))
        (expression-under (child_a t n) h.a) (expression-under (child_b t n) h.b)

    place-shared : {k : ℕ} → SourceKind place k → kind_of t n ≡ k → FormHolds source t n (form_at source k)
        → node_at target t n ≡ embed_node (node_as source (form_at source k).kind t n)
    unfolding form_of look_up embed
    place-shared variable e h =
        (form-made target t n (form_at target 10) p q (ap (form_of target) e) h.mark h.a h.b h.c
        h.literal).node
    place-shared pointed e h =
        (form-made target t n (form_at target 11) p q (ap (form_of target) e) (eq-eqb _ 0 h.mark)
        (shared-child expression (child_a t n) (omega arith) h.a) h.b h.c h.literal).node
        ∙ ap (λ (x : Expression ℕ). place_node (tree.pointed x)) (expression-under (child_a t n) h.a)

  shared_step : (s : Sort) → sort_number s ≤ 2 → node_sort (node_at source t n) ≡ sort_number s → Shared t n
  shared_step expression b e =
      let r = stands source t n expression e in
      let h = stands_at source t n (kind_of t n) expression e refl in
      expression-shared r.from_one r.within r.kind refl h ∙ sym (ap embed_node h.node)
  shared_step place b e =
      let r = stands source t n place e in
      let h = stands_at source t n (kind_of t n) place e refl in
      place-shared r.from_one r.within r.kind refl h ∙ sym (ap embed_node h.node)
  shared_step term b e = absurd (omega arith)
  shared_step predicate b e = absurd (omega arith)
  shared_step statement b e = absurd (omega arith)

shared-below : (t : List ℕ) (m : ℕ) (s : Sort) (n : ℕ) → n < m → sort_number s ≤ 2
    → node_sort (node_at source t n) ≡ sort_number s → Shared t n
shared-below t zero s n h b e = absurd (omega arith)
shared-below t (suc m) s n h b e = shared_step t n (λ r x d. shared-below t m r x (omega arith)) s b e

-- an expression of a source table is one of the target table, and a place likewise
pub shared-expression : (t : List ℕ) (n : ℕ) (e : Expression ⊥) → node_at source t n ≡ expression_node e
    → node_at target t n ≡ expression_node (embed e)
shared-expression t n e h =
    shared-below t (suc n) expression n (omega arith) (omega arith) (ap node_sort h) ∙ ap embed_node h

pub shared-place : (t : List ℕ) (n : ℕ) (p : Place ⊥) → node_at source t n ≡ place_node p
    → node_at target t n ≡ place_node (embed_place p)
shared-place t n p h = shared-below t (suc n) place n (omega arith) (omega arith) (ap node_sort h) ∙ ap embed_node h

-- by the sort of the source node: what stands in the target, and that it evaluates alike
module _ (t : List ℕ) (n : ℕ) where
  pub target-expression : sort_of_node source (node_at source t n) ≡ sort_number expression
      → sort_of_node target (node_at target t n) ≡ sort_number expression
  target-expression e =
      ap node_sort (shared-below t (suc n) expression n (omega arith) (omega arith) e)
      ∙ embed-sort (node_at source t n) (omega (arith, e)) ∙ e

  pub target-place : sort_of_node source (node_at source t n) ≡ sort_number place
      → sort_of_node target (node_at target t n) ≡ sort_number place
  target-place e =
      ap node_sort (shared-below t (suc n) place n (omega arith) (omega arith) e)
      ∙ embed-sort (node_at source t n) (omega (arith, e)) ∙ e

  pub evaluated-alike : (τ : Temporaries) (ρ : Variables) (m : Memory)
      → sort_of_node source (node_at source t n) ≡ sort_number expression
      → evaluate (as_expression (node_at target t n)) (temporary_of τ) ρ m
      ≡ evaluate_source (as_expression (node_at source t n)) ρ m
  evaluated-alike τ ρ m e =
      ap (λ (x : Expression ℕ). evaluate x (temporary_of τ) ρ m)
      (ap as_expression (shared-below t (suc n) expression n (omega arith) (omega arith) e)
      ∙ embed-expression (node_at source t n))
      ∙ embed-is (as_expression (node_at source t n)) τ ρ m

  pub found_alike : (τ : Temporaries) (ρ : Variables) (m : Memory)
      → sort_of_node source (node_at source t n) ≡ sort_number place
      → find_place (as_place (node_at target t n)) (temporary_of τ) ρ m ≡ find_source (as_place (node_at source t n)) ρ m
  found_alike τ ρ m e =
      ap (λ (x : Place ℕ). find_place x (temporary_of τ) ρ m)
      (ap as_place (shared-below t (suc n) place n (omega arith) (omega arith) e) ∙ embed-place (node_at source t n))
      ∙ embed_place-is (as_place (node_at source t n)) τ ρ m
