-- Each kind's tree is the one that its function emits.
use Rattle.std.proofs.Common.{◌≡◌, ℕ, List, inl, refl, sym, ◌∙◌, subst, arith}
use Rattle.rules.specs.Records.{kind_of, child_a, child_b}
use Rattle.translation_sizes.specs.Trees.{copy_at}
use Rattle.translation_emission.specs.Emission.{Room, Copied, leaf_tree}
use Rattle.translation_emission.proofs.Emitting.{emitted-as}
use Rattle.translation_assertions.specs.Tests.{LevelsAt, assert_tree}
use Rattle.translation_statements.specs.Statements.{StatementAt, Simple, saved_tree, new_tree}
use Rattle.translation_statements.proofs.Statements.{skip-tree, assign-tree, new-tree, free-tree, assert-tree}
use Rattle.translation_statements.proofs.Statements.{statement-sort, number_small, assert-levels}
use Rattle.translation_statements.proofs.Statements.{last-kind}
use Rattle.translation_statements.proofs.emit_simple.Goals as goal

-- what the reads of statement n say, by the kind that was read
module _ (t : List ℕ) (n : ℕ) (l : StatementAt t n) {k : ℕ} (e : k ≡ kind_of t n) where
  skipped : k ≡ 40 → copy_at t n ≡ leaf_tree n 40 0 0
  skipped d = skip-tree t n (statement-sort t n l) (sym e ∙ d)

  module _ {a : ℕ} (p : a ≡ child_a t n) where
    freed : k ≡ 43 → Copied t a × (copy_at t n ≡ saved_tree t n 61 43 69 a 0)
    freed d = rw p (free-tree t n (statement-sort t n l) (sym e ∙ d))

    asserted : Simple (kind_of t n) → (k ≡ 40 → ⊥) → (k ≡ 41 → ⊥) → (k ≡ 42 → ⊥) → (k ≡ 43 → ⊥)
        → LevelsAt t a 0 × (copy_at t n ≡ assert_tree t n a)
    asserted w f g h i =
        let d = last-kind t n l w (λ x. f (e ∙ x)) (λ x. g (e ∙ x)) (λ x. h (e ∙ x)) (λ x. i (e ∙ x)) in
        rw p (assert-levels t n l d, assert-tree t n (statement-sort t n l) d)

    module _ {b : ℕ} (q : b ≡ child_b t n) where
      assigned : k ≡ 41 → Copied t a × Copied t b × (copy_at t n ≡ saved_tree t n 60 41 70 a b)
      assigned d = rw (p, q) (assign-tree t n (statement-sort t n l) (sym e ∙ d))

      made : k ≡ 42 → Copied t a × Copied t b × (copy_at t n ≡ new_tree t n a b)
      made d = rw (p, q) (new-tree t n (statement-sort t n l) (sym e ∙ d))

pub leaf-requires : goal.leaf-requires
leaf-requires c =
    let a = c.args in
    let q = c.requires in
    let r = skipped a.table.now a.n q.fact_1 c.kind.ensures c.in-40.is in
    record { fact_1 = number_small a.table.now a.n q.fact_1; fact_2 = subst (Room a.out.now) r q.fact_3 }

pub emit_saved-requires : goal.emit_saved-requires
emit_saved-requires c =
    let a = c.args in
    let q = c.requires in
    let r = assigned a.table.now a.n q.fact_1 c.kind.ensures c.child_a-a.ensures c.child_b-b.ensures c.in-41.is in
    record {
      fact_1 = r.0;
      fact_2 = r.1;
      fact_3 = number_small a.table.now a.n q.fact_1;
      fact_4 = subst (Room a.out.now) r.2 q.fact_3;
    }

pub emit_new-requires : goal.emit_new-requires
emit_new-requires c =
    let a = c.args in
    let q = c.requires in
    let r = made a.table.now a.n q.fact_1 c.kind.ensures c.child_a-a.ensures c.child_b-b.ensures c.in-42.is in
    record {
      fact_1 = r.0;
      fact_2 = r.1;
      fact_3 = number_small a.table.now a.n q.fact_1;
      fact_4 = subst (Room a.out.now) r.2 q.fact_3;
    }

pub emit_saved-requires-in-43 : goal.emit_saved-requires-in-43
emit_saved-requires-in-43 c =
    let a = c.args in
    let q = c.requires in
    let r = freed a.table.now a.n q.fact_1 c.kind.ensures c.child_a-a.ensures c.in-43.is in
    record {
      fact_1 = r.0;
      fact_2 = inl refl;
      fact_3 = number_small a.table.now a.n q.fact_1;
      fact_4 = subst (Room a.out.now) r.1 q.fact_3;
    }

pub emit_assert-requires : goal.emit_assert-requires
emit_assert-requires c =
    let a = c.args in
    let q = c.requires in
    let r = asserted a.table.now a.n q.fact_1 c.kind.ensures c.child_a-a.ensures q.fact_2 (λ e. omega arith)
    (λ e. omega arith) (λ e. omega arith) (λ e. omega arith) in
    record {
      fact_1 = r.0;
      fact_2 = number_small a.table.now a.n q.fact_1;
      fact_3 = subst (Room a.out.now) r.1 q.fact_3;
    }

pub returns-in-40 : goal.returns-in-40
returns-in-40 c =
    let a = c.args in
    emitted-as (skipped a.table.now a.n c.requires.fact_1 c.kind.ensures c.in-40.is) c.leaf.ensures

pub returns-in-41 : goal.returns-in-41
returns-in-41 c =
    let a = c.args in
    let q = c.requires in
    let r = assigned a.table.now a.n q.fact_1 c.kind.ensures c.child_a-a.ensures c.child_b-b.ensures c.in-41.is in
    emitted-as r.2 c.emit_saved.ensures

pub returns-in-42 : goal.returns-in-42
returns-in-42 c =
    let a = c.args in
    let q = c.requires in
    let r = made a.table.now a.n q.fact_1 c.kind.ensures c.child_a-a.ensures c.child_b-b.ensures c.in-42.is in
    emitted-as r.2 c.emit_new.ensures

pub returns-in-43 : goal.returns-in-43
returns-in-43 c =
    let a = c.args in
    let r = freed a.table.now a.n c.requires.fact_1 c.kind.ensures c.child_a-a.ensures c.in-43.is in
    emitted-as r.1 c.emit_saved-in-43.ensures

pub returns-in_default : goal.returns-in_default
returns-in_default c =
    let a = c.args in
    let q = c.requires in
    let r = asserted a.table.now a.n q.fact_1 c.kind.ensures c.child_a-a.ensures q.fact_2 (λ e. omega arith)
    (λ e. omega arith) (λ e. omega arith) (λ e. omega arith) in
    emitted-as r.1 c.emit_assert.ensures
