-- Terms and predicates: each child's records behind the ones before, then what stands over them.
use Rattle.std.proofs.Common.{◌≡◌, ◌⊎◌, ℕ, ◌+◌, List, true, refl, sym, ap, ◌∙◌, subst, arith}
use lib.IntN.{pos}
use Rattle.rules.specs.Records.{kind_of, mark_of, child_a, child_b}
use Rattle.rules.specs.Checker.{is_unary}
use Rattle.rules.specs.Emission.{none, node}
use Rattle.translation_sizes.specs.Trees.{tree_at}
use Rattle.translation_emission.specs.declared.Output.{Output}
use Rattle.translation_emission.specs.Emission.{Room, Emitted, sequence_tree, leaf_tree}
use Rattle.translation_emission.proofs.Emitting.{emitted-as, some}
use Rattle.translation_assertions.specs.Tests.{LevelsAt, Ready, last_kind, last_field}
use Rattle.translation_assertions.proofs.Tests.{test-some, skip_tree}
use Rattle.translation_assertions.proofs.TestSteps.{UnaryAt, BinaryAt, JointAt, within_ready, value-at, unary-at}
use Rattle.translation_assertions.proofs.TestSteps.{binary-at, both_at, either-at, last-unary}
use Rattle.translation_assertions.proofs.Rooms.{falls_at, falls-to, Sequence, first-room, second-room, over-room, whole}
use Rattle.translation_assertions.proofs.Rooms.{yes-room, no_room, branch-room, emitted-branch}
use Rattle.translation_assertions.proofs.+emit.Goals as goal

-- what the reads of record n say, and its tree as its parts behind one another
module _ (t : List ℕ) (n : ℕ) (o : Output) (s v : ℕ) (r : Ready t n o s v) where
  ready : {a w : ℕ} {o₁ : Output} → LevelsAt t a w → Room o₁ (tree_at t a s w) → Ready t a o₁ s w
  ready l room = record { levels = l; number = r.number; room = room }

  module _ {k f a : ℕ} (e : is_unary (kind_of t n) ≡ true) (p : a ≡ child_a t n) (g : k ≡ last_kind (kind_of t n))
      (h : f ≡ last_field (kind_of t n)) where
    unary : UnaryAt t n s v k f a (v + 1)
    unary = unary-at t n s v r.levels e g h p (omega arith)

    unary-parts : Sequence o s (tree_at t a s (v + 1)) (leaf_tree s k v f)
    unary-parts = record {
      room = subst (Room o) unary.3 r.room;
      some-a = test-some t a s (v + 1) unary.1;
      some-b = some;
    }

  module _ {a b m : ℕ} (e : (kind_of t n ≡ 24) ⊎ (kind_of t n ≡ 32)) (p : a ≡ child_a t n) (q : b ≡ child_b t n)
      (w : m ≡ mark_of t n) where
    binary : BinaryAt t n s v a b m (v + 1) (v + 2)
    binary = binary-at t n s v r.levels e p q w (omega arith) (omega arith)

    binary-parts : Sequence o s (tree_at t a s (v + 1)) (sequence_tree s (tree_at t b s (v + 2)) (leaf_tree s 63 v m))
    binary-parts = record {
      room = subst (Room o) binary.5 r.room;
      some-a = test-some t a s (v + 1) binary.2;
      some-b = some;
    }

    -- B and the operation
    binary-rest : {o₁ : Output} → Emitted o (tree_at t a s (v + 1)) o₁
        → Sequence o₁ s (tree_at t b s (v + 2)) (leaf_tree s 63 v m)
    binary-rest A = record {
      room = second-room binary-parts A;
      some-a = test-some t b s (v + 2) binary.3;
      some-b = some;
    }

  module _ {a b : ℕ} (e : kind_of t n ≡ 34) (p : a ≡ child_a t n) (q : b ≡ child_b t n) where
    both : JointAt t n s v a b (tree_at t b s v) (skip_tree s)
    both = both_at t n s v r.levels e p q

    both-parts : Sequence o s (tree_at t a s v) (node 66 v (pos s) 0 none (tree_at t b s v) (skip_tree s))
    both-parts = record {
      room = subst (Room o) both.5 r.room;
      some-a = test-some t a s v both.2;
      some-b = some;
    }

  module _ {a b : ℕ} (e : kind_of t n ≡ 35) (p : a ≡ child_a t n) (q : b ≡ child_b t n) where
    either : JointAt t n s v a b (skip_tree s) (tree_at t b s v)
    either = either-at t n s v r.levels e p q

    either-parts : Sequence o s (tree_at t a s v) (node 66 v (pos s) 0 none (skip_tree s) (tree_at t b s v))
    either-parts = record {
      room = subst (Room o) either.5 r.room;
      some-a = test-some t a s v either.2;
      some-b = some;
    }

-- ---- the dispatcher
pub emit_test-kind-requires : goal.emit_test-kind-requires
emit_test-kind-requires t c = within_ready c.requires

pub emit_test-child_a-requires : goal.emit_test-child_a-requires
emit_test-child_a-requires t c = within_ready c.requires

pub emit_test-part-requires-clause-fact_1 : goal.emit_test-part-requires-clause-fact_1
emit_test-part-requires-clause-fact_1 t c =
    let a = c.args in
    (value-at a.table.now a.n a.s a.level c.requires.levels (sym c.kind.ensures ∙ c.in-20.is) c.child_a.ensures).0

pub emit_test-part-requires-clause-fact_4 : goal.emit_test-part-requires-clause-fact_4
emit_test-part-requires-clause-fact_4 t c =
    let a = c.args in
    let e = sym c.kind.ensures ∙ c.in-20.is in
    subst (Room a.out.now) (value-at a.table.now a.n a.s a.level c.requires.levels e c.child_a.ensures).2 c.requires.room

pub emit_test-emit_unary-requires : goal.emit_test-emit_unary-requires
emit_test-emit_unary-requires t c =
    let a = c.args in
    let e = last-unary a.table.now a.n a.s a.level c.requires.levels c.kind.ensures (λ e. omega arith) (λ e. omega arith)
    (λ e. omega arith) (λ e. omega arith) in
    (falls_at c.decreases, (c.requires, e))

pub emit_test-returns-in-20 : goal.emit_test-returns-in-20
emit_test-returns-in-20 t c =
    let a = c.args in
    let e = sym c.kind.ensures ∙ c.in-20.is in
    emitted-as (value-at a.table.now a.n a.s a.level c.requires.levels e c.child_a.ensures).2 c.part.ensures

-- ---- one of a child
pub emit_unary-kind-kind-requires : goal.emit_unary-kind-kind-requires
emit_unary-kind-kind-requires t c = within_ready c.requires.0

pub emit_unary-child_a-requires : goal.emit_unary-child_a-requires
emit_unary-child_a-requires t c = within_ready c.requires.0

pub emit_unary-overflow_add-level : goal.emit_unary-overflow_add-level
emit_unary-overflow_add-level t c =
    let a = c.args in
    let low = (unary a.table.now a.n a.out.now a.s a.level c.requires.0 c.requires.1 c.child_a.ensures refl refl).2 in
    record { fits = omega arith }

pub emit_unary-emit_test-requires : goal.emit_unary-emit_test-requires
emit_unary-emit_test-requires t c =
    let a = c.args in
    let q = c.requires in
    let r = unary a.table.now a.n a.out.now a.s a.level q.0 q.1 c.child_a.ensures refl refl in
    let parts = unary-parts a.table.now a.n a.out.now a.s a.level q.0 q.1 c.child_a.ensures refl refl in
    (falls-to c.decreases r.0, ready a.table.now a.n a.out.now a.s a.level q.0 r.1 (first-room parts))

pub emit_unary-leaf-requires-clause-fact_2 : goal.emit_unary-leaf-requires-clause-fact_2
emit_unary-leaf-requires-clause-fact_2 t c =
    let a = c.args in
    let q = c.requires in
    second-room (unary-parts a.table.now a.n a.out.now a.s a.level q.0 q.1 c.child_a.ensures refl refl) c.emit_test.ensures

pub emit_unary-sequence-requires-clause-fact_2 : goal.emit_unary-sequence-requires-clause-fact_2
emit_unary-sequence-requires-clause-fact_2 t c =
    let a = c.args in
    let q = c.requires in
    let parts = unary-parts a.table.now a.n a.out.now a.s a.level q.0 q.1 c.child_a.ensures
    (c.observer.ensures ∙ ap last_kind c.kind-kind.ensures) (c.query.ensures ∙ ap last_field c.kind-kind.ensures) in
    over-room parts c.emit_test.ensures c.leaf.ensures

pub emit_unary-returns : goal.emit_unary-returns
emit_unary-returns t c =
    let a = c.args in
    let q = c.requires in
    let k = c.observer.ensures ∙ ap last_kind c.kind-kind.ensures in
    let f = c.query.ensures ∙ ap last_field c.kind-kind.ensures in
    let r = unary a.table.now a.n a.out.now a.s a.level q.0 q.1 c.child_a.ensures k f in
    let parts = unary-parts a.table.now a.n a.out.now a.s a.level q.0 q.1 c.child_a.ensures k f in
    emitted-as r.3 (whole parts c.emit_test.ensures c.leaf.ensures c.sequence.ensures)

-- ---- an operation on two terms
pub emit_binary-child_a-a-requires : goal.emit_binary-child_a-a-requires
emit_binary-child_a-a-requires t c = within_ready c.requires.0

pub emit_binary-child_b-b-requires : goal.emit_binary-child_b-b-requires
emit_binary-child_b-b-requires t c = within_ready c.requires.0

pub emit_binary-mark-requires : goal.emit_binary-mark-requires
emit_binary-mark-requires t c = within_ready c.requires.0

pub emit_binary-overflow_add-level : goal.emit_binary-overflow_add-level
emit_binary-overflow_add-level t c =
    let a = c.args in
    let q = c.requires in
    let r = binary a.table.now a.n a.out.now a.s a.level q.0 q.1 c.child_a-a.ensures c.child_b-b.ensures (c.from-operator.ensures ∙ c.mark.ensures) in
    let low = r.4 in
    record { fits = omega arith }

pub emit_binary-emit_test-requires : goal.emit_binary-emit_test-requires
emit_binary-emit_test-requires t c =
    let a = c.args in
    let q = c.requires in
    let r = binary a.table.now a.n a.out.now a.s a.level q.0 q.1 c.child_a-a.ensures c.child_b-b.ensures (c.from-operator.ensures ∙ c.mark.ensures) in
    let parts = binary-parts a.table.now a.n a.out.now a.s a.level q.0 q.1 c.child_a-a.ensures c.child_b-b.ensures (c.from-operator.ensures ∙ c.mark.ensures) in
    (falls-to c.decreases r.0, ready a.table.now a.n a.out.now a.s a.level q.0 r.2 (first-room parts))

pub emit_binary-overflow_add-level-2 : goal.emit_binary-overflow_add-level-2
emit_binary-overflow_add-level-2 t c =
    let a = c.args in
    let q = c.requires in
    let r = binary a.table.now a.n a.out.now a.s a.level q.0 q.1 c.child_a-a.ensures c.child_b-b.ensures (c.from-operator.ensures ∙ c.mark.ensures) in
    let low = r.4 in
    record { fits = omega arith }

pub emit_binary-emit_test-requires-2 : goal.emit_binary-emit_test-requires-2
emit_binary-emit_test-requires-2 t c =
    let a = c.args in
    let q = c.requires in
    let r = binary a.table.now a.n a.out.now a.s a.level q.0 q.1 c.child_a-a.ensures c.child_b-b.ensures (c.from-operator.ensures ∙ c.mark.ensures) in
    let rest = binary-rest a.table.now a.n a.out.now a.s a.level q.0 q.1 c.child_a-a.ensures c.child_b-b.ensures (c.from-operator.ensures ∙ c.mark.ensures) c.emit_test.ensures in
    (falls-to c.decreases r.1, ready a.table.now a.n a.out.now a.s a.level q.0 r.3 (first-room rest))

pub emit_binary-leaf-requires-clause-fact_2 : goal.emit_binary-leaf-requires-clause-fact_2
emit_binary-leaf-requires-clause-fact_2 t c =
    let a = c.args in
    let q = c.requires in
    let rest = binary-rest a.table.now a.n a.out.now a.s a.level q.0 q.1 c.child_a-a.ensures c.child_b-b.ensures (c.from-operator.ensures ∙ c.mark.ensures) c.emit_test.ensures in
    second-room rest c.emit_test-2.ensures

pub emit_binary-sequence-requires-clause-fact_2 : goal.emit_binary-sequence-requires-clause-fact_2
emit_binary-sequence-requires-clause-fact_2 t c =
    let a = c.args in
    let q = c.requires in
    let rest = binary-rest a.table.now a.n a.out.now a.s a.level q.0 q.1 c.child_a-a.ensures c.child_b-b.ensures (c.from-operator.ensures ∙ c.mark.ensures) c.emit_test.ensures in
    over-room rest c.emit_test-2.ensures c.leaf.ensures

pub emit_binary-sequence-requires-2-clause-fact_2 : goal.emit_binary-sequence-requires-2-clause-fact_2
emit_binary-sequence-requires-2-clause-fact_2 t c =
    let a = c.args in
    let q = c.requires in
    let parts = binary-parts a.table.now a.n a.out.now a.s a.level q.0 q.1 c.child_a-a.ensures c.child_b-b.ensures (c.from-operator.ensures ∙ c.mark.ensures) in
    let rest = binary-rest a.table.now a.n a.out.now a.s a.level q.0 q.1 c.child_a-a.ensures c.child_b-b.ensures (c.from-operator.ensures ∙ c.mark.ensures) c.emit_test.ensures in
    over-room parts c.emit_test.ensures (whole rest c.emit_test-2.ensures c.leaf.ensures c.sequence.ensures)

pub emit_binary-returns : goal.emit_binary-returns
emit_binary-returns t c =
    let a = c.args in
    let q = c.requires in
    let r = binary a.table.now a.n a.out.now a.s a.level q.0 q.1 c.child_a-a.ensures c.child_b-b.ensures (c.from-operator.ensures ∙ c.mark.ensures) in
    let parts = binary-parts a.table.now a.n a.out.now a.s a.level q.0 q.1 c.child_a-a.ensures c.child_b-b.ensures (c.from-operator.ensures ∙ c.mark.ensures) in
    let rest = binary-rest a.table.now a.n a.out.now a.s a.level q.0 q.1 c.child_a-a.ensures c.child_b-b.ensures (c.from-operator.ensures ∙ c.mark.ensures) c.emit_test.ensures in
    emitted-as r.5 (whole parts c.emit_test.ensures (whole rest c.emit_test-2.ensures c.leaf.ensures c.sequence.ensures) c.sequence-2.ensures)

-- ---- A and B
pub emit_both-child_a-a-requires : goal.emit_both-child_a-a-requires
emit_both-child_a-a-requires t c = within_ready c.requires.0

pub emit_both-child_b-b-requires : goal.emit_both-child_b-b-requires
emit_both-child_b-b-requires t c = within_ready c.requires.0

pub emit_both-emit_test-requires : goal.emit_both-emit_test-requires
emit_both-emit_test-requires t c =
    let a = c.args in
    let q = c.requires in
    let r = both a.table.now a.n a.out.now a.s a.level q.0 q.1 c.child_a-a.ensures c.child_b-b.ensures in
    let parts = both-parts a.table.now a.n a.out.now a.s a.level q.0 q.1 c.child_a-a.ensures c.child_b-b.ensures in
    (falls-to c.decreases r.0, ready a.table.now a.n a.out.now a.s a.level q.0 r.2 (first-room parts))

pub emit_both-emit_test-requires-2 : goal.emit_both-emit_test-requires-2
emit_both-emit_test-requires-2 t c =
    let a = c.args in
    let q = c.requires in
    let r = both a.table.now a.n a.out.now a.s a.level q.0 q.1 c.child_a-a.ensures c.child_b-b.ensures in
    let parts = both-parts a.table.now a.n a.out.now a.s a.level q.0 q.1 c.child_a-a.ensures c.child_b-b.ensures in
    (falls-to c.decreases r.1, ready a.table.now a.n a.out.now a.s a.level q.0 r.3 (yes-room parts c.emit_test.ensures))

pub emit_both-leaf-requires-clause-fact_2 : goal.emit_both-leaf-requires-clause-fact_2
emit_both-leaf-requires-clause-fact_2 t c =
    let a = c.args in
    let q = c.requires in
    let parts = both-parts a.table.now a.n a.out.now a.s a.level q.0 q.1 c.child_a-a.ensures c.child_b-b.ensures in
    no_room parts c.emit_test.ensures c.emit_test-2.ensures

pub emit_both-emit_branch-requires-clause-fact_2 : goal.emit_both-emit_branch-requires-clause-fact_2
emit_both-emit_branch-requires-clause-fact_2 t c =
    let a = c.args in
    let q = c.requires in
    let parts = both-parts a.table.now a.n a.out.now a.s a.level q.0 q.1 c.child_a-a.ensures c.child_b-b.ensures in
    branch-room parts c.emit_test.ensures c.emit_test-2.ensures c.leaf.ensures

pub emit_both-returns : goal.emit_both-returns
emit_both-returns t c =
    let a = c.args in
    let q = c.requires in
    let r = both a.table.now a.n a.out.now a.s a.level q.0 q.1 c.child_a-a.ensures c.child_b-b.ensures in
    let parts = both-parts a.table.now a.n a.out.now a.s a.level q.0 q.1 c.child_a-a.ensures c.child_b-b.ensures in
    let b = test-some a.table.now c.child_b-b.result a.s a.level r.3 in
    emitted-as r.5 (emitted-branch parts c.emit_test.ensures c.emit_test-2.ensures c.leaf.ensures b some c.emit_branch.ensures)

-- ---- A or B
pub emit_either-child_a-a-requires : goal.emit_either-child_a-a-requires
emit_either-child_a-a-requires t c = within_ready c.requires.0

pub emit_either-child_b-b-requires : goal.emit_either-child_b-b-requires
emit_either-child_b-b-requires t c = within_ready c.requires.0

pub emit_either-emit_test-requires : goal.emit_either-emit_test-requires
emit_either-emit_test-requires t c =
    let a = c.args in
    let q = c.requires in
    let r = either a.table.now a.n a.out.now a.s a.level q.0 q.1 c.child_a-a.ensures c.child_b-b.ensures in
    let parts = either-parts a.table.now a.n a.out.now a.s a.level q.0 q.1 c.child_a-a.ensures c.child_b-b.ensures in
    (falls-to c.decreases r.0, ready a.table.now a.n a.out.now a.s a.level q.0 r.2 (first-room parts))

pub emit_either-leaf-requires-clause-fact_2 : goal.emit_either-leaf-requires-clause-fact_2
emit_either-leaf-requires-clause-fact_2 t c =
    let a = c.args in
    let q = c.requires in
    let parts = either-parts a.table.now a.n a.out.now a.s a.level q.0 q.1 c.child_a-a.ensures c.child_b-b.ensures in
    yes-room parts c.emit_test.ensures

pub emit_either-emit_test-requires-2 : goal.emit_either-emit_test-requires-2
emit_either-emit_test-requires-2 t c =
    let a = c.args in
    let q = c.requires in
    let r = either a.table.now a.n a.out.now a.s a.level q.0 q.1 c.child_a-a.ensures c.child_b-b.ensures in
    let parts = either-parts a.table.now a.n a.out.now a.s a.level q.0 q.1 c.child_a-a.ensures c.child_b-b.ensures in
    (falls-to c.decreases r.1, ready a.table.now a.n a.out.now a.s a.level q.0 r.3 (no_room parts c.emit_test.ensures c.leaf.ensures))

pub emit_either-emit_branch-requires-clause-fact_2 : goal.emit_either-emit_branch-requires-clause-fact_2
emit_either-emit_branch-requires-clause-fact_2 t c =
    let a = c.args in
    let q = c.requires in
    let parts = either-parts a.table.now a.n a.out.now a.s a.level q.0 q.1 c.child_a-a.ensures c.child_b-b.ensures in
    branch-room parts c.emit_test.ensures c.leaf.ensures c.emit_test-2.ensures

pub emit_either-returns : goal.emit_either-returns
emit_either-returns t c =
    let a = c.args in
    let q = c.requires in
    let r = either a.table.now a.n a.out.now a.s a.level q.0 q.1 c.child_a-a.ensures c.child_b-b.ensures in
    let parts = either-parts a.table.now a.n a.out.now a.s a.level q.0 q.1 c.child_a-a.ensures c.child_b-b.ensures in
    let b = test-some a.table.now c.child_b-b.result a.s a.level r.3 in
    emitted-as r.5 (emitted-branch parts c.emit_test.ensures c.leaf.ensures c.emit_test-2.ensures some b c.emit_branch.ensures)
