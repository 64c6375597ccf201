-- Statements with statements below them: each child's records behind the ones before, then what stands over them.
use Rattle.std.proofs.Common.{◌≡◌, ℕ, ◌+◌, ◌*◌, ◌<◌, pos, inr, refl, ap, subst, arith}
use Rattle.rules.specs.Emission.{tree_size}
use Rattle.translation_emission.specs.Emission.{Room}
use Rattle.translation_emission.proofs.Emitting.{emitted-as, emitted-none, emitted-node, root-some, field-some, some}
use Rattle.translation_emission.proofs.Parts.{emitted-sequence, number-literal}
use Rattle.translation_statements.proofs.Statements.{number_small}
use Rattle.translation.proofs.Compounds.{sequence-read, branch_read, while-read, let-read, inside-read}
use Rattle.translation.proofs.Compounds.{statement-has}
use Rattle.translation.proofs.LetLaws.{inside-room, enclosing-room, let-done}
use Rattle.translation.proofs.Rooms.{room-a, room-b, room-c, room-own}
use Rattle.translation.proofs.+emit.Goals as goal

-- the measures of a child, from its parent's and from the inside of a let
falls-to : {a n t : ℕ} → n * 3 + 1 ≡ t → a < n → a * 3 + 2 < t
falls-to e h = omega arith

inside-falls-to : {a n t : ℕ} → n * 3 ≡ t → a < n → a * 3 + 2 < t
inside-falls-to e h = omega arith

falls-inside : {t : ℕ} (n : ℕ) → n * 3 + 1 ≡ t → n * 3 < t
falls-inside n e = omega arith

-- ---- A, then B
pub emit_then-emit_statement-requires : goal.emit_then-emit_statement-requires
emit_then-emit_statement-requires t c =
    let a = c.args in
    let q = c.requires in
    let l = sequence-read a.table.now a.n q.0 q.1.0 c.child_a-a.ensures c.child_b-b.ensures in
    (falls-to c.decreases l.0, (l.2, room-a a.out.now l.4 q.1.1))

pub emit_then-emit_statement-requires-2 : goal.emit_then-emit_statement-requires-2
emit_then-emit_statement-requires-2 t c =
    let a = c.args in
    let q = c.requires in
    let l = sequence-read a.table.now a.n q.0 q.1.0 c.child_a-a.ensures c.child_b-b.ensures in
    (falls-to c.decreases l.1, (l.3, room-b a.out.now l.4 q.1.1 c.emit_statement.ensures))

pub emit_then-sequence-requires : goal.emit_then-sequence-requires
emit_then-sequence-requires t c =
    let a = c.args in
    let q = c.requires in
    let l = sequence-read a.table.now a.n q.0 q.1.0 c.child_a-a.ensures c.child_b-b.ensures in
    record {
      fact_1 = number_small a.table.now a.n q.0;
      fact_2 = room-own a.out.now l.4 q.1.1 c.emit_statement.ensures c.emit_statement-2.ensures (emitted-none _);
    }

pub emit_then-returns : goal.emit_then-returns
emit_then-returns t c =
    let a = c.args in
    let q = c.requires in
    let T = a.table.now in
    let l = sequence-read T a.n q.0 q.1.0 c.child_a-a.ensures c.child_b-b.ensures in
    emitted-as l.4
    (emitted-sequence a.n (statement-has T _ l.2) (statement-has T _ l.3) c.emit_statement.ensures
    c.emit_statement-2.ensures (subst (Room a.out.now) l.4 q.1.1) c.sequence.ensures)

-- ---- B or C
pub emit_branch-copy-condition-requires : goal.emit_branch-copy-condition-requires
emit_branch-copy-condition-requires t c =
    let a = c.args in
    let q = c.requires in
    let l = branch_read a.table.now a.n q.0 q.1.0 c.child_a-a.ensures c.child_b-b.ensures c.child_c-c.ensures in
    (inr l.2, room-a a.out.now l.5 q.1.1)

pub emit_branch-emit_statement-requires : goal.emit_branch-emit_statement-requires
emit_branch-emit_statement-requires t c =
    let a = c.args in
    let q = c.requires in
    let l = branch_read a.table.now a.n q.0 q.1.0 c.child_a-a.ensures c.child_b-b.ensures c.child_c-c.ensures in
    (falls-to c.decreases l.0, (l.3, room-b a.out.now l.5 q.1.1 c.copy-condition.ensures.emitted))

pub emit_branch-emit_statement-requires-2 : goal.emit_branch-emit_statement-requires-2
emit_branch-emit_statement-requires-2 t c =
    let a = c.args in
    let q = c.requires in
    let l = branch_read a.table.now a.n q.0 q.1.0 c.child_a-a.ensures c.child_b-b.ensures c.child_c-c.ensures in
    let room = room-c a.out.now l.5 q.1.1 c.copy-condition.ensures.emitted c.emit_statement.ensures in
    (falls-to c.decreases l.1, (l.4, room))

pub emit_branch-statement_record-requires : goal.emit_branch-statement_record-requires
emit_branch-statement_record-requires t c = number_small c.args.table.now c.args.n c.requires.0

pub emit_branch-push-requires : goal.emit_branch-push-requires
emit_branch-push-requires t c =
    let a = c.args in
    let q = c.requires in
    let l = branch_read a.table.now a.n q.0 q.1.0 c.child_a-a.ensures c.child_b-b.ensures c.child_c-c.ensures in
    room-own a.out.now l.5 q.1.1 c.copy-condition.ensures.emitted c.emit_statement.ensures c.emit_statement-2.ensures

pub emit_branch-returns : goal.emit_branch-returns
emit_branch-returns t c =
    let a = c.args in
    let q = c.requires in
    let T = a.table.now in
    let x = c.copy-condition.ensures in
    let y = c.emit_statement.ensures in
    let z = c.emit_statement-2.ensures in
    let l = branch_read T a.n q.0 q.1.0 c.child_a-a.ensures c.child_b-b.ensures c.child_c-c.ensures in
    emitted-as l.5
    (emitted-node 45 0 (pos a.n) 0 x.emitted y z (subst (Room a.out.now) l.5 q.1.1) x.root
    (root-some (statement-has T _ l.3) y) (field-some 0 (statement-has T _ l.4) z)
    (rw (c.statement_record.ensures, number-literal a.n (number_small T a.n q.0)) at c.push.ensures))

-- ---- B again and again
pub emit_repeat-copy-condition-requires : goal.emit_repeat-copy-condition-requires
emit_repeat-copy-condition-requires t c =
    let a = c.args in
    let q = c.requires in
    let l = while-read a.table.now a.n q.0 q.1.0 c.child_a-a.ensures c.child_b-b.ensures in
    (inr l.1, room-a a.out.now l.3 q.1.1)

pub emit_repeat-emit_statement-requires : goal.emit_repeat-emit_statement-requires
emit_repeat-emit_statement-requires t c =
    let a = c.args in
    let q = c.requires in
    let l = while-read a.table.now a.n q.0 q.1.0 c.child_a-a.ensures c.child_b-b.ensures in
    (falls-to c.decreases l.0, (l.2, room-b a.out.now l.3 q.1.1 c.copy-condition.ensures.emitted))

pub emit_repeat-statement_record-requires : goal.emit_repeat-statement_record-requires
emit_repeat-statement_record-requires t c = number_small c.args.table.now c.args.n c.requires.0

pub emit_repeat-push-requires : goal.emit_repeat-push-requires
emit_repeat-push-requires t c =
    let a = c.args in
    let q = c.requires in
    let l = while-read a.table.now a.n q.0 q.1.0 c.child_a-a.ensures c.child_b-b.ensures in
    room-own a.out.now l.3 q.1.1 c.copy-condition.ensures.emitted c.emit_statement.ensures (emitted-none _)

pub emit_repeat-returns : goal.emit_repeat-returns
emit_repeat-returns t c =
    let a = c.args in
    let q = c.requires in
    let T = a.table.now in
    let x = c.copy-condition.ensures in
    let y = c.emit_statement.ensures in
    let l = while-read T a.n q.0 q.1.0 c.child_a-a.ensures c.child_b-b.ensures in
    emitted-as l.3
    (emitted-node 46 0 (pos a.n) 0 x.emitted y (emitted-none _) (subst (Room a.out.now) l.3 q.1.1) x.root
    (root-some (statement-has T _ l.2) y) refl
    (rw (c.statement_record.ensures, number-literal a.n (number_small T a.n q.0)) at c.push.ensures))

-- ---- a let
pub emit_let-emit_opening-requires : goal.emit_let-emit_opening-requires
emit_let-emit_opening-requires t c =
    let q = c.requires in
    let room = q.1.1 in
    let size = ap tree_size (let-read c.args.table.now c.args.n q.0 q.1.0 c.mark-variable.ensures) in
    record { fact_1 = number_small c.args.table.now c.args.n q.0; fact_2 = omega arith }

pub emit_let-emit_inside-requires : goal.emit_let-emit_inside-requires
emit_let-emit_inside-requires t c =
    let a = c.args in
    let q = c.requires in
    let room = subst (Room a.out.now) (let-read a.table.now a.n q.0 q.1.0 c.mark-variable.ensures) q.1.1 in
    (falls-inside a.n c.decreases, (q.0, (q.1.0, inside-room a.table.now a.n _ room c.emit_opening.ensures)))

pub emit_let-emit_enclosing-requires : goal.emit_let-emit_enclosing-requires
emit_let-emit_enclosing-requires t c =
    let a = c.args in
    let q = c.requires in
    let room = subst (Room a.out.now) (let-read a.table.now a.n q.0 q.1.0 c.mark-variable.ensures) q.1.1 in
    let r = enclosing-room a.table.now a.n _ room c.emit_opening.ensures c.emit_inside.ensures in
    record { fact_1 = number_small a.table.now a.n q.0; fact_2 = r.0; fact_3 = r.1 }

pub emit_let-returns : goal.emit_let-returns
emit_let-returns t c =
    let a = c.args in
    let q = c.requires in
    let l = let-read a.table.now a.n q.0 q.1.0 c.mark-variable.ensures in
    let room = subst (Room a.out.now) l q.1.1 in
    emitted-as l
    (let-done a.table.now a.n _ room c.emit_opening.ensures c.emit_inside.ensures c.emit_enclosing.ensures)

-- ---- the inside of a let
pub emit_inside-emit_statement-requires : goal.emit_inside-emit_statement-requires
emit_inside-emit_statement-requires t c =
    let a = c.args in
    let q = c.requires in
    let l = inside-read a.table.now a.n q.0 a.variable q.1.0 c.child_a-a.ensures in
    (inside-falls-to c.decreases l.0, (l.1, room-a a.out.now l.2 q.1.1))

pub emit_inside-emit_ending-requires : goal.emit_inside-emit_ending-requires
emit_inside-emit_ending-requires t c =
    let a = c.args in
    let q = c.requires in
    let l = inside-read a.table.now a.n q.0 a.variable q.1.0 c.child_a-a.ensures in
    record {
      fact_1 = number_small a.table.now a.n q.0;
      fact_2 = room-b a.out.now l.2 q.1.1 c.emit_statement.ensures;
    }

pub emit_inside-sequence-requires : goal.emit_inside-sequence-requires
emit_inside-sequence-requires t c =
    let a = c.args in
    let q = c.requires in
    let l = inside-read a.table.now a.n q.0 a.variable q.1.0 c.child_a-a.ensures in
    record {
      fact_1 = number_small a.table.now a.n q.0;
      fact_2 = room-own a.out.now l.2 q.1.1 c.emit_statement.ensures c.emit_ending.ensures (emitted-none _);
    }

pub emit_inside-returns : goal.emit_inside-returns
emit_inside-returns t c =
    let a = c.args in
    let q = c.requires in
    let l = inside-read a.table.now a.n q.0 a.variable q.1.0 c.child_a-a.ensures in
    emitted-as l.2
    (emitted-sequence a.n (statement-has a.table.now _ l.1) some c.emit_statement.ensures c.emit_ending.ensures
    (subst (Room a.out.now) l.2 q.1.1) c.sequence.ensures)
