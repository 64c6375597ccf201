-- The fields of the record are those of its statement.
use Rattle.std.proofs.Common.{◌≡◌, arith}
use Rattle.rules.specs.Kinds.{target}
use Rattle.rules.specs.Records.{kind_of}
use Rattle.rules.proofs.Runs.StatementArms.{statement-within}
use Rattle.rules.proofs.Runs.TargetFields.{store-block-fields, delete-block-fields}
use Rattle.watched_noting.proofs.CallLaws.{note-last}
use Rattle.watched_noting.proofs.note_block.Goals as goal

pub kind-kind-requires : goal.kind-kind-requires
kind-kind-requires c = statement-within target c.args.table.now c.args.n c.requires.0

pub mark-first-requires : goal.mark-first-requires
mark-first-requires c = statement-within target c.args.table.now c.args.n c.requires.0

pub record_block-requires : goal.record_block-requires
record_block-requires c =
    let e = c.kind-kind.ensures in
    let q : kind_of c.args.table.now c.args.n ≡ 68 = omega arith in (
      omega (arith, c.mark-first.ensures, store-block-fields c.args.table.now c.args.n c.requires.0 q),
      c.requires.2,
    )

pub delete_block-requires : goal.delete_block-requires
delete_block-requires c =
    let e = c.kind-kind.ensures in
    let q = note-last c.requires.1 (λ k. omega arith) in (
      omega (arith, c.mark-first.ensures, delete-block-fields c.args.table.now c.args.n c.requires.0 q),
      c.requires.2,
    )
