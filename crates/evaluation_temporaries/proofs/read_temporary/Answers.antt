use Rattle.std.proofs.Common.{◌∙◌, w64, arith}
use mir.Facts.{to_z-of_z}
use Rattle.evaluation_temporaries.proofs.Reading.{empty-held, undefined-held, integer-held, pointer-held}
use Rattle.evaluation_temporaries.proofs.read_temporary.Goals as goal

pub returns-in-0 : goal.returns-in-0
returns-in-0 c = empty-held c.args.temporaries.now c.args.n c.requires c.in-0.is

pub returns-in-1 : goal.returns-in-1
returns-in-1 c = undefined-held c.args.temporaries.now c.args.n c.requires c.in-1.is

pub returns-in-2 : goal.returns-in-2
returns-in-2 c =
    let f = to_z-of_z {w = w64} {z = c.read_i64.result} (record { sfits = c.read_i64.type_inv }) in
    integer-held c.args.temporaries.now c.args.n c.requires c.in-2.is (f ∙ c.read_i64.ensures)

pub returns-in_default : goal.returns-in_default
returns-in_default c =
    let r = c.read_i64-offset in
    let f = to_z-of_z {w = w64} {z = r.result} (record { sfits = r.type_inv }) in
    pointer-held c.args.temporaries.now c.args.n c.requires (λ e. omega arith) (λ e. omega arith) (λ e. omega arith)
    c.read_word-name.ensures.value (f ∙ r.ensures)
