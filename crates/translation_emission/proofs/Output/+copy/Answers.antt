-- The copies of A and of B stand one behind the other, the record behind them.
use Rattle.std.proofs.Common.{arith, rules}
use mir.Syntax.{w64}
use mir.Facts.{to_z-of_z}
use Rattle.translation_emission.proofs.Parts.{copy-none, copy-a, copy-b, copy-own, copy_done}
use Rattle.translation_emission.proofs.Output.+copy.Goals as goal

pub returns-then-n-eq0 : goal.returns-then-n-eq0
returns-then-n-eq0 t c =
    let r = copy-none c.args.table.now c.args.n c.args.self.now c.if-n-eq0.true in
    record { emitted = r.0; root = r.1 }

pub copy-a-requires : goal.copy-a-requires
copy-a-requires t c =
    let a = c.args in
    let r = copy-a a.table.now a.n a.self.now c.requires c.if-n-eq0.false c.record-source.ensures in
    (omega arith, r.1)

pub copy-b-requires : goal.copy-b-requires
copy-b-requires t c =
    let a = c.args in
    let r = copy-b a.table.now a.n a.self.now c.requires c.if-n-eq0.false c.record-source.ensures
    c.copy-a.ensures.emitted in
    (omega arith, r.1)

pub push-requires : goal.push-requires
push-requires t c =
    let a = c.args in
    copy-own a.table.now a.n a.self.now c.requires c.if-n-eq0.false c.record-source.ensures c.copy-a.ensures.emitted
    c.copy-b.ensures.emitted

pub returns : goal.returns
returns t c =
    let a = c.args in
    let x = c.copy-a.ensures in
    let y = c.copy-b.ensures in
    let r = copy_done a.table.now a.n a.self.now c.requires c.if-n-eq0.false c.record-source.ensures x.emitted y.emitted
    x.root y.root (rw (to_z-of_z {w = w64} {z = c.record-source.result.literal} (search rules)) at c.push.ensures) in
    record { emitted = r.0; root = r.1 }
