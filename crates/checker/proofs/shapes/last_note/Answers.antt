-- The last record's shape is its sort, which its kind's number gives.
use Rattle.std.proofs.Common.{◌≡◌, ℕ, Bool, true, false, not, cond, eqb, refl, sym, ap, ◌∙◌, arith}
use mir.Val.{bool_byte}
use Rattle.rules.specs.Records.{record_count}
use Rattle.rules.specs.Kinds.{statement, sort_number}
use Rattle.checker_forms.specs.Forms.{sort_by}
use Rattle.checker_forms.proofs.KeptLaws.{kept-sort, same-sort}
use Rattle.checker.proofs.DescentLaws.{no-fault}
use Rattle.checker.proofs.ShapeLaws.{shape-last}
use Rattle.checker.proofs.shapes.last_note.Goals as goal

odd-if : (b : Bool) → bool_byte b ≡ cond (not b) 0 1
odd-if true = refl
odd-if false = refl

pub returns : goal.returns
returns c =
    let a = c.args in
    let l = a.language in
    let t = a.table.now in
    let n = record_count t in
    let keeps = no-fault l t c.requires n c.requires.sized.some (omega arith) in
    let sort = ap sort_number (c.sort_of.ensures ∙ ap sort_by c.kind.ensures) ∙ sym (kept-sort l t n keeps) in
    c.from.ensures ∙ odd-if c.eq.result
    ∙ ap (λ (b : Bool). cond {A = ℕ} (not b) 0 1)
    (c.eq.ensures ∙ same-sort c.sort_of.result statement ∙ ap (λ (k : ℕ). eqb k 5) sort)
    ∙ ap (λ (b : Bool). cond {A = ℕ} b 0 1) (shape-last l t n _ refl refl)
