-- Bit 0 is set, and below a let the bit of its variable.
use Rattle.std.proofs.Common.{◌||◌, eqb, ◌∙◌}
use Rattle.checker.specs.Scopes.{bit}
use Rattle.checker.proofs.BitLaws.{low-odd, low_same, with-odd, below-let, below_other}
use Rattle.checker.proofs.scopes.scope_below.Goals as goal

pub returns-then-kind-eq47 : goal.returns-then-kind-eq47
returns-then-kind-eq47 c =
    let a = c.args in
    let odd = c.with_bit-odd in
    let below = c.with_bit in (
      with-odd c.from.result odd.result below.result below.ensures (low-odd a.scope odd.result odd.ensures),
      λ h y. below.ensures y
          ∙ (λ i. eqb (c.from.ensures i) y || low_same a.scope odd.result odd.ensures h y i)
          ∙ below-let a.kind a.mark y (bit a.scope y) c.if-kind-eq47.true,
    )

pub returns-else-kind-eq47 : goal.returns-else-kind-eq47
returns-else-kind-eq47 c =
    let a = c.args in
    let odd = c.with_bit-odd in (
      low-odd a.scope odd.result odd.ensures,
      λ h y. low_same a.scope odd.result odd.ensures h y
          ∙ below_other a.kind a.mark y (bit a.scope y) c.if-kind-eq47.false,
    )
