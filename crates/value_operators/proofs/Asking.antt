-- An operator asks about the blocks that were found, and then gives what it gives where every block is live.
use mathlib.Core.Bool.{Bool, cond}
use mathlib.Core.Path.{◌≡◌, sym, ap, ◌∙◌}
use Rattle.std.specs.Prelude.{Err}
use Rattle.rules.specs.declared.{Value.Value, Stop.Stop}
use Rattle.rules.specs.Trees.{Operator}
use Rattle.rules.specs.Numbers.{Liveness, operate}
use Rattle.rules_endings.specs.ComparedBlocks.{Compared, compared_by, are_live, every_live}
use Rattle.rules_endings.proofs.AskedBlocks.{asks-first}

pub asked : (live : Liveness) (o : Operator) (x y : Value) {p : Operator} {c : Compared} {b : Bool}
    → p ≡ o → c ≡ compared_by p x y → b ≡ are_live live c
    → operate live o x y ≡ cond b (operate every_live o x y) (Err Stop.NotLive)
asked live o x y d e g =
    asks-first o live x y
    ∙ ap (λ (b : Bool). cond b (operate every_live o x y) (Err Stop.NotLive))
    (sym (g ∙ ap (are_live live) (e ∙ ap (λ (p : Operator). compared_by p x y) d)))
