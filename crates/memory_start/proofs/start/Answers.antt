use Rattle.std.proofs.Common.{◌-◌, ◌/◌, ◌≤◌, refl, length, arith}
use Rattle.rules.specs.Sizes.{cell_count}
use Rattle.memory_start.proofs.Starting.{start-bytes}
use Rattle.memory_start.proofs.start.Goals as goal

pub returns : goal.returns
returns c =
    let i = c.args.inputs.now in
    let n : length i / 8 ≤ cell_count - 1 = omega (arith, c.requires) in
    start-bytes _ _ _ i (length i / 8) refl n c.clear.ensures c.put_start.ensures c.put_inputs.ensures
