use Rattle.std.proofs.Common.{refl, rules, arith}
use Rattle.rules.specs.Layout.{recorded_bytes}
use Rattle.observation_blocks.proofs.BecomesLaws.{becomes-written}
use Rattle.observation_blocks.proofs.write_record.Goals as goal

pub returns-in-Unused : goal.returns-in-Unused
unfolding recorded_bytes
returns-in-Unused c =
    becomes-written c.args.name 0 0 0 (search rules) c.requires (omega arith, omega arith) c.in-Unused.is refl
    c.write_record.ensures

pub returns-in-Live : goal.returns-in-Live
unfolding recorded_bytes
returns-in-Live c =
    becomes-written c.args.name 1 _ _ (search rules) c.requires (omega arith, omega arith) c.in-Live.is refl
    c.write_record-in-Live.ensures

pub returns-in-Dead : goal.returns-in-Dead
unfolding recorded_bytes
returns-in-Dead c =
    becomes-written c.args.name 2 0 0 (search rules) c.requires (omega arith, omega arith) c.in-Dead.is refl
    c.write_record-in-Dead.ensures
