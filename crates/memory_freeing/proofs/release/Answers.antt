use Rattle.memory_counts.proofs.CountLaws.{end-counted}
use Rattle.memory_freeing.proofs.Steps.{counted-freed}
use Rattle.memory_freeing.proofs.release.Goals as goal

pub give_back-requires : goal.give_back-requires
give_back-requires c = end-counted c.requires.0 c.args.k c.args.first c.args.n c.requires.1

pub returns-clause-counts : goal.returns-clause-counts
returns-clause-counts c =
    counted-freed _ _ _ c.requires.0 c.requires.1 c.fill_free.ensures c.replace_block.ensures c.give_back.ensures
