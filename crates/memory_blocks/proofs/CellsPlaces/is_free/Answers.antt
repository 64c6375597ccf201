use Rattle.memory_cells.proofs.Reading.{free-byte}
use Rattle.memory_blocks.proofs.CellsPlaces.is_free.Goals as goal

pub returns : goal.returns
returns c = free-byte c.args.self.now.0.now c.args.place c.requires
