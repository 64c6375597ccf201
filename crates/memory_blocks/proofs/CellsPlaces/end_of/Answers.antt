use Rattle.std.proofs.Common.{◌≤◌, ◌∙◌, sym, ap, subst, arith}
use Rattle.rules.specs.Sizes.{name_count}
use Rattle.rules.specs.Memory.{is_free, cell_of}
use Rattle.rules.specs.Layout.{memory_of}
use Rattle.rules.proofs.Lists.RunLaws.{Held}
use Rattle.block_places.specs.Ends.{end_at}
use Rattle.memory_blocks.proofs.Runs.{owner-named, owner-end}
use Rattle.memory_blocks.proofs.CellsPlaces.end_of.Goals as goal

pub end-requires : goal.end-requires
end-requires c =
    let r = c.read_word-owner in
    let n : (1 ≤ r.result) × (r.result ≤ name_count) =
    rw r.ensures.value (owner-named c.args.self.now.0.now c.args.place c.requires.0 c.requires.1 c.requires.2) in
    (omega (arith, n.0), omega (arith, n.1))

pub returns : goal.returns
returns c =
    let l = c.args.self.now.0.now in
    subst (Held (λ j. is_free (cell_of (memory_of l) j)) c.args.place)
    (sym (c.end.ensures ∙ ap (end_at l) c.read_word-owner.ensures.value))
    (owner-end l c.args.place c.requires.0 c.requires.1 c.requires.2)
