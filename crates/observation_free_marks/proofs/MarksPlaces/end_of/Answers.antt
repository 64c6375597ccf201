use Rattle.std.proofs.Common.{sym, subst, arith, ◌∙◌, ap}
use Rattle.rules.proofs.Lists.RunLaws.{Held}
use Rattle.observation_free_marks.proofs.OwnerEnds.{unowned, owner-named, owner-end}
use Rattle.block_places.specs.Ends.{end_at}
use Rattle.observation_free_marks.proofs.MarksPlaces.end_of.Goals as goal

pub end-requires : goal.end-requires
end-requires c =
    let marks = c.args.self.now in
    let h = c.requires in
    let n = owner-named marks.obs.now marks.owners.now c.args.mark h.0 h.1 h.2 in
    (omega (arith, n.0, c.from.ensures), rw c.from.ensures (omega (arith, n.1)))

pub returns : goal.returns
returns c =
    let marks = c.args.self.now in
    let h = c.requires in
    subst (Held (unowned marks.owners.now) c.args.mark)
    (sym (c.end.ensures ∙ ap (end_at marks.obs.now) c.from.ensures))
    (owner-end marks.obs.now marks.owners.now c.args.mark h.0 h.1 h.2)
