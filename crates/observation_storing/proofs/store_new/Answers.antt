use Rattle.std.proofs.Common.{sym, ap, ◌∙◌}
use Rattle.rules.specs.Layout.{observation_of}
use Rattle.rules.specs.Observation.{store_at}
use Rattle.rules.specs.declared.{Recorded.Recorded}
use Rattle.rules.proofs.Memory.MarkOwners.{owned-is, store-owned}
use Rattle.observation_answers.proofs.ArmLaws.{answers-noted}
use Rattle.observation_storing.proofs.StoreLaws.{becomes-stored}
use Rattle.observation_storing.proofs.store_new.Goals as goal

pub returns-clause-answer : goal.returns-clause-answer
returns-clause-answer c =
    let a = c.args in
    let o = observation_of a.obs.now in
    let run = sym c.find_marks-found.ensures ∙ c.in_ok-first.ensures.ok_part in
    answers-noted a.obs.now _ (ap (store_at o a.name a.n Recorded.Unused) run)
    (becomes-stored a.name _ a.n c.requires.0.orderly run c.place_block.ensures)

pub returns-clause-owners : goal.returns-clause-owners
returns-clause-owners c =
    let a = c.args in
    let run = sym c.find_marks-found.ensures ∙ c.in_ok-first.ensures.ok_part in
    let stored = becomes-stored a.name _ a.n c.requires.0.orderly run c.place_block.ensures in
    owned-is stored.view c.take.ensures.owners
    (store-owned c.requires.0 a.name _ a.n c.take.ensures.marks c.requires.1 run)
