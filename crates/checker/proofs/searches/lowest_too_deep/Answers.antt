-- The level of record n is known, being below 2048; it is given to the record's children.
use Rattle.rules.specs.Kinds.{source}
use Rattle.std.proofs.Common.{ℕ, ◌<◌, List, get_or, ap, ◌∙◌, arith}
use Rattle.rules.specs.Records.{record_count}
use Rattle.rules.specs.Checker.{level_fault}
use Rattle.checker.specs.Scopes.{too_deep, child_level, Kept}
use Rattle.rules.proofs.Acceptance.ParentLaws.{Passed}
use Rattle.checker.proofs.DescentLaws.{passed-of, known-here, known-down, fresh-down}
use Rattle.checker.proofs.RightLaws.{Levelled, level-most, levelled-child, levelled-fault}
use Rattle.checker.proofs.Starts.{levels-start, fresh_start}
use Rattle.checker.proofs.Lowest.{lowest_start, lowest-down}
use Rattle.checker.proofs.searches.lowest_too_deep.Goals as goal

low-level : (t : List ℕ) (n v : ℕ) → Kept source t → Levelled t n v → v < 2048
low-level t n v kept h = omega (arith, level-most t (record_count t) n, kept.formed.sized.few)

pub loop-n-init : goal.loop-n-init
loop-n-init c =
    let t = c.args.table.now in
    record {
      in_table = omega arith;
      known = levels-start t c.requires 257 (omega (arith, c.requires.formed.sized.few));
      lowest = lowest_start (level_fault t) (record_count t);
      fresh = fresh_start source t (record_count t) 257;
    }

pub is_too_deep-requires : goal.is_too_deep-requires
is_too_deep-requires c =
    let t = c.args.table.now in
    let e = c.loop-n in
    let i = e.invariant in
    let passed : Passed source t = passed-of source t c.requires in
    let level = get_or e.levels e.n 0 in
    let here : Levelled t e.n level =
    known-here (Levelled t) source t passed e.n e.levels c.loop-n-test.true i.in_table i.known in
    low-level t e.n level c.requires here

pub pass_level-requires : goal.pass_level-requires
pass_level-requires c =
    let t = c.args.table.now in
    let e = c.loop-n in
    let i = e.invariant in
    let taken : 0 < e.n = c.loop-n-test.true in
    let passed : Passed source t = passed-of source t c.requires in
    let level = get_or e.levels e.n 0 in
    let here : Levelled t e.n level = known-here (Levelled t) source t passed e.n e.levels taken i.in_table i.known in (
      (taken, i.in_table),
      c.requires,
      i.known.size,
      low-level t e.n level c.requires here,
      λ j p. i.fresh e.n j (record { in_table = (taken, i.in_table); has-child = p }) (omega arith),
    )

pub loop-n-preserved : goal.loop-n-preserved
loop-n-preserved c =
    let t = c.args.table.now in
    let e = c.loop-n in
    let i = e.invariant in
    let taken : 0 < e.n = c.loop-n-test.true in
    let passed : Passed source t = passed-of source t c.requires in
    let level = get_or e.levels e.n 0 in
    let here : Levelled t e.n level = known-here (Levelled t) source t passed e.n e.levels taken i.in_table i.known in
    let given = c.pass_level in
    record {
      in_table = omega arith;
      known =
          known-down (Levelled t) source t passed e.n (child_level t e.n level) e.levels given.new.levels taken
          i.in_table given.ensures (λ j p. levelled-child t passed e.n j level p here) i.known;
      lowest =
          lowest-down (level_fault t) (record_count t) e.n e.found c.lower-found.result c.is_too_deep.result taken
          i.in_table
          (c.is_too_deep.ensures ∙ ap (λ (k : ℕ). too_deep k level) c.kind.ensures ∙ levelled-fault t e.n level here)
          c.lower-found.ensures i.lowest;
      fresh =
          fresh-down source t passed e.n (child_level t e.n level) e.levels given.new.levels taken i.in_table
          i.known.size given.ensures i.fresh;
    }
