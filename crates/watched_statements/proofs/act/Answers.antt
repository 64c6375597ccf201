-- Each kind's statement does what its function answered.
use Rattle.std.proofs.Common.{◌<◌, ◌≤◌, ◌⊎◌, ◌≡◌, inl, inr, refl, sym, ◌∙◌, arith, rules}
use Rattle.rules.specs.Records.{kind_of, mark_of, child_a, child_b}
use Rattle.rules.specs.Watched.{held_in}
use Rattle.rules.proofs.Runs.TargetArms.{watch-skip, watch-assign, watch-new, watch-free, watch-address, watch-value}
use Rattle.rules.proofs.Runs.TargetArms.{watch-initialise, watch-assert-on}
use Rattle.rules.proofs.Memory.MarkOwners.{owned-is, initialise-owned}
use Rattle.evaluation_temporaries.specs.Bytes.{temporaries_of}
use Rattle.run_children.specs.Children.{found_in, value_in}
use Rattle.run_changes.proofs.CountedChanges.{counted-assigned}
use Rattle.watched_noting.specs.Calls.{IsNote}
use Rattle.watched_statements.proofs.Laws.{ran-is, ran-finished}
use Rattle.watched_statements.proofs.ActLaws.{watch-take, watch-note, take-between, last-act, acts-change}
use Rattle.watched_statements.proofs.ActLaws.{acts-taken, acts-observed, acts-asserted}
use Rattle.watched_statements.proofs.ReadyLaws.{ready-within}
use Rattle.watched_statements.proofs.act.Goals as goal
use Rattle.watched_statements.proofs.act.Goals.{In_default}
use Rattle.watched_statements.proofs.act.Goals.{in_default-via-then-this-lt63}
use Rattle.watched_statements.proofs.act.Goals.{in_default-via-else-this-lt63+else-this-lt66}

pub kind-requires : goal.kind-requires
kind-requires c = ready-within c.requires.0

-- the last of the kinds are what is left
noted : (c : In_default) → IsNote (kind_of c.args.table.now c.args.n)
noted c =
    let T = c.args.table.now in
    let e = c.kind.ensures in
    let out : (kind_of T c.args.n < 63) ⊎ (66 ≤ kind_of T c.args.n) =
    elim c.in_default.branch [
      | in_default-via-then-this-lt63 w ↦ inl (omega arith)
      | in_default-via-else-this-lt63+else-this-lt66 w ↦ inr (omega arith)
    ]
    in
    last-act {X = T ≡ T} T c.args.n c.requires.0.is c.requires.1 refl (search rules) out

pub note_block-requires : goal.note_block-requires
note_block-requires c = (c.requires.0.is, noted (goal.at.note_block-requires c).In_default, c.requires.2.owned)

pub returns-in-40-clause-outcome : goal.returns-in-40-clause-outcome
returns-in-40-clause-outcome c =
    let q = sym c.kind.ensures ∙ c.in-40.is in
    λ f. ran-is (watch-skip _ _ c.requires.0.is _ _ f q) (ran-finished _ f)

pub returns-in-41-clause-outcome : goal.returns-in-41-clause-outcome
returns-in-41-clause-outcome c =
    let q = sym c.kind.ensures ∙ c.in-41.is in
    acts-change c.requires.0 _ _ c.assign.ensures (λ f. watch-assign _ _ c.requires.0.is _ _ f q)

pub returns-in-41-clause-beside : goal.returns-in-41-clause-beside
returns-in-41-clause-beside c =
    let T = c.args.table.now in
    let n = c.args.n in
    let l = c.args.mem.now in
    let τ = c.args.temporaries.now in
    record {
      counted =
          counted-assigned c.requires.2.counted (found_in T (child_a T n) c.args.variables.now τ l)
          (value_in T (child_b T n) c.args.variables.now τ l) c.assign.ensures.memory;
      owned = c.requires.2.owned;
    }

pub returns-in-42-clause-outcome : goal.returns-in-42-clause-outcome
returns-in-42-clause-outcome c =
    let q = sym c.kind.ensures ∙ c.in-42.is in
    acts-change c.requires.0 _ _ c.allocate.ensures.change (λ f. watch-new _ _ c.requires.0.is _ _ f q)

pub returns-in-43-clause-outcome : goal.returns-in-43-clause-outcome
returns-in-43-clause-outcome c =
    let q = sym c.kind.ensures ∙ c.in-43.is in
    acts-change c.requires.0 _ _ c.release.ensures.change (λ f. watch-free _ _ c.requires.0.is _ _ f q)

pub returns-in-60-clause-outcome : goal.returns-in-60-clause-outcome
returns-in-60-clause-outcome c =
    let q = sym c.kind.ensures ∙ c.in-60.is in
    acts-taken c.requires.0 _ _ _ c.take_address.ensures (λ f. watch-address _ _ c.requires.0.is _ _ f q)

pub returns-in-61-clause-outcome : goal.returns-in-61-clause-outcome
returns-in-61-clause-outcome c =
    let q = sym c.kind.ensures ∙ c.in-61.is in
    acts-taken c.requires.0 _ _ _ c.take_value.ensures (λ f. watch-value _ _ c.requires.0.is _ _ f q)

pub returns-in-67-clause-outcome : goal.returns-in-67-clause-outcome
returns-in-67-clause-outcome c =
    let q = sym c.kind.ensures ∙ c.in-67.is in
    acts-asserted c.requires.0 _ _ c.assert.ensures (λ f. watch-assert-on _ _ c.requires.0.is _ _ f q)

pub returns-in-70-clause-outcome : goal.returns-in-70-clause-outcome
returns-in-70-clause-outcome c =
    let q = sym c.kind.ensures ∙ c.in-70.is in
    acts-observed c.requires.0 _ _ c.mark_cell.ensures (λ f. watch-initialise _ _ c.requires.0.is _ _ f q)

pub returns-in-70-clause-beside : goal.returns-in-70-clause-beside
returns-in-70-clause-beside c = record {
  counted = c.requires.2.counted;
  owned =
      owned-is c.mark_cell.ensures.memory.view refl
      (initialise-owned c.requires.2.owned
      (held_in (temporaries_of c.args.temporaries.now) (mark_of c.args.table.now c.args.n)));
}

pub returns-in-63-to-65-clause-outcome : goal.returns-in-63-to-65-clause-outcome
returns-in-63-to-65-clause-outcome c =
    let e = c.kind.ensures in
    let q = take-between (kind_of c.args.table.now c.args.n) (omega arith) (omega arith) in
    acts-taken c.requires.0 _ _ _ c.take.ensures (λ f. watch-take _ _ c.requires.0.is _ _ f q)

pub returns-in_default-clause-outcome : goal.returns-in_default-clause-outcome
returns-in_default-clause-outcome c =
    let q = noted (goal.at.returns-in_default-clause-outcome c).In_default in
    acts-observed c.requires.0 _ _ c.note_block.ensures.observation (λ f. watch-note _ _ c.requires.0.is _ _ f q)
