-- Marks without an owner; and of a mark that has one, its owner's name and the end of its block.
use Prim.Native.Nat.{ℕ, ◌+◌, ◌-◌, ◌≤◌, ◌<◌}
use native.Mathlib.Omega.{arith}
use mathlib.Core.Path.{◌≡◌, sym, ap, ◌∙◌}
use mathlib.Core.Bool.{Bool, true, false, true≢false}
use mathlib.Core.List.{List}
use lib.Dec.{eqb}
use lib.ListN.{get_or}
use Rattle.rules.specs.Sizes.{name_count, cell_count}
use Rattle.rules.specs.Words.{word_at}
use Rattle.rules.specs.Observation.{record_of, covers}
use Rattle.rules.specs.Layout.{block_place, recorded_at, observation_of}
use Rattle.rules.specs.declared.{MarkOwners.MarkOwners, Recorded.Recorded}
use Rattle.rules.proofs.Lists.RunLaws.{Held}
use Rattle.rules.proofs.Memory.MemoryLaws.{named_in}
use Rattle.rules.proofs.Memory.BlockEnds.{record-covers}
use Rattle.rules.proofs.Memory.MarkOwners.{MarksOwned, owner-covers, owner-held}
use Rattle.observation_records.proofs.ObservationLaws.{record-count, record-of-name}
use Rattle.block_places.specs.Ends.{end_at}

abbrev pub unowned : MarkOwners → ℕ → Bool
unowned owners i = eqb (get_or owners.names i 0) 0

module _ (l : List ℕ) (owners : MarkOwners) (i : ℕ) (h : MarksOwned (observation_of l) owners) (b : i < cell_count)
    (f : unowned owners i ≡ false) where
  abbrev owner : ℕ
  owner = get_or owners.names i 0

  has : covers (record_of (observation_of l) owner) i ≡ true
  has = owner-covers h i b (λ q. true≢false (sym (ap (λ (x : ℕ). eqb x 0) q) ∙ f))

  pub owner-named : (1 ≤ owner) × (owner ≤ name_count)
  owner-named =
      let r = named_in (observation_of l).blocks owner Recorded.Dead
      (λ q. true≢false (sym has ∙ ap (λ x. covers x i) q)) in
      (r.0, omega (arith, r.1, record-count l))

  -- every mark from there to the end of that block has an owner
  pub owner-end : Held (unowned owners) i (end_at l owner)
  unfolding recorded_at
  owner-end = owner-held h owner i first n live (ap (λ x. covers x i) (sym live) ∙ has)
    where
      first : ℕ
      first = word_at 2 l (block_place (owner - 1) + 2)

      n : ℕ
      n = word_at 2 l (block_place (owner - 1) + 4)

      is : recorded_at l (owner - 1) ≡ record_of (observation_of l) owner
      is = record-of-name l owner (omega (arith, owner-named.0)) owner-named.1

      live : record_of (observation_of l) owner ≡ Recorded.Live first n
      live =
          sym is
          ∙ record-covers first n i (get_or l (block_place (owner - 1)) 0) (ap (λ x. covers x i) is ∙ has)
