-- The records in front of a let's body, those of the body and those behind it are the let's tree.
use Prim.Native.Nat.{ℕ, ◌+◌, ◌≤◌}
use native.Mathlib.Omega.{arith}
use mathlib.Core.Path.{◌≡◌, ◌∙◌, subst}
use mathlib.Core.List.{List}
use lib.IntN.{pos}
use lib.ListN.{length}
use Rattle.rules.specs.Records.{Record, child_a}
use Rattle.rules.specs.Emission.{none, node}
use Rattle.translation_sizes.specs.Trees.{copy_at}
use Rattle.translation_emission.specs.declared.Output.{Output}
use Rattle.translation_emission.specs.Emission.{record_of, RoomFor, Room, Pushed, Emitted}
use Rattle.translation_emission.proofs.Emitting.{emitted-length, some}
use Rattle.translation_emission.proofs.Parts.{emitted-sequence, emitted-over, emitted-leaf}
use Rattle.translation.specs.Lets.{let_tree, inside_tree, Opened, Enclosed}

-- a record whose children are none
pub emitted-childless : {o o₁ : Output} {r : Record} → (r.a ≡ 0) × (r.b ≡ 0) × (r.c ≡ 0) → RoomFor o 1 → Pushed o r o₁
    → Emitted o (node r.kind r.mark r.literal 0 none none none) o₁
emitted-childless {o} {o₁} {r} h room p =
    let P : Record → Type 0 = λ x. Pushed o x o₁ in
    let same : r ≡ record_of r.kind r.mark 0 0 0 r.literal =
    λ i. record { kind = r.kind; mark = r.mark; a = h.0 i; b = h.1 i; c = h.2 i; literal = r.literal } in
    emitted-leaf r.kind r.mark r.literal 0 room (subst P same p)

module _ {s x : ℕ} {o o₁ : Output} (room : RoomFor o 5) (p : Opened s x o o₁) where
  opened-address : length p.addressed.bytes.now ≡ length o.bytes.now
  opened-address = emitted-length (omega arith) p.address

  opened-size : length p.sized.bytes.now ≡ length o.bytes.now
  opened-size = emitted-length (omega (arith, opened-address, p.address.count)) p.size ∙ opened-address

  opened-store : length o₁.bytes.now ≡ length o.bytes.now
  opened-store =
      emitted-length (omega (arith, opened-size, p.address.count, p.size.count)) p.store ∙ opened-size

module _ (t : List ℕ) (s x : ℕ) {o o₁ : Output} (room : Room o (let_tree s x (copy_at t (child_a t s)))) (p : Opened s x o o₁) where
  pub inside-room : Room o₁ (inside_tree t s x)
  inside-room = omega (arith, opened-store (omega arith) p, p.address.count, p.size.count, p.store.count)

  module _ {o₂ : Output} (B : Emitted o₁ (inside_tree t s x) o₂) where
    pub enclosing-room : (o.count + 5 ≤ o₂.count) × RoomFor o₂ 4
    enclosing-room =
        let count = B.count in
        let count₁ = p.address.count in
        let count₂ = p.size.count in
        let count₃ = p.store.count in
        let size = emitted-length inside-room B in
        let size₁ = opened-store (omega arith) p in
        (omega arith, omega arith)

    pub let-done : {o₃ : Output} → Enclosed o.count s x o₂ o₃ → Emitted o (let_tree s x (copy_at t (child_a t s))) o₃
    let-done e =
        let count₁ = p.address.count in
        let count₂ = p.size.count in
        let count₃ = p.store.count in
        let size₁ = opened-address (omega arith) p in
        let size₂ = opened-size (omega arith) p in
        let first : o.count + 2 ≡ p.addressed.count = omega arith in
        let second : o.count + 4 ≡ p.sized.count = omega arith in
        let third : o.count + 5 ≡ o₁.count = omega arith in
        let stored = emitted-sequence s some some p.store B (omega arith)
        (subst (λ (n : ℕ). Pushed o₂ (record_of 44 0 n o₂.count 0 (pos s)) e.stored) third e.store) in
        let sized = emitted-sequence s some some p.size stored (omega arith)
        (subst (λ (n : ℕ). Pushed e.stored (record_of 44 0 n e.stored.count 0 (pos s)) e.sized) second e.size) in
        let whole = emitted-sequence s some some p.address sized (omega arith)
        (subst (λ (n : ℕ). Pushed e.sized (record_of 44 0 n e.sized.count 0 (pos s)) e.addressed) first e.address) in
        emitted-over 47 x (pos s) some whole room e.own
