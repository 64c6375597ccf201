-- A record with copies of two records below it.
use Prim.Native.Nat.{ℕ, ◌≤◌, ◌<◌}
use native.Mathlib.Omega.{arith}
use mathlib.Core.Path.{◌≡◌, refl, sym, ap, subst}
use mathlib.Core.List.{List}
use lib.IntN.{ℤ, pos}
use mir.Syntax.{w64}
use mir.Val.{to_z, of_z}
use mir.Facts.{to_z-of_z}
use Rattle.rules.specs.Sizes.{source_limit}
use Rattle.rules.specs.Records.{Record, record_at}
use Rattle.rules.specs.Emission.{RecordTree, none, node, tree_size, root_number}
use Rattle.translation_emission.specs.declared.Output.{Output}
use Rattle.translation_emission.specs.Emission.{record_of, RoomFor, Room, Pushed, Emitted, Copied, sequence_tree}
use Rattle.translation_sizes.specs.Trees.{copy_at}
use Rattle.translation_emission.proofs.Emitting.{emitted-none, emitted-length, emitted-node, Some, root-some}
use Rattle.rules.proofs.Translation.RecordSizes.{none-at}
use Rattle.translation_emission.proofs.Copying.{copied_at}

-- a statement's number as a literal
pub number-literal : (s : ℕ) → s ≤ source_limit → to_z w64 (of_z w64 (pos s)) ≡ pos s
number-literal s h = to_z-of_z {w = w64} {z = pos s} (record { sfits = omega arith })

pub copy-none : (t : List ℕ) (n : ℕ) (o : Output) → n ≡ 0
    → Emitted o (copy_at t n) o × (◌≡◌ {A = ℕ} 0 (root_number (copy_at t n) o.count))
copy-none t n o e =
    let P : RecordTree → Type 0 = λ w. Emitted o w o × (◌≡◌ {A = ℕ} 0 (root_number w o.count)) in
    subst P (none-at t n 0 0 e) (emitted-none o, refl)

-- two copies and then the record, where they are those of record n, which was read
module _ (t : List ℕ) (n : ℕ) (o : Output) (q : Copied t n × Room o (copy_at t n)) (some : n ≡ 0 → ⊥) {r : Record}
    (e : r ≡ record_at t n) where
  law : (r.a < n) × (r.b < n) × Copied t r.a × Copied t r.b
      × (copy_at t n ≡ node r.kind r.mark r.literal 0 (copy_at t r.a) (copy_at t r.b) none)
  law = let l = copied_at t n q.0 some in rw e (l.a-below, l.b-below, l.a-copied, l.b-copied, l.tree)

  pub copy-a : (r.a < n) × (Copied t r.a × Room o (copy_at t r.a))
  copy-a = (law.0, (law.2, omega (arith, q.1, ap tree_size law.4)))

  module _ {o₁ : Output} (A : Emitted o (copy_at t r.a) o₁) where
    pub copy-b : (r.b < n) × (Copied t r.b × Room o₁ (copy_at t r.b))
    copy-b =
        let room : Room o₁ (copy_at t r.b) =
        omega (arith, q.1, ap tree_size law.4, A.count, emitted-length copy-a.1.1 A) in
        (law.1, (law.3, room))

    module _ {o₂ : Output} (B : Emitted o₁ (copy_at t r.b) o₂) where
      pub copy-own : RoomFor o₂ 1
      copy-own =
          omega (
            arith,
            q.1,
            ap tree_size law.4,
            A.count,
            B.count,
            emitted-length copy-a.1.1 A,
            emitted-length copy-b.1.1 B,
          )

      pub copy_done : {o₃ : Output} {i j : ℕ} → i ≡ root_number (copy_at t r.a) o.count
          → j ≡ root_number (copy_at t r.b) o₁.count → Pushed o₂ (record_of r.kind r.mark i j 0 r.literal) o₃
          → Emitted o (copy_at t n) o₃ × (o₃.count ≡ root_number (copy_at t n) o.count)
      copy_done {o₃} root_a root_b own =
          let P : RecordTree → Type 0 = λ w. Emitted o w o₃ × (o₃.count ≡ root_number w o.count) in
          let D = emitted-node r.kind r.mark r.literal 0 A B (emitted-none o₂) (subst (Room o) law.4 q.1) root_a root_b
          refl own in
          subst P (sym law.4) (D, D.count)

-- two trees in sequence
pub emitted-sequence : {o o₁ o₂ o₃ : Output} {a b : RecordTree} (s : ℕ) → Some a → Some b → Emitted o a o₁
    → Emitted o₁ b o₂ → Room o (sequence_tree s a b) → Pushed o₂ (record_of 44 0 o₁.count o₂.count 0 (pos s)) o₃
    → Emitted o (sequence_tree s a b) o₃
emitted-sequence s x y A B room h =
    emitted-node 44 0 (pos s) 0 A B (emitted-none _) room (root-some x A) (root-some y B) refl h

-- a record over one tree
pub emitted-over : {o o₁ o₂ : Output} {a : RecordTree} (k m : ℕ) (z : ℤ) → Some a → Emitted o a o₁
    → Room o (node k m z 0 a none none) → Pushed o₁ (record_of k m o₁.count 0 0 z) o₂
    → Emitted o (node k m z 0 a none none) o₂
emitted-over k m z x A room h =
    emitted-node k m z 0 A (emitted-none _) (emitted-none _) room (root-some x A) refl refl h

pub emitted-leaf : {o o₁ : Output} (k m : ℕ) (z : ℤ) (x : ℕ) → RoomFor o 1 → Pushed o (record_of k m 0 0 x z) o₁
    → Emitted o (node k m z x none none none) o₁
emitted-leaf k m z x room h =
    emitted-node k m z x (emitted-none _) (emitted-none _) (emitted-none _) room refl refl refl h
