-- Texts written one behind the other.
use Prim.Native.Nat.{ℕ}
use native.Mathlib.Omega.{arith}
use mathlib.Core.Path.{◌≡◌, sym, ap, ◌∙◌, subst}
use mathlib.Core.List.{List, [], ◌∷◌, ◌++◌, append_assoc}
use lib.ListN.{length, length-append}
use Rattle.rules.specs.Records.{Record}
use Rattle.rules.specs.Listing.{natural, record_line}
use Rattle.rules.proofs.Lists.WordLaws.{length-put}
use Rattle.translation_emission.proofs.Puts.{put_then}
use Rattle.listing_text.specs.declared.Text.{Text}
use Rattle.listing_text.specs.Writing.{Room, Written}
use Rattle.listing_text.specs.Text.{spaced, three, head_text, children_text, literal_text, refusal_line}

-- ---- the same text
pub room_as : (o : Text) {xs ys : List ℕ} → xs ≡ ys → Room o xs → Room o ys
room_as o e h = subst (Room o) e h

pub written_as : {o o' : Text} {xs ys : List ℕ} → xs ≡ ys → Written o xs o' → Written o ys o'
written_as {o} {o'} e w = subst (λ (text : List ℕ). Written o text o') e w

pub three-same : {x y z x' y' z' : ℕ} → x ≡ x' → y ≡ y' → z ≡ z' → three x y z ≡ three x' y' z'
three-same p q r = λ i. three (p i) (q i) (r i)

pub spaced-same : {x x' : ℕ} → x ≡ x' → spaced (natural x) ≡ spaced (natural x')
spaced-same p = ap (λ (n : ℕ). spaced (natural n)) p

-- ---- one text, then another
pub room-first : (o : Text) (xs ys : List ℕ) → Room o (xs ++ ys) → Room o xs
room-first o xs ys h = omega (arith, length-append xs ys)

pub room-second : {o o₁ : Text} {xs : List ℕ} (ys : List ℕ) → Room o (xs ++ ys) → Written o xs o₁ → Room o₁ ys
room-second {o} {o₁} {xs} ys h w =
    let both = length-append xs ys in
    let same : length o₁.bytes.now ≡ length o.bytes.now =
    ap length w.bytes ∙ length-put o.bytes.now xs o.length (omega arith) in
    omega (arith, w.place)

pub written_then : {o o₁ o₂ : Text} {xs ys : List ℕ} → Room o (xs ++ ys) → Written o xs o₁ → Written o₁ ys o₂
    → Written o (xs ++ ys) o₂
written_then {o} {o₁} {o₂} {xs} {ys} h w v =
    let both = length-append xs ys in
    record {
      same = v.same ∙ w.same;
      bytes = put_then o.bytes.now o₁.bytes.now o₂.bytes.now xs ys o.length o₁.length w.place (omega (arith, w.place))
          w.bytes v.bytes;
      place = omega (arith, w.place, v.place);
    }

-- three texts in a row, with room for them
pub record Row (o : Text) (text xs ys zs : List ℕ) : Type 0 where
  pub parts : text ≡ xs ++ ys ++ zs
  pub room : Room o text

module _ {o : Text} {text xs ys zs : List ℕ} (row : Row o text xs ys zs) where
  whole : Room o (xs ++ ys ++ zs)
  whole = room_as o row.parts row.room

  front : Room o (xs ++ ys)
  front = room-first o (xs ++ ys) zs whole

  module _ {o₁ o₂ : Text} (w : Written o xs o₁) (v : Written o₁ ys o₂) where
    pub third-room : Room o₂ zs
    third-room = room-second zs whole (written_then front w v)

    pub all-written : {o₃ : Text} → Written o₂ zs o₃ → Written o text o₃
    all-written u = written_as (sym row.parts) (written_then whole (written_then front w v) u)

-- a record's line and a refusal's
pub record-text : (n : ℕ) (r : Record) → record_line n r ≡ head_text n r ++ children_text r ++ literal_text r
record-text n r = simp append_assoc

pub refusal-text : (k n : ℕ) → refusal_line k n ≡ spaced (natural k) ++ natural n ++ (10 ∷ [])
refusal-text k n = simp append_assoc

pub line-row : (o : Text) (n : ℕ) (r : Record) → Room o (record_line n r)
    → Row o (record_line n r) (head_text n r) (children_text r) (literal_text r)
line-row o n r room = record { parts = record-text n r; room = room }
