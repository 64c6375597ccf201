-- A text written behind what stands in lent bytes.
use Rattle.std.specs.Prelude.{ℕ, ◌+◌, ◌≤◌, ◌≡◌, List, length}
use Rattle.rules.specs.Words.{put}
use Rattle.listing_text.specs.declared.Text.{Text}

-- there is room for n more bytes, and for a text
abbrev pub RoomFor : Text → ℕ → Type 0
RoomFor o n = o.length + n ≤ length o.bytes.now

abbrev pub Room : Text → List ℕ → Type 0
Room o text = RoomFor o (length text)

-- in the same lent bytes a text is put behind what stood there
pub record Written (before : Text) (text : List ℕ) (after : Text) : Type 0 where
  pub same : after.bytes.ghost_name ≡ before.bytes.ghost_name
  pub bytes : after.bytes.now ≡ put before.bytes.now before.length text
  pub place : after.length ≡ before.length + length text
