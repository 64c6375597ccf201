-- A refused table's listing, how long a listing may be, and outputs of equal listings.
use Prim.Native.Nat.{ℕ, ◌≤◌}
use native.Mathlib.Omega.{arith}
use mathlib.Core.Path.{◌≡◌, refl, sym, ap}
use mathlib.Core.List.{List}
use lib.ListN.{length}
use Rattle.rules.specs.Kinds.{source}
use Rattle.rules.specs.Checker.{check}
use Rattle.rules.specs.Listing.{listing_by, listing}
use Rattle.rules.specs.Types.{Checked, rule_number}
use Rattle.rules.specs.declared.Refusal.{Refusal}
use Rattle.listing_text.specs.Text.{refusal_line, text_into, listed, longest_text, translated_lines}
use Rattle.listing_text.proofs.LongestText.{length-refusal}
use Rattle.listing_text.proofs.TranslationLaws.{lines_fit}
use Rattle.std.specs.Prelude.{Ok, Err}

-- by the checker's word
pub refused-listing : (t : List ℕ) (r : Refusal) → check source t ≡ Err r
    → refusal_line (rule_number r.rule) r.«record» ≡ listing t
refused-listing t r e = ap (λ x. listing_by x t) (sym e)

-- no listing is longer
pub longest : (t : List ℕ) → length (listing t) ≤ longest_text
longest t = by_word (check source t) refl
  where
    by_word : (w : Checked) → check source t ≡ w → length (listing t) ≤ longest_text
    by_word (Ok u) e =
        let same : translated_lines t ≡ listing t = ap (λ x. listing_by x t) (sym e) in
        omega (arith, ap length same, lines_fit t e)
    by_word (Err r) e =
        omega (arith, ap length (refused-listing t r e), length-refusal (rule_number r.rule) r.«record»)

-- by the length of the output
pub listed_same : (s t out : List ℕ) → listing s ≡ listing t → listed s out ≡ listed t out
listed_same s t out e = ap (λ (text : List ℕ). text_into text out) e
