-- The lines of a table's records: a turn of the loop over them, and what is left to write.
use Prim.Native.Nat.{ℕ, zero, suc, ◌+◌, ◌-◌, ◌≤◌}
use native.Mathlib.Omega.{arith}
use mathlib.Core.Path.{◌≡◌, refl, sym, ap, ◌∙◌, subst}
use mathlib.Core.List.{List, [], ◌++◌}
use lib.ListN.{length, length-append}
use Rattle.rules.specs.Words.{put, tabulate}
use Rattle.rules.specs.Records.{Record, record_count, record_at}
use Rattle.rules.specs.Listing.{record_line, record_lines}
use Rattle.rules.proofs.Lists.WordLaws.{length-put, put-put}
use Rattle.translation_emission.proofs.Puts.{put-none}
use Rattle.listing_text.specs.declared.Text.{Text}
use Rattle.listing_text.specs.Writing.{Room, Written}
use Rattle.listing_text.specs.Text.{table_lines}

-- to put the text that is left is to put the whole
pub record Remaining (o : Text) (whole : List ℕ) (d : Text) (rest : List ℕ) : Type 0 where
  pub name : d.bytes.ghost_name ≡ o.bytes.ghost_name
  pub same : put o.bytes.now o.length whole ≡ put d.bytes.now d.length rest
  pub ends : d.length + length rest ≡ o.length + length whole
  pub size : length d.bytes.now ≡ length o.bytes.now

pub remaining-as : {o d : Text} {whole xs ys : List ℕ} → xs ≡ ys → Remaining o whole d xs → Remaining o whole d ys
remaining-as {o} {d} {whole} e h = subst (Remaining o whole d) e h

module _ (o : Text) (whole : List ℕ) (room : Room o whole) where
  pub remaining-start : Remaining o whole o whole
  remaining-start = record { name = refl; same = refl; ends = refl; size = refl }

  module _ (xs ys : List ℕ) {d : Text} (h : Remaining o whole d (xs ++ ys)) where
    pub remaining-room : Room d xs
    remaining-room = omega (arith, h.ends, h.size, length-append xs ys)

    pub remaining-step : {e : Text} → Written d xs e → Remaining o whole e ys
    remaining-step {e} w =
        let both = length-append xs ys in
        let one : d.length + length xs + length ys ≤ length d.bytes.now = omega (arith, h.ends, h.size) in
        let more = put-put d.bytes.now xs ys d.length one in
        record {
          name = w.same ∙ h.name;
          same = h.same ∙ sym more
              ∙ ap (λ (n : ℕ). put (put d.bytes.now d.length xs) n ys) (sym w.place)
              ∙ ap (λ (x : List ℕ). put x e.length ys) (sym w.bytes);
          ends = omega (arith, h.ends, w.place);
          size = ap length w.bytes ∙ length-put d.bytes.now xs d.length (omega arith) ∙ h.size;
        }

  pub remaining-none : {d : Text} → Remaining o whole d [] → Written o whole d
  remaining-none {d} h = record {
    same = h.name;
    bytes = sym (h.same ∙ put-none d.bytes.now d.length);
    place = omega (arith, h.ends);
  }

-- the lines behind n records, k of them
unfoldable pub lines_from : List ℕ → ℕ → ℕ → List ℕ
lines_from t n k = record_lines (suc n) (tabulate n k (λ i. record_at t (suc i)))

pub lines-all : (t : List ℕ) → lines_from t 0 (record_count t) ≡ table_lines t
unfolding lines_from
lines-all t = refl

pub lines_none : (t : List ℕ) (n : ℕ) → lines_from t n 0 ≡ []
unfolding lines_from record_lines tabulate
lines_none t n = refl

lines-suc : (t : List ℕ) (n k : ℕ)
    → lines_from t n (suc k) ≡ record_line (suc n) (record_at t (suc n)) ++ lines_from t (suc n) k
unfolding lines_from record_lines tabulate
lines-suc t n k = refl

-- the lines from record n on, to record `count`
pub lines_next : (t : List ℕ) (n count : ℕ) {r : Record} → 1 ≤ n → n ≤ count → r ≡ record_at t n
    → lines_from t (n - 1) (count + 1 - n) ≡ record_line n r ++ lines_from t (n + 1 - 1) (count + 1 - (n + 1))
lines_next t zero count h k d = absurd (omega arith)
lines_next t (suc n) count h k d =
    let left : count + 1 - suc n ≡ suc (count + 1 - (suc n + 1)) = omega arith in
    let before : suc n - 1 ≡ n = omega arith in
    let after : suc n ≡ suc n + 1 - 1 = omega arith in
    (λ i. lines_from t (before i) (left i)) ∙ lines-suc t n (count + 1 - (suc n + 1))
    ∙ (λ i. record_line (suc n) (sym d i) ++ lines_from t (after i) (count + 1 - (suc n + 1)))
