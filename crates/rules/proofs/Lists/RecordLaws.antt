-- A block record of either memory: its bytes are those of one number, and what is read after one is put.
use Prim.Native.Nat.{ℕ, suc, ◌+◌, ◌*◌, ◌/◌, ◌<◌, ◌≤◌}
use native.Mathlib.Nat.{add-zero, mul-le-mul_right}
use native.Mathlib.Omega.{arith}
use native.Mathlib.Decide.{dec_lt}
use mathlib.Core.Path.{◌≡◌, refl, sym, ap, ◌∙◌}
use mathlib.Core.Logic.{◌≢◌, ◌⊎◌, inl, inr, ⊎_elim}
use mathlib.Core.List.{List, [], ◌∷◌}
use lib.ListN.{length, get_or}
use Rattle.rules.specs.Words.{little, digits, part, put, word_at}
use Rattle.rules.specs.Layout.{block_record, block_place}
use Rattle.rules.proofs.Lists.WordLaws.{digits_value, get_d-put-in, get_d-put-apart, part-put-in, word-put-apart}

-- two lists of eight, element by element
pub eight : {a b c d e f g h a' b' c' d' e' f' g' h' : ℕ} → a ≡ a' → b ≡ b' → c ≡ c' → d ≡ d'
    → e ≡ e' → f ≡ f' → g ≡ g' → h ≡ h'
    → ◌≡◌ {A = List ℕ} (a ∷ b ∷ c ∷ d ∷ e ∷ f ∷ g ∷ h ∷ []) (a' ∷ b' ∷ c' ∷ d' ∷ e' ∷ f' ∷ g' ∷ h' ∷ [])
eight p q r s t u v w = λ i. p i ∷ q i ∷ r i ∷ s i ∷ t i ∷ u i ∷ v i ∷ w i ∷ []

pub record-digits : (s first n : ℕ) → s < 256 → first < 65536 → n < 65536
    → digits 8 (s + first * 65536 + n * 4294967296) ≡ block_record s first n
unfolding digits
record-digits s first n hs hf hl =
    let x : ℕ = s + first * 65536 + n * 4294967296 in
    let x₂ : x / 256 / 256 ≡ first + n * 65536 = omega arith in
    let x₃ : x / 256 / 256 / 256 ≡ first / 256 + n * 256 = omega arith in
    let x₄ : x / 256 / 256 / 256 / 256 ≡ n = omega arith in
    eight (omega arith) (omega arith) (omega arith) (omega arith) (omega arith) (omega arith) (omega arith)
    (omega arith)

pub length-record : (s first n : ℕ) → length (block_record s first n) ≡ 8
unfolding digits
length-record s first n = refl

first-is : (s first n : ℕ) → part 2 (block_record s first n) 2 ≡ digits 2 first
unfolding digits
first-is s first n = refl

length-is : (s first n : ℕ) → part 2 (block_record s first n) 4 ≡ digits 2 n
unfolding digits
length-is s first n = refl

rows_apart : (w i j : ℕ) → j ≢ i → (j * w + w ≤ i * w) ⊎ (i * w + w ≤ j * w)
rows_apart w i j d = pick (dec_lt j i)
  where
    rows : (i j : ℕ) → j < i → j * w + w ≤ i * w
    rows i j h = let k : suc j * w ≤ i * w = mul-le-mul_right w h in omega arith

    pick : Dec (j < i) → (j * w + w ≤ i * w) ⊎ (i * w + w ≤ j * w)
    pick (yes h) = inl (rows i j h)
    pick (no f) = inr (rows j i (omega arith))

-- what three parts make of a record: `from` is that of blocks or of recorded blocks
module _ {A : Type 0} (from : ℕ → ℕ → ℕ → A) where
  abbrev pub record_by : List ℕ → ℕ → A
  record_by l k = from (get_or l (block_place k) 0) (word_at 2 l (block_place k + 2)) (word_at 2 l (block_place k + 4))

  module _ (l : List ℕ) (k s first n : ℕ) (room : block_place k + 8 ≤ length l) where
    fits : block_place k + length (block_record s first n) ≤ length l
    fits = omega (arith, length-record s first n)

    pub record-put-same : first < 65536 → n < 65536
        → record_by (put l (block_place k) (block_record s first n)) k ≡ from s first n
    unfolding word_at
    record-put-same f g =
        let R : List ℕ = block_record s first n in
        let z : get_or (put l (block_place k) R) (block_place k) 0 ≡ s =
        ap (λ (j : ℕ). get_or (put l (block_place k) R) j 0) (sym (add-zero (block_place k)))
        ∙ get_d-put-in l R (block_place k) fits 0 (omega (arith, length-record s first n)) in
        let x : little (part 2 (put l (block_place k) R) (block_place k + 2)) ≡ first =
        ap little (part-put-in l R (block_place k) fits 2 2 (omega (arith, length-record s first n)) ∙ first-is s
        first n)
        ∙ digits_value 2 first f in
        let y : little (part 2 (put l (block_place k) R) (block_place k + 4)) ≡ n =
        ap little (part-put-in l R (block_place k) fits 2 4 (omega (arith, length-record s first n)) ∙ length-is s
        first n)
        ∙ digits_value 2 n g in
        λ i. from (z i) (x i) (y i)

    pub record-put-other : (j : ℕ) → j ≢ k → record_by (put l (block_place k) (block_record s first n)) j ≡ record_by l j
    record-put-other j d =
        let R : List ℕ = block_record s first n in
        let r : (block_place j + 8 ≤ block_place k) ⊎ (block_place k + length R ≤ block_place j) =
        ⊎_elim (λ b. inl b) (λ b. inr (rw (length-record s first n) b)) (rows_apart 8 k j d) in
        let z = ap (λ (i : ℕ). get_or (put l (block_place k) R) i 0) (sym (add-zero (block_place j)))
        ∙ get_d-put-apart l R (block_place k) fits (block_place j) 8 0 r (omega arith)
        ∙ ap (λ (i : ℕ). get_or l i 0) (add-zero (block_place j)) in
        let x = word-put-apart l R (block_place k) fits (block_place j) 8 2 2 r (omega arith) in
        let y = word-put-apart l R (block_place k) fits (block_place j) 8 4 2 r (omega arith) in
        λ i. from (z i) (x i) (y i)
