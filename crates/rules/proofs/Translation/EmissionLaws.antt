-- The records of a tree, each in its place: where they stand in a table, and what holds at each of them.
use Prim.Native.Nat.{ℕ, suc, ◌+◌, ◌≤◌, ◌<◌}
use native.Mathlib.Omega.{arith}
use native.Mathlib.Decide.{dec_lt}
use mathlib.Core.Path.{◌≡◌, refl, ap, ◌∙◌, subst}
use mathlib.Core.List.{List, [], ◌∷◌, ◌++◌}
use lib.IntN.{ℤ}
use lib.ListN.{length, get_or, length-append, get_or-append}
use lib.Seq.{get_or-append-add}
use Rattle.rules.specs.Records.{Record}
use Rattle.rules.specs.Emission.{RecordTree, none, node, tree_size, root_number, field_c, emit}
use Rattle.rules.proofs.Translation.RecordBytes.{no_record}

pub length-emit : (w : RecordTree) (n : ℕ) → length (emit w n) ≡ tree_size w
unfolding emit
length-emit none n = refl
length-emit (node k m z x a b c) n =
    simp (length-append, length-emit a n, length-emit b (n + tree_size a), length-emit c (n + tree_size a + tree_size b))
    (omega arith)

-- the number of a tree's last record is that of its root
pub root-size : (w : RecordTree) → root_number w 0 ≡ tree_size w
root-size none = refl
root-size (node k m z x a b c) = omega arith

pub root-most : (w : RecordTree) (n : ℕ) → root_number w n ≤ n + tree_size w
root-most none n = omega arith
root-most (node k m z x a b c) n = omega arith

pub field-root : (w : RecordTree) (n : ℕ) → root_number w n ≡ field_c w 0 n
field-root none n = refl
field-root (node k m z x a b c) n = refl

-- the records n + 1, n + 2, .. are those of a list
abbrev pub Segment : (ℕ → Record) → ℕ → List Record → Type 0
Segment f n rs = (i : ℕ) → i < length rs → f (suc (n + i)) ≡ get_or rs i no_record

pub segment-left : (f : ℕ → Record) (n : ℕ) (rs ss : List Record) → Segment f n (rs ++ ss) → Segment f n rs
segment-left f n rs ss h i l = h i (omega (arith, length-append rs ss)) ∙ get_or-append rs ss no_record i l

pub segment-right : (f : ℕ → Record) (n : ℕ) (rs ss : List Record) (k : ℕ) → n + length rs ≡ k
    → Segment f n (rs ++ ss) → Segment f k ss
segment-right f n rs ss k e h i l =
    ap f (omega arith) ∙ h (length rs + i) (omega (arith, length-append rs ss)) ∙ get_or-append-add rs ss i no_record

-- a tree's own record, where n records stand before those of the tree
abbrev pub own_record : ℕ → ℕ → ℤ → ℕ → RecordTree → RecordTree → RecordTree → ℕ → Record
own_record k m z x a b c n = record {
  kind = k;
  mark = m;
  a = root_number a n;
  b = root_number b (n + tree_size a);
  c = field_c c x (n + tree_size a + tree_size b);
  literal = z;
}

-- the records after the n-th are those of a tree
abbrev pub Holds : (ℕ → Record) → RecordTree → ℕ → Type 0
Holds f none n = Unit {0}
Holds f (node k m z x a b c) n =
    Holds f a n × Holds f b (n + tree_size a) × Holds f c (n + tree_size a + tree_size b)
    × (f (n + suc (tree_size a + tree_size b + tree_size c)) ≡ own_record k m z x a b c n)

pub emit-holds : (f : ℕ → Record) (w : RecordTree) (n : ℕ) → Segment f n (emit w n) → Holds f w n
unfolding emit
emit-holds f none n h = tt
emit-holds f (node k m z x a b c) n h =
    let ea : List Record = emit a n in
    let eb : List Record = emit b (n + tree_size a) in
    let ec : List Record = emit c (n + tree_size a + tree_size b) in
    let r : Record = own_record k m z x a b c n in
    let la : length ea ≡ tree_size a = length-emit a n in
    let lb : length eb ≡ tree_size b = length-emit b (n + tree_size a) in
    let lc : length ec ≡ tree_size c = length-emit c (n + tree_size a + tree_size b) in
    let ab : Segment f n (ea ++ eb) = segment-left f n (ea ++ eb) ec (segment-left f n (ea ++ eb ++ ec) (r ∷ []) h) in (
      emit-holds f a n (segment-left f n ea eb ab),
      emit-holds f b (n + tree_size a) (segment-right f n ea eb (n + tree_size a) (omega arith) ab),
      emit-holds f c (n + tree_size a + tree_size b)
          (segment-right f n (ea ++ eb) ec (n + tree_size a + tree_size b) (omega (arith, length-append ea eb))
          (segment-left f n (ea ++ eb ++ ec) (r ∷ []) h)),
      ap f (omega arith)
          ∙ segment-right f n (ea ++ eb ++ ec) (r ∷ []) (n + (tree_size a + tree_size b + tree_size c))
          (omega (arith, length-append (ea ++ eb) ec, length-append ea eb)) h 0 (omega arith),
    )

-- what holds at each record of a tree: Q goes down the tree and gives P at its own record
pub record Step (P : ℕ → Type 0) (Q : RecordTree → ℕ → Type 0) (a b c : RecordTree) (n : ℕ) : Type 0 where
  pub own : P (n + suc (tree_size a + tree_size b + tree_size c))
  pub below-a : Q a n
  pub below-b : Q b (n + tree_size a)
  pub below-c : Q c (n + tree_size a + tree_size b)

-- a record of the tree's is in A, in B, in C, or its own
in-which : (P : ℕ → Type 0) (n a b c : ℕ) → ((j : ℕ) → n < j → j ≤ n + a → P j)
    → ((j : ℕ) → n + a < j → j ≤ n + a + b → P j) → ((j : ℕ) → n + a + b < j → j ≤ n + a + b + c → P j)
    → P (n + suc (a + b + c)) → (j : ℕ) → n < j → j ≤ n + suc (a + b + c) → P j
in-which P n a b c f g h p j low high = go (dec_lt (n + a) j) (dec_lt (n + a + b) j) (dec_lt (n + a + b + c) j)
  where
    go : Dec (n + a < j) → Dec (n + a + b < j) → Dec (n + a + b + c < j) → P j
    go (no u) v w = f j low (omega arith)
    go (yes u) (no v) w = g j u (omega arith)
    go (yes u) (yes v) (no w) = h j v (omega arith)
    go (yes u) (yes v) (yes w) = subst P (omega arith) p

pub everywhere : (P : ℕ → Type 0) (Q : RecordTree → ℕ → Type 0)
    → ((k m : ℕ) (z : ℤ) (x : ℕ) (a b c : RecordTree) (n : ℕ) → Q (node k m z x a b c) n → Step P Q a b c n)
    → (w : RecordTree) (n : ℕ) → Q w n → (j : ℕ) → n < j → j ≤ n + tree_size w → P j
everywhere P Q step none n q = λ j low high. absurd (omega arith)
everywhere P Q step (node k m z x a b c) n q =
    let here : Step P Q a b c n = step k m z x a b c n q in
    in-which P n (tree_size a) (tree_size b) (tree_size c)
    (everywhere P Q step a n here.below-a)
    (everywhere P Q step b (n + tree_size a) here.below-b)
    (everywhere P Q step c (n + tree_size a + tree_size b) here.below-c)
    here.own
