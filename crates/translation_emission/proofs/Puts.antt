-- Adjacent puts make one, and a record's bytes are put part by part.
use Prim.Native.Nat.{ℕ, suc, ◌+◌, ◌≤◌, ◌<◌}
use native.Mathlib.Omega.{arith}
use native.Mathlib.Nat.{add-zero}
use native.Mathlib.Numerals.{add-one}
use mathlib.Core.Path.{◌≡◌, refl, sym, ap, ◌∙◌}
use mathlib.Core.List.{List, [], ◌∷◌, ◌++◌, append-nil}
use lib.ListN.{length, take, drop, set, length-set, length-append, take-append-drop}
use lib.Seq.{set_split, append_snoc}
use Rattle.rules.specs.Words.{put, digits, integer_bytes}
use Rattle.rules.specs.Records.{Record, record_bytes}
use Rattle.rules.proofs.Lists.WordLaws.{length_digits, put-put}

-- a put of some bytes, then of others where they end
pub put_then : (l m o bs cs : List ℕ) (at next : ℕ) → next ≡ at + length bs
    → next + length cs ≤ length l → m ≡ put l at bs → o ≡ put m next cs → o ≡ put l at (bs ++ cs)
put_then l m o bs cs at next e room p q =
    q
    ∙ ap (λ (x : List ℕ). put x next cs) p
    ∙ ap (λ (n : ℕ). put (put l at bs) n cs) e
    ∙ put-put l bs cs at (omega arith)

pub put-none : (l : List ℕ) (at : ℕ) → put l at [] ≡ l
put-none l at = rw (add-zero at, append-nil (take at l)) (take-append-drop at l)

pub put_one : (l : List ℕ) (at b : ℕ) → at < length l → set l at b ≡ put l at (b ∷ [])
put_one l at b h =
    set_split l at b h ∙ sym (append_snoc (take at l) b (drop (suc at) l))
    ∙ ap (λ (n : ℕ). take at l ++ (b ∷ []) ++ drop n l) (sym (add-one at))

pub put-words : (l m o p : List ℕ) (at a b c : ℕ) → at + 6 ≤ length l → m ≡ put l at (digits 2 a)
    → o ≡ put m (at + 2) (digits 2 b) → p ≡ put o (at + 4) (digits 2 c)
    → p ≡ put l at (digits 2 a ++ digits 2 b ++ digits 2 c)
put-words l m o p at a b c room x y z =
    let la = length_digits 2 a in
    let lb = length_digits 2 b in
    let lc = length_digits 2 c in
    let both = length-append (digits 2 a) (digits 2 b) in
    let first = put_then l m o (digits 2 a) (digits 2 b) at (at + 2) (omega arith) (omega arith) x y in
    put_then l o p (digits 2 a ++ digits 2 b) (digits 2 c) at (at + 4) (omega arith) (omega arith) first z

-- a record: kind and mark, then the children, then the literal
pub put_record : (l m o p q : List ℕ) (at : ℕ) (r : Record) → at + 16 ≤ length l → m ≡ set l at r.kind
    → o ≡ set m (at + 1) r.mark → p ≡ put o (at + 2) (digits 2 r.a ++ digits 2 r.b ++ digits 2 r.c)
    → q ≡ put p (at + 8) (integer_bytes r.literal) → q ≡ put l at (record_bytes r)
unfolding digits
put_record l m o p q at r room x y z w =
    let head : List ℕ = r.kind ∷ r.mark ∷ [] in
    let children : List ℕ = digits 2 r.a ++ digits 2 r.b ++ digits 2 r.c in
    let kept : length m ≡ length l = ap length x ∙ length-set l at r.kind in
    let first = put_then l m o (r.kind ∷ []) (r.mark ∷ []) at (at + 1) refl (omega arith)
    (x ∙ put_one l at r.kind (omega arith)) (y ∙ put_one m (at + 1) r.mark (omega arith)) in
    let second = put_then l o p head children at (at + 2) refl (omega arith) first z in
    put_then l p q (head ++ children) (integer_bytes r.literal) at (at + 8) refl (omega arith) second w
