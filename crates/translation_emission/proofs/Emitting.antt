-- A tree is emitted by its children's emission and one record behind them.
use Prim.Native.Nat.{ℕ, ◌+◌, ◌*◌}
use native.Mathlib.Omega.{arith}
use native.Mathlib.Nat.{add-zero}
use mathlib.Core.Path.{◌≡◌, refl, sym, ap, ◌∙◌, subst}
use mathlib.Core.List.{List, [], ◌∷◌, ◌++◌, append_assoc, append-nil}
use lib.IntN.{ℤ}
use lib.ListN.{length, length-append}
use Rattle.rules.specs.Words.{put, flat}
use Rattle.rules.specs.Records.{Record, record_bytes, table_bytes}
use Rattle.rules.specs.TargetTrees.{TargetStatement, skip, assign, new, free, sequence, branch, while, let_in}
use Rattle.rules.specs.TargetTrees.{take_address, take_value, take_operation, take_query, take_not, branch_on, assert_on}
use Rattle.rules.specs.TargetTrees.{store_block, delete_block, initialise}
use Rattle.rules.specs.Emission.{RecordTree, none, node, statement_tree, tree_size, root_number, field_c, emit}
use Rattle.rules.proofs.Translation.RecordBytes.{length-record, table-length}
use Rattle.rules.proofs.Translation.EmissionLaws.{length-emit, own_record}
use Rattle.rules.proofs.Lists.WordLaws.{length-put}
use Rattle.translation_emission.specs.declared.Output.{Output}
use Rattle.translation_emission.specs.Emission.{record_of, RoomFor, Room, Pushed, Emitted}
use Rattle.translation_emission.proofs.Puts.{put_then, put-none}

table-append : (rs ss : List Record) → table_bytes (rs ++ ss) ≡ table_bytes rs ++ table_bytes ss
unfolding flat
table-append [] ss = refl
table-append (r ∷ rs) ss =
    ap (λ (x : List ℕ). record_bytes r ++ x) (table-append rs ss)
    ∙ sym (append_assoc (record_bytes r) (table_bytes rs) (table_bytes ss))

table-one : (r : Record) → table_bytes (r ∷ []) ≡ record_bytes r
unfolding flat
table-one r = append-nil (record_bytes r)

pub bytes-emit : (w : RecordTree) (n : ℕ) → length (table_bytes (emit w n)) ≡ 16 * tree_size w
bytes-emit w n = table-length (emit w n) ∙ ap (λ (k : ℕ). 16 * k) (length-emit w n)

emit-node : (k m : ℕ) (z : ℤ) (x : ℕ) (a b c : RecordTree) (n : ℕ)
    → table_bytes (emit (node k m z x a b c) n)
    ≡ table_bytes (emit a n) ++ table_bytes (emit b (n + tree_size a)) ++ table_bytes (emit c (n + tree_size a + tree_size b))
    ++ record_bytes (own_record k m z x a b c n)
unfolding emit
emit-node k m z x a b c n =
    let ea = emit a n in
    let eb = emit b (n + tree_size a) in
    let ec = emit c (n + tree_size a + tree_size b) in
    let r = own_record k m z x a b c n in
    rw (table-append (ea ++ eb ++ ec) (r ∷ []), table-append (ea ++ eb) ec, table-append ea eb, table-one r)

emit-none : (n : ℕ) → table_bytes (emit none n) ≡ []
unfolding emit flat
emit-none n = refl

pub emitted-none : (o : Output) → Emitted o none o
emitted-none o = record {
  same = refl;
  bytes = sym (ap (put o.bytes.now (16 * o.count)) (emit-none o.count) ∙ put-none o.bytes.now (16 * o.count));
  count = sym (add-zero o.count);
}

-- the lent bytes are as many as before
pub emitted-length : {o o' : Output} {w : RecordTree} → Room o w → Emitted o w o' → length o'.bytes.now ≡ length o.bytes.now
emitted-length {o} {o'} {w} room e =
    let size = bytes-emit w o.count in
    ap length e.bytes ∙ length-put o.bytes.now (table_bytes (emit w o.count)) (16 * o.count) (omega arith)

-- the records of A, of B, of C, then their parent
pub emitted-node : {o₀ o₁ o₂ o₃ o₄ : Output} {a b c : RecordTree} (k m : ℕ) (z : ℤ) (x : ℕ) {i j l : ℕ}
    → Emitted o₀ a o₁ → Emitted o₁ b o₂ → Emitted o₂ c o₃ → Room o₀ (node k m z x a b c)
    → i ≡ root_number a o₀.count → j ≡ root_number b o₁.count → l ≡ field_c c x o₂.count
    → Pushed o₃ (record_of k m i j l z) o₄ → Emitted o₀ (node k m z x a b c) o₄
emitted-node {o₀} {o₁} {o₂} {o₃} {o₄} {a} {b} {c} k m z x {i} {j} {l} A B C room e f g h =
    let at = o₀.count in
    let y : o₂.count ≡ at + tree_size a + tree_size b = B.count ∙ ap (λ (n : ℕ). n + tree_size b) A.count in
    let ba = table_bytes (emit a at) in
    let bb = table_bytes (emit b (at + tree_size a)) in
    let bc = table_bytes (emit c (at + tree_size a + tree_size b)) in
    let own = record_bytes (own_record k m z x a b c at) in
    let la = bytes-emit a at in
    let lb = bytes-emit b (at + tree_size a) in
    let lc = bytes-emit c (at + tree_size a + tree_size b) in
    let lab = length-append ba bb in
    let labc = length-append (ba ++ bb) bc in
    let same : record_of k m i j l z ≡ own_record k m z x a b c at =
    λ v. record {
      kind = k;
      mark = m;
      a = e v;
      b = (f ∙ ap (root_number b) A.count) v;
      c = (g ∙ ap (field_c c x) y) v;
      literal = z;
    } in
    let P : o₂.bytes.now ≡ put o₁.bytes.now (16 * o₁.count) bb =
    subst (λ (n : ℕ). o₂.bytes.now ≡ put o₁.bytes.now (16 * o₁.count) (table_bytes (emit b n))) A.count B.bytes in
    let Q : o₃.bytes.now ≡ put o₂.bytes.now (16 * o₂.count) bc =
    subst (λ (n : ℕ). o₃.bytes.now ≡ put o₂.bytes.now (16 * o₂.count) (table_bytes (emit c n))) y C.bytes in
    let R : o₄.bytes.now ≡ put o₃.bytes.now (16 * o₃.count) own =
    subst (λ (n : Record). o₄.bytes.now ≡ put o₃.bytes.now (16 * o₃.count) (record_bytes n)) same h.bytes in
    let na = A.count in
    let nc = C.count in
    let nd = h.count in
    let lo : length own ≡ 16 = length-record (own_record k m z x a b c at) in
    let first = put_then o₀.bytes.now o₁.bytes.now o₂.bytes.now ba bb (16 * at) (16 * o₁.count) (omega arith)
    (omega arith) A.bytes P in
    let second = put_then o₀.bytes.now o₂.bytes.now o₃.bytes.now (ba ++ bb) bc (16 * at) (16 * o₂.count) (omega arith)
    (omega arith) first Q in
    let third = put_then o₀.bytes.now o₃.bytes.now o₄.bytes.now (ba ++ bb ++ bc) own (16 * at) (16 * o₃.count)
    (omega arith) (omega arith) second R in
    record {
      same = h.same ∙ C.same ∙ B.same ∙ A.same;
      bytes = third ∙ ap (put o₀.bytes.now (16 * at)) (sym (emit-node k m z x a b c at));
      count = omega arith;
    }

-- the same of an equal tree
pub emitted-as : {o o' : Output} {v w : RecordTree} → v ≡ w → Emitted o w o' → Emitted o v o'
emitted-as {o} {o'} e h = subst (λ (x : RecordTree). Emitted o x o') (sym e) h

-- a tree that has a record
pub data Some : RecordTree → Type 0 where
  some : {k m : ℕ} {z : ℤ} {x : ℕ} {a b c : RecordTree} → Some (node k m z x a b c)

pub root-some : {w : RecordTree} {o o' : Output} → Some w → Emitted o w o' → o'.count ≡ root_number w o.count
root-some some h = h.count

pub field-some : {w : RecordTree} {o o' : Output} (x : ℕ) → Some w → Emitted o w o' → o'.count ≡ field_c w x o.count
field-some x some h = h.count

pub statement-some : (w : TargetStatement) → Some (statement_tree w)
unfolding statement_tree
statement-some (skip s) = some
statement-some (assign s p e) = some
statement-some (new s p e) = some
statement-some (free s e) = some
statement-some (sequence s a b) = some
statement-some (branch s e a b) = some
statement-some (while s e b) = some
statement-some (let_in s x b) = some
statement-some (take_address s n p) = some
statement-some (take_value s n e) = some
statement-some (take_operation s n o) = some
statement-some (take_query s n q) = some
statement-some (take_not s n) = some
statement-some (branch_on s n a b) = some
statement-some (assert_on s n) = some
statement-some (store_block s n) = some
statement-some (delete_block s n) = some
statement-some (initialise s n) = some
