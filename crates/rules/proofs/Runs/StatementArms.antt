-- What a statement's record says in either language: where it stands, its children, and what those keep.
use Prim.Native.Nat.{ℕ, ◌≤◌, ◌<◌}
use mathlib.Core.List.{List}
use mathlib.Core.Path.{◌≡◌, subst}
use Rattle.rules.specs.Records.{record_count, kind_of, mark_of, child_a, child_b, child_c}
use Rattle.rules.specs.Kinds.{Language, source, target, Sort, expression, place, statement}
use Rattle.rules.specs.Nodes.{NodeOf, node_at, HasSort}
use Rattle.rules.proofs.Acceptance.KindViews.{form_at}
use Rattle.rules.proofs.Acceptance.FormLaws.{FormHolds, node_as}
use Rattle.rules.proofs.Acceptance.Standing.{stands, stands_at}
use Rattle.rules.proofs.Acceptance.Sound.{Scope, adding}
use Rattle.rules.proofs.Acceptance.Readiness.{SoundAs}

-- a child of record n
abbrev pub ChildOfSort : Language → Sort → List ℕ → ℕ → ℕ → Type 0
ChildOfSort l s t n x = (1 ≤ x) × (x < n) × HasSort l s t x

module _ (l : Language) (t : List ℕ) (n : ℕ) (h : HasSort l statement t n) where
  pub statement-form : (k : ℕ) → kind_of t n ≡ k → FormHolds l t n (form_at l k)
  statement-form k e = stands_at l t n k statement h e

  pub statement-within : (1 ≤ n) × (n ≤ record_count t)
  statement-within = let s = stands l t n statement h in (s.from_one, s.within)

-- the children, by the kinds that both languages have
pub assign-children : (l : Language) (t : List ℕ) (n : ℕ) → HasSort l statement t n → kind_of t n ≡ 41
    → ChildOfSort l place t n (child_a t n) × ChildOfSort l expression t n (child_b t n)
assign-children source t n h e = let f = statement-form source t n h 41 e in (f.a, f.b)
assign-children target t n h e = let f = statement-form target t n h 41 e in (f.a, f.b)

pub new-children : (l : Language) (t : List ℕ) (n : ℕ) → HasSort l statement t n → kind_of t n ≡ 42
    → ChildOfSort l place t n (child_a t n) × ChildOfSort l expression t n (child_b t n)
new-children source t n h e = let f = statement-form source t n h 42 e in (f.a, f.b)
new-children target t n h e = let f = statement-form target t n h 42 e in (f.a, f.b)

pub free-child : (l : Language) (t : List ℕ) (n : ℕ) → HasSort l statement t n → kind_of t n ≡ 43
    → ChildOfSort l expression t n (child_a t n)
free-child source t n h e = (statement-form source t n h 43 e).a
free-child target t n h e = (statement-form target t n h 43 e).a

pub sequence-children : (l : Language) (t : List ℕ) (n : ℕ) → HasSort l statement t n → kind_of t n ≡ 44
    → ChildOfSort l statement t n (child_a t n) × ChildOfSort l statement t n (child_b t n)
sequence-children source t n h e = let f = statement-form source t n h 44 e in (f.a, f.b)
sequence-children target t n h e = let f = statement-form target t n h 44 e in (f.a, f.b)

pub branch-children : (l : Language) (t : List ℕ) (n : ℕ) → HasSort l statement t n → kind_of t n ≡ 45
    → ChildOfSort l expression t n (child_a t n) × ChildOfSort l statement t n (child_b t n)
    × ChildOfSort l statement t n (child_c t n)
branch-children source t n h e = let f = statement-form source t n h 45 e in (f.a, f.b, f.c)
branch-children target t n h e = let f = statement-form target t n h 45 e in (f.a, f.b, f.c)

pub while-children : (l : Language) (t : List ℕ) (n : ℕ) → HasSort l statement t n → kind_of t n ≡ 46
    → ChildOfSort l expression t n (child_a t n) × ChildOfSort l statement t n (child_b t n)
while-children source t n h e = let f = statement-form source t n h 46 e in (f.a, f.b)
while-children target t n h e = let f = statement-form target t n h 46 e in (f.a, f.b)

pub let-child : (l : Language) (t : List ℕ) (n : ℕ) → HasSort l statement t n → kind_of t n ≡ 47
    → ChildOfSort l statement t n (child_a t n)
let-child source t n h e = (statement-form source t n h 47 e).a
let-child target t n h e = (statement-form target t n h 47 e).a

-- node n of sort s is sound where the variables of σ are in scope; statements, their expressions and their places
-- have no level
abbrev pub SoundIn : Language → Sort → List ℕ → ℕ → Scope → Type 0
SoundIn l s t n σ = SoundAs l s (node_at l t n) σ 0

pub sound-as : (l : Language) (t : List ℕ) (n : ℕ) → HasSort l statement t n → (σ : Scope) → SoundIn l statement t n σ
    → (k : ℕ) → kind_of t n ≡ k → SoundAs l statement (node_as l (form_at l k).kind t n) σ 0
sound-as l t n h σ s k e =
    subst (λ (x : NodeOf l). SoundAs l statement x σ 0) (statement-form l t n h k e).node s

-- what the children keep
pub sound-sequence : (l : Language) (t : List ℕ) (n : ℕ) → HasSort l statement t n → (σ : Scope)
    → SoundIn l statement t n σ → kind_of t n ≡ 44
    → SoundIn l statement t (child_a t n) σ × SoundIn l statement t (child_b t n) σ
sound-sequence source t n h σ s e = let w = sound-as source t n h σ s 44 e in (w.1, w.2)
sound-sequence target t n h σ s e = let w = sound-as target t n h σ s 44 e in (w.1, w.2)

pub sound-branch : (l : Language) (t : List ℕ) (n : ℕ) → HasSort l statement t n → (σ : Scope)
    → SoundIn l statement t n σ → kind_of t n ≡ 45
    → SoundIn l statement t (child_b t n) σ × SoundIn l statement t (child_c t n) σ
sound-branch source t n h σ s e = let w = sound-as source t n h σ s 45 e in (w.2, w.3)
sound-branch target t n h σ s e = let w = sound-as target t n h σ s 45 e in (w.2, w.3)

pub sound-while : (l : Language) (t : List ℕ) (n : ℕ) → HasSort l statement t n → (σ : Scope)
    → SoundIn l statement t n σ → kind_of t n ≡ 46 → SoundIn l statement t (child_b t n) σ
sound-while source t n h σ s e = (sound-as source t n h σ s 46 e).2
sound-while target t n h σ s e = (sound-as target t n h σ s 46 e).2

pub sound-let : (l : Language) (t : List ℕ) (n : ℕ) → HasSort l statement t n → (σ : Scope)
    → SoundIn l statement t n σ → kind_of t n ≡ 47
    → (mark_of t n < 64) × SoundIn l statement t (child_a t n) (adding σ (mark_of t n))
sound-let source t n h σ s e = let w = sound-as source t n h σ s 47 e in (w.1, w.3)
sound-let target t n h σ s e = let w = sound-as target t n h σ s 47 e in (w.1, w.3)
