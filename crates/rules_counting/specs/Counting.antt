-- 02 §3: "Free cells counted as they go."
use Rattle.std.specs.Prelude.{ℕ, suc, ◌+◌, ◌-◌, cond, ◌≡◌, ltb, None, Ok, Some, true, false}
use Rattle.rules.specs.Types.{Search}
use Rattle.rules.specs.declared.{Pointer.Pointer, Value.Value, Recorded.Recorded}
use Rattle.rules.specs.Sizes.{name_count}
use Rattle.rules.specs.Trees.{Expression, Statement, sequence, branch, while, let_in}
use Rattle.rules.specs.TargetTrees.{TargetStatement}
use Rattle.rules.specs.TargetTrees as target
use Rattle.rules.specs.Memory.{Memory, recorded_of, block_of, changed, store_cell, Use, fixed, made, make_block, end_block}
use Rattle.rules.specs.Memory.{count_free}
use Rattle.rules.specs.Evaluation.{Variables, condition, extend}
use Rattle.rules.specs.Flow.{finished, Meaning, run_by}
use Rattle.rules.specs.Watched.{WatchedState, with_memory, value_in, holding, watch}

-- how memory m has become another: by stores, new blocks and ended blocks, one after the other
pub data History (m : Memory) : Memory → Type 0 where
  begun : History m m
  stored : {m₁ m₂ : Memory} (p : Pointer) (v : Value) → History m m₁ → store_cell m₁ p v ≡ changed m₂ → History m m₂
  block_made : {m₁ m₂ : Memory} (u : Use) (n k : ℕ) → History m m₁ → make_block m₁ u n ≡ made k m₂ → History m m₂
  block_ended : {m₁ m₂ : Memory} (k first n : ℕ) → History m m₁ → recorded_of (block_of m₁ k) ≡ Recorded.Live first n
      → m₂ ≡ end_block m₁ k → History m m₂

-- "a running value that each new, freed, let and ended let block adjusts", c at first
abbrev pub running : {m m₁ : Memory} → ℕ → History m m₁ → ℕ
running c begun = c
running c (stored p v h e) = running c h
running c (block_made u n k h e) = running c h - n
running c (block_ended k first n h e q) = running c h + n

-- "after each step it is the number of cells of kind 0 in the execution memory": memory m, where the value was c, has
-- become m₁, and whichever way it did so, the value is right there
pub record RightAt (m : Memory) (c : ℕ) (m₁ : Memory) : Type 0 where
  pub history : History m m₁
  pub value : (h : History m m₁) → running c h ≡ count_free m₁.cells

-- the steps of a run: a run of statement a, with variables ρ, state x and fuel f, starts statement b, with σ, y and g
pub data Starts {S : Type 0} (M : Meaning S) (b : Statement) (σ : Variables) (y : S) (g : ℕ)
    : Statement → Variables → S → ℕ → Type 0 where
  itself : Starts M b σ y g b σ y g
  first : {s : ℕ} {a c : Statement} {ρ : Variables} {x : S} {f : ℕ} → Starts M b σ y g a ρ x f
      → Starts M b σ y g (sequence s a c) ρ x f
  second : {s : ℕ} {a c : Statement} {ρ : Variables} {x x₁ : S} {f f₁ : ℕ} → run_by M a ρ x f ≡ finished x₁ f₁
      → Starts M b σ y g c ρ x₁ f₁ → Starts M b σ y g (sequence s a c) ρ x f
  yes : {s : ℕ} {e : Expression ⊥} {a c : Statement} {ρ : Variables} {x : S} {f : ℕ} → M.decides e ρ x ≡ Ok true
      → Starts M b σ y g a ρ x f → Starts M b σ y g (branch s e a c) ρ x f
  no : {s : ℕ} {e : Expression ⊥} {a c : Statement} {ρ : Variables} {x : S} {f : ℕ} → M.decides e ρ x ≡ Ok false
      → Starts M b σ y g c ρ x f → Starts M b σ y g (branch s e a c) ρ x f
  turn : {s : ℕ} {e : Expression ⊥} {a : Statement} {ρ : Variables} {x : S} {f : ℕ} → M.decides e ρ x ≡ Ok true
      → Starts M b σ y g a ρ x f → Starts M b σ y g (while s e a) ρ x (suc f)
  again : {s : ℕ} {e : Expression ⊥} {a : Statement} {ρ : Variables} {x x₁ : S} {f f₁ : ℕ}
      → M.decides e ρ x ≡ Ok true → run_by M a ρ x f ≡ finished x₁ f₁
      → Starts M b σ y g (while s e a) ρ x₁ f₁ → Starts M b σ y g (while s e a) ρ x (suc f)
  inside : {s z k : ℕ} {a : Statement} {ρ : Variables} {x x₁ : S} {f : ℕ} → M.makes x ≡ made k x₁
      → Starts M b σ y g a (extend ρ z k) x₁ f → Starts M b σ y g (let_in s z a) ρ x f

-- the same of a watched run
pub data TargetStarts (b : TargetStatement) (σ : Variables) (y : WatchedState) (g : ℕ)
    : TargetStatement → Variables → WatchedState → ℕ → Type 0 where
  itself : TargetStarts b σ y g b σ y g
  first : {s : ℕ} {a c : TargetStatement} {ρ : Variables} {x : WatchedState} {f : ℕ} → TargetStarts b σ y g a ρ x f
      → TargetStarts b σ y g (target.sequence s a c) ρ x f
  second : {s : ℕ} {a c : TargetStatement} {ρ : Variables} {x x₁ : WatchedState} {f f₁ : ℕ}
      → watch a ρ x f ≡ finished x₁ f₁ → TargetStarts b σ y g c ρ x₁ f₁
      → TargetStarts b σ y g (target.sequence s a c) ρ x f
  yes : {s : ℕ} {e : Expression ℕ} {a c : TargetStatement} {ρ : Variables} {x : WatchedState} {f : ℕ}
      → condition (value_in e ρ x) ≡ Ok true → TargetStarts b σ y g a ρ x f
      → TargetStarts b σ y g (target.branch s e a c) ρ x f
  no : {s : ℕ} {e : Expression ℕ} {a c : TargetStatement} {ρ : Variables} {x : WatchedState} {f : ℕ}
      → condition (value_in e ρ x) ≡ Ok false → TargetStarts b σ y g c ρ x f
      → TargetStarts b σ y g (target.branch s e a c) ρ x f
  yes_on : {s n : ℕ} {a c : TargetStatement} {ρ : Variables} {x : WatchedState} {f : ℕ}
      → condition (holding x n) ≡ Ok true → TargetStarts b σ y g a ρ x f
      → TargetStarts b σ y g (target.branch_on s n a c) ρ x f
  no_on : {s n : ℕ} {a c : TargetStatement} {ρ : Variables} {x : WatchedState} {f : ℕ}
      → condition (holding x n) ≡ Ok false → TargetStarts b σ y g c ρ x f
      → TargetStarts b σ y g (target.branch_on s n a c) ρ x f
  turn : {s : ℕ} {e : Expression ℕ} {a : TargetStatement} {ρ : Variables} {x : WatchedState} {f : ℕ}
      → condition (value_in e ρ x) ≡ Ok true → TargetStarts b σ y g a ρ x f
      → TargetStarts b σ y g (target.while s e a) ρ x (suc f)
  again : {s : ℕ} {e : Expression ℕ} {a : TargetStatement} {ρ : Variables} {x x₁ : WatchedState} {f f₁ : ℕ}
      → condition (value_in e ρ x) ≡ Ok true → watch a ρ x f ≡ finished x₁ f₁
      → TargetStarts b σ y g (target.while s e a) ρ x₁ f₁ → TargetStarts b σ y g (target.while s e a) ρ x (suc f)
  inside : {s z k : ℕ} {m : Memory} {a : TargetStatement} {ρ : Variables} {x : WatchedState} {f : ℕ}
      → make_block x.memory fixed 1 ≡ made k m → TargetStarts b σ y g a (extend ρ z k) (with_memory x m) f
      → TargetStarts b σ y g (target.let_in s z a) ρ x f

-- "Block names .. are given in rising order": where every name below k is given and none from k on, the next one
abbrev pub name_from : ℕ → Search
name_from k = cond (ltb name_count k) None (Some k)
