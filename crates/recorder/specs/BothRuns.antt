-- One table, inputs and fuel, checked, translated, and run both ways: what it answers, and what the lent buffers hold.
use Rattle.std.specs.Prelude.{ℕ, ◌≤◌, false, ◌||◌, List, ◌≡◌, length}
use Rattle.rules.specs.Sizes.{memory_length, observation_length}
use Rattle.rules.specs.Words.{put}
use Rattle.rules.specs.Kinds.{source}
use Rattle.rules.specs.Checker.{refuse_if, ◌otherwise◌, check, inputs_fault, output_fault, memory_fault}
use Rattle.rules.specs.Checker.{observation_fault}
use Rattle.rules.specs.Translation.{translation}
use Rattle.rules.specs.Answers.{answer, PlainRun, WatchedRun, run_plain, run_watched}
use Rattle.rules.specs.Demand3.{Agreement}
use Rattle.rules.specs.declared.{Answer.Answer, Rule.Rule}
use Rattle.rules.specs.Types.{Checked, rule_number}
use Rattle.recorder.specs.declared.Both.{Both}
use Rattle.std.specs.Prelude.{Ok, Err}

abbrev pub both : Answer → Answer → Both
both p w = record { plain = p; watched = w }

-- the lent buffers: the translation's, the plain run's memory, and the watched run's two
pub record Lent : Type 0 where
  pub out : List ℕ
  pub memory : List ℕ
  pub second : List ℕ
  pub observation : List ℕ

abbrev pub lent : List ℕ → List ℕ → List ℕ → List ℕ → Lent
lent out memory second observation =
    record { out = out; memory = memory; second = second; observation = observation }

-- the answers of both runs, and the buffers after them
pub record BothRuns : Type 0 where
  pub plain : Answer
  pub watched : Answer
  pub buffers : Lent

-- a refusal, by the number of the rule, is the answer of both, and no lent byte is written
abbrev pub both_refused : ℕ → ℕ → Lent → BothRuns
both_refused k n x = record { plain = answer k n 0 0; watched = answer k n 0 0; buffers = x }

-- the plain run of the table, and the watched run of its translation
abbrev pub both_ran : List ℕ → List ℕ → ℕ → Lent → BothRuns
both_ran t i f x =
    let p = run_plain t i f x.memory in
    let w = run_watched (translation t) i f x.second x.observation in
    record {
      plain = p.answer;
      watched = w.answer;
      buffers = lent (put x.out 0 (translation t)) p.memory w.memory w.observation;
    }

abbrev pub both_as : Checked → List ℕ → List ℕ → ℕ → Lent → BothRuns
both_as (Err r) t i f x = both_refused (rule_number r.rule) r.«record» x
both_as (Ok u) t i f x = both_ran t i f x

-- 9, 21 for either memory, 22 and 20, in this order, where the checker refuses nothing
abbrev pub both_by : Checked → List ℕ → List ℕ → ℕ → Lent → BothRuns
both_by c t i f x =
    both_as
    (c otherwise refuse_if Rule.Inputs (inputs_fault i) otherwise refuse_if Rule.Memory (memory_fault x.memory || memory_fault x.second)
    otherwise refuse_if Rule.Observation (observation_fault x.observation)
    otherwise refuse_if Rule.Output (output_fault (translation t) x.out))
    t i f x

abbrev pub run_both : List ℕ → List ℕ → ℕ → Lent → BothRuns
run_both t i f x = both_by (check source t) t i f x

-- both runs may start: an accepted table, inputs without fault, and memories of the right lengths
pub record Ready (t i : List ℕ) (x : Lent) : Type 0 where
  pub accepted : check source t ≡ Ok tt
  pub inputs : inputs_fault i ≡ false
  pub memory : length x.memory ≡ memory_length
  pub second : length x.second ≡ memory_length
  pub observation : length x.observation ≡ observation_length

-- nothing is refused: the output holds the translation too
pub record Unrefused (t i : List ℕ) (x : Lent) : Type 0 where
  pub ready : Ready t i x
  pub room : length (translation t) ≤ length x.out

-- the runs that the answers and the buffers show
abbrev pub plain_shown : Answer → Lent → PlainRun
plain_shown p x = record { answer = p; memory = x.memory }

abbrev pub watched_shown : Answer → Lent → WatchedRun
watched_shown w x = record { answer = w; memory = x.second; observation = x.observation }

-- what answers p and w and the buffers at exit are held to: the definition, and demand 3 where nothing is refused
pub record AnsweredBoth (t i : List ℕ) (f : ℕ) (entry : Lent) (p w : Answer) (exit : Lent) : Type 0 where
  pub plain : p ≡ (run_both t i f entry).plain
  pub watched : w ≡ (run_both t i f entry).watched
  pub buffers : exit ≡ (run_both t i f entry).buffers
  pub agreement : Unrefused t i entry → Agreement t i f (plain_shown p exit) (watched_shown w exit)
