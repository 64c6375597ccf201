-- From what the entry points answer to what running a table both ways is held to.
use Prim.Native.Nat.{ℕ, ◌+◌, ◌*◌, ◌≤◌}
use native.Mathlib.Omega.{arith}
use mathlib.Core.Bool.{Bool, true, false, not, ◌||◌}
use mathlib.Core.List.{List}
use mathlib.Core.Logic.{◌≢◌}
use mathlib.Core.Path.{◌≡◌, refl, sym, ap, ◌∙◌, subst}
use borrow.Author.Tests.{eq-eqb, ne_eqb, le-ltb}
use lib.Dec.{eqb, ltb}
use lib.ListN.{length, take, drop, length-append}
use lib.Seq.{take_at}
use Rattle.rules.specs.Sizes.{memory_length, observation_length}
use Rattle.rules.specs.Words.{put}
use Rattle.rules.specs.Records.{record_count}
use Rattle.rules.specs.Kinds.{source, target}
use Rattle.rules.specs.Checker.{refuse_if, ◌otherwise◌, check, inputs_fault, memory_fault, observation_fault}
use Rattle.rules.specs.Translation.{translation}
use Rattle.rules.specs.Answers.{answer, checked_answer, check_source, WatchedRun, run_plain, run_watched}
use Rattle.rules.specs.Answers.{Translated, translated_as, translated_by, translate_source}
use Rattle.rules.specs.Demand3.{Agreement}
use Rattle.rules.specs.declared.{Answer.Answer, Rule.Rule}
use Rattle.rules.specs.Types.{Checked}
use Rattle.rules.proofs.Acceptance.AcceptedPrograms.{accepted-program}
use Rattle.rules.proofs.Claim.Claim.{demand-3}
use Rattle.recorder.specs.declared.Both.{Both}
use Rattle.recorder.specs.BothRuns.{Lent, lent, both, BothRuns, both_refused, both_ran, both_as, both_by, run_both}
use Rattle.recorder.specs.BothRuns.{Ready, plain_shown, watched_shown, AnsweredBoth}
use Rattle.std.specs.Prelude.{Ok, Err}

-- a buffer of the right length is not refused, and one of another is
pub right-length : (l : List ℕ) (n : ℕ) → length l ≡ n → not (eqb (length l) n) ≡ false
right-length l n e = ap not (eq-eqb (length l) n e)

pub wrong-length : (l : List ℕ) (n : ℕ) → length l ≢ n → not (eqb (length l) n) ≡ true
wrong-length l n d = ap not (ne_eqb (length l) n d)

-- the runs that answers and buffers show agree
abbrev Agreed : List ℕ → List ℕ → ℕ → BothRuns → Type 0
Agreed t i f y = Agreement t i f (plain_shown y.plain y.buffers) (watched_shown y.watched y.buffers)

-- an accepted table, by whether each test is to be refused
abbrev both_tested : Bool → Bool → Bool → Bool → List ℕ → List ℕ → ℕ → Lent → BothRuns
both_tested p q r s t i f x =
    both_as (refuse_if Rule.Inputs p otherwise refuse_if Rule.Memory q otherwise refuse_if Rule.Observation r otherwise refuse_if Rule.Output s) t i f x

module _ (t i : List ℕ) (f : ℕ) (x : Lent) where
  -- what an accepted table comes to, by the tests of the inputs and the buffers
  pub accepted-runs : (p q r s : Bool) → check source t ≡ Ok tt → inputs_fault i ≡ p
      → (memory_fault x.memory || memory_fault x.second) ≡ q → observation_fault x.observation ≡ r
      → ltb (length x.out) (length (translation t)) ≡ s → run_both t i f x ≡ both_tested p q r s t i f x
  accepted-runs p q r s c a b d e =
      ap (λ (k : Checked). both_by k t i f x) c ∙ (λ j. both_tested (a j) (b j) (d j) (e j) t i f x)

  room-tested : (s : Bool) → Ready t i x → ltb (length x.out) (length (translation t)) ≡ s
      → run_both t i f x ≡ both_tested false false false s t i f x
  room-tested s h e =
      accepted-runs false false false s h.accepted h.inputs
      (λ j. right-length x.memory memory_length h.memory j || right-length x.second memory_length h.second j)
      (right-length x.observation observation_length h.observation) e

  agreed : (y : BothRuns) → Ready t i x → y ≡ both_ran t i f x → Agreed t i f y
  agreed y h e =
      subst (Agreed t i f) (sym e)
      (demand-3 t i f x.memory x.second x.observation h.accepted h.inputs h.memory h.second
      h.observation)

  -- answers and buffers that are those of the definition are those that demand 3 speaks of
  answered-both : (y : BothRuns) (p w : Answer) (exit : Lent) → run_both t i f x ≡ y → p ≡ y.plain → w ≡ y.watched
      → exit ≡ y.buffers → AnsweredBoth t i f x p w exit
  answered-both y p w exit e a b c =
      let shown : record { plain = p; watched = w; buffers = exit } ≡ run_both t i f x =
      (λ j. record { plain = a j; watched = b j; buffers = c j }) ∙ sym e in
      record {
        plain = a ∙ sym (ap (λ (z : BothRuns). z.plain) e);
        watched = b ∙ sym (ap (λ (z : BothRuns). z.watched) e);
        buffers = c ∙ sym (ap (λ (z : BothRuns). z.buffers) e);
        agreement = λ u. agreed _ u.ready (shown ∙ room-tested false u.ready (le-ltb _ _ u.room));
      }

  pub refused-both : (k n : ℕ) (r : Both) → run_both t i f x ≡ both_refused k n x
      → r ≡ both (answer k n 0 0) (answer k n 0 0) → AnsweredBoth t i f x r.plain r.watched x
  refused-both k n r e a =
      answered-both (both_refused k n x) r.plain r.watched x e (ap (λ (z : Both). z.plain) a)
      (ap (λ (z : Both). z.watched) a) refl

  -- the checker's answer, where it is a refusal
  pub checked_refused : (a : Answer) (r : Both) → a ≡ check_source t → a.number ≢ 0
      → r ≡ both (answer a.number a.«record» 0 0) (answer a.number a.«record» 0 0)
      → AnsweredBoth t i f x r.plain r.watched x
  checked_refused a r e d g = refused-both a.number a.«record» r (go (check source t) e) g
    where
      go : (c : Checked) → a ≡ checked_answer c → both_by c t i f x ≡ both_refused a.number a.«record» x
      go (Ok u) e₁ = absurd (d (ap (λ (z : Answer). z.number) e₁))
      go (Err r₁) e₁ = λ j. both_refused (sym e₁ j).number (sym e₁ j).«record» x

-- ---- the translation, which answered a and left y
module _ (t i : List ℕ) (f : ℕ) (x : Lent) (h : Ready t i x) (a : Answer) (y : List ℕ)
    (p : a ≡ (translate_source t x.out).answer) (q : y ≡ (translate_source t x.out).out) where
  abbrev too_short : Bool
  too_short = ltb (length x.out) (length (translation t))

  -- with its test apart
  abbrev into : Bool → Translated
  into b = translated_as (refuse_if Rule.Output b) (translation t) x.out

  translated : (b : Bool) → too_short ≡ b → translate_source t x.out ≡ into b
  translated b s = ap (λ (k : Checked). translated_by k t x.out) h.accepted ∙ (λ j. into (s j))

  number_is : (b : Bool) → too_short ≡ b → a.number ≡ (into b).answer.number
  number_is b s = ap (λ (z : Answer). z.number) (p ∙ ap (λ (w : Translated). w.answer) (translated b s))

  -- where the output does not hold it
  pub too_short_lem : (r : Both) → a.number ≢ 0 → r ≡ both (answer 20 0 0 0) (answer 20 0 0 0)
      → AnsweredBoth t i f x r.plain r.watched (lent y x.memory x.second x.observation)
  too_short_lem r d e = go too_short refl
    where
      go : (b : Bool) → too_short ≡ b
          → AnsweredBoth t i f x r.plain r.watched (lent y x.memory x.second x.observation)
      go true s =
          let same = q ∙ ap (λ (w : Translated). w.out) (translated true s) in
          subst (λ (z : List ℕ). AnsweredBoth t i f x r.plain r.watched
          (lent z x.memory x.second x.observation)) (sym same)
          (refused-both t i f x 20 0 r (room-tested t i f x true h s) e)
      go false s = absurd (d (number_is false s))

  -- where it does
  record Held : Type 0 where
    room : too_short ≡ false
    count : a.«record» ≡ record_count (translation t)
    bytes : y ≡ put x.out 0 (translation t)

  held : a.number ≡ 0 → Held
  held z = go too_short refl
    where
      go : (b : Bool) → too_short ≡ b → Held
      go true s = absurd (omega (arith, z, number_is true s))
      go false s =
          let e = translated false s in
          record {
            room = s;
            count = ap (λ (k : Answer). k.«record») (p ∙ ap (λ (w : Translated). w.answer) e);
            bytes = q ∙ ap (λ (w : Translated). w.out) e;
          }

  -- the translation is whole records, and stands in front
  module _ (w : Held) where
    whole : length (translation t) ≡ a.«record» * 16
    whole =
        let n = (agreed t i f x _ h refl).accepted in
        omega (arith, (accepted-program target (translation t) n).whole, w.count)

    held-front : take (a.«record» * 16) y ≡ translation t
    held-front =
        ap (take (a.«record» * 16)) w.bytes ∙ take_at (translation t) _ (a.«record» * 16) whole

  module _ (z : a.number ≡ 0) where
    pub target_fits : a.«record» * 16 ≤ length y
    target_fits =
        let rest = drop (0 + length (translation t)) x.out in
        omega (arith, whole (held z), ap length (held z).bytes, length-append (translation t) rest)

    pub ran-both : (r : Both) (m m₁ o : List ℕ)
        → r ≡ both (run_plain t i f x.memory).answer
        (run_watched (take (a.«record» * 16) y) i f x.second x.observation).answer
        → m ≡ (run_plain t i f x.memory).memory
        → m₁ ≡ (run_watched (take (a.«record» * 16) y) i f x.second x.observation).memory
        → o ≡ (run_watched (take (a.«record» * 16) y) i f x.second x.observation).observation
        → AnsweredBoth t i f x r.plain r.watched (lent y m m₁ o)
    ran-both r m m₁ o b c d e =
        let e₁ = held-front (held z) in
        let run : List ℕ → WatchedRun = λ u. run_watched u i f x.second x.observation in
        answered-both t i f x (both_ran t i f x) r.plain r.watched (lent y m m₁ o)
        (room-tested t i f x false h (held z).room) (ap (λ (k : Both). k.plain) b)
        (ap (λ (k : Both). k.watched) b ∙ ap (λ (u : List ℕ). (run u).answer) e₁)
        (λ j. lent ((held z).bytes j) (c j) ((d ∙ ap (λ (u : List ℕ). (run u).memory) e₁) j)
        ((e ∙ ap (λ (u : List ℕ). (run u).observation) e₁) j))
