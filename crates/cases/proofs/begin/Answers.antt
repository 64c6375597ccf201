use Rattle.std.proofs.Common.{ℕ, List, [], ◌∷◌, refl}
use Rattle.memory_counts.proofs.CountLaws.{counted_start}
use Rattle.cases.proofs.begin.Goals as goal

-- 7 and 9
abbrev inputs : List ℕ
inputs = 7 ∷ 0 ∷ 0 ∷ 0 ∷ 0 ∷ 0 ∷ 0 ∷ 0 ∷ 9 ∷ 0 ∷ 0 ∷ 0 ∷ 0 ∷ 0 ∷ 0 ∷ 0 ∷ []

pub make-requires : goal.make-requires
make-requires c = counted_start inputs c.start.new.mem refl c.start.ensures c.start-counts.ensures
