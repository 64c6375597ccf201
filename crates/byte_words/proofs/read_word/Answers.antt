use Rattle.std.proofs.Common.{rules, ◌≡◌, ◌+◌}
use Rattle.std.specs.Prelude.{reverse}
use Rattle.std.specs.List.{fold, between}
use Rattle.byte_words.proofs.Laws.{shifted_in, word_read}
use Rattle.byte_words.proofs.read_word.Goals as goal

pub returns : goal.returns
returns c =
    let a = c.args in
    let e : c.fold.result ≡ fold shifted_in 0 (reverse (between a.at (a.at + a.n) a.s.now)) = search rules in
    let r = word_read a.s.now a.at a.n c.fold.result c.requires.0 (λ i. (c.type_inv.s i).fits) e in
    record { value = r.0; bound = r.1 }
