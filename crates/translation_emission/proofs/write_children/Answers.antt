-- Three puts, each where the one before it ends, make one.
use Rattle.translation_emission.proofs.Puts.{put-words}
use Rattle.translation_emission.proofs.write_children.Goals as goal

pub returns : goal.returns
returns c =
    let a = c.args in
    put-words a.bytes.now c.write_word.new.d c.write_word-2.new.d c.write_word-3.new.d a.place a.a a.b a.c c.requires
    c.write_word.ensures c.write_word-2.ensures c.write_word-3.ensures
