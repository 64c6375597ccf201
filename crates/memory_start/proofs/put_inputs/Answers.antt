use Rattle.std.proofs.Common.{◌≡◌, ◌+◌, ◌*◌, ◌∙◌, ap, w64, arith}
use mir.Facts.{to_z-of_z}
use Rattle.std.specs.Iterator.Adapters.{enumerate_source, enumerate_count}
use Rattle.memory_start.proofs.Starting.{inputs-start, inputs-turn, next-input}
use Rattle.memory_start.proofs.put_inputs.Goals as goal

pub loop-i-init : goal.loop-i-init
loop-i-init c =
    let it = c.into_iter-i-iterator in
    let none : enumerate_count it.result ≡ 0 = ap enumerate_count it.ensures.into_iter_gives ∙ c.enumerate-i-items.ensures.count in
    let all : enumerate_source it.result ≡ c.chunks_exact.result =
    ap enumerate_source it.ensures.into_iter_gives ∙ c.enumerate-i-items.ensures.source in
    rw (all, none) (record {
      size = c.chunks_exact.ensures.size;
      within = omega arith;
      left = c.chunks_exact.ensures.rest;
      put = inputs-start _ _;
    })

pub loop-i-preserved : goal.loop-i-preserved
loop-i-preserved c =
    let i = c.args.inputs.now in
    let v = c.loop-i.invariant in
    let s = c.in-Some.ensures.steps in
    let count = enumerate_count c.loop-i.i-iterator in
    let n = next-input i (count * 8) c.in-Some.input.now _ v.left s.0.1.0 (s.0.1.1 ∙ v.size) in
    let next : (count + 1) * 8 ≡ count * 8 + 8 = omega arith in
    let f = to_z-of_z {w = w64} {z = c.read_i64-z.result} (record { sfits = c.read_i64-z.type_inv }) in
    rw s.2 (record {
      size = s.0.0 ∙ v.size;
      within = omega (arith, n.2);
      left = rw next n.1;
      put = inputs-turn i count (c.read_i64-z.ensures ∙ n.0) v.put (rw (f, s.1) at c.put_cell.ensures);
    })
