use Rattle.std.proofs.Common.{◌≡◌, ◌++◌, ◌∷◌, [], length, ap, ◌∙◌, arith}
use Rattle.std.proofs.lemmas.List.{length_push}
use Rattle.mt_postings.proofs.Coding.{reads_more}
use Rattle.mt_postings.proofs.decoding.read_positions.Goals as goal

pub loop-preserved : goal.loop-preserved
loop-preserved c =
    let inv = c.loop.invariant in
    let pushed : c.push.new.self.items ≡ c.loop.positions.items ++ c.in-Ok.position ∷ [] = c.in-Ok-push.ensures.items in
    let n = ap length pushed ∙ length_push c.loop.positions.items c.in-Ok.position in
    let m = inv.number in
    record {
      number = omega arith;
      reads = reads_more c.args.reader.now.left c.loop.positions.items c.push.new.self.items c.loop.least c.in-Ok.position c.loop.reader c.next_position.new.reader inv.reads pushed c.in-Ok.ensures.range.0 c.in-Ok.ensures.range.1 c.in-Ok.ensures.code c.in-Ok.ensures.place;
    }
