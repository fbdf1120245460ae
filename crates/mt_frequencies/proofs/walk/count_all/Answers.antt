-- Some spans more.
use Rattle.std.proofs.Common.{arith, ◌∙◌}
use Rattle.mt_frequencies.specs.Numbers.{number_in}
use Rattle.mt_frequencies.specs.Seen.{window_at}
use Rattle.mt_frequencies.proofs.Parts.{spans_join}
use Rattle.mt_frequencies.proofs.walk.count_all.Goals as goal

pub loop-next-preserved : goal.loop-next-preserved
loop-next-preserved g c =
    let next = c.loop-next.next in
    let end = c.count_next-next.result in
    record {
      from = omega (arith, c.loop-next.invariant.from, c.count_next-next.ensures.from);
      to = c.count_next-next.ensures.to;
      count = c.count_next-next.ensures.count ∙ c.loop-next.invariant.count;
      past = c.count_next-next.ensures.past;
      each = λ n.
          omega (arith, c.count_next-next.ensures.each n, c.loop-next.invariant.each n, spans_join (number_in c.args.numbers.now) n (window_at c.args.around.now c.args.spans.now) c.args.from next end c.loop-next.invariant.from (omega (arith, c.count_next-next.ensures.from)));
    }
