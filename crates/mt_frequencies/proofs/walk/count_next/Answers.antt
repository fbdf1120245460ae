-- The windows of a run are those of its spans.
use Rattle.std.proofs.Common.{◌<◌, ℕ, ◌+◌, ◌-◌, arith, ap, ◌∙◌}
use Rattle.mt_frequencies.specs.declared.run.Run.{Run}
use Rattle.mt_frequencies.specs.Numbers.{number_in}
use Rattle.mt_frequencies.specs.Runs.{window_in}
use Rattle.mt_frequencies.specs.Seen.{seen_at, spans_with}
use Rattle.mt_frequencies.proofs.RunLaws.{spans_same}
use Rattle.mt_frequencies.proofs.walk.count_next.Goals as goal

pub returns-then-is_run-clause-each : goal.returns-then-is_run-clause-each
returns-then-is_run-clause-each g c = λ n.
    let at = number_in c.args.numbers.now in
    let old = (seen_at c.args.seen.now n).spans in
    let end = c.run_end-end.result in
    let some : c.args.from < end = omega (arith, c.run_end-end.ensures.from) in
    c.count.ensures.each n ∙ ap (λ (r : Run). old + spans_with at n (window_in r) r.from (r.to - r.from)) c.run_of.ensures.is
    ∙ ap (λ (k : ℕ). old + k)
    (spans_same c.args.around.now c.args.spans.now c.args.from end some
    (record { some = λ k span l m. c.requires.inside.some k span l (omega (arith, m, c.run_end-end.ensures.to)); inside = λ k span l m. c.requires.inside.inside k span l (omega (arith, m, c.run_end-end.ensures.to)) })
    (c.run_end-end.ensures.next (omega (arith, c.is_run.ensures.many c.if-is_run.true, some))) c.requires.distances (c.is_run.ensures.before c.if-is_run.true) (c.is_run.ensures.behind c.if-is_run.true) at n)
