use Rattle.std.proofs.Common.{◌+◌, ◌<◌, arith}
use Rattle.mt_automaton.proofs.reach.follow.Goals as goal

pub overflow_add-from : goal.overflow_add-from
overflow_add-from g c =
    let found = c.in-Some.ensures.found in
    let low : c.in-Some.at < (g.V.View.seen c.args.view.now).text.tokens + 1 = c.requires.begins.inside c.in-Some.at found.is_in in
    record { fits = omega (arith, low, c.requires.last, c.requires.few) }
