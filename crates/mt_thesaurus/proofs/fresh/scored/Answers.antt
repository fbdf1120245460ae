use Rattle.std.proofs.Common.{◌+◌, ◌*◌, arith}
use Rattle.std.proofs.lemmas.Int.{ints}
use Rattle.mt_thesaurus.proofs.Scoring.{no_number}
use Rattle.mt_thesaurus.proofs.fresh.scored.Goals as goal

pub returns-else-score-gt0-clause-none : goal.returns-else-score-gt0-clause-none
returns-else-score-gt0-clause-none c =
    no_number c.score_is_unique.ensures c.args.entry.now (2 * c.from.result) (c.from-2.result + c.from-3.result) c.score-score.result (omega (arith, c.from.ensures)) (omega (arith, c.from-2.ensures, c.from-3.ensures)) c.score-score.ensures (omega (arith, ints))
