-- The values before both places are joined. What is left of both lists gets shorter.
use Rattle.std.proofs.Common.{◌+◌, ◌-◌, length}
use Rattle.mt_lexicon.proofs.Joined.{JoinsUpTo}
use Rattle.mt_lexicon.proofs.merger.join.Given as goal

abbrev pub invariant-loop-order : goal.invariant-loop-order
invariant-loop-order l = JoinsUpTo l.first l.i l.second l.j l.values l.numbers.items l.others.items

abbrev pub decreases-loop-order : goal.decreases-loop-order
decreases-loop-order l = (length l.first - l.i) + (length l.second - l.j)
