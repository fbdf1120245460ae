-- The values up to the place are gone through.
use Rattle.mt_lexicon.proofs.Kept.{KeepsUpTo}
use Rattle.mt_lexicon.proofs.lexicon.Lexicon.of_kept.Given as goal

abbrev pub invariant-loop-number : goal.invariant-loop-number
invariant-loop-number l = KeepsUpTo l.kept l.self-inside.values l.number l.values l.numbers.items
