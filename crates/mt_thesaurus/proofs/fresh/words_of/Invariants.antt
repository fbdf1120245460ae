-- So many words have their numbers.
use Rattle.std.proofs.Common.{◌≡◌, take}
use Rattle.mt_thesaurus.proofs.fresh.words_of.Given as goal

abbrev pub invariant-loop-number : goal.invariant-loop-number
invariant-loop-number l = l.words.keys ≡ take l.number l.numbered.words
