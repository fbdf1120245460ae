-- So many words are copied.
use Rattle.std.proofs.Common.{◌≡◌, take}
use Rattle.mt_ranks.proofs.borrowed.copied.Given as goal

abbrev pub invariant-loop-word : goal.invariant-loop-word
invariant-loop-word l = l.all ≡ take l.word-index l.words
