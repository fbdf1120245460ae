-- So many numbers have got the one at their place.
use Rattle.std.proofs.Common.{◌≡◌, ℕ, ◌+◌, get_or, take}
use Rattle.mt_thesaurus.proofs.sums.add_all.Given as goal

abbrev pub invariant-loop-word : goal.invariant-loop-word
invariant-loop-word l = (word : ℕ) → get_or l.parts word 0 ≡ get_or l.initial.parts word 0 + get_or (take l.word l.others) word 0
