-- So many words have got what the score gives to them.
use Rattle.std.proofs.Common.{◌≡◌, ℕ, ◌+◌, ◌*◌, ◌^◌, ◌≤◌, get_or, take}
use Rattle.mt_thesaurus.specs.Sums.{given}
use Rattle.mt_thesaurus.proofs.sums.give.Given as goal

abbrev pub invariant-loop-other : goal.invariant-loop-other
invariant-loop-other l = record {
  given : (word : ℕ) → get_or l.parts word 0 ≡ get_or l.initial.parts word 0 + given l.score (take l.other-index l.others) word;
  few : (word : ℕ) → get_or l.parts word 0 ≤ get_or l.initial.parts word 0 + l.other-index * 2 ^ 19;
}
