-- So many scores are added to the sums of their words.
use Rattle.std.proofs.Common.{◌≡◌, ℕ, ◌*◌, ◌^◌, ◌≤◌, get_or, length, take}
use Rattle.mt_thesaurus.specs.Sums.{score_sum}
use Rattle.mt_thesaurus.proofs.sums.sums_of.Given as goal

abbrev pub invariant-loop-one : goal.invariant-loop-one
invariant-loop-one l = record {
  count : length l.sums.items ≡ l.words;
  sums : (word : ℕ) → get_or l.sums.items word 0 ≡ score_sum (take l.one-index l.placed) word;
  few : (word : ℕ) → get_or l.sums.items word 0 ≤ l.one-index * 2 ^ 8;
}
