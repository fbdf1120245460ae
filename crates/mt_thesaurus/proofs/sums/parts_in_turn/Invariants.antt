-- So many contexts of the word have given what they give.
use Rattle.std.proofs.Common.{◌≡◌, ℕ, ◌*◌, ◌^◌, ◌≤◌, get_or, length, take}
use Rattle.mt_thesaurus.specs.Sums.{part_of}
use Rattle.mt_thesaurus.proofs.sums.parts_in_turn.Given as goal

abbrev pub invariant-loop-one : goal.invariant-loop-one
invariant-loop-one l = record {
  count : length l.parts.items ≡ l.words;
  parts : (word : ℕ) → get_or l.parts.items word 0 ≡ part_of (take l.one-index l.own) l.by_context word;
  few : (word : ℕ) → get_or l.parts.items word 0 ≤ l.one-index * 2 ^ 51;
}
