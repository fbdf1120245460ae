-- The values so far have their collocates.
use Rattle.std.proofs.Common.{◌≡◌, ℕ, ℤ, map, take}
use Rattle.mt_frequencies.specs.Collocates.{AreScores, collocate_of}
use Rattle.mt_frequencies.specs.Tokens.{told_tokens_with}
use Rattle.mt_frequencies.proofs.collocates.collocates.Given as goal

abbrev pub invariant-loop-one : goal.invariant-loop-one
invariant-loop-one l = (scores : ℕ → ℕ → ℤ) → AreScores scores → l.all.items ≡ map (collocate_of scores l.spans (told_tokens_with l.segments l.attr l.live)) (take l.one-index l.frequent)
