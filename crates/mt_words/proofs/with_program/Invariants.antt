use Rattle.std.proofs.Common.{◌≡◌, ◌∷◌, map, take}
use Rattle.mt_words.specs.Words.{program, texts}
use Rattle.mt_words.proofs.with_program.Given as goal

abbrev pub invariant-loop-word : goal.invariant-loop-word
invariant-loop-word l = map (λ (word : _). word.now) l.all.items ≡ program ∷ texts (take l.word-index l.words)
