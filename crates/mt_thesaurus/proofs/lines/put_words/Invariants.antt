-- So many lines are appended.
use Rattle.std.proofs.Common.{◌≡◌, ◌++◌, map, take}
use Rattle.std.specs.List.{flat_map}
use Rattle.mt_text_spec.specs.Lines.{closed}
use Rattle.mt_word_sketch_spec.specs.Order.{Weighed, ranked_of}
use Rattle.mt_word_sketch_spec.specs.Thesaurus.{alike_line}
use Rattle.mt_thesaurus.proofs.lines.put_words.Given as goal

abbrev pub invariant-loop-word : goal.invariant-loop-word
invariant-loop-word l = l.out ≡ l.initial.out ++ flat_map closed (map (λ (w : Weighed). alike_line (ranked_of w)) (take l.word-index l.words))
