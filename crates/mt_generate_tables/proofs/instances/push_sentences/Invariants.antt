-- So many sentences are in the last list.
use Rattle.std.proofs.Common.{◌≡◌, List, [], ◌∷◌, ◌++◌, map}
use Rattle.std.specs.List.{range_with_len}
use Rattle.mt_text_spec.specs.Texts.{StructSpan}
use Rattle.mt_generate_spec.specs.Generated.{sentence}
use Rattle.mt_generate_tables.proofs.instances.push_sentences.Given as goal

abbrev pub invariant-loop-number : goal.invariant-loop-number
invariant-loop-number l = (before : List (List StructSpan)) → l.initial.all ≡ before ++ [] ∷ [] → l.all ≡ before ++ map (sentence l.tokens) (range_with_len 0 l.number) ∷ []
