-- The document and so many sentences are there.
use Rattle.std.proofs.Common.{◌≡◌, ◌∷◌, map}
use Rattle.std.specs.List.{range_with_len}
use Rattle.mt_generate_spec.specs.Generated.{document, sentence}
use Rattle.mt_generate.proofs.text.structs.Given as goal

abbrev pub invariant-loop-number : goal.invariant-loop-number
invariant-loop-number l = l.spans ≡ document l.name l.tokens ∷ map (sentence l.tokens) (range_with_len 0 l.number)
