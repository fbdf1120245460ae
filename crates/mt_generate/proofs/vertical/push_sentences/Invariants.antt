-- So many sentences are there, and their tokens were drawn.
use Rattle.std.proofs.Common.{◌≡◌, ◌*◌, ◌++◌, min}
use Rattle.std.specs.List.{flat_map, range_with_len}
use Rattle.mt_text_spec.specs.Lines.{closed}
use Rattle.mt_generate_spec.specs.Verticals.{sentence_lines}
use Rattle.mt_generate.proofs.vertical.push_sentences.Given as goal

abbrev pub invariant-loop-number : goal.invariant-loop-number
invariant-loop-number l = record {
  seed : l.source.seed ≡ l.fn.source.seed;
  place : l.source.place ≡ min (10 * l.number) l.fn.tokens;
  lines : l.out ≡ l.fn.out ++ flat_map closed (flat_map (sentence_lines l.fn.source.seed l.fn.tokens) (range_with_len 0 l.number));
}
