use Rattle.std.proofs.Common.{Err, ap}
use Rattle.mt_grammar_counts.specs.declared.error.CountError.TheVariants.{TooManyRows}
use Rattle.mt_grammar_counts.proofs.Ending.{same_error}
use Rattle.mt_grammar_counts.proofs.counting.count_all.Goals as goal

pub add_segments-requires-clause-none : goal.add_segments-requires-clause-none
add_segments-requires-clause-none g c = λ lifetimes outlive. λ images. c.new-triples.ensures images c.args.corpus.now.registry c.args.grammar.now

pub returns-in_err-add_segments-clause-too_many : goal.returns-in_err-add_segments-clause-too_many
returns-in_err-add_segments-clause-too_many g c = λ images by h.
    c.in_err-add_segments.ensures.too_many images by (ap Err (same_error c.from_residual.result c.in_err-add_segments.field-0.0 TooManyRows c.from_residual.ensures.1 h))
