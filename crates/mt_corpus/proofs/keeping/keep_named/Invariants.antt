use Rattle.std.proofs.Common.{◌≡◌}
use Rattle.mt_corpus.specs.Keeping.{is_named}
use Rattle.mt_corpus.proofs.Kept.{kept_from}
use Rattle.mt_corpus.proofs.keeping.keep_named.Given as goal

abbrev pub invariant-loop-number : goal.invariant-loop-number
invariant-loop-number g l = l.mappers.items ≡ kept_from g.M.Mapper.called (is_named l.registry) l.initial.mappers.items l.number
