-- So many tokens were drawn, and they are there.
use Rattle.std.proofs.Common.{◌≡◌}
use Rattle.mt_generate_spec.specs.Generated.{tokens_from}
use Rattle.mt_generate.proofs.text.push_rows.Given as goal

abbrev pub invariant-loop : goal.invariant-loop
invariant-loop l = record {
  seed : l.source.seed ≡ l.seed;
  place : l.source.place ≡ l.counter;
  columns : l.all.columns ≡ 3;
  tokens : l.all.tokens ≡ tokens_from l.seed 0 l.counter;
}
