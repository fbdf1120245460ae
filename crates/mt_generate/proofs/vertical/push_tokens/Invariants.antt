-- So many tokens were drawn, and their lines are there.
use Rattle.std.proofs.Common.{◌≡◌, ◌+◌, ◌++◌, map}
use Rattle.std.specs.List.{flat_map}
use Rattle.mt_text_spec.specs.Lines.{closed}
use Rattle.mt_generate_spec.specs.Generated.{tokens_from}
use Rattle.mt_generate_spec.specs.Verticals.{token_line}
use Rattle.mt_generate.proofs.vertical.push_tokens.Given as goal

abbrev pub invariant-loop : goal.invariant-loop
invariant-loop l = record {
  seed : l.source.seed ≡ l.fn.source.seed;
  place : l.source.place ≡ l.fn.source.place + l.counter;
  lines : l.out ≡ l.fn.out ++ flat_map closed (map token_line (tokens_from l.fn.source.seed l.fn.source.place l.counter));
}
