-- So many tokens were drawn, the marks of their codes are set, and there is room for the others.
use Rattle.std.proofs.Common.{◌≡◌, ◌+◌, ◌≤◌, vec_len, length}
use Rattle.std.specs.Vec.{vec_capacity}
use Rattle.mt_generate_spec.specs.Generated.{tokens_from}
use Rattle.mt_generate_tables.specs.Coded.{AreMarked, tokens_of}
use Rattle.mt_generate_tables.proofs.drawing.draw.Given as goal

abbrev pub invariant-loop : goal.invariant-loop
invariant-loop l = record {
  seed : l.source.seed ≡ l.seed;
  place : l.source.place ≡ l.from + l.counter;
  room : l.tokens ≤ vec_capacity l.codes;
  count : vec_len l.codes ≡ l.counter;
  drawn : tokens_of l.codes.items ≡ tokens_from l.seed l.from l.counter;
  long : length l.marks ≡ 2000;
  marked : AreMarked 2000 l.codes.items l.marks;
}
