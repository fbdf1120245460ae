-- The codes so far are those of the marks so far.
use Rattle.std.proofs.Common.{vec_len, ◌≤◌}
use Rattle.mt_generate_tables.specs.Coded.{AreMarked}
use Rattle.mt_generate_tables.proofs.drawing.marked.Given as goal

abbrev pub invariant-loop-code : goal.invariant-loop-code
invariant-loop-code l = record { few : vec_len l.codes ≤ l.code; marked : AreMarked l.code l.codes.items l.marks }
