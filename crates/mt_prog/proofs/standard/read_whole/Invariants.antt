use Rattle.std.proofs.Common.{◌≡◌, length, ◌+◌}
use Rattle.std.specs.Io.KnownBytes.{Consumes}
use Rattle.mt_prog.proofs.standard.read_whole.Given as goal

abbrev pub invariant-loop-room : goal.invariant-loop-room
invariant-loop-room g l = record {
  room : length l.out + l.room ≡ l.fn.limit + 1;
  block : length l.block.items ≡ 262144;
  bytes : Consumes (g.R.Read.remaining l.fn.reader) (g.R.Read.remaining l.reader) l.out;
}

abbrev pub decreases-loop-room : goal.decreases-loop-room
decreases-loop-room g l = l.room
