use Rattle.std.proofs.Common.{◌≡◌, length}
use Rattle.mt_postings.proofs.Coding.{ReadsTo}
use Rattle.mt_postings.proofs.decoding.read_positions.Given as goal

abbrev pub invariant-loop : goal.invariant-loop
invariant-loop l = record {
  number : length l.positions.items ≡ l.counter;
  reads : ReadsTo l.initial.reader.left l.positions.items l.least l.reader.place l.reader.left;
}
