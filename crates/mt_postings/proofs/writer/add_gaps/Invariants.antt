use Rattle.std.proofs.Common.{◌≡◌, ◌+◌, ◌*◌, ◌^◌, ◌<◌, ◌≤◌, ◌++◌, length, drop, vec_len}
use Rattle.std.specs.Vec.{vec_capacity}
use Rattle.mt_store_spec.specs.Codes.{digits, bits}
use Rattle.mt_store_spec.specs.Positions.{codes, next_least}
use Rattle.mt_postings.specs.Following.{Follow}
use Rattle.mt_postings.proofs.writer.add_gaps.Given as goal

abbrev pub invariant-loop-position : goal.invariant-loop-position
invariant-loop-position l = record {
  follow : Follow l.next (drop l.position-index l.positions);
  below : l.last.held < 64;
  within : l.last.word < 2 ^ l.last.held;
  room : vec_len l.bytes + 8 ≤ vec_capacity l.bytes;
  added : (bits l.bytes.items ++ digits l.last.held l.last.word) ++ codes l.next (drop l.position-index l.positions) ≡ (bits l.initial.bytes.items ++ digits l.initial.last.held l.initial.last.word) ++ codes l.initial.least l.positions;
  next : next_least l.next (drop l.position-index l.positions) ≡ next_least l.initial.least l.positions;
  count : l.bits + length (codes l.next (drop l.position-index l.positions)) ≡ length (codes l.initial.least l.positions);
  most : l.bits ≤ 42 * l.position-index;
}
