use Rattle.std.proofs.Common.{◌≡◌, ◌+◌, ◌++◌, [], length}
use Rattle.std.specs.Option.{option_to_list, IfNone}
use Rattle.mt_postings.proofs.Moves.{MovesTo}
use Rattle.mt_postings.proofs.moving.moved_by.Given as goal

abbrev pub invariant-loop-next : goal.invariant-loop-next
invariant-loop-next g l = record {
  moves : MovesTo l.from l.to l.place l.fn.part l.all.items (option_to_list l.next ++ l.cursor);
  ended : IfNone l.next (l.cursor ≡ []);
}

abbrev pub decreases-loop-next : goal.decreases-loop-next
decreases-loop-next g l = length (option_to_list l.next) + length l.cursor
