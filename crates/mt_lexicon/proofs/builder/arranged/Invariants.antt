-- The values so far stand in order, and their numbers are their places.
use Rattle.std.proofs.Common.{map, get_or, []}
use Rattle.mt_lexicon.proofs.Sorted.{PlacesUpTo}
use Rattle.mt_lexicon.proofs.builder.arranged.Given as goal

abbrev pub invariant-loop-number : goal.invariant-loop-number
invariant-loop-number l = PlacesUpTo (map (λ n. (get_or l.seen n [], n)) l.order) l.values l.numbers.items l.number-index
