-- The rows so far are placed, and the next ones stand no earlier.
use Rattle.std.proofs.Common.{◌≡◌, ◌++◌, map, take}
use Rattle.mt_corpus_laws.specs.Joined.{placed}
use Rattle.mt_search.proofs.Places.{StandFrom}
use Rattle.mt_search.proofs.placing.push_spans.Given as goal

abbrev pub invariant-loop-i : goal.invariant-loop-i
invariant-loop-i l = (l.rows ≡ l.initial.rows ++ map (placed l.before l.live) (take l.i l.more)) × StandFrom l.more l.live l.i l.place
