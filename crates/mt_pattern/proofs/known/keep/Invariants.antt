-- What is known of values stays what the test says.
use Rattle.std.proofs.Common.{◌≡◌, ℕ, List, Bool, map}
use Rattle.mt_pattern.specs.Known.{AreKnown}
use Rattle.mt_pattern.proofs.known.keep.Given as goal

abbrev pub invariant-loop-id : goal.invariant-loop-id
invariant-loop-id l = (test : List ℕ → Bool) → AreKnown test l.initial.known → l.marks ≡ map test l.lexicon → AreKnown test l.known
