-- The values before the number are marked.
use Rattle.std.proofs.Common.{◌≡◌, ℕ, List, Bool, length}
use Rattle.mt_pattern.specs.Known.{AreKnown}
use Rattle.mt_pattern.proofs.Marked.{Marked}
use Rattle.mt_pattern.proofs.known.recalled.Given as goal

abbrev pub invariant-loop-id : goal.invariant-loop-id
invariant-loop-id l = record {
  size : length l.marks ≡ length l.lexicon;
  marked : (test : List ℕ → Bool) → AreKnown test l.known → Marked test l.lexicon l.id l.marks;
}
