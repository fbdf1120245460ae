-- The lines of the relations before this one are written.
use Rattle.std.proofs.Common.{List, ℕ, take}
use Rattle.mt_counts.specs.declared.listing.Head.{Head}
use Rattle.mt_word_sketch_spec.specs.Sketches.{RelationLines}
use Rattle.mt_sketch.specs.Told.{frequencies_of, heading_of}
use Rattle.mt_sketch.proofs.Writing.{AppendsBlocks}
use Rattle.mt_sketch.proofs.reply.sketch_within.Given as goal

abbrev pub invariant-loop-heading : goal.invariant-loop-heading
invariant-loop-heading l =
    AppendsBlocks (λ (head : Head) (block : List (List ℕ)). RelationLines (frequencies_of l.fn.triples) l.fn.lemma l.fn.least l.fn.max (heading_of head) block) (take l.heading-index l.heading-items) l.initial.reply l.reply
