use Rattle.std.proofs.Common.{List, ℕ}
use Rattle.mt_counts.specs.declared.listing.Head.{Head}
use Rattle.mt_word_sketch_spec.specs.Sketches.{RelationLines}
use Rattle.mt_sketch.specs.Told.{frequencies_of, heading_of}
use Rattle.mt_sketch.proofs.Writing.{block_more}
use Rattle.mt_sketch.proofs.Telling.{head_at, reply_told, whole}
use Rattle.mt_sketch.proofs.reply.sketch_within.Goals as goal

pub put_relation-requires-clause-heading : goal.put_relation-requires-clause-heading
put_relation-requires-clause-heading c =
    head_at (frequencies_of c.args.triples.now) c.args.lemma.now c.in_ok-headings.headings c.as_slice-heading-items.result.now c.loop-heading.heading-index c.heading-item.result c.in_ok-headings.ensures c.as_slice-heading-items.ensures c.loop-heading-test.true c.heading-item.is

pub loop-heading-preserved : goal.loop-heading-preserved
loop-heading-preserved c =
    block_more (λ (head : Head) (block : List (List ℕ)). RelationLines (frequencies_of c.args.triples.now) c.args.lemma.now c.args.least c.args.max (heading_of head) block) c.as_slice-heading-items.result.now c.loop-heading.heading-index c.heading-item.result
    c.in_ok-reply.reply c.loop-heading.reply c.put_relation.new.out c.loop-heading-test.true c.heading-item.is c.loop-heading.invariant c.in_ok-put_relation.ensures

pub returns : goal.returns
returns c = λ images registry grammar corpus are.
    reply_told images registry grammar corpus c.args.triples.now c.args.lemma.now c.args.least c.args.max c.in_ok-headings.headings c.len.result c.in_ok-reply.reply c.loop-heading.reply are c.in_ok-headings.ensures c.len.ensures c.in_ok-reply.ensures
    (whole (λ (head : Head) (block : List (List ℕ)). RelationLines (frequencies_of c.args.triples.now) c.args.lemma.now c.args.least c.args.max (heading_of head) block) c.in_ok-headings.headings c.as_slice-heading-items.result.now c.loop-heading.heading-index c.in_ok-reply.reply c.loop-heading.reply
    c.as_slice-heading-items.ensures c.loop-heading-test.false c.loop-heading.invariant)
