use Rattle.std.proofs.Common.{arith}
use Rattle.mt_instances.proofs.Adding.{added_more, added_all}
use Rattle.mt_instances.proofs.gathering.add_each.Goals as goal

pub loop-k-preserved : goal.loop-k-preserved
loop-k-preserved c =
    added_more c.args.words.now.lexicon.now c.args.words.now.numbers.now c.args.heading c.args.rows.now c.args.gathered.now c.loop-k.gathered c.add_row.new.gathered c.loop-k.k c.get.result c.loop-k.invariant c.get.ensures
    c.in_ok-add_row.ensures.gathered c.in_ok-add_row.ensures.names c.in_ok-add_row.ensures.given

pub returns-clause-given : goal.returns-clause-given
returns-clause-given c =
    λ relation images registry text is told.
    added_all images registry text relation c.args.rows.now c.loop-k.k c.args.gathered.now.instances.given c.loop-k.gathered.instances.given (omega arith) (c.loop-k.invariant.given relation images registry text is told)
