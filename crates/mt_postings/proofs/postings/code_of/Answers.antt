use Rattle.std.proofs.Common.{drop, sym, subst}
use Rattle.std.proofs.lemmas.List.{drop_all}
use Rattle.mt_store_spec.specs.Positions.{codes}
use Rattle.mt_postings.proofs.Coding.{WritesTo, writes_none, writes_all, short_code}
use Rattle.mt_postings.proofs.postings.code_of.Goals as goal

pub loop-position-init : goal.loop-position-init
loop-position-init c = subst (λ w. WritesTo (codes 0 c.args.positions.now) w 0 c.args.positions.now) (sym c.new-writer.ensures) (writes_none c.args.positions.now c.requires)

pub returns-clause-short : goal.returns-clause-short
returns-clause-short c =
    short_code c.finish.result c.args.positions.now (writes_all c.args.positions.now c.finish.result c.loop-position.writer c.loop-position.least (drop c.loop-position.position-index c.args.positions.now) c.requires c.loop-position.invariant (drop_all c.loop-position.position-index c.args.positions.now c.loop-position-test.false) c.finish.ensures)
