use Rattle.std.proofs.Common.{◌≡◌, to_z, of_z, w32, SFits, arith, rules}
use Rattle.std.proofs.lemmas.Int.{ints, to_z-of_z}
use Rattle.mt_answer.proofs.Reports.{have_tables, collocates_listed}
use Rattle.mt_answer.proofs.collocates.collocation_list.Goals as goal

pub collocations-requires-clause-lie : goal.collocations-requires-clause-lie
collocations-requires-clause-lie c = record {
  images = c.requires.images.images;
  registry = c.args.corpus.now.registry;
  groups = c.args.corpus.now.groups;
  stand = c.held.ensures.stand c.requires.images.images c.requires.images.agree;
  lie = rw c.as_slice-spans.ensures c.requires.report.lie;
}

pub collocations-requires-clause-attr : goal.collocations-requires-clause-attr
collocations-requires-clause-attr c = have_tables c.args.corpus.now.registry c.args.report.now.attr _ c.requires.report.declared c.held.ensures.tables

pub collocations-requires-clause-order : goal.collocations-requires-clause-order
collocations-requires-clause-order c = omega (arith, ints, c.last_place-last.ensures.order)

pub returns : goal.returns
returns c = λ images agree.
    let first : to_z w32 (of_z w32 c.args.from) ≡ c.args.from = to_z-of_z w32 c.args.from c.ranges.from in
    let last : to_z w32 (of_z w32 c.args.to) ≡ c.args.to = to_z-of_z w32 c.args.to c.ranges.to in
    let fits : SFits w32 c.last_place-last.result = search rules in
    collocates_listed images c.args.corpus.now c.args.report.now.spans c.as_slice-spans.result.now c.args.report.now.attr c.args.from _ c.args.to c.last_place-last.result _ c.args.min c.new-lines.result
    c.collocations.new.out c.as_slice-spans.ensures (to_z-of_z w32 c.args.from c.ranges.from) (to_z-of_z w32 c.last_place-last.result fits) (simp (first, last) at c.last_place-last.ensures.same) c.new-lines.ensures
    (c.in_ok-collocations.ensures.ok images c.args.corpus.now.registry c.args.corpus.now.groups (c.held.ensures.stand images agree))
