use Rattle.std.proofs.Common.{w32}
use Rattle.std.proofs.lemmas.Int.{to_z-of_z}
use Rattle.mt_answer.proofs.Reports.{have_tables, frequency_listed}
use Rattle.mt_answer.proofs.frequencies.frequency_list.Goals as goal

pub frequency-requires-clause-lie : goal.frequency-requires-clause-lie
frequency-requires-clause-lie c = record {
  images = c.requires.images.images;
  registry = c.args.corpus.now.registry;
  groups = c.args.corpus.now.groups;
  stand = c.held.ensures.stand c.requires.images.images c.requires.images.agree;
  lie = rw c.as_slice-spans.ensures c.requires.report.lie;
}

pub frequency-requires-clause-attr : goal.frequency-requires-clause-attr
frequency-requires-clause-attr c = have_tables c.args.corpus.now.registry c.args.report.now.attr _ c.requires.report.declared c.held.ensures.tables

pub returns : goal.returns
returns c = λ images agree.
    frequency_listed images c.args.corpus.now c.args.report.now.spans c.as_slice-spans.result.now c.args.report.now.attr c.args.offset _ c.new-lines.result c.frequency.new.out c.as_slice-spans.ensures
    (to_z-of_z w32 c.args.offset c.ranges.offset) c.new-lines.ensures
    (c.in_ok-frequency.ensures.ok images c.args.corpus.now.registry c.args.corpus.now.groups (c.held.ensures.stand images agree))
