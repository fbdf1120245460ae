use Rattle.std.proofs.Common.{refl}
use Rattle.mt_eval_spec.specs.Told.{told_tokens}
use Rattle.mt_grammar_counts.proofs.Values.{labels_lie}
use Rattle.mt_grammar_counts.proofs.query.settle.Goals as goal

pub returns-then-len-ge-MANY-clause-waiting : goal.returns-then-len-ge-MANY-clause-waiting
returns-then-len-ge-MANY-clause-waiting c =
    let tables = c.args.text.now.segment.now in
    labels_lie c.labels_are_inside.ensures tables c.args.text.now.number c.args.query.now c.args.rows (told_tokens tables c.args.text.now.number) refl c.requires.kept

pub tell-requires-clause-lie : goal.tell-requires-clause-lie
tell-requires-clause-lie c =
    let tables = c.args.text.now.segment.now in
    labels_lie c.labels_are_inside.ensures tables c.args.text.now.number c.args.query.now c.args.rows (told_tokens tables c.args.text.now.number) refl c.requires.kept
