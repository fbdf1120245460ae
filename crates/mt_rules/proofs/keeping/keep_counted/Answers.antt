use Rattle.std.proofs.Common.{sym, subst}
use Rattle.mt_corpus_spec.specs.Images.{Corpus}
use Rattle.mt_rules.specs.Ruled.{AreOver}
use Rattle.mt_rules.proofs.Overs.{ruled_by, over_same, over_more, over_back}
use Rattle.mt_rules.proofs.keeping.keep_counted.Goals as goal

pub returns-in_err-add-clause-over : goal.returns-in_err-add-clause-over
returns-in_err-add-clause-over c = over_same c.args.corpus.now c.args.grammar.now c.args.counts.now c.add.new.self c.in_err-add.ensures.err c.requires.over

pub returns-in-Ok-clause-over : goal.returns-in-Ok-clause-over
returns-in-Ok-clause-over c =
    let text = c.requires.segment.text in
    let may = c.requires.segment.may in
    over_more c.args.corpus.now c.keep.new.self text c.args.segment (record { groups = c.in-Ok.ensures.ok text may; registry = c.in-Ok.ensures.registry; taken = c.in-Ok.ensures.taken }) c.args.grammar.now
    c.args.counts.now c.args.more.now.counted c.add.new.self (c.requires.counts text may) c.in_ok-add.ensures.ok c.requires.over

pub returns-in-Err-clause-over : goal.returns-in-Err-clause-over
returns-in-Err-clause-over c =
    let grammar = c.args.grammar.now in
    let text = c.requires.segment.text in
    subst (λ (corpus : Corpus). AreOver corpus (ruled_by grammar c.subtract.new.self)) (sym c.in-Err.ensures.err)
    (over_back c.one_count.ensures c.one_unary_count.ensures c.args.corpus.now grammar c.args.counts.now c.args.more.now.counted c.add.new.self c.subtract.new.self text c.args.segment c.requires.images
    (c.requires.counts text c.requires.segment.may) c.in_ok-add.ensures.ok c.subtract.ensures c.requires.over)
