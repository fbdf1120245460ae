use Rattle.std.proofs.Common.{Err, refl, ap, ◌∙◌}
use Rattle.mt_shell.proofs.Adding.{line_is, text_kept, too_rich, kept_not}
use Rattle.mt_shell.proofs.state.State.keep_made.Goals as goal

pub returns-in_default-clause-means : goal.returns-in_default-clause-means
returns-in_default-clause-means g c = λ text may tokens. kept_not g.setting c.args.self.now.held c.args.self.now.held text refl

pub returns-in-Ok-keep_segment-clause-means : goal.returns-in-Ok-keep_segment-clause-means
returns-in-Ok-keep_segment-clause-means g c = λ text may tokens.
    text_kept g.setting c.args.self.now.held c.keep_segment.new.self.held text c.in-Ok.line may.room (c.in-Ok-keep_segment.ensures.poor text may) (c.in-Ok-keep_segment.ensures.ok text may)
    (line_is c.args.tokens text c.in-Ok.line c.in-Ok.ensures tokens)

pub returns-in-Err-TooManyRows-clause-means : goal.returns-in-Err-TooManyRows-clause-means
returns-in-Err-TooManyRows-clause-means g c = λ text may tokens.
    too_rich g.setting c.args.self.now.held c.keep_segment.new.self.held text c.refused.result may.room (c.keep_segment.ensures.rich text may (c.in-Err-TooManyRows.is ∙ ap Err c.in-Err-TooManyRows.field-0-is))
    c.in-Err-TooManyRows.ensures.err c.refused.ensures

pub returns-clause-means : goal.returns-clause-means
returns-clause-means g c = λ text may tokens. kept_not g.setting c.args.self.now.held c.keep_segment.new.self.held text c.in-Err-NoMemory.ensures.err
