use Rattle.std.proofs.Common.{◌<◌, length, sym, subst}
use Rattle.mt_segment_spec.specs.Tables.{tables_at}
use Rattle.mt_segment.proofs.segment.Segment.value_id.Goals as goal

pub returns-clause-within : goal.returns-clause-within
returns-clause-within g c =
    subst (λ n. n < length (tables_at c.args.self.now.attrs c.args.attr).lexicon) (sym c.number.ensures.number) ((c.tables_are_whole.ensures c.args.self.now c.number.ensures.valid).within c.args.attr c.args.pos c.requires.attr c.requires.pos)
