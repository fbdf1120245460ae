use Rattle.std.proofs.Common.{[], length, ap, arith}
use Rattle.std.proofs.lemmas.List.{get_or_past}
use Rattle.mt_segment_spec.specs.Tables.{tables_at}
use Rattle.mt_eval.proofs.rarest.listed.Goals as goal

pub returns-else-id-len-clause-none : goal.returns-else-id-len-clause-none
returns-else-id-len-clause-none c =
    let T = c.args.segment.now in
    let whole = c.tables_are_whole.ensures T c.texts-valid.ensures.valid in
    let long = whole.postings c.args.attr c.requires in
    let count = c.len.ensures.number in
    let same = ap length c.lexicon.ensures in
    get_or_past (tables_at T.attrs c.args.attr).postings c.args.id [] (omega (arith, c.if-id-len.false, long, count, same))
