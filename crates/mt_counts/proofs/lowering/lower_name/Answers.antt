use Rattle.std.proofs.Common.{[], refl, arith}
use Rattle.std.proofs.lemmas.Option.{slice_get-get_or}
use Rattle.mt_counts.specs.Tables.{named_word, text_at}
use Rattle.mt_counts.proofs.Keys.{name_counts}
use Rattle.mt_counts.proofs.Taking.{lowered_texts}
use Rattle.mt_counts.proofs.lowering.lower_name.Goals as goal

pub returns-clause-lowered : goal.returns-clause-lowered
returns-clause-lowered c = λ h.
    let names = c.args.names.now in
    let words = c.args.words.now in
    let name = text_at names c.args.name in
    let word = text_at words c.args.word in
    let is = name_counts names words c.args.tally.now c.requires.below name word c.args.word c.args.name c.len.ensures.distinct c.len-2.ensures.distinct
    (slice_get-get_or names c.args.name [] c.requires.name) (slice_get-get_or words c.args.word [] c.requires.word) in
    lowered_texts (named_word names words) (c.args.word, c.args.name) (name, word) 1 c.args.tally.now c.lower_key.new.self refl (c.lower_key.ensures.lowered (omega (arith, h, is)))
