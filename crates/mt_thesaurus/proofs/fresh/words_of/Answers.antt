use Rattle.mt_thesaurus.proofs.Scoring.{word_more}
use Rattle.mt_thesaurus.proofs.fresh.words_of.Goals as goal

pub loop-number-preserved : goal.loop-number-preserved
loop-number-preserved c =
    word_more c.args.numbered.now.words c.loop-number.words.keys c.insert.new.self.keys c.loop-number.number c.word.result.now c.in_ok-new.field-0 c.requires c.loop-number.invariant c.word.ensures c.in_ok-new.ensures c.in_ok-insert.ensures.keys
