use Rattle.mt_sketch.specs.Told.{IsLineOf}
use Rattle.mt_sketch.proofs.Writing.{one_more}
use Rattle.mt_sketch.proofs.lines.put_words.Goals as goal

pub loop-word-preserved : goal.loop-word-preserved
loop-word-preserved c = one_more IsLineOf c.as_slice-word-items.result.now c.loop-word.word-index c.word-item.result c.args.out.now c.loop-word.out c.put_word.new.out c.loop-word-test.true c.word-item.is c.loop-word.invariant c.in_ok-put_word.ensures
