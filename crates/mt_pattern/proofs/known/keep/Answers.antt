use Rattle.mt_pattern.proofs.KnownValues.{told}
use Rattle.mt_pattern.proofs.known.keep.Goals as goal

pub returns-in_err-keep : goal.returns-in_err-keep
returns-in_err-keep c = λ test known marks.
    c.keep.ensures test (c.loop-id.invariant test known marks) (told test c.args.lexicon.now c.args.marks.now c.loop-id.id c.value.result.now c.has.result marks c.value.ensures c.has.ensures)

pub loop-id-preserved : goal.loop-id-preserved
loop-id-preserved c = λ test known marks.
    c.keep.ensures test (c.loop-id.invariant test known marks) (told test c.args.lexicon.now c.args.marks.now c.loop-id.id c.value.result.now c.has.result marks c.value.ensures c.has.ensures)
