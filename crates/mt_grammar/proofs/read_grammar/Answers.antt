use Rattle.std.proofs.Common.{◌∙◌}
use Rattle.std.proofs.lemmas.Result.{IfOk-weaker, err_from_is_err_and}
use Rattle.mt_grammar.proofs.Taken.{first_sound, file_refused, ended}
use Rattle.mt_grammar.proofs.SoFar.{nothing_read, line_read}
use Rattle.mt_grammar.proofs.read_grammar.Goals as goal

pub loop-line-init : goal.loop-line-init
loop-line-init c = nothing_read _ _ _ _ (c.into_iter-line-iterator.ensures.into_iter_gives ∙ c.new-line-items.ensures.value) c.new-reader.ensures (first_sound _ c.requires)

pub loop-line-preserved : goal.loop-line-preserved
loop-line-preserved c = line_read _ _ _ _ _ _ _ c.loop-line.invariant c.in-Some.ensures.steps c.in_ok-read_line.ensures.ok

pub returns-in_err-read_line-clause-refused : goal.returns-in_err-read_line-clause-refused
returns-in_err-read_line-clause-refused c =
    let p = err_from_is_err_and c.from_residual.result c.from_residual.ensures.1 in
    rw (p.1, p.2) (file_refused c.args.registry.now c.args.bytes.now _ _ _ _ c.in_err-read_line.field-0.0 c.loop-line.invariant c.in-Some.ensures.steps c.in_err-read_line.ensures.err)

pub returns-clause-read : goal.returns-clause-read
returns-clause-read c = ended c.args.registry.now c.args.bytes.now _ _ c.finish.result c.loop-line.invariant c.in-None.ensures.steps.0 c.finish.ensures.all c.finish.ensures.some

pub returns-clause-valid : goal.returns-clause-valid
returns-clause-valid c =
    let read = ended c.args.registry.now c.args.bytes.now _ _ c.finish.result c.loop-line.invariant c.in-None.ensures.steps.0 c.finish.ensures.all c.finish.ensures.some in
    IfOk-weaker c.finish.result _ _ (λ grammar is. c.read_grammar_is_valid.ensures c.args.registry.now c.args.bytes.now grammar c.requires is) read
