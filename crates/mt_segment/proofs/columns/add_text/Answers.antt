use Rattle.std.proofs.Common.{length, get_or, ◌∙◌, ap, arith}
use Rattle.mt_text_spec.specs.Texts.{value_of}
use Rattle.mt_segment.proofs.Valued.{one_value_more}
use Rattle.mt_segment.proofs.columns.add_text.Goals as goal

pub loop-place-preserved : goal.loop-place-preserved
loop-place-preserved c =
    one_value_more c.args.numbering.now c.loop-place.numbering c.push.new.self c.value.result.now c.args.text.now.tokens c.args.column c.loop-place.place
    (omega (arith, c.loop-place-test.true, c.len-place-end.ensures, ap length c.tokens-tokens.ensures)) c.in_ok-push.ensures.ok c.loop-place.invariant
    (λ token. c.value.ensures token ∙ ap (λ ts. value_of (get_or ts c.loop-place.place token) c.args.column) c.tokens-tokens.ensures)
