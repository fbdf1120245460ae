-- One span more lies in the text.
use Rattle.std.proofs.Common.{arith, sym, ap, ◌∙◌}
use Rattle.std.proofs.lemmas.List.{get_or_default}
use Rattle.mt_text_spec.specs.Texts.{Span}
use Rattle.mt_frequencies.proofs.Begun.{same_text}
use Rattle.mt_frequencies.proofs.walk.text_end.Goals as goal

pub loop-to-preserved : goal.loop-to-preserved
loop-to-preserved c =
    let spans = c.args.spans.now in
    let seen = c.index-spans-to.result in
    let alike = sym c.text.ensures ∙ c.if-text.true ∙ c.text-text.ensures ∙ ap (λ (s : Span). s.text) (c.index-spans-from.is ∙ get_or_default spans c.args.from c.index-spans-from.result seen c.requires) in
    record {
      from = omega (arith, c.loop-to.invariant.from);
      within = omega (arith, c.loop-to-test.true);
      text = same_text spans c.args.from c.loop-to.to seen c.requires c.index-spans-to.is c.loop-to-test.true alike c.loop-to.invariant.text;
    }
