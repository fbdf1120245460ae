use Rattle.mt_generate_spec.specs.Demo.{generate_line}
use Rattle.mt_generate.proofs.Ranges.{numbered_more}
use Rattle.mt_generate.proofs.script.push_texts.Goals as goal

pub loop-text-preserved : goal.loop-text-preserved
loop-text-preserved c = numbered_more generate_line c.loop-text.text _ _ _ c.loop-text.invariant c.in_ok-push_text.ensures
