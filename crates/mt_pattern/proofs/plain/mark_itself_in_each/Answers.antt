use Rattle.std.proofs.Common.{arith}
use Rattle.mt_pattern_spec.specs.Patterns.{MarksAccepted}
use Rattle.mt_pattern.proofs.Marked.{next_pair}
use Rattle.mt_pattern.proofs.plain.mark_itself_in_each.Goals as goal

pub loop-lexicon-preserved : goal.loop-lexicon-preserved
loop-lexicon-preserved c =
    rw c.in_ok-push.ensures.ok
    (next_pair (λ lexicon marks. MarksAccepted c.args.text.now lexicon.now marks) c.args.lexicons.now c.loop-lexicon.sets c.loop-lexicon.lexicon-index c.lexicon-item.result c.in_ok-mark_itself.field-0 (omega arith)
    c.lexicon-item.is c.loop-lexicon.invariant c.in_ok-mark_itself.ensures)
