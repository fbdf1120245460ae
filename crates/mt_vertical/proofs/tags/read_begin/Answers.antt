use Rattle.std.proofs.Common.{sym}
use Rattle.mt_vertical.proofs.tags.read_begin.Goals as goal
use Rattle.mt_vertical.proofs.Steps.{in_none}
use Rattle.mt_vertical.proofs.TagSpelling.{no_tail}

pub returns-in_err-read_tail-clause-none : goal.returns-in_err-read_tail-clause-none
returns-in_err-read_tail-clause-none c =
    in_none _ (no_tail _ _ _ _ c.past_attrs.ensures.0 (sym c.in_ok-name.ensures) c.past_attrs.ensures.1 (sym c.in_err-read_tail.ensures))
