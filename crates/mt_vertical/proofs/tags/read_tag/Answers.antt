use Rattle.std.proofs.Common.{sym}
use Rattle.mt_vertical.proofs.tags.read_tag.Goals as goal
use Rattle.mt_vertical.proofs.Steps.{in_none, some_then, none_then}
use Rattle.mt_vertical.proofs.TagSpelling.{no_bracket, found_line, no_line, no_tab}

pub returns-in_err-rest-clause-none : goal.returns-in_err-rest-clause-none
returns-in_err-rest-clause-none c = in_none _ (no_bracket _ (sym c.in_err-rest.ensures))

pub returns-in-None-clause-some : goal.returns-in-None-clause-some
returns-in-None-clause-some c = some_then _ c.read_behind.ensures.some (λ tag h. found_line _ _ _ _ _ (sym c.in_ok-rest.ensures) (no_tab _ _ c.as_bytes.ensures.value c.in-None.ensures) h)

pub returns-in-None-clause-none : goal.returns-in-None-clause-none
returns-in-None-clause-none c = none_then _ c.read_behind.ensures.none (no_line _ _ (sym c.in_ok-rest.ensures))
