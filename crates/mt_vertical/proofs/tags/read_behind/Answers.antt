use Rattle.std.proofs.Common.{sym}
use Rattle.mt_vertical.proofs.tags.read_behind.Goals as goal
use Rattle.mt_vertical.proofs.Steps.{some_then, none_then}
use Rattle.mt_vertical.proofs.TagSpelling.{begin_found, end_found, no_end, no_begin}

pub returns-in-Some-clause-some : goal.returns-in-Some-clause-some
returns-in-Some-clause-some c = some_then _ c.read_end.ensures.some (λ tag h. end_found _ _ _ _ _ (sym c.in-Some.ensures) h)

pub returns-in-Some-clause-none : goal.returns-in-Some-clause-none
returns-in-Some-clause-none c = none_then _ c.read_end.ensures.none (no_end _ _ (sym c.in-Some.ensures))

pub returns-in-None-clause-some : goal.returns-in-None-clause-some
returns-in-None-clause-some c = some_then _ c.read_begin.ensures.some (λ tag h. begin_found _ _ _ _ h)

pub returns-in-None-clause-none : goal.returns-in-None-clause-none
returns-in-None-clause-none c = none_then _ c.read_begin.ensures.none (no_begin _ (sym c.in-None.ensures))
