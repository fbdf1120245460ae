use Rattle.mt_shell.specs.Holding.{grammar_of}
use Rattle.mt_shell.proofs.Listing.{listed_by, not_listed}
use Rattle.mt_shell.proofs.state.State.segments.Goals as goal

pub returns-in-Ok : goal.returns-in-Ok
returns-in-Ok g c = listed_by g.setting c.args.self.now c.self.inside.accepted (grammar_of c.self.inside.rules) c.self.inside.corpus c.held.result.0.now c.held.result.1.now c.in-Ok.lines c.self.view_is c.requires.1.1 c.held.ensures.stand
    (rw (c.as_slice.ensures, c.as_slice-2.ensures) at c.in-Ok.ensures)

pub returns-in-Err : goal.returns-in-Err
returns-in-Err g c = not_listed g.setting c.args.self.now.held
