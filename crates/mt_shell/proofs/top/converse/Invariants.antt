-- What was read so far is answered, but for a rest that is no whole item.
use Rattle.std.proofs.Common.{◌≡◌, ◌≤◌, ◌-◌, length, false}
use Rattle.mt_outside.specs.Told.{Told}
use Rattle.mt_script_spec.specs.Script.{IsRest}
use Rattle.mt_shell.specs.Outsides.{NoFaults, beside}
use Rattle.mt_segment.specs.Mappers.{named}
use Rattle.mt_shell.specs.Serves.{Serves}
use Rattle.mt_shell.specs.Ends.{Took, ReadsOn}
use Rattle.mt_shell.proofs.top.converse.Given as goal

abbrev pub invariant-loop-taken : goal.invariant-loop-taken
invariant-loop-taken g l =
    let seen = g.E.Edge.seen in
    let refused = g.P.PatternShop.refused in
    record {
      took : Told (seen l.fn.edge).left (λ input. Took input l.taken (beside (seen l.edge) (refused l.shop)));
      reads : Told (seen l.fn.edge).left (λ input. Told (seen l.fn.edge).written (λ written.
          ReadsOn g.setting input l.taken l.talk.reader.bytes l.talk.session.state.held (beside (seen l.fn.edge) (refused l.fn.shop)) written (beside (seen l.edge) (refused l.shop))));
      serves : Serves g.setting (named g.M.Mapper.called g.M.Mapper.image l.talk.session.mappers.items) l.talk.session.state;
      ended : l.talk.reader.ended ≡ false;
      rest : IsRest false l.talk.reader.bytes;
      within : l.taken ≤ 268435456;
      block : length l.block ≡ 65536;
      faults : NoFaults (beside (seen l.fn.edge) (refused l.fn.shop)) (beside (seen l.edge) (refused l.shop));
      names : g.E.Edge.names l.edge ≡ g.E.Edge.names l.fn.edge;
    }

abbrev pub decreases-loop-taken : goal.decreases-loop-taken
decreases-loop-taken g l = 268435456 - l.taken

abbrev pub ghost-take : goal.ghost-take
ghost-take g a = g.setting

abbrev pub ghost-finish : goal.ghost-finish
ghost-finish g a = g.setting
