-- The items that were taken so far are answered.
use Rattle.std.proofs.Common.{◌≡◌, length}
use Rattle.mt_outside.specs.Told.{Told}
use Rattle.mt_segment.specs.Mappers.{named}
use Rattle.mt_shell.specs.Outsides.{SameSource, beside}
use Rattle.mt_shell.specs.Serves.{Serves}
use Rattle.mt_shell.specs.Reads.{Progress}
use Rattle.mt_shell.proofs.talk.Talk.answer.Given as goal

abbrev pub invariant-loop-next : goal.invariant-loop-next
invariant-loop-next g l =
    let seen = g.E.Edge.seen in
    let refused = g.P.PatternShop.refused in
    record {
      told : Told (seen l.fn.edge).written (λ written.
          Progress g.setting l.fn.self.reader.ended l.fn.self.reader.bytes l.self.reader.bytes l.fn.self.session.state.held l.self.session.state.held
          (beside (seen l.fn.edge) (refused l.fn.shop)) written (beside (seen l.edge) (refused l.shop)));
      serves : Serves g.setting (named g.M.Mapper.called g.M.Mapper.image l.self.session.mappers.items) l.self.session.state;
      ended : l.self.reader.ended ≡ l.fn.self.reader.ended;
      source : SameSource (seen l.fn.edge) (seen l.edge);
      faults : (seen l.edge).sink_faults ≡ (seen l.fn.edge).sink_faults;
      names : g.E.Edge.names l.edge ≡ g.E.Edge.names l.fn.edge;
    }

abbrev pub decreases-loop-next : goal.decreases-loop-next
decreases-loop-next g l = length l.self.reader.bytes

abbrev pub ghost-answer_item : goal.ghost-answer_item
ghost-answer_item g a = g.setting
