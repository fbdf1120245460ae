use Rattle.std.proofs.Common.{rules}
use Rattle.mt_segment.specs.Mappers.{named}
use Rattle.mt_shell.specs.Serves.{setting_of}
use Rattle.mt_shell.proofs.Endings.{nothing_read, complete_by}
use Rattle.mt_shell.proofs.Starting.{serves_first, one_answer}
use Rattle.mt_shell.proofs.top.answer_script.Goals as goal

pub returns-in_default-clause-ends : goal.returns-in_default-clause-ends
returns-in_default-clause-ends g c = λ input h written k. nothing_read input written _ h k

pub returns-in_default-new-clause-ends : goal.returns-in_default-new-clause-ends
returns-in_default-new-clause-ends g c = λ input h written k. nothing_read input written _ h k

pub returns-clause-one : goal.returns-clause-one
returns-clause-one g c = λ done.
    one_answer c.in-Ok-new.ensures.mappers (λ mappers. setting_of (named g.M.Mapper.called g.M.Mapper.image mappers.items)) c.ends_are_answers.ensures c.converse_over-status.result done _ _ c.converse_over-status.ensures.ends

pub returns-clause-complete : goal.returns-clause-complete
returns-clause-complete g c = λ source sink input h short. complete_by c.converse_over-status.result input _ _ c.converse_over-status.ensures.good c.converse_over-status.ensures.faults c.converse_over-status.ensures.is_long h source sink short

pub converse_over-status-requires : goal.converse_over-status-requires
converse_over-status-requires g c = λ κs h. (
  h.0,
  (
    h.1.0,
    (
      h.1.1.0,
      (
        h.1.1.1.0,
        (
          h.1.1.1.1.0,
          (
            h.1.1.1.1.1.0,
            (
              h.1.1.1.1.1.1,
              (
                c.type_bounds.send-M,
                (
                  c.type_bounds.sync-R,
                  (
                    c.in-Ok-new.ensures.reader,
                    (
                      c.in-Ok-new.ensures.state,
                      (serves_first (named g.M.Mapper.called g.M.Mapper.image c.in-Ok-new.talk.session.mappers.items) c.in-Ok-new.talk.session.state c.in-Ok-new.ensures.state, search (rules, c.in-Ok.ensures.len, c.in-Ok.ensures.items, c.deref_mut.ensures)),
                    ),
                  ),
                ),
              ),
            ),
          ),
        ),
      ),
    ),
  ),
)
