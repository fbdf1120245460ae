use denote.Param.Send.{param_sync, arg_sync, given_sync}
use Rattle.std.proofs.Common.{[], refl, ◌∙◌, rules}
use Rattle.mt_outside.specs.Told.{Told}
use Rattle.mt_shell.specs.Outsides.{beside}
use Rattle.mt_shell.specs.Reads.{ProgressInPart, item_of}
use Rattle.mt_shell.proofs.Talks.{always}
use Rattle.mt_shell.proofs.Runs.{none_yet, one_more, quit_at, and_rest, part_at, gives_item, gives_last, gives_said, item_shortens}
use Rattle.mt_shell.proofs.talk.Talk.answer.Goals as goal

pub loop-next-init : goal.loop-next-init
loop-next-init g c = record {
  told = λ written h. none_yet c.args.self.now.reader.bytes c.args.self.now.session.state.held _ written h;
  serves = c.requires.1.1.1.1.1.1.1;
  ended = refl;
  source = record { left = refl; faults = refl };
  faults = refl;
  names = refl;
}

pub returns-then-is_last-clause-on : goal.returns-then-is_last-clause-on
returns-then-is_last-clause-on g c = λ on written h.
    let last = gives_last c.loop-next.self.reader.ended c.loop-next.self.reader.bytes c.next_command-next.new.self.bytes c.next_command-next.result c.next_command-next.ensures.gives (c.is_last.ensures.0 c.if-is_last.true) in
    and_rest c.args.self.now.reader.bytes c.loop-next.self.reader.bytes c.next_command-next.new.self.bytes c.args.self.now.session.state.held c.loop-next.self.session.state.held _ written _
    (c.loop-next.invariant.told written h) (rw c.loop-next.invariant.ended at last.0)

pub loop-next-smaller : goal.loop-next-smaller
loop-next-smaller g c =
    let item = c.in_ok-answer_item.ensures.ok in
    item_shortens c.loop-next.self.reader.bytes c.next_command-next.new.self.bytes item.0 []
    (gives_item c.loop-next.self.reader.ended c.loop-next.self.reader.bytes c.next_command-next.new.self.bytes c.next_command-next.result item.0 c.next_command-next.ensures.gives item.1)

pub loop-next-preserved : goal.loop-next-preserved
loop-next-preserved g c =
    let item = rw c.in-On.is at c.in_ok-answer_item.ensures.ok in
    let counts = c.in_ok-answer_item.ensures.counts in
    let gives = rw c.loop-next.invariant.ended at c.next_command-next.ensures.gives in
    record {
      told = λ written h. one_more c.args.self.now.reader.bytes c.loop-next.self.reader.bytes c.next_command-next.new.self.bytes item.0 c.args.self.now.session.state.held c.loop-next.self.session.state.held
          c.answer_item.new.session.state.held _ written _ _ (c.loop-next.invariant.told written h)
          (gives_item c.args.self.now.reader.ended c.loop-next.self.reader.bytes c.next_command-next.new.self.bytes c.next_command-next.result item.0 gives item.1) item.2 item.3;
      serves = c.answer_item.ensures.serves;
      ended = c.next_command-next.ensures.ended ∙ c.loop-next.invariant.ended;
      source = record { left = counts.0.left ∙ c.loop-next.invariant.source.left; faults = counts.0.faults ∙ c.loop-next.invariant.source.faults };
      faults = counts.1 ∙ c.loop-next.invariant.faults;
      names = c.answer_item.ensures.names ∙ c.loop-next.invariant.names;
    }

pub returns-in-Over-clause-over : goal.returns-in-Over-clause-over
returns-in-Over-clause-over g c = λ over written h.
    let item = rw c.in-Over.is at c.in_ok-answer_item.ensures.ok in
    let gives = rw c.loop-next.invariant.ended at c.next_command-next.ensures.gives in
    quit_at c.args.self.now.reader.bytes c.loop-next.self.reader.bytes c.next_command-next.new.self.bytes item.0 c.args.self.now.session.state.held c.loop-next.self.session.state.held
    c.answer_item.new.session.state.held _ written _ _ (c.loop-next.invariant.told written h)
    (gives_item c.args.self.now.reader.ended c.loop-next.self.reader.bytes c.next_command-next.new.self.bytes c.next_command-next.result item.0 gives item.1) item.2 item.3

pub returns-in_err-answer_item-clause-part : goal.returns-in_err-answer_item-clause-part
returns-in_err-answer_item-clause-part g c =
    let seen = g.E.Edge.seen in
    let refused = g.P.PatternShop.refused in
    let start = beside (seen c.args.edge.now) (refused c.args.shop.now) in
    let mid = beside (seen c.loop-next.edge) (refused c.loop-next.shop) in
    let end = beside (seen c.answer_item.new.edge) (refused c.answer_item.new.shop) in
    let gives = rw c.loop-next.invariant.ended at c.next_command-next.ensures.gives in
    let told : Told (seen c.args.edge.now).written (λ written.
    ProgressInPart g.setting c.args.self.now.reader.ended c.args.self.now.reader.bytes c.args.self.now.session.state.held start written end) =
    λ written h. part_at (item_of c.next_command-next.result) c.args.self.now.reader.bytes c.loop-next.self.reader.bytes c.next_command-next.new.self.bytes c.args.self.now.session.state.held
    c.loop-next.self.session.state.held start written mid end (c.loop-next.invariant.told written h)
    (λ item e. gives_item c.args.self.now.reader.ended c.loop-next.self.reader.bytes c.next_command-next.new.self.bytes c.next_command-next.result item gives e)
    c.in_err-answer_item.ensures.part in
    always c.from_residual.result told

pub answer_item-requires : goal.answer_item-requires
answer_item-requires g c = λ κs h. (
  h.0,
  (
    h.1.0,
    (
      h.1.1.0,
      (
        h.1.1.1.0,
        (
          h.1.1.1.1,
          (
            c.requires.1.1.1.1.1.0,
            (
              param_sync 2 _ (arg_sync _ _ g.row.R (given_sync 3 g.row.R c.requires.1.1.1.1.1.1.0)),
              search (
                rules,
                gives_said c.loop-next.self.reader.ended c.loop-next.self.reader.bytes c.next_command-next.new.self.bytes c.next_command-next.result c.next_command-next.ensures.gives,
              ),
            ),
          ),
        ),
      ),
    ),
  ),
)
