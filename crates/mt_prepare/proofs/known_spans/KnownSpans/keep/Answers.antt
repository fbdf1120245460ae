use Rattle.std.proofs.Common.{subst, sym}
use Rattle.mt_prepare.proofs.KnownLists.{AreOfKind, one_kind_more, no_kind_more}
use Rattle.mt_prepare.proofs.known_spans.KnownSpans.keep.Goals.{in-Ok-push, in-Err-push}
use Rattle.mt_prepare.proofs.known_spans.KnownSpans.keep.Goals as goal

pub returns-after-push : goal.returns-after-push
returns-after-push c = record {
  known = λ tables before own.
      let its : AreOfKind tables c.in-Ok.kept = subst (AreOfKind tables) (sym c.in-Ok.ensures) own in
      elim c.match-push.branch [
        | in-Ok-push w ↦ one_kind_more tables c.args.self.now.kinds.items c.push.new.self.items c.in-Ok.kept w.in-Ok-push.ensures.items its before
        | in-Err-push w ↦ no_kind_more tables c.args.self.now.kinds.items c.push.new.self.items w.in-Err-push.ensures.items before
      ];
}
