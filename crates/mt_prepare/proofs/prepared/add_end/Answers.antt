use Rattle.std.proofs.Common.{refl}
use Rattle.mt_text_spec.specs.Queries as q
use Rattle.mt_prepare.proofs.Readying.{adds_tag}
use Rattle.mt_prepare.proofs.prepared.add_end.Goals as goal

pub returns-clause-ready : goal.returns-clause-ready
returns-clause-ready g c =
    adds_tag c.push.result c.args.segment.now c.args.kind q.Any c.in_ok-spans.spans c.args.ready.now (record { tests = c.args.ready.now.tests; tags = c.push.new.self })
    c.in_ok-spans.ensures.spans c.push.ensures.ok refl
