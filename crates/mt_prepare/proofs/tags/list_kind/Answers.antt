use Rattle.mt_text_spec.specs.Queries as q
use Rattle.mt_prepare.specs.declared.judges.Judge.TheVariants as judge
use Rattle.mt_prepare.proofs.Found.{tag_listed}
use Rattle.mt_prepare.proofs.tags.list_kind.Goals as goal

pub returns-clause-spans : goal.returns-clause-spans
returns-clause-spans g c = tag_listed c.spans_of.result c.args.segment.now (record { kind = c.args.kind; test = q.Any }) judge.Any (λ span there. (λ u. u, λ u. u)) c.spans_of.ensures.spans

pub returns-in_err-spans-clause-listed : goal.returns-in_err-spans-clause-listed
returns-in_err-spans-clause-listed g c = c.spans.ensures.known c.args.segment.now c.requires.spans

pub returns-clause-listed : goal.returns-clause-listed
returns-clause-listed g c = c.spans.ensures.known c.args.segment.now c.requires.spans
