use Rattle.std.proofs.Common.{sym, ◌∙◌}
use Rattle.mt_query_spec.specs.Verdicts.{too_long}
use Rattle.mt_cql.proofs.Answering.{answered, valid_if_read}
use Rattle.mt_cql.proofs.text_reader.parse.Goals as goal

pub returns-then-is_too_long-clause-means : goal.returns-then-is_too_long-clause-means
returns-then-is_too_long-clause-means c = too_long (sym c.is_too_long.ensures ∙ c.if-is_too_long.true)

pub returns-clause-means : goal.returns-clause-means
returns-clause-means c =
    answered c.args.registry.now c.args.default c.args.text.now (c.answer_is_meant.ensures c.args.registry.now c.args.default c.args.text.now) c.read.result
    (sym c.is_too_long.ensures ∙ c.if-is_too_long.false) c.read.ensures

pub returns-clause-valid : goal.returns-clause-valid
returns-clause-valid c = λ h.
    valid_if_read c.args.registry.now c.args.default c.args.text.now (λ query. c.read_is_valid.ensures c.args.registry.now c.args.default c.args.text.now query c.requires h) c.read.result
    (answered c.args.registry.now c.args.default c.args.text.now (c.answer_is_meant.ensures c.args.registry.now c.args.default c.args.text.now) c.read.result
    (sym c.is_too_long.ensures ∙ c.if-is_too_long.false) c.read.ensures)
