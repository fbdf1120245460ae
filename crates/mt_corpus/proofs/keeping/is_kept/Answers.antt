use Rattle.std.proofs.Common.{sym, ◌∙◌}
use Rattle.mt_corpus.specs.Keeping.{is_named}
use Rattle.mt_corpus.proofs.Kept.{is_first_by, not_first_by}
use Rattle.mt_corpus.proofs.keeping.is_kept.Goals as goal

pub returns-then-names : goal.returns-then-names
returns-then-names g c mapper there =
    let i = c.index-mappers-number in
    is_first_by g.M.Mapper.called (is_named c.args.registry.now) c.args.mappers.now c.args.number mapper i.result c.name-name.result.now c.have.result there i.is c.name-name.ensures (sym c.names.ensures ∙ c.if-names.true) c.have.ensures

pub returns-else-names : goal.returns-else-names
returns-else-names g c mapper there =
    let i = c.index-mappers-number in
    c.if-names.false ∙ not_first_by g.M.Mapper.called (is_named c.args.registry.now) c.args.mappers.now c.args.number mapper i.result c.name-name.result.now there i.is c.name-name.ensures (sym c.names.ensures ∙ c.if-names.false)
