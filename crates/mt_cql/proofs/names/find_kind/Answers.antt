use Rattle.mt_text_spec.specs.Registries.{kind_names}
use Rattle.mt_cql.proofs.names.find_kind.Goals as goal

pub returns : goal.returns
returns c = c.name_numbers.ensures.found (kind_names c.args.registry.now.kinds) c.args.name.now c.find_kind.result c.requires.distinct_kinds c.find_kind.ensures.found c.find_kind.ensures.none
