use Rattle.mt_text_spec.specs.Registries.{attr_names}
use Rattle.mt_cql.proofs.names.find_attr.Goals as goal

pub returns : goal.returns
returns c = c.name_numbers.ensures.found (attr_names c.args.registry.now.attrs) c.args.name.now c.find_attr.result c.requires.distinct c.find_attr.ensures.found c.find_attr.ensures.none
