use Rattle.std.proofs.Common.{◌∙◌, ap, sym}
use Rattle.std.specs.Option.{option_copied}
use Rattle.mt_query_spec.specs.Meaning.{number_of}
use Rattle.mt_cql.specs.Named.{names_in}
use Rattle.mt_cql.proofs.names.find.Goals as goal

pub find_kind_attr-requires-clause-declared : goal.find_kind_attr-requires-clause-declared
find_kind_attr-requires-clause-declared c = c.name_numbers.ensures.declared c.args.registry.now c.in-Some.kind.now c.in-Some-find_kind.kind c.in-Some-find_kind.ensures

pub returns-in-Some-find_kind : goal.returns-in-Some-find_kind
returns-in-Some-find_kind c =
    c.name_numbers.ensures.attribute c.args.registry.now c.in-Some.kind.now c.args.name.now c.in-Some-find_kind.kind c.find_kind_attr.result c.requires c.in-Some-find_kind.ensures c.find_kind_attr.ensures.found c.find_kind_attr.ensures.none
    ∙ ap (λ t. number_of (names_in c.args.registry.now (option_copied t)) c.args.name.now) (sym c.in-Some.is)
