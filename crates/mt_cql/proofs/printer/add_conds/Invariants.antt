use Rattle.std.proofs.Common.{◌≡◌, ◌++◌, drop}
use Rattle.std.specs.Prelude.{string_bytes}
use Rattle.mt_text_spec.specs.Registries.{attr_names}
use Rattle.mt_query_spec.specs.Printed as spec
use Rattle.mt_cql.proofs.printer.add_conds.Given as goal

abbrev pub invariant-loop-cond : goal.invariant-loop-cond
invariant-loop-cond l = string_bytes l.out ++ spec.printed_conds (attr_names l.registry.attrs) (drop l.cond-index l.conds)
    ≡ string_bytes l.initial.out ++ spec.printed_conds (attr_names l.registry.attrs) l.conds
