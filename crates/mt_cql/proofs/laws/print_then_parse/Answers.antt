use Rattle.mt_query_spec.specs.Printed.{printed}
use Rattle.mt_cql.proofs.Again.{is_again}
use Rattle.mt_cql.proofs.laws.print_then_parse.Goals as goal

pub returns : goal.returns
returns c = λ registry default query again valid v short a.
    is_again c.one_meaning.ensures registry default (printed registry query) query again (c.printed_is_read.ensures registry default query valid v short) a
