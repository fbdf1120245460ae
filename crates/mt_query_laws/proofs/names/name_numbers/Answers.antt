use Rattle.mt_query_laws.proofs.Numbering.{numbered, kind_declared, attr_numbered}
use Rattle.mt_query_laws.proofs.names.name_numbers.Goals as goal

pub returns : goal.returns
returns c = record { found = numbered; declared = kind_declared; attribute = attr_numbered }
