use Rattle.mt_generate_tables.proofs.Codes.{token_back}
use Rattle.mt_generate_tables.proofs.coding.code_of.Goals as goal

pub returns-clause-token : goal.returns-clause-token
returns-clause-token c = token_back c.args.token.rank c.args.token.plural c.from.result c.from.ensures
