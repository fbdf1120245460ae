use Rattle.mt_answer.proofs.Answers.{query_told, query_declines, rows_lie}
use Rattle.mt_answer.proofs.querying.query.Goals as goal

pub concordance-requires-clause-inside : goal.concordance-requires-clause-inside
concordance-requires-clause-inside g c = rows_lie c.args.corpus.now c.args.cql.now c.in-Ok.rows c.requires (rw c.as_str.ensures at c.in-Ok.ensures.rows)

pub returns-in-Ok : goal.returns-in-Ok
returns-in-Ok g c = λ counted. query_told c.args.corpus.now counted c.args.cql.now c.in-Ok.rows (g.P.PatternShop.refused c.args.shop.now) (g.P.PatternShop.refused c.query_rows.new.shop) c.concordance.result c.lines.result
    c.in-Ok.ensures.shop (rw c.as_str.ensures at c.in-Ok.ensures.rows) c.concordance.ensures c.lines.ensures.made c.lines.ensures.starved

pub returns-in-Err : goal.returns-in-Err
returns-in-Err g c = λ counted. query_declines c.args.corpus.now counted c.args.cql.now (g.P.PatternShop.refused c.args.shop.now) (g.P.PatternShop.refused c.query_rows.new.shop) c.in-Err.declined c.reply.result
    (rw c.as_str.ensures at c.in-Err.ensures.declined) c.reply.ensures
