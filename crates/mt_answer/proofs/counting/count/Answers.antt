use Rattle.mt_answer.proofs.Answers.{count_told, count_declines}
use Rattle.mt_answer.proofs.counting.count.Goals as goal

pub returns-in-Ok : goal.returns-in-Ok
returns-in-Ok g c = λ counted. count_told c.args.corpus.now counted c.args.cql.now c.in-Ok.total (g.P.PatternShop.refused c.args.shop.now) (g.P.PatternShop.refused c.query_total.new.shop) c.count_line.result c.lines.result
    c.in-Ok.ensures.shop (rw c.as_str.ensures at c.in-Ok.ensures.total) c.count_line.ensures c.lines.ensures.made c.lines.ensures.starved

pub returns-in-Err : goal.returns-in-Err
returns-in-Err g c = λ counted. count_declines c.args.corpus.now counted c.args.cql.now (g.P.PatternShop.refused c.args.shop.now) (g.P.PatternShop.refused c.query_total.new.shop) c.in-Err.declined c.reply.result
    (rw c.as_str.ensures at c.in-Err.ensures.declined) c.reply.ensures
