use Rattle.std.proofs.Common.{◌≡◌, to_z, of_z, w32}
use Rattle.std.proofs.lemmas.Int.{to_z-of_z}
use Rattle.mt_answer.proofs.Reports.{report_over, colloc_told, colloc_declines}
use Rattle.mt_answer.proofs.collocates.colloc.Goals as goal

pub collocation_list-requires-clause-report : goal.collocation_list-requires-clause-report
collocation_list-requires-clause-report g c = report_over c.args.corpus.now _ _ c.in-Ok.report.attr c.in-Ok.report.spans c.requires c.in-Ok.ensures.report

pub returns-in-Ok : goal.returns-in-Ok
returns-in-Ok g c =
    let first : to_z w32 (of_z w32 c.args.from) ≡ c.args.from = to_z-of_z w32 c.args.from c.ranges.from in
    let last : to_z w32 (of_z w32 c.args.to) ≡ c.args.to = to_z-of_z w32 c.args.to c.ranges.to in
    λ counted. colloc_told c.args.corpus.now counted c.args.attr.now c.args.cql.now c.args.from c.args.to c.args.min c.in-Ok.report.attr c.in-Ok.report.spans (g.P.PatternShop.refused c.args.shop.now) (g.P.PatternShop.refused c.report_of.new.shop)
    c.collocation_list.result c.lines.result c.in-Ok.ensures.shop (rw (c.as_str.ensures, c.as_str-2.ensures) at c.in-Ok.ensures.report) (simp (first, last) at c.collocation_list.ensures) c.lines.ensures.made c.lines.ensures.starved

pub returns-in-Err : goal.returns-in-Err
returns-in-Err g c = λ counted. colloc_declines c.args.corpus.now counted c.args.attr.now c.args.cql.now c.args.from c.args.to c.args.min (g.P.PatternShop.refused c.args.shop.now) (g.P.PatternShop.refused c.report_of.new.shop) c.in-Err.declined c.reply.result
    (rw (c.as_str.ensures, c.as_str-2.ensures) at c.in-Err.ensures.declined) c.reply.ensures
