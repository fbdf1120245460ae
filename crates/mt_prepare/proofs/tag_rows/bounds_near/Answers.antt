use Rattle.std.proofs.Common.{◌+◌, arith, rules}
use Rattle.mt_prepare.specs.TagRows.{IsBefore}
use Rattle.mt_prepare.proofs.Spans.{up_to, from_on}
use Rattle.mt_prepare.proofs.tag_rows.bounds_near.Goals as goal

pub returns-then-next-to-clause-before : goal.returns-then-next-to-clause-before
returns-then-next-to-clause-before c =
    let one = c.index-spans-near.result in
    let low : IsBefore one c.args.key = search rules in
    up_to c.args.spans.now c.args.key one c.args.near c.requires.sorted (omega arith) c.index-spans-near.is low

pub returns-then-is_before-clause-before : goal.returns-then-is_before-clause-before
returns-then-is_before-clause-before c =
    let one = c.index-spans-near.result in
    let low : IsBefore one c.args.key = search rules in
    up_to c.args.spans.now c.args.key one c.args.near c.requires.sorted (omega arith) c.index-spans-near.is low

pub returns-clause-before : goal.returns-clause-before
returns-clause-before c =
    let one = c.index-spans-near.result in
    let low : IsBefore one c.args.key = search rules in
    up_to c.args.spans.now c.args.key one c.args.near c.requires.sorted (omega arith) c.index-spans-near.is low

pub returns-clause-behind : goal.returns-clause-behind
returns-clause-behind c =
    let one = c.index-spans-next.result in
    let high : ¬ IsBefore one c.args.key = search rules in
    from_on c.args.spans.now c.args.key one (c.args.near + 1) c.requires.sorted (omega arith) c.index-spans-next.is high
