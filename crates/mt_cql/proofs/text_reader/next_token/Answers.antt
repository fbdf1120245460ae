use Rattle.std.proofs.Common.{rules, arith, ◌∙◌, sym, ap, ◌≡◌, ◌<◌, ◌+◌, true, length, get_or}
use Rattle.mt_query_spec.specs.Tokens.{is_blank, tokens_from}
use Rattle.mt_cql.proofs.TextLaws.{blank_there, one_blank, less_is_left, behind_wider}
use Rattle.mt_cql.proofs.text_reader.next_token.Goals as goal

pub loop-rest-preserved : goal.loop-rest-preserved
loop-rest-preserved c =
    let b : is_blank (get_or c.loop-rest.rest.now 0 0) ≡ true = search rules in
    let s : 0 < length c.loop-rest.rest.now = blank_there c.loop-rest.rest.now b in
    let e = c.text_behind-rest.ensures in
    let l = less_is_left c.loop-rest.rest.now s in (
      c.text_behind-rest.utf8,
      ap (tokens_from (c.loop-rest.at + 1) 0) e ∙ sym (one_blank c.loop-rest.at c.loop-rest.rest.now s b) ∙ c.loop-rest.invariant.1,
      (let k = ap length e in omega (arith, k, l, c.loop-rest.invariant.2)),
      (let k = ap length e in omega (arith, k, l, c.loop-rest.invariant.3)),
    )

pub returns-clause-place : goal.returns-clause-place
returns-clause-place c =
    behind_wider _ _ _ _ c.token_at.result c.loop-rest.invariant.2 c.loop-rest.invariant.3 c.token_at.ensures.place
