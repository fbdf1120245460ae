use Rattle.std.proofs.Common.{rules, arith, ◌<◌, length}
use Rattle.std.proofs.lemmas.Str.{IsCharBoundary-after_ascii}
use Rattle.mt_cql.specs.Seen.{token_seen}
use Rattle.mt_cql.proofs.Cutting.{lexeme_last}
use Rattle.mt_cql.proofs.TextLaws.{first_token}
use Rattle.mt_cql.proofs.text_reader.token_at.Goals as goal

pub overflow_cast-result : goal.overflow_cast-result
overflow_cast-result c =
    let s : 0 < length c.args.text.now = search rules in
    let l = lexeme_last c.args.at c.args.text.now (token_seen c.in-Ok.token) c.in-Ok.more s c.in-Ok.ensures in
    omega (arith, l.within, c.requires.short)

pub overflow_add-result-in-Ok : goal.overflow_add-result-in-Ok
overflow_add-result-in-Ok c =
    let s : 0 < length c.args.text.now = search rules in
    let l = lexeme_last c.args.at c.args.text.now (token_seen c.in-Ok.token) c.in-Ok.more s c.in-Ok.ensures in
    omega (arith, l.within, c.requires.short)

pub overflow_add-more : goal.overflow_add-more
overflow_add-more c =
    let s : 0 < length c.args.text.now = search rules in
    let l = lexeme_last c.args.at c.args.text.now (token_seen c.in-Ok.token) c.in-Ok.more s c.in-Ok.ensures in
    omega (arith, l.within, c.requires.short)

pub range_from-requires : goal.range_from-requires
range_from-requires c = λ h.
    let s : 0 < length c.args.text.now = search rules in
    let l = lexeme_last c.args.at c.args.text.now (token_seen c.in-Ok.token) c.in-Ok.more s c.in-Ok.ensures in
    IsCharBoundary-after_ascii c.args.text.now c.in-Ok.more c.utf8.text l.within l.ascii

pub returns-in-Ok-clause-next : goal.returns-in-Ok-clause-next
returns-in-Ok-clause-next c =
    let s : 0 < length c.args.text.now = search rules in
    rw c.range_from.ensures.value (first_token c.args.at c.args.text.now (token_seen c.in-Ok.token) c.in-Ok.more s c.requires.front c.in-Ok.ensures)
