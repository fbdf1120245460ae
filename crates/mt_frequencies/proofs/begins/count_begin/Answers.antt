-- The value at the place is counted.
use Rattle.std.proofs.Common.{ℕ, ◌<◌, ◌+◌, ◌-◌, length, get_or, arith, ◌∙◌}
use Rattle.std.proofs.lemmas.List.{get_or_default}
use Rattle.mt_segment_spec.specs.Tables.{tables_at}
use Rattle.mt_frequencies.proofs.Amounts.{one_told}
use Rattle.mt_frequencies.proofs.begins.count_begin.Goals as goal

pub returns-clause-counted : goal.returns-clause-counted
returns-clause-counted g c = λ tables attr text distance reach are count l value.
    let place = c.args.reach.place + (c.args.begin - c.args.reach.from) in
    let old = c.args.counts.now in
    let number = c.get-number.result in
    let in_reach = reach.within c.args.begin c.if-begin-reach.false c.if-begin-reach-2.false in
    let is = c.get-number.ensures.number ∙ are.are place in_reach in
    let within : number < length (tables_at tables.attrs attr).lexicon = omega (arith, is, are.within place in_reach) in
    let had : ℕ = get_or old number 0 in
    one_told tables attr text distance c.args.begin old place number had (reach.inside c.args.begin c.if-begin-reach.false c.if-begin-reach-2.false) is within count (get_or_default old number 0 had (omega (arith, within, count))) value
