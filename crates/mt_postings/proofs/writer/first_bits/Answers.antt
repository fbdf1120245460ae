use Rattle.std.proofs.Common.{◌-◌, ◌/◌, ◌^◌, ◌<◌, sym, ap, ◌∙◌, subst, arith}
use Rattle.mt_store_spec.specs.Codes.{digits}
use Rattle.mt_postings.proofs.Words.{first_digits, first_fits, first_none, first_small}
use Rattle.mt_postings.proofs.writer.first_bits.Goals as goal

pub returns-in-Some-clause-bits : goal.returns-in-Some-clause-bits
returns-in-Some-clause-bits c =
    ap (λ x. digits c.args.count (x / 2 ^ (8 - c.args.count))) c.from.ensures ∙ first_digits c.args.count c.in-Some.byte.now c.in-Some._rest.now c.args.bytes.now c.requires.few c.in-Some.ensures.cases.0

pub returns-in-Some-clause-fits : goal.returns-in-Some-clause-fits
returns-in-Some-clause-fits c =
    subst (λ x. x / 2 ^ (8 - c.args.count) < 2 ^ c.args.count) (sym c.from.ensures) (first_fits c.args.count c.in-Some.byte.now c.requires.few (first_small c.in-Some.byte.now c.in-Some._rest.now c.args.bytes.now c.in-Some.ensures.cases.0 (let t = c.type_inv.bytes 0 in omega arith)))

pub returns-in-None-clause-bits : goal.returns-in-None-clause-bits
returns-in-None-clause-bits c = (first_none c.args.count c.args.bytes.now c.requires.within c.in-None.ensures.cases).0

pub returns-in-None-clause-fits : goal.returns-in-None-clause-fits
returns-in-None-clause-fits c = (first_none c.args.count c.args.bytes.now c.requires.within c.in-None.ensures.cases).1
