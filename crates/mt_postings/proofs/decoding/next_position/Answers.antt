use Rattle.std.proofs.Common.{inl, subst}
use Rattle.mt_postings.specs.Refused.{IsRefused}
use Rattle.mt_postings.proofs.decoding.next_position.Goals as goal

pub returns-in-Err-TooLarge-clause-err : goal.returns-in-Err-TooLarge-clause-err
returns-in-Err-TooLarge-clause-err c =
    let h = subst (IsRefused c.args.reader.now) c.in-Err-TooLarge.field-0-is c.in-Err-TooLarge.ensures.err in
    (h.0, inl h.1)
