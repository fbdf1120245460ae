use Rattle.std.proofs.Common.{◌<◌, length, sym, subst}
use Rattle.mt_store_spec.specs.Codes.{bits}
use Rattle.mt_postings.specs.Kept.{positions_in}
use Rattle.mt_postings.proofs.Coding.{short_code}
use Rattle.mt_postings.proofs.coded.Coded.code.Goals as goal

pub returns-clause-short : goal.returns-clause-short
returns-clause-short c =
    let i = c.self.inside in
    subst (λ x. length x < 4294967296) (sym c.as_slice.ensures.value) (short_code i.bytes.items (positions_in i.end.count 0 (bits i.bytes.items)) c.self.invariant.code)
