use Rattle.std.proofs.Common.{arith}
use Rattle.mt_postings.proofs.Heads.{first_eight, fewer_than_eight}
use Rattle.mt_postings.proofs.reader.first_word.Goals as goal

pub returns-in-Some : goal.returns-in-Some
returns-in-Some c =
    let small = c.type_inv.bytes in
    first_eight c.args.bytes.now c.in-Some.chunk.now c.from_be_bytes.result c.in-Some.ensures.cases.enough c.in-Some.ensures.cases.same (λ i. let h = small i in omega arith) c.from_be_bytes.ensures

pub returns-in-None : goal.returns-in-None
returns-in-None c =
    let small = c.type_inv.bytes in
    fewer_than_eight c.args.bytes.now c.padded.result c.from_be_bytes-in-None.result c.in-None.ensures.cases c.padded.ensures (λ i. let h = small i in omega arith) c.from_be_bytes-in-None.ensures
