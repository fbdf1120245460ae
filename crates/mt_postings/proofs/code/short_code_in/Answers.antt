use Rattle.std.proofs.Common.{ℕ, ◌≡◌, ◌/◌, ◌^◌, ◌<◌, ◌≤◌, get_or, arith, refl}
use Rattle.mt_postings.proofs.Fronts.{Told, told_of, told_value, told_none}
use Rattle.mt_postings.specs.declared.code.TheConstants.{LENGTHS, EXCESSES}
use Rattle.mt_postings.proofs.code.short_code_in.Goals as goal

-- what the tables tell
told : (w length excess : ℕ) → w < 2 ^ 64 → 8 ≤ w / 2 ^ 57 → length ≡ get_or LENGTHS (w / 2 ^ 57) 0 → excess ≡ get_or EXCESSES (w / 2 ^ 57) 0 → Told w length excess
told w length excess fits l a b = told_of LENGTHS EXCESSES w length excess fits l refl a b

pub returns-then-length-held-clause-none : goal.returns-then-length-held-clause-none
returns-then-length-held-clause-none c = λ n k b l.
    let w = c.args.word in
    let excess = get_or EXCESSES (w / 2 ^ 57) 0 in
    let f = c.ranges.word.fits in
    absurd (told_none w c.from-length.result excess c.args.held n k (told w c.from-length.result excess (omega arith) c.if-front-lt-FIRST_SHORT.false c.from-length.ensures refl) c.if-length-held.true c.requires b l)

pub overflow_shr-n : goal.overflow_shr-n
overflow_shr-n c =
    let w = c.args.word in
    let excess = get_or EXCESSES (w / 2 ^ 57) 0 in
    let f = c.ranges.word.fits in
    let some = (told w c.from-length.result excess (omega arith) c.if-front-lt-FIRST_SHORT.false c.from-length.ensures refl).code.long in
    omega arith

pub overflow_sub-n-2 : goal.overflow_sub-n-2
overflow_sub-n-2 c =
    let f = c.ranges.word.fits in
    (told_value c.args.word c.from-length.result c.from.result (told c.args.word c.from-length.result c.from.result (omega arith) c.if-front-lt-FIRST_SHORT.false c.from-length.ensures c.from.ensures)).0

pub overflow_cast-result : goal.overflow_cast-result
overflow_cast-result c =
    let f = c.ranges.word.fits in
    let v = (told_value c.args.word c.from-length.result c.from.result (told c.args.word c.from-length.result c.from.result (omega arith) c.if-front-lt-FIRST_SHORT.false c.from-length.ensures c.from.ensures)).1 in
    omega arith

pub returns-clause-code : goal.returns-clause-code
returns-clause-code c =
    let f = c.ranges.word.fits in
    (told_value c.args.word c.from-length.result c.from.result (told c.args.word c.from-length.result c.from.result (omega arith) c.if-front-lt-FIRST_SHORT.false c.from-length.ensures c.from.ensures)).2
