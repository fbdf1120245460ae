use Rattle.std.proofs.Common.{◌≡◌, ◌+◌, ◌*◌, ◌/◌, ◌%◌, ◌^◌, ℕ, sym, subst, refl, get_or, arith, w64}
use Rattle.std.specs.Int.{trailing_zeros}
use Rattle.mt_pattern.specs.Marks.{marks_from, IsNext}
use Rattle.mt_pattern.proofs.Bits.{next_here, next_later, next_within, no_later}
use Rattle.mt_pattern.proofs.id_set.next_bit.Goals as goal

-- the number found in the word of the number itself
here : (c : goal.Then-rest-ne0) → IsNext (marks_from c.args.words.now 0 c.args.count) c.args.id (c.args.id + trailing_zeros w64 (c.word-word.result / 2 ^ (c.args.id % 64)))
here c =
    let is : c.word-word.result ≡ get_or c.args.words.now (c.args.id / 64) 0 = c.word-word.ensures.is in
    next_here c.args.words.now c.args.count c.args.id c.word-word.result (c.word-word.result / 2 ^ (c.args.id % 64)) c.requires is c.word-word.ensures.fits refl
    (omega (arith, c.if-rest-ne0.true))

pub overflow_add-result : goal.overflow_add-result
overflow_add-result c = omega (arith, c.ranges.count, next_within c.args.words.now c.args.count c.args.id _ (here c))

pub returns-then-rest-ne0-clause-found : goal.returns-then-rest-ne0-clause-found
returns-then-rest-ne0-clause-found c = here c

-- the number found in a later word
there : (c : goal.In-Some) → IsNext (marks_from c.args.words.now 0 c.args.count) c.args.id (64 * c.in-Some.at + trailing_zeros w64 (get_or c.args.words.now c.in-Some.at 0))
there c =
    next_later c.args.words.now c.args.count c.args.id c.word-word.result c.in-Some.at c.requires c.word-word.ensures.is c.if-rest-ne0.false c.in-Some.ensures.fits c.in-Some.ensures.found

pub overflow_cast-result : goal.overflow_cast-result
overflow_cast-result c = omega (arith, c.ranges.count, next_within c.args.words.now c.args.count c.args.id _ (there c))

pub overflow_mul-result : goal.overflow_mul-result
overflow_mul-result c = omega (arith, c.ranges.count, next_within c.args.words.now c.args.count c.args.id _ (there c))

-- the same by the word that is read there
read : (c : goal.After-word) → IsNext (marks_from c.args.words.now 0 c.args.count) c.args.id (64 * c.in-Some.at + trailing_zeros w64 c.word.result)
read c =
    subst (λ (w : ℕ). IsNext (marks_from c.args.words.now 0 c.args.count) c.args.id (64 * c.in-Some.at + trailing_zeros w64 w)) (sym c.word.ensures.is)
    (next_later c.args.words.now c.args.count c.args.id c.word-word.result c.in-Some.at c.requires c.word-word.ensures.is c.if-rest-ne0.false c.in-Some.ensures.fits c.in-Some.ensures.found)

pub overflow_add-result-in-Some : goal.overflow_add-result-in-Some
overflow_add-result-in-Some c = omega (arith, c.ranges.count, next_within c.args.words.now c.args.count c.args.id _ (read c))

pub returns-in-Some-clause-found : goal.returns-in-Some-clause-found
returns-in-Some-clause-found c = read c

pub returns-in-None-clause-none : goal.returns-in-None-clause-none
returns-in-None-clause-none c =
    no_later c.args.words.now c.args.count c.args.id c.word-word.result c.requires c.word-word.ensures.is c.if-rest-ne0.false c.in-None.ensures.none
