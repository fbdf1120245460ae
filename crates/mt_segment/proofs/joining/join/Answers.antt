use Rattle.std.proofs.Common.{ℕ, Option, subst}
use Rattle.mt_segment.specs.Joined.{TakesNumbers}
use Rattle.mt_segment.specs.Numbers.{numbers_in}
use Rattle.mt_segment.proofs.Parted.{has_numbers, parted_more, parted_all}
use Rattle.mt_segment.proofs.joining.join.Goals as goal

pub take_numbers-numbers-requires : goal.take_numbers-numbers-requires
take_numbers-numbers-requires c =
    let (t, joined) = c.requires in
    rw c.base.ensures
    (has_numbers c.args.attrs.now t c.loop-attr.attr-index c.loop-attr.all c.loop-attr.lexicons c.loop-attr.columns c.loop-attr.tables c.loop-attr.postings (c.loop-attr.invariant t joined) c.loop-attr-test.true
    c.attr-item.result c.attr-item.is)

pub loop-attr-preserved : goal.loop-attr-preserved
loop-attr-preserved c = λ t joined.
    rw (c.in_ok-push.ensures.ok, c.take_numbers-numbers.ensures.base, c.base.ensures)
    (parted_more c.args.attrs.now t c.loop-attr.attr-index c.loop-attr.all c.loop-attr.lexicons c.loop-attr.columns c.loop-attr.tables c.loop-attr.postings (c.loop-attr.invariant t joined) c.loop-attr-test.true
    c.attr-item.result c.attr-item.is c.take-lexicon.result (numbers_in c.take_numbers-numbers.result) c.take-postings.result c.take-lexicon.new.self c.take_numbers-numbers.new.columns c.take_numbers-numbers.new.tables c.take-postings.new.self
    c.take-lexicon.ensures
    (subst (λ (b : Option ℕ). TakesNumbers b c.loop-attr.columns c.loop-attr.tables (numbers_in c.take_numbers-numbers.result) c.take_numbers-numbers.new.columns c.take_numbers-numbers.new.tables) c.base.ensures
    c.take_numbers-numbers.ensures.numbers)
    c.take-postings.ensures)

pub returns : goal.returns
returns c = λ t joined.
    parted_all c.args.attrs.now t c.loop-attr.attr-index c.loop-attr.all c.loop-attr.lexicons c.loop-attr.columns c.loop-attr.tables c.loop-attr.postings (c.loop-attr.invariant t joined) c.loop-attr-test.false
