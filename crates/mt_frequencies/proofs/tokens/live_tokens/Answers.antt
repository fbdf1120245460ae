-- The tokens with a value are those in its posting list, but for those of texts that are not live.
use Rattle.std.proofs.Common.{List, ℕ, arith, sym, subst, ap, ◌∙◌, length, slice_get}
use Rattle.std.specs.List.{Contains}
use Rattle.std.proofs.lemmas.List.{get_or_past}
use Rattle.mt_frequencies.proofs.Texts.{by_none, left_over}
use Rattle.mt_frequencies.proofs.tokens.live_tokens.Goals as goal

pub returns-in-None : goal.returns-in-None
returns-in-None c = λ live numbers passed.
    by_none c.numbers_stand_for_values.ensures c.args.segment.now c.texts.ensures.valid c.args.attr c.requires.attr c.args.one.now.value live numbers
    (λ contains. c.in-None.ensures.none (subst (λ (lexicon : List (List ℕ)). Contains lexicon c.args.one.now.value) (sym c.lexicon.ensures) contains))

pub returns-in-None-get : goal.returns-in-None-get
returns-in-None-get c = λ live numbers passed.
    let left = left_over c.numbers_stand_for_values.ensures c.args.segment.now c.texts.ensures.valid c.args.attr c.requires.attr c.args.one.now.value c.in-Some.number live c.args.passed.now numbers passed (ap (λ (lexicon : List (List ℕ)). slice_get lexicon c.in-Some.number) (sym c.lexicon.ensures) ∙ c.in-Some.ensures.found) in
    let none = get_or_past c.args.passed.now c.in-Some.number 0 c.in-None-get.ensures.lookup.3 in
    omega (arith, left, none, c.len-all.ensures.count, ap length c.postings.ensures)

pub returns-in-Some-get : goal.returns-in-Some-get
returns-in-Some-get c = λ live numbers passed.
    let left = left_over c.numbers_stand_for_values.ensures c.args.segment.now c.texts.ensures.valid c.args.attr c.requires.attr c.args.one.now.value c.in-Some.number live c.args.passed.now numbers passed (ap (λ (lexicon : List (List ℕ)). slice_get lexicon c.in-Some.number) (sym c.lexicon.ensures) ∙ c.in-Some.ensures.found) in
    omega (arith, left, c.in-Some-get.ensures.lookup.3.1 0, c.saturating_sub.ensures, c.len-all.ensures.count, ap length c.postings.ensures)
