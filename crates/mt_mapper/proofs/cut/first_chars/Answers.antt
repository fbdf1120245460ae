use Rattle.std.proofs.Common.{◌≡◌, ◌∙◌, sym, ap, arith, chars}
use Rattle.std.proofs.lemmas.Str.{encodes-chars}
use Rattle.mt_mapper.specs.Images.{prefix}
use Rattle.mt_mapper.proofs.Cuts.{passed, whole, front, short, boundary}
use Rattle.mt_mapper.proofs.cut.first_chars.Goals as goal

pub loop-init : goal.loop-init
loop-init c = record { within = omega arith; left = c.chars-others.ensures.rest ∙ sym (encodes-chars c.args.text.now c.utf8.text) }

pub returns-in_default-clause-front : goal.returns-in_default-clause-front
returns-in_default-clause-front c =
    whole c.args.text.now _ c.loop.counter c.args.count c.utf8.text c.loop.invariant.left c.in_default.ensures.steps.0.0 (omega arith)

pub loop-preserved : goal.loop-preserved
loop-preserved c =
    let more = passed (chars c.args.text.now) _ _ c.loop.counter c.in-Some.field-0 c.loop.invariant.left c.in-Some.ensures.steps.0 c.loop.invariant.within in
    record { within = more.0; left = more.1 }

pub overflow_sub-text : goal.overflow_sub-text
overflow_sub-text c = short c.args.text.now c.as_str.result.now c.loop.counter c.utf8.text (c.as_str.ensures ∙ c.loop.invariant.left)

pub range-requires-clause-end_boundary : goal.range-requires-clause-end_boundary
range-requires-clause-end_boundary c = boundary c.args.text.now c.as_str.result.now c.loop.counter c.utf8.text c.as_str.utf8 (c.as_str.ensures ∙ c.loop.invariant.left)

pub returns-clause-front : goal.returns-clause-front
returns-clause-front c =
    let all : c.loop.counter ≡ c.args.count = omega arith in
    c.range.ensures.value ∙ front c.args.text.now c.as_str.result.now c.loop.counter c.utf8.text (c.as_str.ensures ∙ c.loop.invariant.left) ∙ ap (λ k. prefix k c.args.text.now) all
