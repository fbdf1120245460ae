-- The tokens of one segment more.
use Rattle.std.proofs.Common.{◌+◌, ◌<◌, ℕ, List, [], length, get_or, arith, sym, subst, ap, ap₂, ◌∙◌}
use Rattle.std.proofs.lemmas.List.{get_or_default}
use Rattle.mt_segment_spec.specs.Tables.{Tables}
use Rattle.mt_frequencies.specs.Tokens.{ArePassed, AreTextNumbers, live_tokens_with}
use Rattle.mt_frequencies.proofs.Texts.{live_there, told_more}
use Rattle.mt_frequencies.proofs.tokens.tokens_with.Goals as goal

pub loop-number-preserved : goal.loop-number-preserved
loop-number-preserved c = λ live lie passed.
    let n = c.loop-number.number in
    let tables = c.get-in-loop-number.result.now in
    let inside : n < length c.args.segments.now = omega (arith, c.loop-number-test.true, c.len-number-end.ensures) in
    let held : n < length live = omega (arith, passed.live_count, c.loop-number-test.true, c.len-number-end.ensures) in
    let there : n < length c.args.passed.now = omega (arith, passed.count, c.loop-number-test.true, c.len-number-end.ensures) in
    let own : AreTextNumbers tables (get_or live n []) = subst (λ (t : Tables). AreTextNumbers t (get_or live n [])) (sym c.get-in-loop-number.ensures) (live_there c.args.segments.now live [] lie n tables [] inside) in
    let counts = c.as_slice-passed.ensures ∙ c.get.ensures ∙ get_or_default c.args.passed.now n c.get.result.now [] there in
    let these : ArePassed tables c.args.attr (get_or live n []) c.as_slice-passed.result.now =
    subst (λ (others : List ℕ). ArePassed tables c.args.attr (get_or live n []) others) (sym counts)
    (subst (λ (t : Tables). ArePassed t c.args.attr (get_or live n []) (get_or c.args.passed.now n [])) (sym c.get-in-loop-number.ensures) (passed.each n tables inside)) in
    c.in_ok-tokens.ensures ∙ ap₂ ◌+◌ (c.loop-number.invariant live lie passed) (c.live_tokens-more.ensures (get_or live n []) own these ∙ ap (λ (t : Tables). live_tokens_with t c.args.attr (get_or live n []) c.args.one.now.value) c.get-in-loop-number.ensures)
    ∙ sym (told_more c.args.segments.now live c.args.attr c.args.one.now.value n tables [] inside held)
