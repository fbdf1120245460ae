-- Each segment has its counts.
use Rattle.std.proofs.Common.{◌<◌, ℕ, List, [], ◌∷◌, length, get_or, arith, sym, subst, ap, ◌∙◌}
use Rattle.std.proofs.lemmas.List.{get_or_default, length-append}
use Rattle.mt_segment_spec.specs.Tables.{Tables}
use Rattle.mt_frequencies.specs.Tokens.{ArePassed, AreTextNumbers}
use Rattle.mt_frequencies.proofs.Texts.{as_many, live_there, passed_each}
use Rattle.mt_frequencies.proofs.tokens.all_passed.Goals as goal

pub get-requires : goal.get-requires
get-requires c = omega (arith, as_many c.args.segments.now c.args.live.now [] c.requires.stand, c.loop-number-test.true, c.len-number-end.ensures)

pub passed-requires-clause-live : goal.passed-requires-clause-live
passed-requires-clause-live c =
    let tables = c.get-in-loop-number.result.now in
    subst (λ (numbers : List ℕ). AreTextNumbers tables numbers) (sym (c.as_slice-live.ensures ∙ c.get.ensures))
    (subst (λ (t : Tables). AreTextNumbers t (get_or c.args.live.now c.loop-number.number c.get.result.now)) (sym c.get-in-loop-number.ensures)
    (live_there c.args.segments.now c.args.live.now [] c.requires.stand c.loop-number.number tables c.get.result.now (omega (arith, c.loop-number-test.true, c.len-number-end.ensures))))

pub loop-number-preserved : goal.loop-number-preserved
loop-number-preserved c =
    let n = c.loop-number.number in
    let segments = c.args.segments.now in
    let live = c.args.live.now in
    let inside : n < length segments = omega (arith, c.loop-number-test.true, c.len-number-end.ensures) in
    let held : n < length live = omega (arith, as_many segments live [] c.requires.stand, c.loop-number-test.true, c.len-number-end.ensures) in
    let numbers = c.as_slice-live.ensures ∙ c.get.ensures ∙ get_or_default live n c.get.result.now [] held in
    record {
      count = omega (arith, ap length c.in_ok-push.ensures.ok, length-append c.loop-number.all (c.in_ok-passed.field-0 ∷ []), c.loop-number.invariant.count);
      each = λ k t l.
          subst (λ (all : List (List ℕ)). ArePassed (get_or segments k t) c.args.attr (get_or live k []) (get_or all k [])) (sym c.in_ok-push.ensures.ok)
          (passed_each segments c.args.attr live c.loop-number.all c.in_ok-passed.field-0 n t c.loop-number.invariant.count c.loop-number.invariant.each
          (λ tables.
          subst (λ (own : Tables). ArePassed own c.args.attr (get_or live n []) c.in_ok-passed.field-0) (c.get-in-loop-number.ensures ∙ get_or_default segments n c.get-in-loop-number.result.now tables inside)
          (subst (λ (own : List ℕ). ArePassed c.get-in-loop-number.result.now c.args.attr own c.in_ok-passed.field-0) numbers c.in_ok-passed.ensures)) k t l);
    }

pub returns : goal.returns
returns c = record {
  live_count = as_many c.args.segments.now c.args.live.now [] c.requires.stand;
  count = omega (arith, c.loop-number.invariant.count, c.loop-number-test.false, c.loop-number.auto.number-end, c.len-number-end.ensures);
  each = λ k t l. c.loop-number.invariant.each k t (omega (arith, l, c.loop-number-test.false, c.len-number-end.ensures));
}
