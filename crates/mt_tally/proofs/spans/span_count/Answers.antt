use Rattle.std.proofs.Common.{ℕ, ◌+◌, ◌/◌, ◌∙◌, ap, sym, subst, arith}
use Rattle.mt_tally.specs.Tallies.{HasSeen}
use Rattle.mt_tally.proofs.EntrySpans.{nothing_seen, no_spans, more_spans, all_spans, no_more_spans}
use Rattle.mt_tally.proofs.spans.span_count.Goals as goal

pub loop-at-init : goal.loop-at-init
loop-at-init g c =
    let T = c.args.segment.now in
    let conds = c.args.conds.now in
    let entries = c.args.entries.now in
    record {
      width = c.in_ok-start.ensures.width;
      seen = subst (λ (k : ℕ). HasSeen T conds entries c.args.text 0 k c.start.new.self.begins) (sym c.in_ok-start.ensures.tokens) (nothing_seen T conds entries c.args.text c.start.new.self.begins c.in_ok-start.ensures.none);
      counted = no_spans T conds entries c.args.text;
      within = omega arith;
      rises = omega arith;
    }

pub overflow_add-count : goal.overflow_add-count
overflow_add-count g c =
    let T = c.args.segment.now in
    let conds = c.args.conds.now in
    let entries = c.args.entries.now in
    let n = c.loop-at.at in
    let all = more_spans T conds entries c.args.text n c.loop-at.count c.in_ok-count.field-0 c.loop-at.invariant.counted c.in_ok-count.ensures.fresh in
    let few = no_more_spans T conds entries c.args.text (n + 1) (c.loop-at.count + c.in_ok-count.field-0) c.args.rows (omega (arith, c.loop-at-test.true)) c.requires.rows all in
    omega (arith, few, c.ranges.rows.fits)

pub loop-at-preserved : goal.loop-at-preserved
loop-at-preserved g c =
    let T = c.args.segment.now in
    let conds = c.args.conds.now in
    let entries = c.args.entries.now in
    record {
      width = c.in_ok-count.ensures.width ∙ ap (λ (k : ℕ). k / 64 + 1) (sym c.requires.last);
      seen = c.in_ok-count.ensures.seen;
      counted = more_spans T conds entries c.args.text c.loop-at.at c.loop-at.count c.in_ok-count.field-0 c.loop-at.invariant.counted c.in_ok-count.ensures.fresh;
      within = omega (arith, c.loop-at-test.true);
      rises = omega (arith, c.loop-at.invariant.rises, c.in_ok-count.ensures.rises);
    }

pub returns-clause-spans : goal.returns-clause-spans
returns-clause-spans g c = all_spans c.args.segment.now c.args.conds.now c.args.entries.now c.args.text c.loop-at.at c.loop-at.count (omega (arith, c.loop-at-test.false, c.loop-at.invariant.within)) c.loop-at.invariant.counted

pub returns-clause-few : goal.returns-clause-few
returns-clause-few g c = no_more_spans c.args.segment.now c.args.conds.now c.args.entries.now c.args.text c.loop-at.at c.loop-at.count c.args.rows c.loop-at.invariant.within c.requires.rows c.loop-at.invariant.counted
