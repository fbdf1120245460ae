use Rattle.std.proofs.Common.{◌≡◌, ◌+◌, ◌-◌, ◌/◌, ◌∙◌, ap, sym, arith}
use Rattle.std.proofs.lemmas.List.{get_or_read}
use Rattle.std.specs.Ordering.{nat_cmp}
use Rattle.std.specs.Cmp.Lexicographic.{slice_cmp}
use Rattle.mt_automaton.specs.declared.groups.Group.{Group}
use Rattle.mt_automaton.specs.Groups.{group, none}
use Rattle.mt_automaton.proofs.Grouped.{same_labels, all_below, all_above}
use Rattle.mt_automaton.proofs.groups.find.Goals as goal

pub returns-in-Equal : goal.returns-in-Equal
returns-in-Equal c =
    let groups = c.args.groups.now in
    let middle = c.loop-low.low + (c.loop-low.high - c.loop-low.low) / 2 in
    let item : c.index-groups-middle.result ≡ group groups middle = get_or_read groups middle c.index-groups-middle.result (omega arith) c.index-groups-middle.is none in
    record {
      found = (omega arith, same_labels (group groups middle).labels c.args.labels (ap (λ (x : Group). slice_cmp nat_cmp x.labels c.args.labels) (sym item ∙ c.index-groups-middle.is) ∙ sym c.in-Equal.ensures));
      none = tt;
    }

pub loop-low-preserved-in-Less : goal.loop-low-preserved-in-Less
loop-low-preserved-in-Less c =
    let groups = c.args.groups.now in
    let middle = c.loop-low.low + (c.loop-low.high - c.loop-low.low) / 2 in
    let item : c.index-groups-middle.result ≡ group groups middle = get_or_read groups middle c.index-groups-middle.result (omega arith) c.index-groups-middle.is none in
    record {
      order = omega arith;
      within = omega arith;
      below = all_below groups c.args.labels middle c.requires (omega arith) (ap (λ (x : Group). slice_cmp nat_cmp x.labels c.args.labels) (sym item ∙ c.index-groups-middle.is) ∙ sym c.in-Less.ensures);
      above = c.loop-low.invariant.above;
    }

pub loop-low-preserved : goal.loop-low-preserved
loop-low-preserved c =
    let groups = c.args.groups.now in
    let middle = c.loop-low.low + (c.loop-low.high - c.loop-low.low) / 2 in
    let item : c.index-groups-middle.result ≡ group groups middle = get_or_read groups middle c.index-groups-middle.result (omega arith) c.index-groups-middle.is none in
    record {
      order = omega arith;
      within = omega arith;
      below = c.loop-low.invariant.below;
      above = all_above groups c.args.labels middle c.requires (ap (λ (x : Group). slice_cmp nat_cmp x.labels c.args.labels) (sym item ∙ c.index-groups-middle.is) ∙ sym c.in-Greater.ensures);
    }
