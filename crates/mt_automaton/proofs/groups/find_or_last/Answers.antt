use Rattle.std.proofs.Common.{◌≡◌, ◌-◌, ◌∙◌, length, ap, sym, arith}
use Rattle.std.proofs.lemmas.List.{get_or_read}
use Rattle.std.specs.declared.cmp.Ordering.TheVariants.{Less}
use Rattle.std.specs.Ordering.{nat_cmp}
use Rattle.std.specs.Cmp.Lexicographic.{slice_cmp}
use Rattle.mt_automaton.specs.declared.groups.Group.{Group}
use Rattle.mt_automaton.specs.Groups.{group, none}
use Rattle.mt_automaton.proofs.Grouped.{is_less, all_below}
use Rattle.mt_automaton.proofs.groups.find_or_last.Goals as goal

pub returns-then-is_lt-clause-none : goal.returns-then-is_lt-clause-none
returns-then-is_lt-clause-none c =
    let groups = c.args.groups.now in
    let last = length groups - 1 in
    let item : c.index-groups-count.result ≡ group groups last = get_or_read groups last c.index-groups-count.result (omega (arith, c.if-count-gt0.true)) c.index-groups-count.is none in
    let less : slice_cmp nat_cmp (group groups last).labels c.args.labels ≡ Less =
    ap (λ (x : Group). slice_cmp nat_cmp x.labels c.args.labels) (sym item ∙ c.index-groups-count.is) ∙ sym c.cmp.ensures ∙ is_less c.cmp.result (sym c.if-is_lt.ensures) in
    record {
      within = omega arith;
      below = λ i h. all_below groups c.args.labels last c.requires (omega (arith, c.if-count-gt0.true)) less i (omega (arith, h, c.if-count-gt0.true));
      above = λ i h l. absurd (omega (arith, h, l));
    }
