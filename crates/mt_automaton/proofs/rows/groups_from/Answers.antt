use Rattle.std.proofs.Common.{List, sym, subst}
use Rattle.mt_match_spec.specs.Labels.{no_labels}
use Rattle.mt_automaton.specs.declared.groups.Group.{Group}
use Rattle.mt_automaton.specs.Parts.{width}
use Rattle.mt_automaton.specs.Groups.{Fine, AddsRows, Leads}
use Rattle.mt_automaton.proofs.Grouped.{no_group}
use Rattle.mt_automaton.proofs.FromOne.{are_groups}
use Rattle.mt_automaton.proofs.rows.groups_from.Goals as goal

pub labelled_rows-requires-clause-fine : goal.labelled_rows-requires-clause-fine
labelled_rows-requires-clause-fine g c = let w = width (g.V.View.seen c.args.view.now) in subst (Fine w) (sym c.requires.none) (no_group w)

pub returns : goal.returns
returns g c =
    let v = g.V.View.seen c.args.view.now in
    are_groups v c.args.part.now c.args.begin c.tokens-last.result c.in_ok-from.from c.in_ok-allowed.allowed c.labelled_rows.new.out.items c.tokens-last.ensures.is c.requires.inside c.in_ok-from.ensures.width
    c.in_ok-from.ensures.places c.in_ok-allowed.ensures.width c.in_ok-allowed.ensures.places
    (subst (λ (gs : List Group). AddsRows (width v) (λ l f. Leads v c.args.part.now c.in_ok-from.from c.in_ok-allowed.allowed no_labels l f) gs c.labelled_rows.new.out.items) c.requires.none c.in_ok-labelled_rows.ensures)
