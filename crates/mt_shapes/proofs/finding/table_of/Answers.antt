use Rattle.std.proofs.Common.{List, [], subst}
use Rattle.mt_match_spec.specs.Matches.{Matches}
use Rattle.mt_automaton.specs.LabelledParts.{labelled_meant}
use Rattle.mt_shapes.specs.declared.table.Entry.{Entry}
use Rattle.mt_shapes.specs.Tables.{Adds, Inside, Fine}
use Rattle.mt_shapes.proofs.Listed.{told_rows}
use Rattle.mt_shapes.proofs.finding.table_of.Goals as goal

pub returns-in-Ok-clause-fine : goal.returns-in-Ok-clause-fine
returns-in-Ok-clause-fine g c = subst (λ n. Fine n c.add_labelled.new.out.items) c.tokens-last.ensures.is c.in-Ok.ensures.fine

pub returns-in-Ok-clause-rows : goal.returns-in-Ok-clause-rows
returns-in-Ok-clause-rows g c =
    let v = g.V.View.seen c.args.view.now in
    let last = c.tokens-last.result in
    let meant = labelled_meant v c.args.part.now in
    let entries = c.add_labelled.new.out.items in
    let all : Adds last (Inside last (Matches v.text meant)) [] entries = subst (λ (es : List Entry). Adds last (Inside last (Matches v.text meant)) es entries) c.table-entries.ensures c.in-Ok.ensures in
    told_rows v.text meant last entries c.tokens-last.ensures.is all
