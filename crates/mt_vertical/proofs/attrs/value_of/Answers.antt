use Rattle.std.proofs.Common.{sym, ◌∙◌, ap, rules}
use Rattle.mt_file_spec.specs.Tags.{tag_value}
use Rattle.mt_vertical.proofs.attrs.value_of.Goals as goal
use Rattle.mt_vertical.proofs.AttrForms.{attr_takes}
use Rattle.mt_vertical.proofs.TagValues.{follows, none_follows, first_counts, next_counts}

pub loop-attr-smaller : goal.loop-attr-smaller
loop-attr-smaller c = attr_takes _ _ _ (sym c.in-Some.ensures)

pub loop-attr-preserved : goal.loop-attr-preserved
loop-attr-preserved c = record {
  left = λ attrs rest r.
      let i = c.loop-attr.invariant.left attrs rest r in
      let f = follows _ _ _ i.0 rest (sym c.in-Some.ensures) i.1 in
      (f.others, f.read, i.2 ∙ next_counts _ f.others i.0 c.args.name.now f.are (sym c.if-eq.ensures));
  utf8 = search rules;
}

pub returns-then-eq : goal.returns-then-eq
returns-then-eq c = λ attrs rest r.
    let i = c.loop-attr.invariant.left attrs rest r in
    let f = follows _ _ _ i.0 rest (sym c.in-Some.ensures) i.1 in
    sym (i.2 ∙ first_counts _ f.others i.0 c.args.name.now f.are (sym c.if-eq.ensures))

pub returns : goal.returns
returns c = λ attrs rest r.
    let i = c.loop-attr.invariant.left attrs rest r in
    sym (i.2 ∙ ap (λ all. tag_value all c.args.name.now) (none_follows _ i.0 rest (sym c.in_default.ensures) i.1))
