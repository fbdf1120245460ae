use Rattle.std.proofs.Common.{◌∙◌, ap, arith, map}
use Rattle.mt_pattern_spec.specs.Patterns.{finds}
use Rattle.mt_pattern.proofs.Marked.{next_mapped, whole_mapped}
use Rattle.mt_pattern.proofs.regexes.Built.mark_each.Goals as goal

pub loop-lexicon-preserved : goal.loop-lexicon-preserved
loop-lexicon-preserved c = record {
  pattern = c.mark_values.ensures.same ∙ c.loop-lexicon.invariant.pattern;
  marked = c.in_ok-push.ensures.ok
      ∙ next_mapped (λ lexicon. map (finds c.args.self.now) lexicon.now) c.args.lexicons.now c.loop-lexicon.sets c.loop-lexicon.lexicon-index c.lexicon-item.result c.in_ok-mark_values.field-0 (omega arith) c.lexicon-item.is
      c.loop-lexicon.invariant.marked
      (c.in_ok-mark_values.ensures.found c.self.inside.regex c.self.invariant.0 c.self.invariant.1 (c.loop-lexicon.invariant.pattern ∙ c.in_ok-matcher.ensures.pattern)
      ∙ ap (λ t. map (finds t) c.lexicon-item.result.now) c.self.view_is);
}

pub returns : goal.returns
returns c = whole_mapped (λ lexicon. map (finds c.args.self.now) lexicon.now) c.args.lexicons.now c.loop-lexicon.sets c.loop-lexicon.lexicon-index (omega arith) c.loop-lexicon.invariant.marked
