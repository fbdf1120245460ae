use Rattle.std.proofs.Common.{◌∙◌, arith}
use Rattle.regex.specs.Strings.{regex_source}
use Rattle.mt_pattern_spec.specs.Patterns.{finds}
use Rattle.mt_pattern.proofs.Marked.{sized, marked_if, all_marked}
use Rattle.mt_pattern.proofs.regexes.mark_values.Goals as goal

pub loop-id-preserved : goal.loop-id-preserved
loop-id-preserved c = record {
  size = sized c.insert_if.new.self c.loop-id.marks c.loop-id.id c.has_match.result c.insert_if.ensures.holds c.insert_if.ensures.fails ∙ c.loop-id.invariant.size;
  pattern = c.has_match.ensures.same ∙ c.loop-id.invariant.pattern;
  marked = λ built config read same.
      marked_if (finds (regex_source built)) c.args.lexicon.now c.loop-id.id c.loop-id.marks _ c.value.result.now c.has_match.result (c.loop-id.invariant.marked built config read same) c.value.ensures
      (c.has_match.ensures.found built config read (c.loop-id.invariant.pattern ∙ same)) c.insert_if.ensures.holds c.insert_if.ensures.fails;
}

pub returns-clause-found : goal.returns-clause-found
returns-clause-found c = λ built config read same.
    all_marked (finds (regex_source built)) c.args.lexicon.now c.loop-id.id c.loop-id.marks (c.loop-id.invariant.marked built config read same) (omega (arith, c.len-id-end.ensures.number))
