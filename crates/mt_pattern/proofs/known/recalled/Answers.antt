use Rattle.std.proofs.Common.{◌∙◌}
use Rattle.mt_pattern.proofs.Marked.{sized, marked_if}
use Rattle.mt_pattern.proofs.known.recalled.Goals as goal

pub loop-id-preserved : goal.loop-id-preserved
loop-id-preserved c = record {
  size = sized c.insert_if.new.self c.loop-id.marks c.loop-id.id c.in-Some.found c.insert_if.ensures.holds c.insert_if.ensures.fails ∙ c.loop-id.invariant.size;
  marked = λ test known.
      marked_if test c.args.lexicon.now c.loop-id.id c.loop-id.marks c.insert_if.new.self c.value.result.now c.in-Some.found (c.loop-id.invariant.marked test known) c.value.ensures
      (c.in-Some.ensures test known) c.insert_if.ensures.holds c.insert_if.ensures.fails;
}
