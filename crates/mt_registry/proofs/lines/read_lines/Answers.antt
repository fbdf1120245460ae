use Rattle.std.specs.Str.Lines.{lines}
use Rattle.std.proofs.Common.{subst, sym, ◌∙◌, ℕ, List}
use Rattle.mt_registry.proofs.RegistryLines.{HasReadLines, nothing_read, one_more_line}
use Rattle.mt_registry.proofs.lines.read_lines.Goals as goal

pub loop-text-init : goal.loop-text-init
loop-text-init c = subst (λ (rest : List (List ℕ)). HasReadLines (lines c.args.bytes.now) c.new-reader.result.number c.new-reader.result.nesting c.new-reader.result.statements.items c.new-reader.result.refused rest) (sym (c.into_iter-text-iterator.ensures.into_iter_gives ∙ c.new-text-items.ensures.value))
    (nothing_read (lines c.args.bytes.now) _ _ _ _ c.new-reader.ensures.number c.new-reader.ensures.opened c.new-reader.ensures.statements c.new-reader.ensures.refused)

pub loop-text-preserved : goal.loop-text-preserved
loop-text-preserved c = one_more_line _ _ _ _ _ _ c.in-Some.text.now _ _ _ _ _ c.loop-text.invariant c.in-Some.ensures.steps
    c.in_ok-take.ensures.number c.in_ok-take.ensures.opened c.in_ok-take.ensures.statements c.in_ok-take.ensures.refused
