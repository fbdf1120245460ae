use Rattle.std.proofs.Common.{refl, ◌∙◌}
use Rattle.mt_script.proofs.ScanSteps.{skipped_here, no_feed_line, finds_after}
use Rattle.mt_script_spec.specs.Script.{Nothing}
use Rattle.mt_script.specs.Scans.{wait}
use Rattle.mt_script.proofs.scan.Scan.next_header.Goals as goal

pub loop-end-init : goal.loop-end-init
loop-end-init c = record { sound = c.requires.sound; none = c.requires.none; held = refl; leads = λ ended. Nothing (wait c.args.self.now) }

pub returns-in_default-clause-found : goal.returns-in_default-clause-found
returns-in_default-clause-found c = (c.loop-end.invariant.none, c.loop-end.invariant.leads, no_feed_line (wait c.loop-end.self) (rw c.waiting.ensures at c.in_default.ensures.found))

pub returns-then-not-is_skipped-clause-found : goal.returns-then-not-is_skipped-clause-found
returns-then-not-is_skipped-clause-found c = finds_after c.args.self.now c.loop-end.self c.keep_header.new.self c.keep_header.result c.loop-end.invariant.leads c.keep_header.ensures.found

pub loop-end-preserved : goal.loop-end-preserved
loop-end-preserved c = record {
  sound = c.give_out.ensures.sound;
  none = c.give_out.ensures.header;
  held = c.give_out.ensures.held ∙ c.loop-end.invariant.held;
  leads = λ ended. skipped_here (wait c.args.self.now) (wait c.loop-end.self) c.without_return-line.result.now c.waiting-in-loop-end.result.now (wait c.give_out.new.self) c.in-Some.end
      (c.loop-end.invariant.leads ended) (rw c.waiting.ensures at c.in-Some.ensures.found) c.without_return-line.ensures c.waiting-in-loop-end.ensures (c.is_skipped.ensures.0 c.if-not-is_skipped.false) c.give_out.ensures.wait;
}
