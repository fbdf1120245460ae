use Rattle.std.proofs.Common.{◌≡◌, refl, arith}
use Rattle.mt_script_spec.specs.Commands.{body_lines}
use Rattle.mt_script.specs.Headers.{header_of}
use Rattle.mt_script.specs.Scans.{wait}
use Rattle.mt_script.specs.Seen.{command_of}
use Rattle.mt_script.proofs.Items.{skipped_last, bad_last, command_last, cut_last}
use Rattle.mt_script.proofs.Forms.{not_true}
use Rattle.mt_script.proofs.scan.Scan.take_last_line.Goals as goal

pub returns-then-is_skipped-clause-gives : goal.returns-then-is_skipped-clause-gives
returns-then-is_skipped-clause-gives c =
    let skipped = rw c.waiting-line.ensures at (c.if-is_skipped.ensures.0 refl) in
    (refl, rw c.give_out_all.ensures.wait (skipped_last (wait c.args.self.now) c.requires.line skipped), c.give_out_all.ensures.wait)

pub returns-in_default-header-clause-gives : goal.returns-in_default-header-clause-gives
returns-in_default-header-clause-gives c =
    let none = rw (c.in_default-header.is, c.waiting-line.ensures) at c.in-Ok.ensures in
    let stays = rw c.waiting-line.ensures at c.if-is_skipped.ensures.1 in
    rw c.give_out_all-in_default-header.ensures.wait (bad_last (wait c.args.self.now) c.requires.line (λ s. not_true (stays s)) none)

pub returns-then-lines-gt0-clause-gives : goal.returns-then-lines-gt0-clause-gives
returns-then-lines-gt0-clause-gives c =
    let good = rw (c.in-Some.is, c.waiting-line.ensures) at c.in-Ok.ensures in
    let stays = rw c.waiting-line.ensures at c.if-is_skipped.ensures.1 in
    rw c.give_out_all-then-lines-gt0.ensures.wait (cut_last (wait c.args.self.now) _ c.requires.line (λ s. not_true (stays s)) good (rw (← c.lines.ensures) c.if-lines-gt0.true))

pub returns-clause-gives : goal.returns-clause-gives
returns-clause-gives c =
    let good = rw (c.in-Some.is, c.waiting-line.ensures) at c.in-Ok.ensures in
    let stays = rw c.waiting-line.ensures at c.if-is_skipped.ensures.1 in
    let none : body_lines (header_of c.in-Some.header) ≡ 0 = rw (← c.lines.ensures) (omega arith) in
    rw c.give_out_all-2.ensures.wait (command_last (wait c.args.self.now) (header_of c.in-Some.header) (command_of c.in-Ok-with_body.command) c.requires.line (λ s. not_true (stays s)) good none c.in-Ok-with_body.ensures)
