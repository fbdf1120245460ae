use Rattle.std.proofs.Common.{◌≡◌, ◌≤◌, ◌++◌, length, drop, slice_range, arith, ◌∙◌, ap, sym, subst}
use Rattle.std.proofs.lemmas.List.{take_rest}
use Rattle.mt_text_spec.specs.Lines.{IsLine, Block, closed}
use Rattle.mt_script.specs.Scans.{wait}
use Rattle.mt_script.specs.Seen.{command_of}
use Rattle.mt_script.proofs.Items.{is_line}
use Rattle.mt_script.proofs.ScanSteps.{cut_here, last_here, lines_here, body_here}
use Rattle.mt_script.proofs.scan.Scan.take_last_body.Goals as goal
use Rattle.mt_script.proofs.scan.Scan.take_last_body.Goals.{then-self-gt1-via-then-self-gt1, then-self-gt1-via-else-self-gt1+then-self-waiting}

pub returns-then-self-gt1-clause-gives : goal.returns-then-self-gt1-clause-gives
returns-then-self-gt1-clause-gives c = cut_here c.args.self.now.header (wait c.args.self.now) (wait c.give_out_all.new.self) c.args.self.now.body c.args.self.now.line c.args.self.now.missing
    c.requires.some c.requires.sound.opens c.requires.part c.requires.none
    (λ one. elim c.then-self-gt1.branch [
      | then-self-gt1-via-then-self-gt1 w ↦ absurd (omega arith)
      | then-self-gt1-via-else-self-gt1+then-self-waiting w ↦ w.if-self-waiting.true ∙ ap length w.waiting.ensures
    ])
    c.give_out_all.ensures.wait

pub with_open_body-requires-clause-front : goal.with_open_body-requires-clause-front
with_open_body-requires-clause-front c =
    let lines = lines_here c.args.self.now.header (wait c.args.self.now) c.args.self.now.body c.args.self.now.line c.args.self.now.missing c.requires.some c.requires.sound.opens in
    (lines.0, subst (λ b. Block lines.0 (slice_range b c.args.self.now.body c.args.self.now.line)) (sym c.waiting-in-Some.ensures) lines.1)

pub with_open_body-requires-clause-last : goal.with_open_body-requires-clause-last
with_open_body-requires-clause-last c =
    subst (λ b. IsLine (slice_range b c.args.self.now.line (length b))) (sym c.waiting-in-Some-2.ensures) (is_line (wait c.args.self.now) c.args.self.now.line (length (wait c.args.self.now)) c.requires.none)

pub returns-clause-gives : goal.returns-clause-gives
returns-clause-gives c =
    let low : c.args.self.now.line ≤ length (wait c.args.self.now) = (let a = c.requires.sound.looked.order in let b = c.requires.sound.looked.within in omega arith) in
    let are : slice_range c.waiting-in-Some.result.now c.args.self.now.body c.args.self.now.line ++ drop c.args.self.now.line c.waiting-in-Some-2.result.now ≡ drop c.args.self.now.body (wait c.args.self.now) =
    rw (c.waiting-in-Some.ensures, c.waiting-in-Some-2.ensures)
    (body_here c.args.self.now.header (wait c.args.self.now) c.args.self.now.body c.args.self.now.line c.args.self.now.missing c.requires.some c.requires.sound.opens) in
    last_here c.args.self.now.header c.in-Some.header (wait c.args.self.now) (wait c.give_out_all-in-Some.new.self)
    (closed (slice_range c.waiting-in-Some.result.now c.args.self.now.body c.args.self.now.line ++ drop c.args.self.now.line c.waiting-in-Some-2.result.now))
    c.args.self.now.body c.args.self.now.line c.args.self.now.missing (sym c.in-Some.ensures.value) c.requires.sound.opens (omega arith) c.requires.none low
    (λ e. c.if-self-waiting.false (e ∙ sym (ap length c.waiting.ensures))) (ap closed are) c.give_out_all-in-Some.ensures.wait
    (command_of c.in-Ok.command)
    (rw (take_rest c.waiting-in-Some-2.result.now c.args.self.now.line) at c.in-Ok.ensures)
