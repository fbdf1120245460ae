use Rattle.std.proofs.Common.{◌≡◌, ℕ, ◌+◌, ◌-◌, List, ◌++◌, length, take, drop, Some, arith, append_assoc, ap, ◌∙◌, sym}
use Rattle.std.proofs.Math.Seq.{take-add}
use Rattle.std.proofs.lemmas.Grind.{common_steps}
use Rattle.std.proofs.lemmas.List.{take_rest, take-append-drop}
use Rattle.mt_outside.specs.Told.{Told}
use Rattle.mt_shell.specs.Outsides.{writes_on}
use Rattle.mt_shell.specs.Reads.{WroteFront}
use Rattle.mt_shell.proofs.Talks.{always}
use Rattle.mt_shell.proofs.writes.write_all.Goals as goal

more : (piece all : List ℕ) (d n : ℕ) → (all ++ take d piece) ++ take n (take (length piece - d) (drop d piece)) ≡ all ++ take (d + n) piece
more piece all d n = append_assoc all _ _ ∙ ap (λ s. all ++ s) (ap (λ s. take d piece ++ take n s) (take_rest piece d) ∙ sym (take-add d n piece))

pub loop-done-preserved : goal.loop-done-preserved
loop-done-preserved g c =
    let seen = g.E.Edge.seen in
    record {
      within = grind (arith, common_steps);
      told = λ all h. c.in_ok-done.ensures.told (all ++ take c.loop-done.done c.args.piece.now) (c.loop-done.invariant.told all h) ∙ ap Some (more c.args.piece.now all c.loop-done.done c.in_ok-done.field-0);
      faults = c.in_ok-done.ensures.ok ∙ c.loop-done.invariant.faults;
      only = c.write.ensures.only ∙ ap (λ old. writes_on old (seen c.write.new.self)) c.loop-done.invariant.only;
      names = c.write.ensures.names ∙ c.loop-done.invariant.names;
    }

pub returns-in_err-done-clause-part : goal.returns-in_err-done-clause-part
returns-in_err-done-clause-part g c =
    let told : Told (g.E.Edge.seen c.args.edge.now).written (λ all. WroteFront c.args.piece.now all (g.E.Edge.seen c.write.new.self).written) =
    λ all h. record {
      front = take c.loop-done.done c.args.piece.now;
      unwritten = drop c.loop-done.done c.args.piece.now;
      are = sym (take-append-drop c.loop-done.done c.args.piece.now);
      written = c.in_err-done.ensures.kept ∙ c.loop-done.invariant.told all h;
    } in
    always c.from_residual.result told
