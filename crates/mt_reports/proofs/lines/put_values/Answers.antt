-- A value more behind a space, and the front that is kept without memory.
use Rattle.std.proofs.Common.{ℕ, ◌+◌, List, ◌++◌, ◌∷◌, ◌∙◌, ap, append_assoc, sym, arith}
use Rattle.mt_report_spec.specs.Lines.{shown_attr, values_text}
use Rattle.mt_reports.specs.Told.{told_value}
use Rattle.mt_reports.proofs.Joined.{grown, kept, on_err, values_more}
use Rattle.mt_reports.proofs.lines.put_values.Goals as goal

pub returns-in_err-put_value-2-clause-err : goal.returns-in_err-put_value-2-clause-err
returns-in_err-put_value-2-clause-err c =
    on_err c.from_residual-in_err-put_value-2.result (kept c.args.out.now c.loop-place.out c.put_value-in-loop-place.new.out (grown c.args.out.now _ c.loop-place.out c.loop-place.invariant) c.in_err-put_value-2.ensures.err)

pub loop-place-preserved : goal.loop-place-preserved
loop-place-preserved c =
    let values = λ (place : ℕ). told_value c.args.segment.now shown_attr (c.args.first + place) in
    let front = 9 ∷ values_text values c.args.from c.loop-place.place in
    c.in_ok-put_value-2.ensures.ok
    ∙ ap (λ (bytes : List ℕ). bytes ++ 32 ∷ values c.loop-place.place) c.loop-place.invariant
    ∙ append_assoc c.args.out.now front (32 ∷ values c.loop-place.place)
    ∙ ap (λ (bytes : List ℕ). c.args.out.now ++ 9 ∷ bytes) (sym (values_more values c.args.from c.loop-place.place (omega arith)))
