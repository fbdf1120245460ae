-- The parts of a line one behind the other, and the front that is kept without memory.
use Rattle.std.proofs.Common.{◌≡◌, ◌+◌, ◌-◌, min, ℕ, refl, ap, ◌∙◌, ◌++◌, List, arith}
use Rattle.mt_report_spec.specs.Lines.{context_tokens, shown_attr}
use Rattle.mt_reports.specs.Told.{told_tokens, told_value}
use Rattle.mt_reports.proofs.Joined.{grown, kept, on_err, on_ok, put_together, values_at}
use Rattle.mt_reports.proofs.lines.put_line.Goals as goal

pub returns-in_err-put_values-clause-err : goal.returns-in_err-put_values-clause-err
returns-in_err-put_values-clause-err c =
    on_err c.from_residual-in_err-put_values.result
    (kept c.args.out.now c.extend.new.self _ (grown c.args.out.now _ c.extend.new.self c.in_ok-extend.ensures.ok)
    (kept c.extend.new.self c.put_number.new.out _ (grown c.extend.new.self _ c.put_number.new.out c.in_ok-put_number.ensures.ok)
    (kept c.put_number.new.out c.put_number-2.new.out c.put_values.new.out (grown c.put_number.new.out _ c.put_number-2.new.out c.in_ok-put_number-2.ensures.ok) c.in_err-put_values.ensures.err)))

pub returns-in_err-put_values-2-clause-err : goal.returns-in_err-put_values-2-clause-err
returns-in_err-put_values-2-clause-err c =
    on_err c.from_residual-in_err-put_values-2.result
    (kept c.args.out.now c.extend.new.self _ (grown c.args.out.now _ c.extend.new.self c.in_ok-extend.ensures.ok)
    (kept c.extend.new.self c.put_number.new.out _ (grown c.extend.new.self _ c.put_number.new.out c.in_ok-put_number.ensures.ok)
    (kept c.put_number.new.out c.put_number-2.new.out _ (grown c.put_number.new.out _ c.put_number-2.new.out c.in_ok-put_number-2.ensures.ok)
    (kept c.put_number-2.new.out c.put_values.new.out c.put_values-2.new.out (grown c.put_number-2.new.out _ c.put_values.new.out c.in_ok-put_values.ensures.ok) c.in_err-put_values-2.ensures.err))))

pub returns-in_err-put_values-3-clause-err : goal.returns-in_err-put_values-3-clause-err
returns-in_err-put_values-3-clause-err c =
    on_err c.from_residual-in_err-put_values-3.result
    (kept c.args.out.now c.extend.new.self _ (grown c.args.out.now _ c.extend.new.self c.in_ok-extend.ensures.ok)
    (kept c.extend.new.self c.put_number.new.out _ (grown c.extend.new.self _ c.put_number.new.out c.in_ok-put_number.ensures.ok)
    (kept c.put_number.new.out c.put_number-2.new.out _ (grown c.put_number.new.out _ c.put_number-2.new.out c.in_ok-put_number-2.ensures.ok)
    (kept c.put_number-2.new.out c.put_values.new.out _ (grown c.put_number-2.new.out _ c.put_values.new.out c.in_ok-put_values.ensures.ok)
    (kept c.put_values.new.out c.put_values-2.new.out c.put_values-3.new.out (grown c.put_values.new.out _ c.put_values-2.new.out c.in_ok-put_values-2.ensures.ok) c.in_err-put_values-3.ensures.err)))))

pub returns-clause-ok : goal.returns-clause-ok
returns-clause-ok c =
    let value = λ (place : ℕ). told_value c.args.segment.now shown_attr place in
    let first = c.bounds-first.ensures.first in
    let behind : c.args.end + c.min.result ≡ min (c.args.end + context_tokens) (told_tokens c.args.segment.now c.args.text) = omega (arith, c.min.ensures, c.bounds-first.ensures.tokens, c.requires.inside) in
    let before : c.saturating_sub-before.result ≡ c.args.begin - context_tokens = omega (arith, c.saturating_sub-before.ensures) in
    let name = c.in_ok-extend.ensures.ok ∙ ap (λ (bytes : List ℕ). c.args.out.now ++ bytes) (c.as_bytes.ensures.value ∙ c.text_name.ensures) in
    let left = values_at value c.put_number-2.new.out c.put_values.new.out _ _ _ _ _ _ c.in_ok-put_values.ensures.ok first before refl in
    let own = values_at value c.put_values.new.out c.put_values-2.new.out _ _ _ _ _ _ c.in_ok-put_values-2.ensures.ok first refl refl in
    let right = values_at value c.put_values-2.new.out c.put_values-3.new.out _ _ _ _ _ _ c.in_ok-put_values-3.ensures.ok first refl behind in
    on_ok c.push.result (put_together c.args.out.now _ _ _ _ _ _ c.extend.new.self c.put_number.new.out c.put_number-2.new.out c.put_values.new.out c.put_values-2.new.out c.put_values-3.new.out c.push.new.self
    name c.in_ok-put_number.ensures.ok c.in_ok-put_number-2.ensures.ok left own right) c.push.ensures.ok
