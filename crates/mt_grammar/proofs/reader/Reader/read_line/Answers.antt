use Rattle.std.proofs.Common.{◌+◌, ◌∙◌, sym, ap, subst}
use Rattle.mt_grammar.specs.Reading.{State, HasTaken, HasDone, next_line}
use Rattle.mt_grammar.specs.Errors.{RefusesLine, RefusesForm}
use Rattle.std.specs.Prelude.{IfErr}
use Rattle.mt_grammar_spec.specs.GrammarLines.{bare_form}
use Rattle.mt_grammar.specs.declared.error.GrammarError.{GrammarError}
use Rattle.mt_grammar.specs.SeenLine.{line_seen}
use Rattle.mt_grammar.proofs.Taken.{skipped_taken, done_taken, form_refused, bytes_refused, on_ok, if_err}
use Rattle.mt_grammar.proofs.reader.Reader.read_line.Goals as goal

pub returns-then-is_skipped-clause-ok : goal.returns-then-is_skipped-clause-ok
returns-then-is_skipped-clause-ok c =
    subst (λ (n : State). HasTaken c.args.registry.now c.args.self.now c.args.line.now n) (sym (ap (λ (s : State). record s { number = s.number + 1 }) c.self.view_is))
    (skipped_taken c.args.registry.now c.args.self.now c.args.line.now c.trimmed-bare.result.now c.requires.sound c.trimmed-bare.ensures (c.is_skipped.ensures.0 c.if-is_skipped.true))

pub returns-in-Ok-clause-ok : goal.returns-in-Ok-clause-ok
returns-in-Ok-clause-ok c =
    let k = c.in-Ok.ensures.cases in
    on_ok c.read_bare.result _ _
    (λ h. done_taken c.args.registry.now c.args.self.now c.read_bare.new.self c.args.line.now c.trimmed-bare.result.now (line_seen c.line_of.result) c.trimmed-bare.ensures k.1 (c.line_of.ensures ∙ ap bare_form k.0)
    (subst (λ (s : State). HasDone c.args.registry.now s (line_seen c.line_of.result) c.read_bare.new.self) (ap (λ (s : State). record s { number = s.number + 1 }) c.self.view_is) h))
    c.read_bare.ensures.ok

pub returns-in-Ok-clause-err : goal.returns-in-Ok-clause-err
returns-in-Ok-clause-err c =
    let k = c.in-Ok.ensures.cases in
    let errors : IfErr c.read_bare.result (λ (e : GrammarError). RefusesForm c.args.registry.now (record c.args.self.now { number = c.args.self.now.number + 1 }) (line_seen c.line_of.result) e) =
    subst (λ (s : State). IfErr c.read_bare.result (λ (e : GrammarError). RefusesForm c.args.registry.now s (line_seen c.line_of.result) e)) (ap (λ (s : State). record s { number = s.number + 1 }) c.self.view_is) c.read_bare.ensures.err in
    if_err c.read_bare.result (λ (e : GrammarError). RefusesForm c.args.registry.now (record c.args.self.now { number = c.args.self.now.number + 1 }) (line_seen c.line_of.result) e)
    (λ (e : GrammarError). RefusesLine c.args.registry.now (next_line c.args.self.now c.args.line.now) e)
    (λ e h. form_refused c.args.registry.now c.args.self.now c.args.line.now c.trimmed-bare.result.now (line_seen c.line_of.result) e c.trimmed-bare.ensures k.1 (c.line_of.ensures ∙ ap bare_form k.0) h) errors

pub returns-in-Err-clause-err : goal.returns-in-Err-clause-err
returns-in-Err-clause-err c =
    subst (λ (e : GrammarError). RefusesLine c.args.registry.now (next_line c.args.self.now c.args.line.now) e) (sym c.refused.ensures)
    (bytes_refused c.args.registry.now c.args.self.now c.args.line.now c.trimmed-bare.result.now c.trimmed-bare.ensures
    (λ e. let t = c.is_skipped.ensures.1 e in let f = c.if-is_skipped.false in let x : ⊥ = cc in x) c.in-Err.ensures.cases.0 (c.self.inside.number + 1) (ap (λ (s : State). s.number + 1) c.self.view_is))
