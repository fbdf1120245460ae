-- What the tables tell of the line is the line.
use Rattle.std.proofs.Common.{ℕ, List, [], ◌++◌, length, ap, ◌∙◌, arith}
use Rattle.std.proofs.lemmas.List.{length-map}
use Rattle.std.proofs.lemmas.Option.{slice_get-get_or}
use Rattle.mt_text_spec.specs.Lines.{closed}
use Rattle.mt_text_spec.specs.Texts.{Text}
use Rattle.mt_report_spec.specs.Lines.{text_at}
use Rattle.mt_reports.proofs.Told.{line_told}
use Rattle.mt_reports.proofs.lines.text_line.Goals as goal

pub returns-in-Ok-clause-ok : goal.returns-in-Ok-clause-ok
returns-in-Ok-clause-ok c images registry corpus valid are =
    let none : Text = record { name = []; tokens = []; structs = [] } in
    let there = slice_get-get_or corpus c.args.text none (omega (arith, c.requires.text, ap length are.texts, length-map {B = List ℕ × ℕ} corpus (λ (t : Text). (t.name, length t.tokens)))) in
    c.in-Ok.ensures.ok ∙ ap (λ (line : List ℕ). c.args.out.now ++ closed line)
    (line_told c.numbers_stand_for_values.ensures c.tokens_stand_in_texts.ensures images registry corpus c.args.segment.now valid are c.args.text (text_at corpus c.args.text) there c.args.begin c.args.end c.requires.order c.requires.inside)
