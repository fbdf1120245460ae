use Rattle.std.proofs.Common.{◌≡◌, ◌∙◌, Some, slice_get, sym, ap, subst}
use Rattle.mt_counts.proofs.Numbering.{found_in, not_in}
use Rattle.mt_thesaurus.specs.Scores.{Scores}
use Rattle.mt_thesaurus.proofs.Alikes.{none_unknown}
use Rattle.mt_thesaurus.proofs.Telling.{none_first}
use Rattle.mt_thesaurus.proofs.contexts.Contexts.alike.Goals as goal

pub returns-in-Some-clause-are : goal.returns-in-Some-clause-are
returns-in-Some-clause-are g c =
    let lemma = c.in_ok-lemma.lemma in
    let n = c.in-Some.number in
    let there = found_in lemma c.self.inside.words.keys n c.in-Some.ensures.index in
    let here = subst (λ (s : Scores). slice_get s.words n ≡ Some lemma) c.self.view_is there in
    λ f are. c.alike_at.ensures.are f c.args.lemma.now (here ∙ ap Some c.in_ok-lemma.ensures) are

pub returns-clause-are : goal.returns-clause-are
returns-clause-are g c =
    let lemma = c.in_ok-lemma.lemma in
    let none = not_in lemma c.self.inside.words.keys c.in-None.ensures.index in
    λ f are.
    none_first f c.args.lemma.now c.args.max c.new-in-None.result
    (none_unknown f c.args.self.now are c.args.lemma.now (λ n h. none n (ap (λ (s : Scores). slice_get s.words n) c.self.view_is ∙ h ∙ ap Some (sym c.in_ok-lemma.ensures)))) c.new-in-None.ensures
