use Rattle.std.proofs.Common.{◌∙◌, ap, arith, length, set, true, false}
use Rattle.std.proofs.lemmas.List.{length-replicate}
use Rattle.std.proofs.lemmas.Option.{slice_get_within}
use Rattle.mt_pattern.proofs.PlainMarks.{marks_none, marks_one}
use Rattle.mt_pattern.proofs.plain.mark_itself.Goals as goal

pub returns-in_default : goal.returns-in_default
returns-in_default c =
    marks_none c.args.text.now c.requires.utf8 c.requires.plain c.args.lexicon.now c.len.result c.in_ok-marks.marks c.in_ok-marks.ensures c.len.ensures.number c.in_default.ensures.none

pub insert-requires : goal.insert-requires
insert-requires c =
    omega (arith, ap length c.in_ok-marks.ensures, length-replicate c.len.result false, slice_get_within c.args.lexicon.now c.in-Some.id c.args.text.now c.in-Some.ensures.found)

pub returns : goal.returns
returns c =
    marks_one c.args.text.now c.requires.utf8 c.requires.plain c.args.lexicon.now c.len.result c.in-Some.id c.insert.new.self
    (c.insert.ensures ∙ ap (λ marks. set marks c.in-Some.id true) c.in_ok-marks.ensures) c.len.ensures.number c.len.ensures.ascending c.in-Some.ensures.found c.requires.alone c.requires.whole
