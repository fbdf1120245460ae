use Rattle.std.proofs.Common.{ℕ, ◌∙◌, List, length, Err, ap, subst}
use Rattle.std.proofs.lemmas.List.{length-replicate}
use Rattle.mt_match_spec.specs.Kept.{operand_rows_limit}
use Rattle.mt_eval_spec.specs.RowsIn.{EachLeaves, KeptIn, SomePasses, heads}
use Rattle.mt_grammar_counts.proofs.Alone.{alone_texts, is_over, not_over, whole_rooms}
use Rattle.mt_grammar_counts.proofs.query.rows_of.Goals as goal

pub eval-requires-clause-query : goal.eval-requires-clause-query
eval-requires-clause-query g c = record { registry = c.args.text.now.registry.now; under = c.requires.text.under; fits = c.requires.fits }

pub eval-requires-clause-texts : goal.eval-requires-clause-texts
eval-requires-clause-texts g c = alone_texts c.args.text.now.segment.now c.args.text.now.number c.args.text.now.listed.now c.requires.text.within c.requires.text.alone

pub eval-requires-clause-rooms : goal.eval-requires-clause-rooms
eval-requires-clause-rooms g c =
    let whole = whole_rooms c.args.text.now.segment.now c.args.query.now c.args.prepared.now c.len.result c.make_whole.new.rooms c.requires.prepared c.len.ensures c.in_ok-make_whole.ensures in
    ap length whole ∙ length-replicate (length (heads c.args.query.now)) operand_rows_limit

pub returns-in-Ok-clause-kept : goal.returns-in-Ok-clause-kept
returns-in-Ok-clause-kept g c = subst (λ (ns : List ℕ). KeptIn c.args.text.now.segment.now ns c.args.query.now c.in-Ok.rows) c.requires.text.alone c.in-Ok.ensures.kept

pub returns-in-Ok-clause-room : goal.returns-in-Ok-clause-room
returns-in-Ok-clause-room g c = λ images of tells.
    not_over c.numbers_are_live.ensures c.live_texts_are_numbered.ensures images c.args.text.now.registry.now c.args.text.now.segment.now c.args.text.now.number of tells
    c.rows_are_joined.ensures c.over_is_some.ensures c.rows_are_one.ensures c.args.query.now c.make_whole.new.rooms c.eval.new.rooms c.requires.fits
    (whole_rooms c.args.text.now.segment.now c.args.query.now c.args.prepared.now c.len.result c.make_whole.new.rooms c.requires.prepared c.len.ensures c.in_ok-make_whole.ensures)
    (subst (λ (ns : List ℕ). EachLeaves c.args.text.now.segment.now ns (heads c.args.query.now) 0 c.make_whole.new.rooms c.eval.new.rooms) c.requires.text.alone c.in-Ok.ensures.rooms)

pub returns-in-Err-TooManyRows-clause-too_many : goal.returns-in-Err-TooManyRows-clause-too_many
returns-in-Err-TooManyRows-clause-too_many g c = λ images of tells h.
    is_over c.numbers_are_live.ensures c.live_texts_are_numbered.ensures images c.args.text.now.registry.now c.args.text.now.segment.now c.args.text.now.number of tells
    c.rows_are_joined.ensures c.over_is_some.ensures c.args.query.now c.make_whole.new.rooms c.requires.fits
    (whole_rooms c.args.text.now.segment.now c.args.query.now c.args.prepared.now c.len.result c.make_whole.new.rooms c.requires.prepared c.len.ensures c.in_ok-make_whole.ensures)
    (subst (λ (ns : List ℕ). SomePasses c.args.text.now.segment.now ns (heads c.args.query.now) 0 c.make_whole.new.rooms) c.requires.text.alone
    (c.in-Err-TooManyRows.ensures.too_many (λ k. Err (c.in-Err-TooManyRows.field-0-is k))))
