use Rattle.std.proofs.Common.{◌≡◌, [], ◌∷◌, List, take, ap, refl, sym, ◌∙◌}
use Rattle.std.proofs.lemmas.List.{take_all}
use Rattle.mt_counts.specs.Notes.{alone_of, columns_of, rows_of, key_of_one, key_of_two}
use Rattle.mt_counts.specs.declared.note.Note.{Note}
use Rattle.mt_counts.proofs.Counting.{flat_more}
use Rattle.mt_counts.proofs.blocks.list_notes.Goals as goal

nothing : (notes : List Note) → take 0 notes ≡ []
nothing [] = refl
nothing (note ∷ notes) = refl

pub loop-k-init : goal.loop-k-init
loop-k-init c =
    let none = sym (nothing c.args.notes.now) in
    record { rows = c.clear.ensures.items ∙ ap rows_of none; columns = c.clear-2.ensures.items ∙ ap columns_of none; alone = c.clear-3.ensures.items ∙ ap alone_of none }

pub loop-k-preserved : goal.loop-k-preserved
loop-k-preserved c =
    let notes = c.args.notes.now in
    let l = c.loop-k-test.true in
    let made = c.in_ok-list_note.ensures in
    let before = c.loop-k.invariant in
    record {
      rows = flat_more (λ note. key_of_two note.second (λ second. (note.first, note.name))) notes c.loop-k.k _ c.loop-k.rows.items c.list_note.new.rows.items l before.rows made.rows;
      columns = flat_more (λ note. key_of_two note.second (λ second. (second, note.name))) notes c.loop-k.k _ c.loop-k.columns.items c.list_note.new.columns.items l before.columns made.columns;
      alone = flat_more (λ note. key_of_one note.second (note.first, note.name)) notes c.loop-k.k _ c.loop-k.alone.items c.list_note.new.alone.items l before.alone made.alone;
    }

pub returns-clause-rows : goal.returns-clause-rows
returns-clause-rows c = c.loop-k.invariant.rows ∙ ap rows_of (take_all c.loop-k.k c.args.notes.now c.loop-k-test.false)

pub returns-clause-columns : goal.returns-clause-columns
returns-clause-columns c = c.loop-k.invariant.columns ∙ ap columns_of (take_all c.loop-k.k c.args.notes.now c.loop-k-test.false)

pub returns-clause-alone : goal.returns-clause-alone
returns-clause-alone c = c.loop-k.invariant.alone ∙ ap alone_of (take_all c.loop-k.k c.args.notes.now c.loop-k-test.false)
