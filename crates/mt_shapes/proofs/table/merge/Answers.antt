use Rattle.std.proofs.Common.{◌≡◌, ◌<◌, List, length, set, ap, subst}
use Rattle.std.proofs.lemmas.List.{get_or_read}
use Rattle.mt_places.specs.Places.{In}
use Rattle.mt_shapes.specs.declared.table.Entry.{Entry}
use Rattle.mt_shapes.specs.Tables.{entry, none, StandsBetween}
use Rattle.mt_shapes.proofs.Tabled.{new_entry, more_begins}
use Rattle.mt_shapes.proofs.table.merge.Goals as goal

pub returns-in-Ok : goal.returns-in-Ok
returns-in-Ok c =
    let entries = c.args.out.now.items in
    let at = c.in-Ok.at in
    let value : c.deref.result.now ≡ entries = c.deref.ensures.value in
    let found = subst (λ (es : List Entry). (at < length es) × ((entry es at).shape ≡ c.args.shape)) value c.in-Ok.ensures.found in
    let read : c.index_mut.result.now ≡ entry entries at = get_or_read entries at c.index_mut.result.now found.0 c.index_mut.ensures.value none in
    more_begins c.args.last entries _ at c.index_mut.result.now.begins c.args.shape (In c.args.begins) c.add.new.self c.requires.fine c.requires.suits.inside found.0 found.1 (ap (λ (x : Entry). x.begins) read) c.add.ensures.width
    c.add.ensures.places (ap (λ (x : Entry). set entries at (record { shape = x.shape; begins = c.add.new.self })) read)

pub returns-in_ok-insert-in-Err : goal.returns-in_ok-insert-in-Err
returns-in_ok-insert-in-Err c =
    let entries = c.args.out.now.items in
    let value : c.deref.result.now ≡ entries = c.deref.ensures.value in
    let stands = subst (λ (es : List Entry). StandsBetween es c.args.shape c.in-Err.at) value c.in-Err.ensures.none in
    new_entry c.args.last entries c.insert.new.self.items c.in-Err.at c.args.shape c.args.begins c.requires.fine stands c.requires.suits c.requires.some c.in_ok-insert-in-Err.ensures.items
