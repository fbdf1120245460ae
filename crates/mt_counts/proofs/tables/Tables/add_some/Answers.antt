use Rattle.std.proofs.Common.{◌≡◌, ◌<◌, ℕ, List, length, map, ap, ap₂, refl, rules, subst, sym, arith, ◌∙◌}
use Rattle.std.specs.List.{All}
use Rattle.std.proofs.lemmas.List.{length-map}
use Rattle.mt_counts.specs.Counted.{Counted, HaveSame, IsSum}
use Rattle.mt_counts.specs.Notes.{IsNoteIn, noted, renumbered}
use Rattle.mt_counts.specs.Tables.{counted}
use Rattle.mt_counts.specs.declared.note.Note.{Note}
use Rattle.mt_counts.proofs.Filling.{noted_moved, notes_as, notes_moved, room_grown}
use Rattle.mt_counts.proofs.Joined.{same_counts, some_so}
use Rattle.mt_counts.proofs.Sums.{grown_same, sum_behind}
use Rattle.mt_counts.proofs.tables.Tables.add_some.Goals as goal

pub take-requires-clause-names : goal.take-requires-clause-names
take-requires-clause-names c = λ k d l. let h = c.requires.notes k d l in omega (arith, h.name, c.requires.names.count, ap length c.as_slice.ensures.value)

pub take-requires-clause-first : goal.take-requires-clause-first
take-requires-clause-first c = λ k d l. let h = c.requires.notes k d l in omega (arith, h.first, c.requires.words.count, ap length c.as_slice-2.ensures.value)

pub take-requires-clause-second : goal.take-requires-clause-second
take-requires-clause-second c = λ k d l.
    let h = c.requires.notes k d l in
    some_so _ (λ second. second < length c.args.words.now) (λ second. second < length c.as_slice-2.result.now) (λ second m. omega (arith, m, c.requires.words.count, ap length c.as_slice-2.ensures.value)) h.second

pub place_block-requires-clause-notes : goal.place_block-requires-clause-notes
place_block-requires-clause-notes c =
    let n = c.args.room.now.names.items in
    let w = c.args.room.now.words.items in
    let is : c.take.new.self.notes.items ≡ map (renumbered n w) c.args.notes.now = c.in_ok-take.ensures ∙ ap₂ (λ (n w : List ℕ). map (renumbered n w) c.args.notes.now) c.as_slice.ensures.value c.as_slice-2.ensures.value in
    subst (λ (ns : List Note). All (IsNoteIn c.args.self.now.names c.args.self.now.words) ns) (sym is)
    (notes_moved c.args.names.now c.args.words.now c.args.self.now.names c.args.self.now.words n w c.requires.names c.requires.words c.args.notes.now c.requires.notes)

pub raise_block-requires-clause-inside : goal.raise_block-requires-clause-inside
raise_block-requires-clause-inside c = c.in_ok-place_block.ensures.grown.inside c.requires.inside

pub raise_block-requires-clause-notes : goal.raise_block-requires-clause-notes
raise_block-requires-clause-notes c =
    let n = c.args.room.now.names.items in
    let w = c.args.room.now.words.items in
    let is : c.take.new.self.notes.items ≡ map (renumbered n w) c.args.notes.now = c.in_ok-take.ensures ∙ ap₂ (λ (n w : List ℕ). map (renumbered n w) c.args.notes.now) c.as_slice.ensures.value c.as_slice-2.ensures.value in
    notes_as c.args.self.now.names c.args.self.now.words c.place_block.new.self.names c.place_block.new.self.words (map (renumbered n w) c.args.notes.now) c.place_block.new.block.notes.items
    c.in_ok-place_block.ensures.names c.in_ok-place_block.ensures.words (c.in_ok-place_block.ensures.notes ∙ is)
    (notes_moved c.args.names.now c.args.words.now c.args.self.now.names c.args.self.now.words n w c.requires.names c.requires.words c.args.notes.now c.requires.notes)

pub raise_block-requires-clause-room : goal.raise_block-requires-clause-room
raise_block-requires-clause-room c =
    let moved = renumbered c.as_slice.result.now c.as_slice-2.result.now in
    let count : length c.place_block.new.block.notes.items ≡ length c.args.notes.now =
    ap (λ (ns : List Note). length ns) (c.in_ok-place_block.ensures.notes ∙ c.in_ok-take.ensures) ∙ length-map c.args.notes.now moved in
    room_grown c.args.self.now c.place_block.new.self (length c.args.notes.now) (length c.place_block.new.block.notes.items) c.in_ok-place_block.ensures.grown (omega (arith, count)) c.requires.room

pub returns-in_err-take-clause-err : goal.returns-in_err-take-clause-err
returns-in_err-take-clause-err c = let same : HaveSame (counted c.args.self.now) (counted c.args.self.now) = same_counts (counted c.args.self.now) (counted c.args.self.now) refl in search rules

pub returns-in_err-place_block-clause-err : goal.returns-in_err-place_block-clause-err
returns-in_err-place_block-clause-err c =
    let same : HaveSame (counted c.args.self.now) (counted c.place_block.new.self) = grown_same c.args.self.now c.place_block.new.self c.requires.inside c.in_err-place_block.ensures.grown in
    search rules

pub returns-in_err-place_block-clause-inside : goal.returns-in_err-place_block-clause-inside
returns-in_err-place_block-clause-inside c = c.in_err-place_block.ensures.grown.inside c.requires.inside

pub returns-clause-ok : goal.returns-clause-ok
returns-clause-ok c =
    let n = c.args.room.now.names.items in
    let w = c.args.room.now.words.items in
    let t = c.args.self.now in
    let g = c.place_block.new.self in
    let is : c.take.new.self.notes.items ≡ map (renumbered n w) c.args.notes.now = c.in_ok-take.ensures ∙ ap₂ (λ (n w : List ℕ). map (renumbered n w) c.args.notes.now) c.as_slice.ensures.value c.as_slice-2.ensures.value in
    let same : noted g.names g.words c.place_block.new.block.notes.items ≡ noted c.args.names.now c.args.words.now c.args.notes.now =
    (λ i. noted (c.in_ok-place_block.ensures.names i) (c.in_ok-place_block.ensures.words i) ((c.in_ok-place_block.ensures.notes ∙ is) i)) ∙
    noted_moved c.args.names.now c.args.words.now t.names t.words n w c.requires.names c.requires.words c.args.notes.now c.requires.notes in
    sum_behind (counted t) (counted g) (noted c.args.names.now c.args.words.now c.args.notes.now) (counted c.raise_block.new.self) (grown_same t g c.requires.inside c.in_ok-place_block.ensures.grown)
    (subst (λ (part : Counted). IsSum (counted g) part (counted c.raise_block.new.self)) same c.raise_block.ensures.sum)
