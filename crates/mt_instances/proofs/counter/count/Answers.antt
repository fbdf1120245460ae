use Rattle.std.proofs.Common.{List, length, subst, sym, ◌∙◌}
use Rattle.std.specs.List.{All, AllZip}
use Rattle.std.proofs.lemmas.List.{with_items_is}
use Rattle.std.proofs.lemmas.Result.{on_ok_weaker}
use Rattle.std.proofs.lemmas.Slice.Zip.{AllZip-long}
use Rattle.mt_counts.specs.Counted.{IsSum}
use Rattle.mt_counts.specs.Notes.{IsNoteIn, noted}
use Rattle.mt_counts.specs.declared.note.Note.{Note}
use Rattle.mt_instances.specs.Gathered.{value_in}
use Rattle.mt_instances.specs.Numbered.{IsEntryIn, IsNumbered}
use Rattle.mt_instances.proofs.Numbered.{notes_in, adds_noted}
use Rattle.mt_instances.proofs.counter.count.Goals as goal

pub number_all-requires-clause-entries : goal.number_all-requires-clause-entries
number_all-requires-clause-entries c = subst (λ (xs : List Note). All (IsEntryIn c.args.instances.now.names (length c.args.words.now.numbers.now)) xs) (sym c.as_mut_slice.ensures.value) c.requires.entries

pub put-requires : goal.put-requires
put-requires c =
    let now = c.number_all.new.counter.noted in
    let names = c.args.instances.now.names in
    let values = value_in c.args.words.now.lexicon.now c.args.words.now.numbers.now in
    let entries = c.as_mut_slice.result.now in
    let notes = c.number_all.new.entries in
    let numbered = c.in_ok-number_all.ensures.numbered in
    let written = with_items_is c.args.entries notes (AllZip-long (IsNumbered now names values) entries notes numbered ∙ c.as_mut_slice.ensures.len) in
    subst (λ (xs : List Note). All (IsNoteIn now.names now.words) xs) (sym written) (notes_in now names values entries notes numbered)

pub returns-clause-ok : goal.returns-clause-ok
returns-clause-ok c =
    let now = c.number_all.new.counter.noted in
    let names = c.args.instances.now.names in
    let values = value_in c.args.words.now.lexicon.now c.args.words.now.numbers.now in
    let entries = c.as_mut_slice.result.now in
    let notes = c.number_all.new.entries in
    let numbered = c.in_ok-number_all.ensures.numbered in
    let written = with_items_is c.args.entries notes (AllZip-long (IsNumbered now names values) entries notes numbered ∙ c.as_mut_slice.ensures.len) in
    let told = subst (λ (xs : List Note). AllZip (IsNumbered now names values) xs notes) c.as_mut_slice.ensures.value numbered in
    on_ok_weaker c.put.result
    (λ sum. adds_noted now names values c.args.counter.now.noted.counted c.put.new.self.counted c.args.entries.items notes c.in_ok-number_all.ensures.learns.counted
    (subst (λ (xs : List Note). IsSum now.counted (noted now.names now.words xs) c.put.new.self.counted) written sum) told)
    c.put.ensures.ok
