use Rattle.std.proofs.Common.{◌+◌, ◌-◌, ◌≤◌, List, length, take, subst, arith}
use Rattle.std.specs.Prelude.{slice_range}
use Rattle.std.proofs.lemmas.List.{take_all}
use Rattle.mt_counts.specs.Counted.{IsSum}
use Rattle.mt_counts.specs.Notes.{noted}
use Rattle.mt_counts.specs.Tables.{counted}
use Rattle.mt_counts.specs.declared.note.Note.{Note}
use Rattle.mt_counts.proofs.Filling.{nothing_added, numbered_as, room_grown, room_left, slice_count, sum_then, taken_back, taken_slice}
use Rattle.mt_counts.proofs.Counting.{grown_none}
use Rattle.mt_counts.proofs.tables.Tables.add_blocks.Goals as goal

pub loop-done-init : goal.loop-done-init
loop-done-init c = record {
  within = omega arith;
  inside = c.requires.inside;
  room = room_grown c.args.self.now c.args.self.now (length c.args.notes.now) (length c.args.notes.now - 0) (grown_none c.args.self.now) (omega arith) c.requires.room;
  names = c.requires.names;
  words = c.requires.words;
  sum = nothing_added c.args.names.now c.args.words.now (counted c.args.self.now);
}

pub loop-done-preserved : goal.loop-done-preserved
loop-done-preserved c =
    let names = c.args.names.now in
    let words = c.args.words.now in
    let notes = c.args.notes.now in
    let done = c.loop-done.done in
    let size = c.min-size.result in
    let before = c.loop-done.invariant in
    let little : done + size ≤ length notes = omega (arith, c.min-size.ensures) in
    record {
      within = little;
      inside = c.in-Ok.ensures.inside;
      room = room_left c.loop-done.self c.add_some.new.self names words (slice_range notes done (done + size)) (length notes - done) (length notes - (done + size)) c.in-Ok.ensures.ok (omega (arith, little, slice_count notes done size)) before.room;
      names = numbered_as names c.loop-done.self.names c.add_some.new.self.names c.loop-done.room.names.items c.add_some.new.room.names.items c.in-Ok.ensures.names c.in-Ok.ensures.name_numbers before.names;
      words = numbered_as words c.loop-done.self.words c.add_some.new.self.words c.loop-done.room.words.items c.add_some.new.room.words.items c.in-Ok.ensures.words c.in-Ok.ensures.word_numbers before.words;
      sum = sum_then names words (take done notes) (slice_range notes done (done + size)) (take (done + size) notes) (counted c.args.self.now) (counted c.loop-done.self) (counted c.add_some.new.self) (taken_slice notes done size) before.sum c.in-Ok.ensures.ok;
    }

pub returns-clause-ok : goal.returns-clause-ok
returns-clause-ok c =
    subst (λ (ns : List Note). IsSum (counted c.args.self.now) (noted c.args.names.now c.args.words.now ns) (counted c.loop-done.self)) (take_all c.loop-done.done c.args.notes.now c.loop-done-test.false) c.loop-done.invariant.sum

pub returns-in-Err-clause-err : goal.returns-in-Err-clause-err
returns-in-Err-clause-err c =
    taken_back (counted c.args.self.now) (noted c.args.names.now c.args.words.now (take c.loop-done.done c.args.notes.now)) (counted c.loop-done.self) (counted c.add_some.new.self) (counted c.lower_all.new.self) c.loop-done.invariant.sum c.in-Err.ensures.err
    c.lower_all.ensures.taken
