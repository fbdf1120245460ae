use Rattle.std.proofs.Common.{None, get_or, arith}
use Rattle.std.proofs.lemmas.Option.{slice_get-get_or}
use Rattle.mt_counts.specs.declared.note.Note.{Note}
use Rattle.mt_instances.proofs.Forgetting.{all_forgotten, none_more, set_more}
use Rattle.mt_instances.proofs.ranks.Ranks.forget.Goals as goal
use Rattle.mt_instances.proofs.ranks.Ranks.forget.Goals.{then-name-len, else-name-len}

pub loop-entry-preserved : goal.loop-entry-preserved
loop-entry-preserved c =
    let entries = c.args.entries.now in
    let none : Note = record { name = 0; first = 0; second = None } in
    let k = c.loop-entry.entry-index in
    let ends = c.loop-entry.self-inside.ends.items in
    let there = slice_get-get_or entries k none c.loop-entry-test.true in
    elim c.if-name-len.branch [
      | then-name-len w ↦ rw w.self-inside-is (set_more entries k (get_or entries k none) ends there c.loop-entry.invariant)
      | else-name-len w ↦ rw w.self-inside-is (none_more entries k (get_or entries k none) ends (omega (arith, w.if-name-len.false, c.len.ensures)) there c.loop-entry.invariant)
    ]

pub returns : goal.returns
returns c = all_forgotten c.args.entries.now c.loop-entry.entry-index c.loop-entry.self-inside.ends.items (omega arith) c.loop-entry.invariant
