use Rattle.std.proofs.Common.{[], ◌∷◌, subst}
use Rattle.mt_counts.specs.Counted.{HaveSame}
use Rattle.mt_counts.specs.Building.{Building}
use Rattle.mt_counts.specs.Names.{Begins}
use Rattle.mt_counts.specs.Notes.{noted}
use Rattle.mt_counts.proofs.Joined.{noted_grown, same_counts}
use Rattle.mt_counts.proofs.Numbering.{begins_none}
use Rattle.mt_counts.proofs.noted.Noted.word.Goals as goal

pub returns-clause-counted : goal.returns-clause-counted
returns-clause-counted c =
    let names = c.self.inside.names in
    let words = c.self.inside.words in
    let notes = c.self.inside.notes.items in
    let more : Begins words c.push.new.self = record { more = c.args.word.now ∷ []; are = c.in_ok-push.ensures.ok } in
    subst (λ (b : Building). HaveSame b.counted (noted names c.push.new.self notes)) c.self.view_is
    (same_counts (noted names words notes) (noted names c.push.new.self notes) (noted_grown names words names c.push.new.self (begins_none names) more notes c.self.invariant))
