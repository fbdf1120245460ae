use Rattle.std.proofs.Common.{[], ◌∷◌, subst}
use Rattle.mt_counts.specs.Counted.{HaveSame}
use Rattle.mt_counts.specs.Building.{Building}
use Rattle.mt_counts.specs.Names.{Begins}
use Rattle.mt_counts.specs.Notes.{noted}
use Rattle.mt_counts.proofs.Joined.{noted_grown, same_counts}
use Rattle.mt_counts.proofs.Numbering.{begins_none}
use Rattle.mt_counts.proofs.noted.Noted.name.Goals as goal

pub returns-clause-counted : goal.returns-clause-counted
returns-clause-counted c =
    let names = c.self.inside.names in
    let words = c.self.inside.words in
    let notes = c.self.inside.notes.items in
    let more : Begins names c.push.new.self = record { more = c.args.name.now ∷ []; are = c.in_ok-push.ensures.ok } in
    subst (λ (b : Building). HaveSame b.counted (noted c.push.new.self words notes)) c.self.view_is
    (same_counts (noted names words notes) (noted c.push.new.self words notes) (noted_grown names words c.push.new.self words more (begins_none words) notes c.self.invariant))
