use Rattle.std.proofs.Common.{List, subst, sym}
use Rattle.mt_counts.specs.Building.{Building}
use Rattle.mt_counts.specs.Counted.{IsSum}
use Rattle.mt_counts.specs.Notes.{noted}
use Rattle.mt_counts.specs.declared.note.Note.{Note}
use Rattle.mt_counts.proofs.Joined.{noted_joined}
use Rattle.mt_counts.proofs.noted.Noted.put.Goals as goal

pub returns-clause-ok : goal.returns-clause-ok
returns-clause-ok c =
    let names = c.self.inside.names in
    let words = c.self.inside.words in
    let notes = c.self.inside.notes.items in
    let more = c.args.notes.items in
    subst (λ (b : Building). IsSum b.counted (noted b.names b.words more) (noted names words c.append.new.self.items)) c.self.view_is
    (subst (λ (ns : List Note). IsSum (noted names words notes) (noted names words more) (noted names words ns)) (sym c.in_ok-append.ensures.items) (noted_joined names words notes more))
