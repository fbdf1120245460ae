use Rattle.std.proofs.Common.{[], ◌∷◌}
use Rattle.mt_counts.specs.Notes.{one_counted, two_counted, noted}
use Rattle.mt_counts.specs.Tables.{counted}
use Rattle.mt_counts.proofs.Joined.{noted_two, noted_one}
use Rattle.mt_counts.proofs.Taking.{taken_as}
use Rattle.mt_counts.proofs.tables.Tables.lower_note.Goals as goal

pub returns-in-Some-clause-taken : goal.returns-in-Some-clause-taken
returns-in-Some-clause-taken c =
    let names = c.args.names.now in
    let words = c.args.words.now in
    let is = noted_two names words c.args.note c.in-Some.second c.get-name.result.now c.get-first.result.now c.get.result.now c.in-Some.is c.get-name.ensures c.get-first.ensures c.get.ensures in
    taken_as (two_counted c.get-name.result.now c.get-first.result.now c.get.result.now) (noted names words (c.args.note ∷ [])) (counted c.args.self.now) (counted c.lower_two.new.self) is c.lower_two.ensures.taken

pub returns-in-None-clause-taken : goal.returns-in-None-clause-taken
returns-in-None-clause-taken c =
    let names = c.args.names.now in
    let words = c.args.words.now in
    let is = noted_one names words c.args.note c.get-name.result.now c.get-first.result.now c.in-None.is c.get-name.ensures c.get-first.ensures in
    taken_as (one_counted c.get-name.result.now c.get-first.result.now) (noted names words (c.args.note ∷ [])) (counted c.args.self.now) (counted c.lower_one.new.self) is c.lower_one.ensures.taken
