use Rattle.mt_counts.specs.Counted.{is_two}
use Rattle.mt_counts.specs.Notes.{two_counted}
use Rattle.mt_counts.specs.Tables.{counted, text_at}
use Rattle.mt_counts.proofs.Keys.{no_name, no_word, text_is}
use Rattle.mt_counts.proofs.Lists.{two_own}
use Rattle.mt_counts.proofs.Taking.{has_none, taken_as}
use Rattle.mt_counts.proofs.tables.Tables.lower_two.Goals as goal

pub returns-in-Some-find-2-clause-taken : goal.returns-in-Some-find-2-clause-taken
returns-in-Some-find-2-clause-taken c =
    let t = c.args.self.now in
    let n = text_is t.names c.in-Some.name c.args.name.now c.in-Some.ensures.found in
    let x = text_is t.words c.in-Some-find.first c.args.first.now c.in-Some-find.ensures.found in
    let y = text_is t.words c.in-Some-find-2.second c.args.second.now c.in-Some-find-2.ensures.found in
    taken_as (two_counted (text_at t.names c.in-Some.name) (text_at t.words c.in-Some-find.first) (text_at t.words c.in-Some-find-2.second)) (two_counted c.args.name.now c.args.first.now c.args.second.now) (counted t)
    (counted c.lower_numbers.new.self) (λ i. two_counted (n i) (x i) (y i)) c.lower_numbers.ensures.taken

pub returns-in-None-find-2-clause-taken : goal.returns-in-None-find-2-clause-taken
returns-in-None-find-2-clause-taken c = λ within.
    let t = c.args.self.now in
    absurd (has_none (is_two c.args.name.now c.args.second.now) (c.args.name.now, c.args.second.now) (counted t).second (two_own c.args.name.now c.args.second.now) (within.second c.args.name.now c.args.second.now)
    (no_word t.names t.words t.columns c.requires.columns c.args.name.now c.args.second.now c.in-None-find-2.ensures.none))

pub returns-in-None-find-clause-taken : goal.returns-in-None-find-clause-taken
returns-in-None-find-clause-taken c = λ within.
    let t = c.args.self.now in
    absurd (has_none (is_two c.args.name.now c.args.first.now) (c.args.name.now, c.args.first.now) (counted t).first (two_own c.args.name.now c.args.first.now) (within.first c.args.name.now c.args.first.now)
    (no_word t.names t.words t.rows c.requires.rows c.args.name.now c.args.first.now c.in-None-find.ensures.none))

pub returns-in-None-clause-taken : goal.returns-in-None-clause-taken
returns-in-None-clause-taken c = λ within.
    let t = c.args.self.now in
    absurd (has_none (is_two c.args.name.now c.args.first.now) (c.args.name.now, c.args.first.now) (counted t).first (two_own c.args.name.now c.args.first.now) (within.first c.args.name.now c.args.first.now)
    (no_name t.names t.words t.rows c.requires.rows c.args.name.now c.args.first.now c.in-None.ensures.none))
