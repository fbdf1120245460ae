use Rattle.std.proofs.Common.{refl}
use Rattle.mt_counts.specs.Counted.{is_two}
use Rattle.mt_counts.specs.Notes.{one_counted}
use Rattle.mt_counts.specs.Tables.{counted, text_at}
use Rattle.mt_counts.proofs.Keys.{no_name, no_word, text_is}
use Rattle.mt_counts.proofs.Lists.{two_own}
use Rattle.mt_counts.proofs.Taking.{has_none, left_inside, one_taken, taken_as}
use Rattle.mt_counts.proofs.tables.Tables.lower_one.Goals as goal

pub returns-in-Some-find-clause-inside : goal.returns-in-Some-find-clause-inside
returns-in-Some-find-clause-inside c =
    left_inside c.args.self.now c.args.self.now.rows c.args.self.now.both c.args.self.now.columns c.lower_name.new.tally refl refl refl c.lower_name.ensures.keys c.requires

pub returns-in-Some-find-clause-taken : goal.returns-in-Some-find-clause-taken
returns-in-Some-find-clause-taken c =
    let t = c.args.self.now in
    let n = text_is t.names c.in-Some.name c.args.name.now c.in-Some.ensures.found in
    let w = text_is t.words c.in-Some-find.word c.args.word.now c.in-Some-find.ensures.found in
    taken_as (one_counted (text_at t.names c.in-Some.name) (text_at t.words c.in-Some-find.word)) (one_counted c.args.name.now c.args.word.now) (counted t) _ (λ i. one_counted (n i) (w i))
    (one_taken t (text_at t.names c.in-Some.name) (text_at t.words c.in-Some-find.word) c.lower_name.new.tally c.lower_name.ensures.lowered)

pub returns-in-None-find-clause-taken : goal.returns-in-None-find-clause-taken
returns-in-None-find-clause-taken c = λ within.
    let t = c.args.self.now in
    absurd (has_none (is_two c.args.name.now c.args.word.now) (c.args.name.now, c.args.word.now) (counted t).alone (two_own c.args.name.now c.args.word.now) (within.alone c.args.name.now c.args.word.now)
    (no_word t.names t.words t.alone c.requires.alone c.args.name.now c.args.word.now c.in-None-find.ensures.none))

pub returns-in-None-clause-taken : goal.returns-in-None-clause-taken
returns-in-None-clause-taken c = λ within.
    let t = c.args.self.now in
    absurd (has_none (is_two c.args.name.now c.args.word.now) (c.args.name.now, c.args.word.now) (counted t).alone (two_own c.args.name.now c.args.word.now) (within.alone c.args.name.now c.args.word.now)
    (no_name t.names t.words t.alone c.requires.alone c.args.name.now c.args.word.now c.in-None.ensures.none))
