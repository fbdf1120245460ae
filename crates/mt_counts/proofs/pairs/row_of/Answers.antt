use Rattle.std.proofs.Common.{◌≡◌, ℕ, ◌<◌, length}
use Rattle.std.specs.Map.{keys_of}
use Rattle.mt_counts.specs.Tables.{named_word, row_at}
use Rattle.mt_counts.specs.Tallies.{IsAt}
use Rattle.mt_counts.proofs.Keys.{none_so, row_has_name, row_has_word, row_stands_so}
use Rattle.mt_counts.proofs.pairs.row_of.Goals as goal

pub returns-in-Some-find-clause-none : goal.returns-in-Some-find-clause-none
returns-in-Some-find-clause-none c =
    none_so c.find-in-Some-find.result ((place : ℕ) → IsAt c.args.rows.now (c.in-Some-find.first, c.in-Some.number) place → ⊥)
    ((row : ℕ) → row < length c.args.rows.now → named_word c.args.names.now c.args.words.now (row_at (keys_of c.args.rows.now) row) ≡ (c.args.name.now, c.args.word.now) → ⊥)
    (λ none row l is. none row (row_stands_so c.args.names.now c.args.words.now c.args.rows.now c.requires.below c.args.name.now c.args.word.now row l is c.in-Some.number c.in-Some-find.first c.len.ensures.distinct c.len-2.ensures.distinct c.in-Some.ensures.found c.in-Some-find.ensures.found))
    c.find-in-Some-find.ensures.none

pub returns-in-None-find-clause-none : goal.returns-in-None-find-clause-none
returns-in-None-find-clause-none c = λ row l is. c.in-None-find.ensures.none (row_at (keys_of c.args.rows.now) row).0 (row_has_word c.args.names.now c.args.words.now c.args.rows.now c.requires.below c.args.name.now c.args.word.now row l is)

pub returns-in-None-clause-none : goal.returns-in-None-clause-none
returns-in-None-clause-none c = λ row l is. c.in-None.ensures.none (row_at (keys_of c.args.rows.now) row).1 (row_has_name c.args.names.now c.args.words.now c.args.rows.now c.requires.below c.args.name.now c.args.word.now row l is)
