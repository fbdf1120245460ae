-- The best of the words so far are chosen.
use Rattle.std.proofs.Common.{◌≡◌, take}
use Rattle.mt_ranks.specs.Bests.{IsBest}
use Rattle.mt_thesaurus.specs.Told.{weighed_all}
use Rattle.mt_thesaurus.proofs.alike.best_of.Given as goal

abbrev pub invariant-loop-number : goal.invariant-loop-number
invariant-loop-number l = record {
  max : l.chosen.max ≡ l.max;
  best : IsBest l.max (weighed_all l.words.keys l.parts l.sums l.lemma (take l.number-index l.numbers)) l.chosen.words;
}
