-- The numbers so far are listed.
use Rattle.mt_thesaurus.specs.Told.{AreOthers}
use Rattle.mt_thesaurus.proofs.alike.others_of.Given as goal

abbrev pub invariant-loop-word : goal.invariant-loop-word
invariant-loop-word l = AreOthers l.parts l.lemma l.word l.numbers.items
