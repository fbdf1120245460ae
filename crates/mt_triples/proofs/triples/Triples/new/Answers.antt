use Rattle.std.proofs.Common.{subst, sym, []}
use Rattle.mt_triples.specs.CountsOf.{AreCountsOf}
use Rattle.mt_triples.proofs.Telling.{counts_none}
use Rattle.mt_triples.proofs.triples.Triples.new.Goals as goal

pub returns : goal.returns
returns c = λ images registry grammar. subst (AreCountsOf images registry grammar []) (sym c.new.ensures) (counts_none images registry grammar)
