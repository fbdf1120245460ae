use Rattle.mt_triples.proofs.Numbered.{instances_counted}
use Rattle.mt_triples.proofs.instances_are_counted.Goals as goal

pub returns : goal.returns
returns c = λ images registry grammar text all counted are. instances_counted images registry grammar text all are counted
