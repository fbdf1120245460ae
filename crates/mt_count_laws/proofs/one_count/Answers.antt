use Rattle.mt_count_spec.specs.Counts.{CountsTwo, IsCounted}
use Rattle.mt_count_laws.proofs.Numbers.{sums_are_one}
use Rattle.mt_count_laws.proofs.one_count.Goals as goal

pub returns : goal.returns
returns c = λ images registry grammar corpus name x y a b h k. sums_are_one (λ text. IsCounted images registry grammar text (CountsTwo images registry text name x y)) corpus a b h k
