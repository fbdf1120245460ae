use Rattle.mt_count_spec.specs.Counts.{CountsOne, IsCounted}
use Rattle.mt_count_laws.proofs.Numbers.{sums_are_one}
use Rattle.mt_count_laws.proofs.one_unary_count.Goals as goal

pub returns : goal.returns
returns c = λ images registry grammar corpus name x a b h k. sums_are_one (λ text. IsCounted images registry grammar text (CountsOne images registry text name x)) corpus a b h k
