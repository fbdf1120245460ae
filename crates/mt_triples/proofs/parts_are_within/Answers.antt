use Rattle.std.proofs.Common.{Some, None}
use Rattle.mt_count_spec.specs.Counts.{CountsTwo, CountsOne, IsCounted, Number}
use Rattle.mt_counts.specs.Counted.{f, f_first, f_second, f1}
use Rattle.mt_triples.proofs.Joined.{part_within}
use Rattle.mt_triples.proofs.parts_are_within.Goals as goal

pub returns : goal.returns
returns c = λ images registry grammar before texts behind part sum h k. record {
  both = λ name x y. part_within (λ text here. Number (IsCounted images registry grammar text (CountsTwo images registry text name (Some x) (Some y))) here) before texts behind (f part name x y) (f sum name x y)
      (c.one_count.ensures images registry grammar texts name (Some x) (Some y)) (h.both name x y) (k.both name x y);
  first = λ name x. part_within (λ text here. Number (IsCounted images registry grammar text (CountsTwo images registry text name (Some x) None)) here) before texts behind (f_first part name x) (f_first sum name x)
      (c.one_count.ensures images registry grammar texts name (Some x) None) (h.first name x) (k.first name x);
  second = λ name y. part_within (λ text here. Number (IsCounted images registry grammar text (CountsTwo images registry text name None (Some y))) here) before texts behind (f_second part name y) (f_second sum name y)
      (c.one_count.ensures images registry grammar texts name None (Some y)) (h.second name y) (k.second name y);
  alone = λ name x. part_within (λ text here. Number (IsCounted images registry grammar text (CountsOne images registry text name (Some x))) here) before texts behind (f1 part name x) (f1 sum name x)
      (c.one_unary_count.ensures images registry grammar texts name (Some x)) (h.alone name x) (k.alone name x);
}
