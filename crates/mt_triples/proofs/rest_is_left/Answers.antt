use Rattle.std.proofs.Common.{Some, None}
use Rattle.mt_count_spec.specs.Counts.{CountsTwo, CountsOne, IsCounted, Number}
use Rattle.mt_counts.specs.Counted.{f, f_first, f_second, f1, is_three, is_two}
use Rattle.mt_triples.proofs.Joined.{rest_left}
use Rattle.mt_triples.proofs.rest_is_left.Goals as goal

pub returns : goal.returns
returns c = λ images registry grammar before texts behind part rest sum h k is. record {
  both = λ name x y. rest_left (λ text here. Number (IsCounted images registry grammar text (CountsTwo images registry text name (Some x) (Some y))) here) before texts behind (f part name x y) (f rest name x y) (f sum name x y)
      (c.one_count.ensures images registry grammar texts name (Some x) (Some y)) (is.both (is_three name x y)) (h.both name x y) (k.both name x y);
  first = λ name x. rest_left (λ text here. Number (IsCounted images registry grammar text (CountsTwo images registry text name (Some x) None)) here) before texts behind (f_first part name x) (f_first rest name x) (f_first sum name x)
      (c.one_count.ensures images registry grammar texts name (Some x) None) (is.first (is_two name x)) (h.first name x) (k.first name x);
  second = λ name y. rest_left (λ text here. Number (IsCounted images registry grammar text (CountsTwo images registry text name None (Some y))) here) before texts behind (f_second part name y) (f_second rest name y) (f_second sum name y)
      (c.one_count.ensures images registry grammar texts name None (Some y)) (is.second (is_two name y)) (h.second name y) (k.second name y);
  alone = λ name x. rest_left (λ text here. Number (IsCounted images registry grammar text (CountsOne images registry text name (Some x))) here) before texts behind (f1 part name x) (f1 rest name x) (f1 sum name x)
      (c.one_unary_count.ensures images registry grammar texts name (Some x)) (is.alone (is_two name x)) (h.alone name x) (k.alone name x);
}
