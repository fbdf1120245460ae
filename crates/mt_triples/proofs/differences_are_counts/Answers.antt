use Rattle.std.proofs.Common.{Some, None}
use Rattle.mt_count_spec.specs.Counts.{CountsTwo, CountsOne, IsCounted, Number}
use Rattle.mt_counts.specs.Counted.{f, f_first, f_second, f1, is_three, is_two}
use Rattle.mt_triples.proofs.Joined.{summed_left}
use Rattle.mt_triples.proofs.differences_are_counts.Goals as goal

pub returns : goal.returns
returns c = λ images registry grammar corpus others a b sum h k is. record {
  both = λ name x y. summed_left (λ text here. Number (IsCounted images registry grammar text (CountsTwo images registry text name (Some x) (Some y))) here) corpus others (f a name x y) (f b name x y) (f sum name x y)
      (c.one_count.ensures images registry grammar corpus name (Some x) (Some y)) (is.both (is_three name x y)) (h.both name x y) (k.both name x y);
  first = λ name x. summed_left (λ text here. Number (IsCounted images registry grammar text (CountsTwo images registry text name (Some x) None)) here) corpus others (f_first a name x) (f_first b name x) (f_first sum name x)
      (c.one_count.ensures images registry grammar corpus name (Some x) None) (is.first (is_two name x)) (h.first name x) (k.first name x);
  second = λ name y. summed_left (λ text here. Number (IsCounted images registry grammar text (CountsTwo images registry text name None (Some y))) here) corpus others (f_second a name y) (f_second b name y) (f_second sum name y)
      (c.one_count.ensures images registry grammar corpus name None (Some y)) (is.second (is_two name y)) (h.second name y) (k.second name y);
  alone = λ name x. summed_left (λ text here. Number (IsCounted images registry grammar text (CountsOne images registry text name (Some x))) here) corpus others (f1 a name x) (f1 b name x) (f1 sum name x)
      (c.one_unary_count.ensures images registry grammar corpus name (Some x)) (is.alone (is_two name x)) (h.alone name x) (k.alone name x);
}
