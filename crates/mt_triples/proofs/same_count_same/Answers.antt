use Rattle.std.proofs.Common.{ℕ, Some, None, subst, sym}
use Rattle.mt_count_spec.specs.Counts.{IsF, IsF1}
use Rattle.mt_counts.specs.Counted.{is_three, is_two}
use Rattle.mt_triples.proofs.same_count_same.Goals as goal

pub returns : goal.returns
returns c = λ images registry grammar corpus a b h same. record {
  both = λ name x y. subst (λ (n : ℕ). IsF images registry grammar corpus name (Some x) (Some y) n) (sym (same.both (is_three name x y))) (h.both name x y);
  first = λ name x. subst (λ (n : ℕ). IsF images registry grammar corpus name (Some x) None n) (sym (same.first (is_two name x))) (h.first name x);
  second = λ name y. subst (λ (n : ℕ). IsF images registry grammar corpus name None (Some y) n) (sym (same.second (is_two name y))) (h.second name y);
  alone = λ name x. subst (λ (n : ℕ). IsF1 images registry grammar corpus name (Some x) n) (sym (same.alone (is_two name x))) (h.alone name x);
}
