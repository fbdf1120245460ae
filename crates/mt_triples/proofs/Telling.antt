-- What tables tell is so of the texts whose counts they are.
use Rattle.std.proofs.Common.{◌≡◌, ℕ, ◌<◌, Bool, true, false, Some, None, List, [], sym, subst, Result, Ok, Err, OnOk, OnErr, IfOk}
use Rattle.mt_text_spec.specs.Registries.{Registry}
use Rattle.mt_text_spec.specs.Texts.{Text}
use Rattle.mt_text_spec.specs.Queries.{Grammar}
use Rattle.mt_match_spec.specs.Values.{Images}
use Rattle.mt_count_spec.specs.Counts.{IsF, IsF1, OverNone}
use Rattle.mt_count_laws.specs.Laws.{OneCount, OneUnaryCount}
use Rattle.mt_counts.specs.Tallies.{ListsOnce}
use Rattle.mt_counts.specs.Counted.{Counted, f, f_first, f_second, f1}
use Rattle.mt_counts.specs.Listed.{IsHead, head_count, IsPair, AreFirstWords}
use Rattle.mt_counts.specs.declared.listing.Head.{Head}
use Rattle.mt_counts.specs.declared.pairs.Pair.{Pair}
use Rattle.mt_triples.specs.CountsOf.{AreCountsOf}
use Rattle.mt_triples.specs.Told.{IsHeadCount, IsHeadIn, IsPairIn, AreFirstWordsIn}

-- ---- results

pub ok_so : {T E P Q : Type 0} (r : Result T E) → (P → Q) → OnOk r P → OnOk r Q
ok_so (Ok x) f h = f h
ok_so (Err e) f h = h

pub err_so : {T E P Q : Type 0} (r : Result T E) → (P → Q) → OnErr r P → OnErr r Q
err_so (Ok x) f h = h
err_so (Err e) f h = f h

pub if_ok_so : {T E : Type 0} {P Q : T → Type 0} (r : Result T E) → ((x : T) → P x → Q x) → IfOk r P → IfOk r Q
if_ok_so (Ok x) f h = f x h
if_ok_so (Err e) f h = h

lists_same : {X : Type 0} (P Q : X → Type 0) (xs : List X) → ((x : X) → P x → Q x) → ((x : X) → Q x → P x) → ListsOnce P xs → ListsOnce Q xs
lists_same P Q xs on back all = record { once = all.once; only = λ x h. on x (all.only x h); each = λ x q. all.each x (back x q) }

-- ---- no texts

pub counts_none : (images : Images) (registry : Registry) (grammar : Grammar) → AreCountsOf images registry grammar [] (record { both = []; first = []; second = []; alone = [] })
counts_none images registry grammar = record { both = λ name x y. OverNone; first = λ name x. OverNone; second = λ name y. OverNone; alone = λ name x. OverNone }

-- ---- some texts

module _ (images : Images) (registry : Registry) (grammar : Grammar) (corpus : List Text) (counts : Counted) (are : AreCountsOf images registry grammar corpus counts) where
  head_on : (word name : List ℕ) (unary : Bool) (count : ℕ) → count ≡ head_count counts name word unary → IsHeadCount images registry grammar corpus name word unary count
  head_on word name true count e = subst (λ (n : ℕ). IsF1 images registry grammar corpus name (Some word) n) (sym e) (are.alone name word)
  head_on word name false count e = subst (λ (n : ℕ). IsF images registry grammar corpus name (Some word) None n) (sym e) (are.first name word)

  head_back : OneCount → OneUnaryCount → (word name : List ℕ) (unary : Bool) (count : ℕ) → IsHeadCount images registry grammar corpus name word unary count → count ≡ head_count counts name word unary
  head_back one one_unary word name true count h = one_unary images registry grammar corpus name (Some word) count (f1 counts name word) h (are.alone name word)
  head_back one one_unary word name false count h = one images registry grammar corpus name (Some word) None count (f_first counts name word) h (are.first name word)

  pub heads_told : OneCount → OneUnaryCount → (word : List ℕ) (heads : List Head) → ListsOnce (IsHead counts word) heads → ListsOnce (IsHeadIn images registry grammar corpus word) heads
  heads_told one one_unary word heads all =
      lists_same (IsHead counts word) (IsHeadIn images registry grammar corpus word) heads
      (λ head h. record { some = h.some; is = head_on word head.name head.unary head.count h.is })
      (λ head h. record { some = h.some; is = head_back one one_unary word head.name head.unary head.count h.is }) all

  pair_on : (name word : List ℕ) (pair : Pair) → IsPair counts name word pair → IsPairIn images registry grammar corpus name word pair
  pair_on name word pair h = record {
    some = h.some;
    both_is = subst (λ (n : ℕ). IsF images registry grammar corpus name (Some word) (Some pair.word) n) (sym h.both_is) (are.both name word pair.word);
    right_is = subst (λ (n : ℕ). IsF images registry grammar corpus name None (Some pair.word) n) (sym h.right_is) (are.second name pair.word);
  }

  pair_back : OneCount → (name word : List ℕ) (pair : Pair) → IsPairIn images registry grammar corpus name word pair → IsPair counts name word pair
  pair_back one name word pair h = record {
    some = h.some;
    both_is = one images registry grammar corpus name (Some word) (Some pair.word) pair.both (f counts name word pair.word) h.both_is (are.both name word pair.word);
    right_is = one images registry grammar corpus name None (Some pair.word) pair.right (f_second counts name pair.word) h.right_is (are.second name pair.word);
  }

  pub pairs_told : OneCount → (name word : List ℕ) (pairs : List Pair) → ListsOnce (IsPair counts name word) pairs → ListsOnce (IsPairIn images registry grammar corpus name word) pairs
  pairs_told one name word pairs all = lists_same (IsPair counts name word) (IsPairIn images registry grammar corpus name word) pairs (pair_on name word) (pair_back one name word) all

  pub words_told : OneCount → (words : List (List ℕ)) → AreFirstWords counts words → AreFirstWordsIn images registry grammar corpus words
  words_told one words all = record {
    ascending = all.ascending;
    only = λ word h. let s = all.only word h in record { name = s.name; count = f_first counts s.name word; some = s.some; is = are.first s.name word };
    each = λ word s. all.each word (record { name = s.name; some = subst (λ (n : ℕ). 0 < n) (one images registry grammar corpus s.name (Some word) None s.count (f_first counts s.name word) s.is (are.first s.name word)) s.some });
  }
