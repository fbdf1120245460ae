-- Every lemma has a thesaurus.
use Rattle.std.proofs.Common.{◌≡◌, ℕ, ◌+◌, ◌*◌, List, ◌∷◌, length, map, take, refl, sym, subst, arith}
use Rattle.mt_match_spec.specs.Rows.{ListsAll}
use Rattle.std.specs.declared.cmp.Ordering.TheVariants.{Equal}
use Rattle.mt_match_laws.proofs.Members.{Member, to_member, from_member}
use Rattle.mt_match_laws.proofs.Sorting.{in_order, sorted}
use Rattle.mt_match_laws.proofs.Deciding.{Decision, both, contrary, equal_values}
use Rattle.mt_sketch_spec.specs.Score.{ScoreIsUnique}
use Rattle.mt_triples.specs.Tallied.{HaveCounts}
use Rattle.mt_word_sketch_spec.specs.Ranks.{Ranked, rank_cmp, number_line}
use Rattle.mt_word_sketch_spec.specs.Order.{weighed_cmp}
use Rattle.mt_word_sketch_spec.specs.Frequencies.{Frequencies}
use Rattle.mt_word_sketch_spec.specs.Thesaurus.{IsOwn, Shared, IsShared, likeness, IsAlike, alike_line, ThesaurusText}
use Rattle.mt_word_sketch_laws.specs.Laws.{PairsAreWithin, IsWithinBoth, ThereIsAScore, HaveThesauri}
use Rattle.mt_word_sketch_laws.proofs.Lists.{in_map, from_map, kept, from_kept, in_kept, ascends_alike, ascends_mapped}
use Rattle.mt_word_sketch_laws.proofs.Sums.{one_total}
use Rattle.mt_word_sketch_laws.proofs.Orders.{weigh, by_weight, by_weight_total, same_weight}
use Rattle.mt_word_sketch_laws.proofs.Frequent.{Known, known, frequencies_of, are_frequencies}
use Rattle.mt_word_sketch_laws.proofs.Ones.{whole_is_some}
use Rattle.mt_word_sketch_laws.proofs.Scored.{own_sum, own_adds, shared_sum, shared_adds, shares}

module _ (unique : ScoreIsUnique) (have : ThereIsAScore) (f : Frequencies) (within : (name x y : List ℕ) → IsWithinBoth f name x y) (known : Known f) (lemma : List ℕ) where
  -- a word with its fraction
  ranked : List ℕ → Ranked
  ranked word = record { word = word; part = shared_sum unique f have within known lemma word; whole = 800 * (own_sum unique f have within known lemma + own_sum unique f have within known word) }

  -- another word that shares a context
  abbrev Shares : List ℕ → Type 0
  Shares word = (word ≡ lemma → ⊥) × ((one : Shared) × IsShared f lemma word one)

  decided : (word : List ℕ) → Decision (Shares word)
  decided word = both (contrary (equal_values word lemma)) (shares unique f have within known lemma word)

  is_alike : (word : List ℕ) → Shares word → IsAlike f lemma (ranked word)
  unfolding ranked
  is_alike word h = record {
    other = h.0;
    shared = h.1.0;
    shares = h.1.1;
    part_is = shared_adds unique f have within known lemma word;
    lemma_sum = own_sum unique f have within known lemma;
    word_sum = own_sum unique f have within known word;
    lemma_adds = own_adds unique f have within known lemma;
    word_adds = own_adds unique f have within known word;
    whole_is = refl;
  }

  is_ranked : (r : Ranked) → IsAlike f lemma r → r ≡ ranked r.word
  unfolding ranked
  is_ranked r h =
      let part : r.part ≡ shared_sum unique f have within known lemma r.word = one_total (IsShared f lemma r.word) likeness r.part (shared_sum unique f have within known lemma r.word) h.part_is (shared_adds unique f have within known lemma r.word) in
      let left : h.lemma_sum ≡ own_sum unique f have within known lemma = one_total (IsOwn f lemma) (λ own. own.score) h.lemma_sum (own_sum unique f have within known lemma) h.lemma_adds (own_adds unique f have within known lemma) in
      let right : h.word_sum ≡ own_sum unique f have within known r.word = one_total (IsOwn f r.word) (λ own. own.score) h.word_sum (own_sum unique f have within known r.word) h.word_adds (own_adds unique f have within known r.word) in
      let is = h.whole_is in
      let whole : r.whole ≡ 800 * (own_sum unique f have within known lemma + own_sum unique f have within known r.word) = omega (arith, left, right, is) in
      λ i. record { word = r.word; part = part i; whole = whole i }

  candidates : List (List ℕ)
  candidates = map (λ key. key.1) known.triples

  is_candidate : (word : List ℕ) → Shares word → Member word candidates
  unfolding candidates
  is_candidate word h =
      let one = h.1.0 in
      in_map (λ (key : List ℕ × List ℕ × List ℕ). key.1) known.triples (one.context.name, word, one.context.second) (known.each_triple one.context.name word one.context.second h.1.1.by_other.some)

  some : List (List ℕ)
  some = kept {P = Shares} decided candidates

  words : List (List ℕ)
  words = sorted (λ a b. weighed_cmp (weigh (ranked a)) (weigh (ranked b))) some

  same_ranked : (a b : List ℕ) → weighed_cmp (weigh (ranked a)) (weigh (ranked b)) ≡ Equal → a ≡ b
  unfolding ranked
  same_ranked a b e = same_weight (ranked a) (ranked b) e

  listed : ListsAll (λ a b. weighed_cmp (weigh (ranked a)) (weigh (ranked b))) Shares words
  unfolding words some
  listed = in_order (by_weight_total ranked) same_ranked Shares some (λ word m. from_kept {P = Shares} decided candidates word m) (λ word h. in_kept {P = Shares} decided candidates word h (is_candidate word h))

  shares_of : (word : List ℕ) → Member word words → Shares word
  shares_of word m = listed.only word (from_member words word m)

  all_listed : ListsAll rank_cmp (IsAlike f lemma) (map ranked words)
  all_listed = record {
    ascending = ascends_mapped ranked rank_cmp words
        (ascends_alike (λ a b. weighed_cmp (weigh (ranked a)) (weigh (ranked b))) (λ a b. rank_cmp (ranked a) (ranked b)) words
        (λ a b m n. by_weight (ranked a) (ranked b) (whole_is_some f lemma (ranked a) (is_alike a (shares_of a m))) (whole_is_some f lemma (ranked b) (is_alike b (shares_of b n)))) listed.ascending);
    only = λ r h. let from = from_map ranked words r (to_member (map ranked words) r h) in subst (IsAlike f lemma) (sym from.is) (is_alike from.from (shares_of from.from from.member));
    each = λ r h.
        let there : Member r.word words = to_member words r.word (listed.each r.word (h.other, (h.shared, h.shares))) in
        from_member (map ranked words) r (subst (λ (one : Ranked). Member one (map ranked words)) (sym (is_ranked r h)) (in_map ranked words r.word there));
  }

  pub a_list : (max : ℕ) → (lines : List (List ℕ)) × ThesaurusText f lemma max lines
  a_list max = (
    number_line (length (take max (map ranked words))) ∷ map alike_line (take max (map ranked words)),
    record { shown = take max (map ranked words); first = record { all = map ranked words; are = all_listed; first = refl }; say = refl },
  )

pub thesauri : HaveCounts → PairsAreWithin → ScoreIsUnique → ThereIsAScore → HaveThesauri
thesauri counts within unique have images registry grammar corpus lemma max =
    let c = counts images registry grammar corpus in
    let are = are_frequencies images registry grammar corpus c.0 c.1 in
    let text = a_list unique have (frequencies_of c.0) (within images registry grammar corpus (frequencies_of c.0) are) (known c.0) lemma max in
    (text.0, record { frequencies = frequencies_of c.0; are = are; text = text.1 })
