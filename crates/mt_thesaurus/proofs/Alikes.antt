-- The words that share something with a lemma are those that are like it.
use Rattle.std.proofs.Common.{◌≡◌, ℕ, ◌+◌, ◌-◌, ◌*◌, ◌^◌, ◌<◌, ◌≤◌, Bool, true, false, Some, List, [], ◌∷◌, length, map, get_or, slice_get, refl, sym, ◌∙◌, ap, subst, arith, inl, inr}
use Rattle.std.specs.List.{All, AllByRecursion, Contains, IsDistinct}
use Rattle.std.specs.Str.{bytes_eq}
use Rattle.std.specs.Cmp.Lexicographic.{bytes_decides}
use Rattle.std.proofs.lemmas.List.Elements.{All-from_recursion}
use Rattle.std.proofs.lemmas.Option.{slice_get_within, get_or_from_slice_get, slice_get-get_or}
use Rattle.mt_match_laws.proofs.Members.{Member, to_member, from_member}
use Rattle.mt_count_spec.specs.Counts.{EachOnce}
use Rattle.mt_counts.specs.Names.{AreDistinct as NamesDiffer}
use Rattle.mt_counts.specs.Tables.{text_at}
use Rattle.mt_word_sketch_spec.specs.Frequencies.{Frequencies}
use Rattle.mt_word_sketch_spec.specs.Ranks.{Ranked}
use Rattle.mt_word_sketch_spec.specs.Order.{Weighed, ranked_of}
use Rattle.mt_word_sketch_spec.specs.Thesaurus.{IsShared, Own, IsOwn, likeness, AddUp, IsScoreSum, IsAlike}
use Rattle.mt_word_sketch_laws.proofs.Lists.{in_map, from_map}
use Rattle.mt_word_sketch_laws.proofs.Sums.{one_total, one_within}
use Rattle.mt_thesaurus.specs.declared.placed.Placed.{Placed}
use Rattle.mt_thesaurus.specs.Scores.{Scores, AreScoresOf}
use Rattle.mt_thesaurus.specs.Sums.{of_group, score_sum, given, part_of, shares}
use Rattle.mt_thesaurus.specs.Told.{AreOthers, similar_at, weighed_of, IsSmall, AreAlike}
use Rattle.mt_thesaurus.proofs.Adding.{some_there}
use Rattle.mt_thesaurus.proofs.Summing.{own_sum, shared_sum, like_positive}

-- a word by its number, as it is ranked
abbrev rank_at : (words : List (List ℕ)) (parts sums : List ℕ) (lemma word : ℕ) → Ranked
rank_at words parts sums lemma word = record { word = text_at words word; part = get_or parts word 0; whole = 800 * (get_or sums lemma 0 + get_or sums word 0) }

ranked_so : (words : List (List ℕ)) (parts sums : List ℕ) (lemma word : ℕ) → 0 < get_or sums lemma 0 → ranked_of (weighed_of words (similar_at parts sums lemma word)) ≡ rank_at words parts sums lemma word
ranked_so words parts sums lemma word some =
    let whole : 800 * (get_or sums lemma 0 + get_or sums word 0) - 1 + 1 ≡ 800 * (get_or sums lemma 0 + get_or sums word 0) = omega (arith, some) in
    λ i. record { word = text_at words word; part = get_or parts word 0; whole = whole i }

-- what a word that is like the lemma is, by its number
record Numbered (words : List (List ℕ)) (parts sums : List ℕ) (lemma : ℕ) (one : Ranked) : Type 0 where
  pub number : ℕ
  pub there : slice_get words number ≡ Some one.word
  pub other : number ≡ lemma → ⊥
  pub some : 0 < get_or parts number 0
  pub is : rank_at words parts sums lemma number ≡ one

module _ (f : Frequencies) (scores : Scores) (are : AreScoresOf f scores) (lemma : List ℕ) where
  -- a lemma without a number has no contexts, and so no word is like it
  pub none_unknown : ((number : ℕ) → slice_get scores.words number ≡ Some lemma → ⊥) → AreAlike f lemma []
  none_unknown none = record {
    only = λ word h. absurd (omega (arith, h.1));
    each = λ one h. let there = are.each lemma h.shared.context h.shared.one_score h.shares.by_one in absurd (none there.placed.group there.word_is);
  }

  module _ (l : ℕ) (is_lemma : slice_get scores.words l ≡ Some lemma) where
    -- nor has one whose scores are none
    pub none_scored : score_sum scores.placed l ≡ 0 → AreAlike f lemma []
    none_scored none = record {
      only = λ word h. absurd (omega (arith, h.1));
      each = λ one h. absurd (nothing one h);
    }
      where
        nothing : (one : Ranked) → IsAlike f lemma one → ⊥
        nothing one h =
            let own : Own = record { context = h.shared.context; score = h.shared.one_score } in
            let within : own.score ≤ score_sum scores.placed l = one_within (IsOwn f lemma) (λ (o : Own). o.score) (score_sum scores.placed l) own (own_sum f scores are l lemma is_lemma) h.shares.by_one in
            omega (arith, within, none, h.shares.by_one.positive)

    module _ (by_context : List Placed) (parts sums : List ℕ) (same : (score context word : ℕ) → given score (of_group context by_context) word ≡ shares score context scores.placed word)
        (parts_are : (word : ℕ) → get_or parts word 0 ≡ part_of (of_group l scores.placed) by_context word) (sums_are : (word : ℕ) → word < length scores.words → get_or sums word 0 ≡ score_sum scores.placed word) where
      part_adds : (w : ℕ) (word : List ℕ) → slice_get scores.words w ≡ Some word → AddUp (IsShared f lemma word) likeness (get_or parts w 0)
      part_adds w word is = subst (λ (n : ℕ). AddUp (IsShared f lemma word) likeness n) (sym (parts_are w)) (shared_sum f scores are l w lemma word by_context is_lemma is same)

      sum_adds : (w : ℕ) (word : List ℕ) → slice_get scores.words w ≡ Some word → IsScoreSum f word (get_or sums w 0)
      sum_adds w word is = subst (λ (n : ℕ). IsScoreSum f word n) (sym (sums_are w (slice_get_within scores.words w word is))) (own_sum f scores are w word is)

      is_alike : (w : ℕ) → w < length scores.words → (w ≡ l → ⊥) → 0 < get_or parts w 0 → IsAlike f lemma (rank_at scores.words parts sums l w)
      is_alike w low other some =
          let word = text_at scores.words w in
          let is = slice_get-get_or scores.words w [] low in
          let adds = part_adds w word is in
          let first = some_there likeness adds.all (subst (λ (n : ℕ). 0 < n) (sym adds.are) some) in
          record {
            other = λ e. other (are.words_once lemma w l (is ∙ ap Some e) is_lemma);
            shared = first.item;
            shares = adds.only first.item (from_member adds.all first.item first.member);
            part_is = adds;
            lemma_sum = get_or sums l 0;
            word_sum = get_or sums w 0;
            lemma_adds = sum_adds l lemma is_lemma;
            word_adds = sum_adds w word is;
            whole_is = refl;
          }

      numbered : (one : Ranked) → IsAlike f lemma one → Numbered scores.words parts sums l one
      numbered one h =
          let mine = are.each lemma h.shared.context h.shared.one_score h.shares.by_one in
          let theirs = are.each one.word h.shared.context h.shared.other_score h.shares.by_other in
          let w = theirs.placed.group in
          let is = theirs.word_is in
          let part : one.part ≡ get_or parts w 0 = one_total (IsShared f lemma one.word) likeness one.part (get_or parts w 0) h.part_is (part_adds w one.word is) in
          let within : likeness h.shared ≤ one.part = one_within (IsShared f lemma one.word) likeness one.part h.shared h.part_is h.shares in
          let small = (are.only mine.placed mine.there).small in
          let also = (are.only theirs.placed theirs.there).small in
          let positive : 0 < likeness h.shared = like_positive h.shared.one_score h.shared.other_score h.shares.by_one.positive (omega (arith, small, mine.score_is)) (omega (arith, also, theirs.score_is)) in
          let left : h.lemma_sum ≡ get_or sums l 0 = one_total (IsOwn f lemma) (λ (o : Own). o.score) h.lemma_sum (get_or sums l 0) h.lemma_adds (sum_adds l lemma is_lemma) in
          let right : h.word_sum ≡ get_or sums w 0 = one_total (IsOwn f one.word) (λ (o : Own). o.score) h.word_sum (get_or sums w 0) h.word_adds (sum_adds w one.word is) in
          let word : text_at scores.words w ≡ one.word = get_or_from_slice_get scores.words w one.word [] is in
          let whole : 800 * (get_or sums l 0 + get_or sums w 0) ≡ one.whole = omega (arith, h.whole_is, left, right) in
          record {
            number = w;
            there = is;
            other = λ e. let both : Some one.word ≡ Some lemma = sym is ∙ ap (λ (n : ℕ). slice_get scores.words n) e ∙ is_lemma in let so : one.word ≡ lemma = cc in h.other so;
            some = omega (arith, part, within, positive);
            is = λ i. record { word = word i; part = sym part i; whole = whole i };
          }

      pub alike_told : (numbers : List ℕ) → AreOthers parts l (length parts) numbers → length parts ≡ length scores.words → 0 < get_or sums l 0 →
          AreAlike f lemma (map (weighed_of scores.words) (map (similar_at parts sums l) numbers))
      alike_told numbers others even some = record {
        only = λ word h.
            let from = from_map (weighed_of scores.words) (map (similar_at parts sums l) numbers) word (to_member (map (weighed_of scores.words) (map (similar_at parts sums l) numbers)) word h) in
            let number = from_map (similar_at parts sums l) numbers from.from from.member in
            let w = number.from in
            let there = from_member numbers w number.member in
            let is : ranked_of word ≡ rank_at scores.words parts sums l w = ap (λ (v : Weighed). ranked_of v) (from.is ∙ ap (weighed_of scores.words) number.is) ∙ ranked_so scores.words parts sums l w some in
            subst (IsAlike f lemma) (sym is) (is_alike w (omega (arith, others.below w there, even)) (others.other w there) (others.some w there));
        each = λ one h.
            let n = numbered one h in
            let low = slice_get_within scores.words n.number one.word n.there in
            let there = to_member numbers n.number (others.each n.number (omega (arith, low, even)) n.other n.some) in
            let similar = in_map (similar_at parts sums l) numbers n.number there in
            let weighed = in_map (weighed_of scores.words) (map (similar_at parts sums l) numbers) (similar_at parts sums l n.number) similar in
            let words = map (weighed_of scores.words) (map (similar_at parts sums l) numbers) in
            let ranked = in_map (λ (v : Weighed). ranked_of v) words (weighed_of scores.words (similar_at parts sums l n.number)) weighed in
            from_member (map (λ (v : Weighed). ranked_of v) words) one (subst (λ (r : Ranked). Member r (map (λ (v : Weighed). ranked_of v) words)) (ranked_so scores.words parts sums l n.number some ∙ n.is) ranked);
      }

-- ---- no word is there twice

apart_from : (words : List (List ℕ)) (parts sums : List ℕ) (l w : ℕ) (numbers : List ℕ) → NamesDiffer words → w < length words → (Contains numbers w → ⊥) → ((k : ℕ) → Member k numbers → k < length words) →
    AllByRecursion (λ (v : Weighed). bytes_eq (text_at words w) v.word ≡ false) (map (weighed_of words) (map (similar_at parts sums l) numbers))
apart_from words parts sums l w [] once low none below = tt
apart_from words parts sums l w (k ∷ numbers) once low none below = (
  by (bytes_eq (text_at words w) (text_at words k)) refl,
  apart_from words parts sums l w numbers once low (λ c. none (from_member (k ∷ numbers) w (inr (to_member numbers w c)))) (λ j m. below j (inr m)),
)
  where
    by : (b : Bool) → bytes_eq (text_at words w) (text_at words k) ≡ b → b ≡ false
    by true e =
        let same : text_at words w ≡ text_at words k = (bytes_decides (text_at words w) (text_at words k)).0 e in
        let number : w ≡ k = once (text_at words k) w k (slice_get-get_or words w [] low ∙ ap Some same) (slice_get-get_or words k [] (below k (inl refl))) in
        absurd (none (from_member (k ∷ numbers) w (inl number)))
    by false e = refl

pub others_distinct : (words : List (List ℕ)) (parts sums : List ℕ) (l : ℕ) (numbers : List ℕ) → NamesDiffer words → EachOnce numbers → ((k : ℕ) → Member k numbers → k < length words) →
    IsDistinct (λ (a b : Weighed). bytes_eq a.word b.word) (map (weighed_of words) (map (similar_at parts sums l) numbers))
unfolding IsDistinct
others_distinct words parts sums l [] once each below = tt
others_distinct words parts sums l (k ∷ numbers) once each below = (
  apart_from words parts sums l k numbers once (below k (inl refl)) each.0 (λ j m. below j (inr m)),
  others_distinct words parts sums l numbers once each.1 (λ j m. below j (inr m)),
)

pub others_small : (words : List (List ℕ)) (parts sums : List ℕ) (l : ℕ) (numbers : List ℕ) → ((w : ℕ) → get_or parts w 0 < 2 ^ 118) → All IsSmall (map (weighed_of words) (map (similar_at parts sums l) numbers))
others_small words parts sums l numbers small = All-from_recursion IsSmall (map (weighed_of words) (map (similar_at parts sums l) numbers)) (each numbers)
  where
    each : (ks : List ℕ) → AllByRecursion IsSmall (map (weighed_of words) (map (similar_at parts sums l) ks))
    each [] = tt
    each (k ∷ ks) = (small k, each ks)
