-- The words that are like a lemma, and the lines of the reply.
use Rattle.std.proofs.Common.{◌≡◌, ℕ, zero, suc, ◌^◌, ◌<◌, Some, List, [], ◌∷◌, ◌++◌, length, map, take, get_or, slice_get, refl, sym, ◌∙◌, ap, subst, arith}
use Rattle.std.specs.List.{All, Contains, flat_map}
use Rattle.std.specs.List.Sorted.{IsStrictlySortedBy}
use Rattle.std.proofs.lemmas.List.{take-map, length-map, get_or_default}
use Rattle.std.proofs.lemmas.List.Elements.{Contains-get_or, All-contains}
use Rattle.mt_text_spec.specs.Lines.{closed}
use Rattle.mt_text_spec.specs.Registries.{Registry}
use Rattle.mt_text_spec.specs.Texts.{Text}
use Rattle.mt_text_spec.specs.Queries.{Grammar}
use Rattle.mt_match_spec.specs.Values.{Images}
use Rattle.mt_match_laws.proofs.Members.{Member, to_member, from_member}
use Rattle.mt_counts.specs.Counted.{Counted}
use Rattle.mt_counts.specs.Names.{AreDistinct as NamesDiffer}
use Rattle.mt_triples.specs.CountsOf.{AreCountsOf}
use Rattle.mt_word_sketch_spec.specs.Frequencies.{Frequencies}
use Rattle.mt_word_sketch_spec.specs.Ranks.{Ranked, FirstRanked, rank_cmp, number_line}
use Rattle.mt_word_sketch_spec.specs.Order.{Weighed, ranked_of}
use Rattle.mt_word_sketch_spec.specs.Thesaurus.{IsAlike, alike_line}
use Rattle.mt_word_sketch_laws.proofs.Lists.{in_map, from_map, in_first, ascends_mapped}
use Rattle.mt_ranks.specs.Bests.{AreDistinct}
use Rattle.mt_sketch.specs.Told.{frequencies_of}
use Rattle.mt_thesaurus.specs.declared.placed.Placed.{Placed}
use Rattle.mt_thesaurus.specs.Scores.{Scores, AreScoresOf}
use Rattle.mt_thesaurus.specs.Sums.{of_group, score_sum, part_of, AreJoined}
use Rattle.mt_thesaurus.specs.Told.{AreOthers, weighed_all, IsSmall, AreAlike, AreFirstAlike, IsThesaurusReply}
use Rattle.mt_thesaurus.proofs.Alikes.{none_scored, alike_told, others_distinct, others_small}

-- ---- the first of some words

shown_small : (words shown : List Weighed) (max : ℕ) → All IsSmall words → FirstRanked ranked_of (Contains words) max shown → All IsSmall shown
shown_small words shown max small first = λ k d low.
    let w = get_or shown k d in
    let member = in_first max first.all w (subst (λ (ws : List Weighed). Member w ws) first.first (to_member shown w (Contains-get_or shown k d low))) in
    All-contains IsSmall words w small (first.are.only w (from_member first.all w member))

take_none : {X : Type 0} (max : ℕ) → ◌≡◌ {A = List X} [] (take max [])
take_none zero = refl
take_none (suc n) = refl

-- where no words are alike, none is the first
pub none_first : (f : Frequencies) (lemma : List ℕ) (max : ℕ) (out : List Weighed) → AreAlike f lemma [] → out ≡ [] → AreFirstAlike f lemma max out
unfolding IsStrictlySortedBy
none_first f lemma max out none e = subst (AreFirstAlike f lemma max) (sym e) (record {
  words = [];
  are = none;
  first = record {
    all = [];
    are = record { ascending = tt; only = λ x h. h; each = λ x h. h };
    first = take_none max;
  };
})

-- ---- what is found for a lemma

pub record Found (words : List (List ℕ)) (by_word by_context : List Placed) (sums parts numbers : List ℕ) (l : ℕ) : Type 0 where
  pub some : 0 < get_or sums l 0
  pub parts_are : (word : ℕ) → get_or parts word 0 ≡ part_of (of_group l by_word) by_context word
  pub small : (word : ℕ) → get_or parts word 0 < 2 ^ 118
  pub even : length parts ≡ length words
  pub others : AreOthers parts l (length parts) numbers

pub below_all : (parts numbers list : List ℕ) (l n m : ℕ) → AreOthers parts l n numbers → list ≡ numbers → n ≡ m → All (λ word. word < m) list
below_all parts numbers list l n m others same even = subst (λ (ks : List ℕ). All (λ (word : ℕ). word < m) ks) (sym same) (λ k d low. let b = others.below (get_or numbers k d) (Contains-get_or numbers k d low) in omega (arith, b, even))

-- the number read at a place, whatever stands in for one that is not there
pub read_is : (xs : List ℕ) (l x : ℕ) → l < length xs → x ≡ get_or xs l x → x ≡ get_or xs l 0
read_is xs l x low e = e ∙ get_or_default xs l x 0 low

pub zero_told : (words : List (List ℕ)) (by_word by_context : List Placed) (sums : List ℕ) (scores : Scores) → AreJoined words by_word by_context sums → ◌≡◌ {A = Scores} (record { words = words; placed = by_word }) scores → (l : ℕ) → l < length scores.words → get_or sums l 0 ≡ 0 →
    (f : Frequencies) (word : List ℕ) → slice_get scores.words l ≡ Some word → AreScoresOf f scores → AreAlike f word []
zero_told words by_word by_context sums scores joined view l low none f word there are =
    let low' : l < length words = subst (λ (s : Scores). l < length s.words) (sym view) low in
    let sum : score_sum scores.placed l ≡ 0 = ap (λ (s : Scores). score_sum s.placed l) (sym view) ∙ sym (joined.sums_are l low') ∙ none in
    none_scored f scores are word l there sum

module _ (words : List (List ℕ)) (by_word by_context : List Placed) (sums parts numbers : List ℕ) (l : ℕ) (found : Found words by_word by_context sums parts numbers l) where
  numbers_low : (k : ℕ) → Member k numbers → k < length words
  numbers_low k m = let b = found.others.below k (from_member numbers k m) in let even = found.even in omega (arith, b, even)

  found_alike : AreJoined words by_word by_context sums → (scores : Scores) → ◌≡◌ {A = Scores} (record { words = words; placed = by_word }) scores → (f : Frequencies) (word : List ℕ) → slice_get scores.words l ≡ Some word → AreScoresOf f scores →
      AreAlike f word (weighed_all words parts sums l numbers)
  found_alike joined scores view f word there are =
      let there' : slice_get words l ≡ Some word = subst (λ (s : Scores). slice_get s.words l ≡ Some word) (sym view) there in
      let are' : AreScoresOf f (record { words = words; placed = by_word }) = subst (AreScoresOf f) (sym view) are in
      alike_told f (record { words = words; placed = by_word }) are' word l there' by_context parts sums joined.same found.parts_are joined.sums_are numbers found.others found.even found.some

  pub found_distinct : NamesDiffer words → (all : List Weighed) → all ≡ weighed_all words parts sums l numbers → AreDistinct all
  found_distinct once all is = subst AreDistinct (sym is) (others_distinct words parts sums l numbers once found.others.once numbers_low)

  pub found_first : AreJoined words by_word by_context sums → (scores : Scores) → ◌≡◌ {A = Scores} (record { words = words; placed = by_word }) scores → (f : Frequencies) (word : List ℕ) → slice_get scores.words l ≡ Some word → AreScoresOf f scores →
      (all : List Weighed) → all ≡ weighed_all words parts sums l numbers → (max : ℕ) (shown : List Weighed) → FirstRanked ranked_of (Contains all) max shown → AreFirstAlike f word max shown
  found_first joined scores view f word there are all is max shown first = record {
    words = weighed_all words parts sums l numbers;
    are = found_alike joined scores view f word there are;
    first = subst (λ (ws : List Weighed). FirstRanked ranked_of (Contains ws) max shown) is first;
  }

  pub found_small : (all : List Weighed) → all ≡ weighed_all words parts sums l numbers → (max : ℕ) (shown : List Weighed) → FirstRanked ranked_of (Contains all) max shown → All IsSmall shown
  found_small all is max shown first =
      shown_small (weighed_all words parts sums l numbers) shown max (others_small words parts sums l numbers found.small) (subst (λ (ws : List Weighed). FirstRanked ranked_of (Contains ws) max shown) is first)

-- ---- the first of them

first_alike : (f : Frequencies) (lemma : List ℕ) (words shown : List Weighed) (max : ℕ) → AreAlike f lemma words → FirstRanked ranked_of (Contains words) max shown → FirstRanked (λ (one : Ranked). one) (IsAlike f lemma) max (map (λ w. ranked_of w) shown)
first_alike f lemma words shown max alike first = record {
  all = map (λ (w : Weighed). ranked_of w) first.all;
  are = record {
    ascending = ascends_mapped (λ (w : Weighed). ranked_of w) rank_cmp first.all first.are.ascending;
    only = λ one h.
        let from = from_map (λ (w : Weighed). ranked_of w) first.all one (to_member (map (λ (w : Weighed). ranked_of w) first.all) one h) in
        subst (IsAlike f lemma) (sym from.is) (alike.only from.from (first.are.only from.from (from_member first.all from.from from.member)));
    each = λ one h.
        let from = from_map (λ (w : Weighed). ranked_of w) words one (to_member (map (λ (w : Weighed). ranked_of w) words) one (alike.each one h)) in
        let there = to_member first.all from.from (first.are.each from.from (from_member words from.from from.member)) in
        from_member (map (λ (w : Weighed). ranked_of w) first.all) one (subst (λ (r : Ranked). Member r (map (λ (w : Weighed). ranked_of w) first.all)) (sym from.is) (in_map (λ (w : Weighed). ranked_of w) first.all from.from there));
  };
  first = ap (λ (ws : List Weighed). map (λ (w : Weighed). ranked_of w) ws) first.first ∙ sym (take-map (λ (w : Weighed). ranked_of w) max first.all);
}

twice_mapped : {X Y Z : Type 0} (g : X → Y) (h : Y → Z) (xs : List X) → map (λ x. h (g x)) xs ≡ map h (map g xs)
twice_mapped g h [] = refl
twice_mapped {X} {Y} {Z} g h (x ∷ xs) = ap (λ (zs : List Z). h (g x) ∷ zs) (twice_mapped g h xs)

pub reply_told : (images : Images) (registry : Registry) (grammar : Grammar) (corpus : List Text) (counted : Counted) (lemma : List ℕ) (max : ℕ) (words shown list : List Weighed) (n : ℕ) (first_line bytes : List ℕ) → AreCountsOf images registry grammar corpus counted →
    AreAlike (frequencies_of counted) lemma words → FirstRanked ranked_of (Contains words) max shown → n ≡ length shown → first_line ≡ closed (number_line n) → list ≡ shown →
    bytes ≡ first_line ++ flat_map closed (map (λ w. alike_line (ranked_of w)) list) → IsThesaurusReply images registry grammar corpus lemma max bytes
reply_told images registry grammar corpus counted lemma max words shown list n first_line bytes are alike first count line same is =
    let ranked = map (λ (w : Weighed). ranked_of w) shown in
    let counts : n ≡ length ranked = count ∙ sym (length-map shown (λ (w : Weighed). ranked_of w)) in
    record {
      lines = number_line (length ranked) ∷ map alike_line ranked;
      are = record {
        frequencies = frequencies_of counted;
        are = record { both = are.both; first = are.first; second = are.second; alone = are.alone };
        text = record { shown = ranked; first = first_alike (frequencies_of counted) lemma words shown max alike first; say = refl };
      };
      bytes_are = is ∙ (λ i. line i ++ flat_map closed (map (λ (w : Weighed). alike_line (ranked_of w)) (same i))) ∙
          (λ i. closed (number_line (counts i)) ++ flat_map closed (twice_mapped (λ (w : Weighed). ranked_of w) alike_line shown i));
    }
