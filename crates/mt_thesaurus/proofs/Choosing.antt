-- The best of the words that are like a lemma, one after another and part by part.
use Rattle.std.proofs.Common.{◌≡◌, ℕ, ◌+◌, ◌-◌, ◌<◌, Some, List, [], ◌∷◌, ◌++◌, length, map, take, get_or, slice_get, sym, ◌∙◌, ap, arith}
use Rattle.std.proofs.lemmas.List.{take_more, map-append}
use Rattle.std.proofs.lemmas.Option.{get_or_from_slice_get}
use Rattle.mt_counts.specs.Tables.{text_at}
use Rattle.mt_word_sketch_spec.specs.Ranks.{Ranked}
use Rattle.mt_word_sketch_spec.specs.Order.{Weighed, ranked_of}
use Rattle.mt_thesaurus.specs.declared.alike.Similar.{Similar}
use Rattle.mt_thesaurus.specs.Told.{similar_at, weighed_of, weighed_all}

-- ---- one word more

pub word_more : (words : List (List ℕ)) (parts sums : List ℕ) (l : ℕ) (numbers : List ℕ) (k d : ℕ) (w : Weighed) (word : List ℕ) → k < length numbers → slice_get words (get_or numbers k d) ≡ Some word →
    ranked_of w ≡ record { word = word; part = (similar_at parts sums l (get_or numbers k d)).part; whole = (similar_at parts sums l (get_or numbers k d)).whole } →
    weighed_all words parts sums l (take k numbers) ++ w ∷ [] ≡ weighed_all words parts sums l (take (k + 1) numbers)
word_more words parts sums l numbers k d w word low there is =
    let one = similar_at parts sums l (get_or numbers k d) in
    let text : w.word ≡ text_at words one.word = ap (λ (r : Ranked). r.word) is ∙ sym (get_or_from_slice_get words one.word word [] there) in
    let part : w.part ≡ one.part = ap (λ (r : Ranked). r.part) is in
    let whole : w.less_one + 1 ≡ one.whole = ap (λ (r : Ranked). r.whole) is in
    let less : w.less_one ≡ one.whole - 1 = omega (arith, whole) in
    let same : w ≡ weighed_of words one = λ i. record { word = text i; part = part i; less_one = less i } in
    (λ i. weighed_all words parts sums l (take k numbers) ++ same i ∷ []) ∙
    sym (ap (λ (ks : List ℕ). weighed_all words parts sums l ks) (take_more numbers k d low) ∙
    ap (λ (ss : List Similar). map (weighed_of words) ss) (map-append (similar_at parts sums l) (take k numbers) (get_or numbers k d ∷ [])) ∙
    map-append (weighed_of words) (map (similar_at parts sums l) (take k numbers)) (one ∷ []))
