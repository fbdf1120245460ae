-- A sketch is one, and so is a thesaurus.
use Rattle.std.proofs.Common.{◌≡◌, ℕ, ◌*◌, ◌<◌, ℤ, Bool, true, false, List, ◌∷◌, ◌++◌, length, map, take, refl, sym, ◌∙◌, ap, ap₂, subst, arith, if◌then◌else◌}
use Rattle.std.specs.List.{AllZip, flat_map}
use Rattle.std.specs.Fmt.{decimal}
use Rattle.std.specs.Cmp.{IsTotalOrder}
use Rattle.mt_match_spec.specs.Rows.{ListsAll}
use Rattle.mt_match_laws.proofs.Members.{from_member}
use Rattle.mt_match_laws.proofs.One.{one}
use Rattle.mt_sketch_spec.specs.Score.{ScoreIsUnique, sixteenths_text}
use Rattle.mt_word_sketch_spec.specs.Ranks.{Ranked, rank_cmp, FirstRanked, number_line}
use Rattle.mt_word_sketch_spec.specs.Order.{weighed_cmp}
use Rattle.mt_word_sketch_spec.specs.Frequencies.{Frequencies}
use Rattle.mt_word_sketch_spec.specs.Sketches.{Heading, heading_line, IsHeading, IsCollocate, collocate_rank, apart, IsCollocateLine, BinaryLines, LinesBy, RelationLines, SketchText}
use Rattle.mt_word_sketch_spec.specs.Thesaurus.{IsOwn, IsAlike, alike_line, ThesaurusText}
use Rattle.mt_word_sketch_laws.specs.Laws.{OneFrequencies, OneSketch, OneThesaurus}
use Rattle.mt_word_sketch_laws.proofs.Lists.{one_zip, ascends_alike}
use Rattle.mt_word_sketch_laws.proofs.Sums.{one_within}
use Rattle.mt_word_sketch_laws.proofs.Orders.{heading_total, ranks_total, weigh, by_weight, by_weight_total}

-- ---- the first so many

pub one_first : {X : Type 0} (rank : X → Ranked) (P : X → Type 0) (max : ℕ) (xs ys : List X) → IsTotalOrder (λ x y. rank_cmp (rank x) (rank y)) → FirstRanked rank P max xs → FirstRanked rank P max ys → xs ≡ ys
one_first rank P max xs ys o h k = h.first ∙ ap (take max) (one o P h.all k.all h.are k.are) ∙ sym k.first

-- ---- sketches

module _ (unique : ScoreIsUnique) (f : Frequencies) (lemma : List ℕ) (least max : ℕ) where
  one_line : (name word line other : List ℕ) → IsCollocateLine f name lemma word line → IsCollocateLine f name lemma word other → line ≡ other
  one_line name word line other h k =
      let score = unique (2 * f.both name lemma word) (apart f name lemma word) h.score k.score h.scored k.scored in
      h.says ∙ ap (λ (s : ℤ). 9 ∷ word ++ 9 ∷ decimal (f.both name lemma word) ++ 9 ∷ sixteenths_text s) score ∙ sym k.says

  one_binary : (heading : Heading) (lines others : List (List ℕ)) → 0 < f.first heading.name lemma → BinaryLines f lemma least max heading lines → BinaryLines f lemma least max heading others → lines ≡ others
  one_binary heading lines others some h k =
      let o = ranks_total (collocate_rank f heading.name lemma) (λ word. omega (arith, some)) in
      let shown : h.shown ≡ k.shown = one_first (collocate_rank f heading.name lemma) (IsCollocate f heading.name lemma least) max h.shown k.shown o h.first k.first in
      let below : h.below ≡ k.below = one_zip (IsCollocateLine f heading.name lemma) k.shown h.below k.below (λ word line other m. one_line heading.name word line other)
      (subst (λ (words : List (List ℕ)). AllZip (IsCollocateLine f heading.name lemma) words h.below) shown h.each) k.each in
      h.say ∙ ap₂ (λ (words below : List (List ℕ)). heading_line f lemma heading (decimal (length words)) ∷ below) shown below ∙ sym k.say

  one_block : (heading : Heading) (unary : Bool) (lines others : List (List ℕ)) → (unary ≡ false → 0 < f.first heading.name lemma) → LinesBy unary f lemma least max heading lines → LinesBy unary f lemma least max heading others → lines ≡ others
  one_block heading true lines others some h k = h ∙ sym k
  one_block heading false lines others some h k = one_binary heading lines others (some refl) h k

  stands_first : (heading : Heading) → IsHeading f lemma heading → heading.unary ≡ false → 0 < f.first heading.name lemma
  stands_first heading h e = subst (λ (b : Bool). 0 < (if b then f.alone heading.name lemma else f.first heading.name lemma)) e h

  pub one_text : (lines others : List (List ℕ)) → SketchText f lemma least max lines → SketchText f lemma least max others → lines ≡ others
  one_text lines others h k =
      let headings : h.headings ≡ k.headings = one heading_total (IsHeading f lemma) h.headings k.headings h.are k.are in
      let blocks : h.blocks ≡ k.blocks = one_zip (RelationLines f lemma least max) k.headings h.blocks k.blocks
      (λ heading a b m. one_block heading heading.unary a b (stands_first heading (k.are.only heading (from_member k.headings heading m))))
      (subst (λ (headings : List Heading). AllZip (RelationLines f lemma least max) headings h.blocks) headings h.each) k.each in
      h.say ∙ ap₂ (λ (headings : List Heading) (blocks : List (List (List ℕ))). number_line (length headings) ∷ flat_map (λ block. block) blocks) headings blocks ∙ sym k.say

pub sketches_one : OneFrequencies → ScoreIsUnique → OneSketch
sketches_one frequencies unique images registry grammar corpus lemma least max lines others h k =
    let same = frequencies images registry grammar corpus k.frequencies h.frequencies k.are h.are in
    one_text unique h.frequencies lemma least max lines others h.text (subst (λ (f : Frequencies). SketchText f lemma least max others) same k.text)

-- ---- thesauri

pub whole_is_some : (f : Frequencies) (lemma : List ℕ) (r : Ranked) → IsAlike f lemma r → 0 < r.whole
whole_is_some f lemma r h =
    let within = one_within (IsOwn f lemma) (λ own. own.score) h.lemma_sum (record { context = h.shared.context; score = h.shared.one_score }) h.lemma_adds h.shares.by_one in
    let some = h.shares.by_one.positive in
    let is = h.whole_is in
    omega (arith, within, some, is)

module _ (f : Frequencies) (lemma : List ℕ) where
  by_weight_ascends : (all : List Ranked) → ListsAll rank_cmp (IsAlike f lemma) all → ListsAll (λ a b. weighed_cmp (weigh a) (weigh b)) (IsAlike f lemma) all
  by_weight_ascends all h = record {
    ascending = ascends_alike rank_cmp (λ a b. weighed_cmp (weigh a) (weigh b)) all
        (λ a b m n. sym (by_weight a b (whole_is_some f lemma a (h.only a (from_member all a m))) (whole_is_some f lemma b (h.only b (from_member all b n))))) h.ascending;
    only = h.only;
    each = h.each;
  }

  pub one_list_of : (max : ℕ) (lines others : List (List ℕ)) → ThesaurusText f lemma max lines → ThesaurusText f lemma max others → lines ≡ others
  one_list_of max lines others h k =
      let all : h.first.all ≡ k.first.all = one (by_weight_total (λ (r : Ranked). r)) (IsAlike f lemma) h.first.all k.first.all (by_weight_ascends h.first.all h.first.are) (by_weight_ascends k.first.all k.first.are) in
      let shown : h.shown ≡ k.shown = h.first.first ∙ ap (take max) all ∙ sym k.first.first in
      h.say ∙ ap (λ (shown : List Ranked). number_line (length shown) ∷ map alike_line shown) shown ∙ sym k.say

pub thesauri_one : OneFrequencies → OneThesaurus
thesauri_one frequencies images registry grammar corpus lemma max lines others h k =
    let same = frequencies images registry grammar corpus k.frequencies h.frequencies k.are h.are in
    one_list_of h.frequencies lemma max lines others h.text (subst (λ (f : Frequencies). ThesaurusText f lemma max others) same k.text)
