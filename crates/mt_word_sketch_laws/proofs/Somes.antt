-- Every lemma has a sketch.
use Rattle.std.proofs.Common.{◌≡◌, ℕ, ◌+◌, ◌*◌, ◌<◌, ◌≤◌, Bool, true, false, List, [], ◌∷◌, ◌++◌, length, map, take, codes, refl, subst, arith, if◌then◌else◌}
use Rattle.std.specs.List.{Contains, flat_map}
use Rattle.std.specs.Fmt.{decimal}
use Rattle.mt_match_spec.specs.Rows.{ListsAll}
use Rattle.mt_match_laws.proofs.Members.{Member, from_member, in_front, in_back}
use Rattle.mt_match_laws.proofs.Sorting.{in_order, sorted}
use Rattle.mt_match_laws.proofs.Deciding.{Decision, both, below, at_most, alike}
use Rattle.mt_sketch_spec.specs.Score.{sixteenths_text}
use Rattle.mt_triples.specs.Tallied.{HaveCounts}
use Rattle.mt_word_sketch_spec.specs.Ranks.{rank_cmp, number_line}
use Rattle.mt_word_sketch_spec.specs.Order.{same_word}
use Rattle.mt_word_sketch_spec.specs.Frequencies.{Frequencies}
use Rattle.mt_word_sketch_spec.specs.Sketches.{Heading, heading_cmp, heading_count, heading_line, IsHeading, IsCollocate, collocate_rank, apart, IsCollocateLine, BinaryLines, LinesBy, RelationLines, SketchText}
use Rattle.mt_word_sketch_laws.specs.Laws.{PairsAreWithin, IsWithinBoth, ThereIsAScore, HaveSketches}
use Rattle.mt_word_sketch_laws.proofs.Lists.{in_map, in_first, kept, from_kept, in_kept, some_zip}
use Rattle.mt_word_sketch_laws.proofs.Orders.{heading_total, same_heading, ranks_total}
use Rattle.mt_word_sketch_laws.proofs.Frequent.{Known, known, frequencies_of, are_frequencies}

-- below both of two numbers, and so less than what they are together
below_sum : (a b c : ℕ) → 0 < a → a ≤ b → a ≤ c → a < b + c
below_sum a b c some h k = omega (arith, some, h, k)

module _ (have : ThereIsAScore) (f : Frequencies) (within : (name x y : List ℕ) → IsWithinBoth f name x y) (known : Known f) (lemma : List ℕ) (least max : ℕ) where
  is_collocate : (name word : List ℕ) → Decision (IsCollocate f name lemma least word)
  is_collocate name word = alike {P = (0 < f.both name lemma word) × (least ≤ f.both name lemma word)} {Q = IsCollocate f name lemma least word} (λ h. record { some = h.0; enough = h.1 }) (λ h. (h.some, h.enough)) (both (below 0 (f.both name lemma word)) (at_most least (f.both name lemma word)))

  words : List (List ℕ)
  words = map (λ key. key.2) known.triples

  is_word : (name word : List ℕ) → 0 < f.both name lemma word → Member word words
  unfolding words
  is_word name word some = in_map (λ (key : List ℕ × List ℕ × List ℕ). key.2) known.triples (name, lemma, word) (known.each_triple name lemma word some)

  a_line : (name word : List ℕ) → 0 < f.both name lemma word → (line : List ℕ) × IsCollocateLine f name lemma word line
  a_line name word some =
      let w = within name lemma word in
      let less = below_sum (f.both name lemma word) (f.first name lemma) (f.second name word) some w.first w.second in
      let k = have (2 * f.both name lemma word) (apart f name lemma word) (omega (arith, some)) (omega (arith, less)) in
      (9 ∷ word ++ 9 ∷ decimal (f.both name lemma word) ++ 9 ∷ sixteenths_text k.0, record { score = k.0; scored = k.1; says = refl })

  all_collocates : (name : List ℕ) → 0 < f.first name lemma →
      (all : List (List ℕ)) × ListsAll (λ one other. rank_cmp (collocate_rank f name lemma one) (collocate_rank f name lemma other)) (IsCollocate f name lemma least) all
  all_collocates name some =
      let some_words = kept {P = IsCollocate f name lemma least} (is_collocate name) words in
      let o = ranks_total (collocate_rank f name lemma) (λ word. omega (arith, some)) in (
        sorted (λ one other. rank_cmp (collocate_rank f name lemma one) (collocate_rank f name lemma other)) some_words,
        in_order o (λ one other e. same_word (collocate_rank f name lemma one) (collocate_rank f name lemma other) e) (IsCollocate f name lemma least) some_words
            (λ word m. from_kept {P = IsCollocate f name lemma least} (is_collocate name) words word m)
            (λ word h. in_kept {P = IsCollocate f name lemma least} (is_collocate name) words word h (is_word name word h.some)),
      )

  binary_lines : (heading : Heading) → 0 < f.first heading.name lemma → (lines : List (List ℕ)) × BinaryLines f lemma least max heading lines
  binary_lines heading some =
      let all = all_collocates heading.name some in
      let shown = take max all.0 in
      let lines = some_zip (IsCollocateLine f heading.name lemma) shown (λ word m. a_line heading.name word (all.1.only word (from_first all.0 word m)).some) in
      (heading_line f lemma heading (decimal (length shown)) ∷ lines.with, record { shown = shown; first = record { all = all.0; are = all.1; first = refl }; below = lines.with; each = lines.all; say = refl })
    where
      from_first : (all : List (List ℕ)) (word : List ℕ) → Member word (take max all) → Contains all word
      from_first all word m = from_member all word (in_first max all word m)

  block : (heading : Heading) (unary : Bool) → (unary ≡ false → 0 < f.first heading.name lemma) → (lines : List (List ℕ)) × LinesBy unary f lemma least max heading lines
  block heading true some = (heading_line f lemma heading (codes "unary") ∷ [], refl)
  block heading false some = binary_lines heading (some refl)

  candidates : List Heading
  candidates = map (λ key. record { name = key.0; unary = false }) known.firsts ++ map (λ key. record { name = key.0; unary = true }) known.alones

  is_candidate : (name : List ℕ) (unary : Bool) → IsHeading f lemma (record { name = name; unary = unary }) → Member (record { name = name; unary = unary }) candidates
  unfolding candidates
  is_candidate name true some =
      in_back (map (λ (key : List ℕ × List ℕ). record { name = key.0; unary = false }) known.firsts) (map (λ (key : List ℕ × List ℕ). record { name = key.0; unary = true }) known.alones) (record { name = name; unary = true })
      (in_map (λ (key : List ℕ × List ℕ). record { name = key.0; unary = true }) known.alones (name, lemma) (known.each_alone name lemma some))
  is_candidate name false some =
      in_front (map (λ (key : List ℕ × List ℕ). record { name = key.0; unary = false }) known.firsts) (map (λ (key : List ℕ × List ℕ). record { name = key.0; unary = true }) known.alones) (record { name = name; unary = false })
      (in_map (λ (key : List ℕ × List ℕ). record { name = key.0; unary = false }) known.firsts (name, lemma) (known.each_first name lemma some))

  stands_first : (heading : Heading) → IsHeading f lemma heading → heading.unary ≡ false → 0 < f.first heading.name lemma
  stands_first heading h e = subst (λ (b : Bool). 0 < (if b then f.alone heading.name lemma else f.first heading.name lemma)) e h

  pub a_text : (lines : List (List ℕ)) × SketchText f lemma least max lines
  a_text =
      let d : (heading : Heading) → Decision (IsHeading f lemma heading) = λ heading. below 0 (heading_count f lemma heading) in
      let some = kept {P = IsHeading f lemma} d candidates in
      let headings = sorted heading_cmp some in
      let are = in_order heading_total same_heading (IsHeading f lemma) some (λ heading m. from_kept {P = IsHeading f lemma} d candidates heading m) (λ heading h. in_kept {P = IsHeading f lemma} d candidates heading h (is_candidate heading.name heading.unary h)) in
      let blocks = some_zip (RelationLines f lemma least max) headings (λ heading m. block heading heading.unary (stands_first heading (are.only heading (from_member headings heading m)))) in
      (number_line (length headings) ∷ flat_map (λ block. block) blocks.with, record { headings = headings; are = are; blocks = blocks.with; each = blocks.all; say = refl })

pub sketches : HaveCounts → PairsAreWithin → ThereIsAScore → HaveSketches
sketches counts within have images registry grammar corpus lemma least max =
    let c = counts images registry grammar corpus in
    let are = are_frequencies images registry grammar corpus c.0 c.1 in
    let text = a_text have (frequencies_of c.0) (within images registry grammar corpus (frequencies_of c.0) are) (known c.0) lemma least max in
    (text.0, record { frequencies = frequencies_of c.0; are = are; text = text.1 })
