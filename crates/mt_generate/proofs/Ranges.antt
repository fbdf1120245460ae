-- What is made for each of the numbers from one on, with one more at their end.
use Rattle.std.proofs.Common.{add-one, ◌≡◌, ℕ, zero, suc, ◌+◌, ◌-◌, ◌*◌, ◌^◌, ◌<◌, min, ap₂, List, [], ◌∷◌, ◌++◌, map, ap, sym, ◌∙◌, arith, append_assoc}
use Rattle.std.proofs.lemmas.List.{flat_map_more, map_push}
use Rattle.std.proofs.lemmas.Grind.{flat_map-append}
use Rattle.std.specs.List.{range_with_len, flat_map}
use Rattle.std.specs.Int.{div_ceil}
use Rattle.mt_text_spec.specs.Lines.{closed}
use Rattle.mt_text_spec.specs.Texts.{Token, StructSpan}
use Rattle.mt_generate_spec.specs.Generated.{token_at, tokens_from, sentence, sentence_begin, sentence_end}
use Rattle.mt_generate_spec.specs.Verticals.{sentence_of, sentence_lines}

one_behind : (from count : ℕ) → range_with_len from (suc count) ≡ range_with_len from count ++ (from + count) ∷ []
one_behind from zero = let e : from ≡ from + 0 = omega arith in ap (λ n. n ∷ []) e
one_behind from (suc count) = let e : from + 1 + count ≡ from + suc count = omega arith in ap (λ ns. from ∷ ns) (one_behind (from + 1) count ∙ ap (λ n. range_with_len (from + 1) count ++ n ∷ []) e)

pub range_more : (from count : ℕ) → range_with_len from (count + 1) ≡ range_with_len from count ++ (from + count) ∷ []
range_more from count = rw add-one (one_behind from count)

pub map_range_more : {X : Type 0} (f : ℕ → X) (from count : ℕ) → map f (range_with_len from (count + 1)) ≡ map f (range_with_len from count) ++ f (from + count) ∷ []
map_range_more f from count = ap (map f) (range_more from count) ∙ map_push f (range_with_len from count) (from + count)

-- lines, each for a thing that is made for a number
pub lines_more : {X : Type 0} (line : X → List ℕ) (f : ℕ → X) (from count : ℕ) (all old new : List ℕ) → old ≡ all ++ flat_map closed (map line (map f (range_with_len from count))) → new ≡ old ++ closed (line (f (from + count))) →
    new ≡ all ++ flat_map closed (map line (map f (range_with_len from (count + 1))))
lines_more line f from count all old new is more =
    let made = map f (range_with_len from count) in
    let whole : map line (map f (range_with_len from (count + 1))) ≡ map line made ++ line (f (from + count)) ∷ [] = ap (map line) (map_range_more f from count) ∙ map_push line made (f (from + count)) in
    more ∙ ap (λ xs. xs ++ closed (line (f (from + count)))) is ∙ flat_map_more closed all (map line made) (line (f (from + count))) ∙ ap (λ ls. all ++ flat_map closed ls) (sym whole)

-- lines, some for each number
pub groups_more : (lines : ℕ → List (List ℕ)) (count : ℕ) (all old new : List ℕ) → old ≡ all ++ flat_map closed (flat_map lines (range_with_len 0 count)) → new ≡ old ++ flat_map closed (lines count) →
    new ≡ all ++ flat_map closed (flat_map lines (range_with_len 0 (count + 1)))
groups_more lines count all old new is more =
    let before = flat_map lines (range_with_len 0 count) in
    let e : 0 + count ≡ count = omega arith in
    let whole : flat_map lines (range_with_len 0 (count + 1)) ≡ before ++ lines count = ap (flat_map lines) (range_more 0 count) ∙ sym (flat_map_more lines [] (range_with_len 0 count) (0 + count)) ∙ ap (λ n. before ++ lines n) e in
    more ∙ ap (λ xs. xs ++ flat_map closed (lines count)) is ∙ append_assoc all (flat_map closed before) (flat_map closed (lines count)) ∙ ap (λ xs. all ++ xs) (sym (flat_map-append closed before (lines count)) ∙ ap (flat_map closed) (sym whole))

-- tokens, each by a row of values
pub tokens_more : (seed count : ℕ) (old new : List Token) (row : List (List ℕ)) (token : Token) (from place : ℕ) → old ≡ tokens_from seed 0 count → new ≡ old ++ (record { values = row }) ∷ [] → row ≡ token.values →
    token ≡ token_at from place → from ≡ seed → place ≡ count → new ≡ tokens_from seed 0 (count + 1)
tokens_more seed count old new row token from place is more values drawn by at =
    let e : place ≡ 0 + count = omega arith in
    let one : token ≡ token_at seed (0 + count) = drawn ∙ ap (λ s. token_at s place) by ∙ ap (token_at seed) e in
    more ∙ ap (λ ts. ts ++ (record { values = row }) ∷ []) is ∙ ap (λ vs. tokens_from seed 0 count ++ (record { values = vs }) ∷ []) (values ∙ ap (λ t. t.values) one) ∙ sym (map_range_more (token_at seed) 0 count)

-- sentences behind a document
pub sentences_more : (tokens number : ℕ) (first last : StructSpan) (old new : List StructSpan) → old ≡ first ∷ map (sentence tokens) (range_with_len 0 number) → new ≡ old ++ last ∷ [] → last ≡ sentence tokens number →
    new ≡ first ∷ map (sentence tokens) (range_with_len 0 (number + 1))
sentences_more tokens number first last old new is more one =
    let e : number ≡ 0 + number = omega arith in
    more ∙ ap (λ ss. ss ++ last ∷ []) is ∙ ap (λ l. first ∷ map (sentence tokens) (range_with_len 0 number) ++ l ∷ []) (one ∙ ap (sentence tokens) e) ∙ ap (λ ss. first ∷ ss) (sym (map_range_more (sentence tokens) 0 number))

-- the end of a sentence
pub end_of : (tokens number far end : ℕ) → tokens < 2 ^ 32 → far ≡ min (10 * number + 10) (2 ^ 32 - 1) → end ≡ min far tokens → end ≡ sentence_end tokens number
end_of tokens number far end few is_far is_end = omega (arith, is_far, is_end)

pub sentence_is : (tokens number end : ℕ) (values : List (List ℕ)) (span : StructSpan) → span ≡ record { kind = 1; begin = 10 * number; end = end; values = values } → end ≡ sentence_end tokens number → values ≡ [] → span ≡ sentence tokens number
sentence_is tokens number end values span is at none = is ∙ (λ i. record { kind = 1; begin = 10 * number; end = at i; values = none i })

-- the tokens of a sentence, by how many are left
pub lines_of : (seed tokens number place left count : ℕ) → 10 * number < tokens → place ≡ min (10 * number) tokens → left ≡ tokens - 10 * number → count ≡ min left 10 → sentence_of (tokens_from seed place count) ≡ sentence_lines seed tokens number
lines_of seed tokens number place left count inside is_place is_left is_count =
    let at : place ≡ sentence_begin number = omega arith in
    let many : count ≡ sentence_end tokens number - sentence_begin number = omega arith in
    ap₂ (λ p n. sentence_of (tokens_from seed p n)) at many

-- lines for the numbers from 1 on
pub numbered_more : (line : ℕ → List ℕ) (count : ℕ) (all old new : List ℕ) → old ≡ all ++ flat_map closed (map line (range_with_len 1 count)) → new ≡ old ++ closed (line (count + 1)) →
    new ≡ all ++ flat_map closed (map line (range_with_len 1 (count + 1)))
numbered_more line count all old new is more =
    let e : count + 1 ≡ 1 + count = omega arith in
    let whole : map line (range_with_len 1 (count + 1)) ≡ map line (range_with_len 1 count) ++ line (1 + count) ∷ [] = map_range_more line 1 count in
    more ∙ ap (λ n. old ++ closed (line n)) e ∙ ap (λ xs. xs ++ closed (line (1 + count))) is ∙ flat_map_more closed all (map line (range_with_len 1 count)) (line (1 + count)) ∙ ap (λ ls. all ++ flat_map closed ls) (sym whole)

-- a sentence of a number begins before the end of the text
pub begins_inside : (tokens number : ℕ) → number < div_ceil tokens 10 → 10 * number < tokens
begins_inside tokens number h = omega arith

-- the place behind a sentence
pub next_place : (tokens number place left count : ℕ) → 10 * number < tokens → place ≡ min (10 * number) tokens → left ≡ tokens - 10 * number → count ≡ min left 10 → place + count ≡ min (10 * (number + 1)) tokens
next_place tokens number place left count inside is_place is_left is_count = omega arith
