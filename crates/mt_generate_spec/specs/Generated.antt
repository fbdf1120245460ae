-- The generated text of a name, a seed and a number of tokens: its tokens and the instances of its structures under the standard registry.
use Rattle.std.specs.Prelude.{ℕ, ◌+◌, ◌*◌, ◌/◌, ◌%◌, min, Bool, ◌==◌, if◌then◌else◌, List, [], ◌∷◌, ◌++◌, map, codes, decimal, slice_index}
use Rattle.std.specs.List.{range_with_len}
use Rattle.mt_text_spec.specs.Texts.{Token, StructSpan, Text}
use Rattle.mt_generate_spec.specs.Draws.{draw}

-- ## Tokens

-- the rank of a lemma by two draws, 0 to 998: a product, so that low ranks come more often, as they do in language
abbrev pub rank_of : ℕ → ℕ → ℕ
rank_of first second = first % 1000 * (second % 1000) / 1000

-- the lemma of a rank, as `l17`
abbrev pub lemma_of : ℕ → List ℕ
lemma_of rank = codes "l" ++ decimal rank

-- its part of speech: noun, adjective, verb and adverb in turn
abbrev pub tag_of : ℕ → List ℕ
tag_of rank = slice_index (codes "NJVD") (rank % 4) ∷ []

-- whether the word is in the plural: where a draw is odd
abbrev pub is_plural : ℕ → Bool
is_plural third = third % 2 == 1

-- the word is the lemma, with an `s` in the plural
abbrev pub word_of : ℕ → Bool → List ℕ
word_of rank plural = lemma_of rank ++ (if plural then codes "s" else [])

-- a token has word, tag and lemma
abbrev pub token_of : ℕ → Bool → Token
token_of rank plural = record { values = word_of rank plural ∷ tag_of rank ∷ lemma_of rank ∷ [] }

-- the token at a place, by the three draws that are its own
unfoldable pub token_at : ℕ → ℕ → Token
token_at seed place = token_of (rank_of (draw seed (3 * place)) (draw seed (3 * place + 1))) (is_plural (draw seed (3 * place + 2)))

-- the tokens from a place on, so many
abbrev pub tokens_from : ℕ → ℕ → ℕ → List Token
tokens_from seed place count = map (token_at seed) (range_with_len place count)

-- ## Sentences

-- a sentence has ten tokens, the last one what is left
abbrev pub sentence_count : ℕ → ℕ
sentence_count tokens = (tokens + 9) / 10

-- the place at which the sentence of this number begins, counted from 0, and that at which it ends
abbrev pub sentence_begin : ℕ → ℕ
sentence_begin number = 10 * number

-- the place at which the sentence of this number ends
abbrev pub sentence_end : ℕ → ℕ → ℕ
sentence_end tokens number = min (10 * number + 10) tokens

-- ## The text

-- the one document has all tokens, and the text's name as its `id`
abbrev pub document : List ℕ → ℕ → StructSpan
document name tokens = record { kind = 0; begin = 0; end = tokens; values = name ∷ [] }

-- the sentence of this number
abbrev pub sentence : ℕ → ℕ → StructSpan
sentence tokens number = record { kind = 1; begin = sentence_begin number; end = sentence_end tokens number; values = [] }

-- the text of a name, a seed and a number of tokens: one document, cut into sentences
abbrev pub generated_text : List ℕ → ℕ → ℕ → Text
generated_text name seed tokens = record {
  name = name;
  tokens = tokens_from seed 0 tokens;
  structs = document name tokens ∷ map (sentence tokens) (range_with_len 0 (sentence_count tokens));
}
