-- The vertical of a generated text, from which the text is read under whatever registry holds.
use Rattle.std.specs.Prelude.{ℕ, ◌-◌, List, [], ◌∷◌, ◌++◌, map, codes}
use Rattle.std.specs.List.{flat_map, join_with_byte, range_with_len}
use Rattle.mt_text_spec.specs.Lines.{closed}
use Rattle.mt_text_spec.specs.Texts.{Token}
use Rattle.mt_generate_spec.specs.Generated.{tokens_from, sentence_begin, sentence_end, sentence_count}

-- the line of a token has its values with a tab between neighbours
abbrev pub token_line : Token → List ℕ
token_line token = join_with_byte 9 token.values

-- the lines of a sentence of these tokens, between its tags
abbrev pub sentence_of : List Token → List (List ℕ)
sentence_of tokens = codes "<s>" ∷ map token_line tokens ++ codes "</s>" ∷ []

-- the lines of the sentence of this number in a text of so many tokens
abbrev pub sentence_lines : ℕ → ℕ → ℕ → List (List ℕ)
sentence_lines seed tokens number = sentence_of (tokens_from seed (sentence_begin number) (sentence_end tokens number - sentence_begin number))

-- the lines of the text: all sentences in one document
abbrev pub vertical_lines : List ℕ → ℕ → ℕ → List (List ℕ)
vertical_lines name seed tokens =
    (codes "<doc id=\"" ++ name ++ codes "\">") ∷ flat_map (sentence_lines seed tokens) (range_with_len 0 (sentence_count tokens)) ++ codes "</doc>" ∷ []

-- the bytes: each line with its line feed
abbrev pub generated_vertical : List ℕ → ℕ → ℕ → List ℕ
generated_vertical name seed tokens = flat_map closed (vertical_lines name seed tokens)
