-- The lines of a concordance: a span, what stands before it in its text, its own tokens, and what stands behind it.
use Rattle.std.specs.Prelude.{ℕ, ◌+◌, ◌-◌, List, [], ◌∷◌, ◌++◌, length, map, min, slice_index_or}
use Rattle.std.specs.List.{join_with_byte, range_with_len}
use Rattle.std.specs.Fmt.{decimal}
use Rattle.mt_text_spec.specs.Registries.{Registry}
use Rattle.mt_text_spec.specs.Texts.{Text, Span}
use Rattle.mt_match_spec.specs.Values.{Images, value_at}

-- the attribute whose values are shown, the first that the registry declares; it may be a mapped one
abbrev pub shown_attr : ℕ
shown_attr = 0

-- so many tokens are shown before a span, and so many behind it, fewer at the text's ends
abbrev pub context_tokens : ℕ
context_tokens = 5

-- the values from one place of a text on and before another, a space between each two
abbrev pub values_text : (values : ℕ → List ℕ) → (from to : ℕ) → List ℕ
values_text values from to = join_with_byte 32 (map values (range_with_len from (to - from)))

-- The line of a span in a text of this name and so many tokens with these values: the name, the place of the span's first token and the number of its tokens, with
-- a colon between, and behind a tab each what stands before the span, its own tokens and what stands behind it.
abbrev pub line_by : (name : List ℕ) → (tokens : ℕ) → (values : ℕ → List ℕ) → (begin end : ℕ) → List ℕ
line_by name tokens values begin end =
    name ++ 58 ∷ decimal begin ++ 58 ∷ decimal (end - begin)
    ++ 9 ∷ values_text values (begin - context_tokens) begin ++ 9 ∷ values_text values begin end ++ 9 ∷ values_text values end (min (end + context_tokens) tokens)

-- the text with this number
abbrev pub text_at : List Text → ℕ → Text
text_at corpus number = slice_index_or corpus number (record { name = []; tokens = []; structs = [] })

-- the line of a run of tokens of a text
abbrev pub text_line : Images → Registry → Text → (begin end : ℕ) → List ℕ
text_line images registry text begin end = line_by text.name (length text.tokens) (value_at images registry text shown_attr) begin end

-- the line of a span of the corpus
abbrev pub query_line : Images → Registry → List Text → Span → List ℕ
query_line images registry corpus span = text_line images registry (text_at corpus span.text) span.begin span.end

-- the lines of `query`: the number of its spans, and each one's line
abbrev pub query_lines : Images → Registry → List Text → List Span → List (List ℕ)
query_lines images registry corpus spans = (61 ∷ 32 ∷ decimal (length spans)) ∷ map (query_line images registry corpus) spans
