-- The line of a span as the tables of its segment tell it.
use Rattle.std.specs.Prelude.{ℕ, ◌+◌, List, [], slice_index_or}
use Rattle.mt_segment_spec.specs.Tables.{Tables, first_place, number_at, tables_at}
use Rattle.mt_report_spec.specs.Lines.{line_by, shown_attr}

-- the value of an attribute at a place of the segment: the one of the number that stands there
abbrev pub told_value : Tables → (attr place : ℕ) → List ℕ
told_value tables attr place = slice_index_or (tables_at tables.attrs attr).lexicon (number_at tables attr place) []

-- how many tokens the text with this number has
abbrev pub told_tokens : Tables → (text : ℕ) → ℕ
told_tokens tables text = (slice_index_or tables.texts text ([], 0)).1

-- the line of a run of tokens of a text
abbrev pub told_line : Tables → (text begin end : ℕ) → List ℕ
told_line tables text begin end =
    line_by (slice_index_or tables.texts text ([], 0)).0 (told_tokens tables text) (λ place. told_value tables shown_attr (first_place tables text + place)) begin end
