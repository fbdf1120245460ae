-- What a test of tokens says by the numbers of values in a segment, and which spans a tag has there.
use Rattle.std.specs.Prelude.{ℕ, ◌≡◌, ◌<◌, ◌⊎◌, ◌↔◌, List, length, slice_get, Some, true}
use Rattle.mt_text_spec.specs.Texts.{Span}
use Rattle.mt_text_spec.specs.Orders.{span_cmp}
use Rattle.mt_text_spec.specs.Queries as q
use Rattle.mt_match_spec.specs.Tests.{Unless}
use Rattle.mt_match_spec.specs.Rows.{ListsAll}
use Rattle.mt_segment_spec.specs.Tables.{Tables, number_at, token_count}
use Rattle.mt_eval_spec.specs.Told.{HoldsAt, IsToldInstance}
use Rattle.mt_automaton.specs.Parts.{Tag}
use Rattle.mt_prepare.specs.declared.resolved.Resolved.{Resolved}
use Rattle.mt_prepare.specs.declared.resolved.Resolved.TheVariants as resolved

-- `number` gives the number of the value of each attribute. The value is the one with this number, where there is one, or its number is in the set.
abbrev pub Says : Resolved → (number : ℕ → ℕ) → Type 0
Says resolved.Any number = Unit {0}
Says (resolved.One attr id negated) number = Unless negated (id ≡ Some (number attr))
Says (resolved.Some attr ids negated) number = Unless negated (slice_get ids (number attr) ≡ Some true)
Says (resolved.Not' p inner) number = ¬ Says inner number
Says (resolved.Both' p left r right) number = Says left number × Says right number
Says (resolved.Either' p left r right) number = Says left number ⊎ Says right number

-- at each place of the segment it says what the test holds of
abbrev pub Resolves : Tables → q.Test → Resolved → Type 0
Resolves tables test resolved = (place : ℕ) → place < token_count tables → (Says resolved (λ attr. number_at tables attr place) ↔ HoldsAt tables test place)

-- a span in some text of the segment is that of an instance of the tag's kind that meets its test
abbrev pub IsSpanOfTag : Tables → Tag → Span → Type 0
IsSpanOfTag tables tag span = (span.text < length tables.texts) × IsToldInstance tables span.text tag.kind tag.test span.begin span.end

-- all spans of a tag in the segment, ascending, each once
abbrev pub AreSpansOf : Tables → Tag → List Span → Type 0
AreSpansOf tables tag spans = ListsAll span_cmp (IsSpanOfTag tables tag) spans
