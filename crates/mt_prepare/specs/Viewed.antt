-- One text of a segment, as an expression sees it.
use Rattle.std.specs.Prelude.{ℕ, ◌≡◌, ◌<◌, List, [], Option, length, refl, slice_index_or}
use Rattle.std.specs.Coded.{Coded, code_by, coded×, coded_ℕ, coded_list, coded_option}
use Rattle.mt_text_spec.specs.Queries as q
use Rattle.mt_text_spec.specs.Texts.{Span, StructSpan}
use Rattle.mt_query_spec.specs.Contents.{token_tests, OfEnd}
use Rattle.mt_query_spec.specs.Contents as contents
use Rattle.mt_segment_spec.specs.Tables.{Tables, AttrTables, AreTables, first_place, token_count}
use Rattle.mt_eval_spec.specs.Told.{HoldsAt, told, told_tokens}
use Rattle.mt_automaton.specs.Parts.{Seen, Tag}
use Rattle.mt_cql.specs.Codes.{query_code}
use Rattle.mt_prepare.specs.Resolved.{AreSpansOf}
use Rattle.mt_prepare.specs.TestRows.{IsRow}
use Rattle.mt_prepare.specs.TagRows.{AreRowsOf}
use Rattle.mt_prepare.specs.declared.tag_rows.TagRows.{TagRows}

-- the text with this number of a segment, for this expression
pub record Viewed : Type 0 where
  pub tables : Tables
  pub text : ℕ
  pub expr : q.Expr

-- the test of tokens with this number; behind the last one, a test that holds nowhere
abbrev pub test_at : q.Expr → ℕ → q.Test
test_at expr n = slice_index_or (token_tests expr) n (q.Not q.Any)

-- what a number that no tag has stands for
abbrev pub no_tag : Tables → contents.Tag
no_tag tables = record { place = OfEnd; kind = length tables.structs; test = q.Any }

-- the tag with this number; behind the last one, a kind that has no instance
abbrev pub tag_at : Tables → q.Expr → ℕ → Tag
tag_at tables expr n = record { kind = (slice_index_or (contents.tags expr) n (no_tag tables)).kind; test = (slice_index_or (contents.tags expr) n (no_tag tables)).test }

-- what the expression sees of the text: what the tables tell, and its tests and tags by number
abbrev pub seen_of : Viewed → Seen
seen_of v = record { text = told v.tables v.text; test = test_at v.expr; tag = tag_at v.tables v.expr }

-- What a view reads: where the text's tokens stand, the rows of the expression's tests in the segment, and of its tags the spans in the segment and where they
-- lie in the text.
pub record Shows (tables : Tables) (text first tokens : ℕ) (expr : q.Expr) (tests : List (List ℕ)) (spans : List (List Span)) (rows : List TagRows) : Type 0 where
  pub valid : AreTables tables
  pub there : text < length tables.texts
  pub first_is : first ≡ first_place tables text
  pub tokens_is : tokens ≡ told_tokens tables text
  pub tests_count : length tests ≡ length (token_tests expr)
  pub tests_are : (n : ℕ) → n < length tests → IsRow (token_count tables) (HoldsAt tables (test_at expr n)) (slice_index_or tests n [])
  pub spans_count : length spans ≡ length (contents.tags expr)
  pub spans_are : (n : ℕ) → n < length spans → AreSpansOf tables (tag_at tables expr n) (slice_index_or spans n [])
  pub rows_count : length rows ≡ length (contents.tags expr)
  pub rows_are : (n : ℕ) (d : TagRows) → n < length rows → AreRowsOf tables text (tag_at tables expr n) (slice_index_or spans n []) (slice_index_or rows n d)

-- ## Codes, by which the logic tells views apart

abbrev pub span_code : Coded StructSpan
span_code = code_by (ℕ × (ℕ × (ℕ × List (List ℕ)))) (coded× coded_ℕ (coded× coded_ℕ (coded× coded_ℕ (coded_list (coded_list coded_ℕ))))) (λ s. (s.kind, (s.begin, (s.end, s.values))))
    (λ p. record { kind = p.0; begin = p.1.0; end = p.1.1.0; values = p.1.1.1 }) (λ _. refl)

abbrev pub attr_code : Coded AttrTables
attr_code = code_by (Option ℕ × (List (List ℕ) × (List ℕ × List (List ℕ)))) (coded× (coded_option coded_ℕ) (coded× (coded_list (coded_list coded_ℕ)) (coded× (coded_list coded_ℕ) (coded_list (coded_list coded_ℕ)))))
    (λ a. (a.base, (a.lexicon, (a.numbers, a.postings)))) (λ p. record { base = p.0; lexicon = p.1.0; numbers = p.1.1.0; postings = p.1.1.1 }) (λ _. refl)

abbrev pub tables_code : Coded Tables
tables_code = code_by (List (List ℕ × ℕ) × (List AttrTables × List (List (List StructSpan))))
    (coded× (coded_list (coded× (coded_list coded_ℕ) coded_ℕ)) (coded× (coded_list attr_code) (coded_list (coded_list (coded_list span_code))))) (λ t. (t.texts, (t.attrs, t.structs)))
    (λ p. record { texts = p.0; attrs = p.1.0; structs = p.1.1 }) (λ _. refl)

abbrev pub expr_code : Coded q.Expr
expr_code = code_by q.Query query_code (λ e. record { head = e; filters = q.NoMore; conds = [] }) (λ query. query.head) (λ _. refl)

abbrev pub viewed_code : Coded Viewed
viewed_code = code_by (Tables × (ℕ × q.Expr)) (coded× tables_code (coded× coded_ℕ expr_code)) (λ v. (v.tables, (v.text, v.expr))) (λ p. record { tables = p.0; text = p.1.0; expr = p.1.1 }) (λ _. refl)
