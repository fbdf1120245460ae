-- The rows that tables tell are those of the texts.
use Rattle.std.proofs.Common.{◌≡◌, ℕ, ◌<◌, ◌≤◌, List, [], length, get_or, slice_get, Some, sym, subst, arith, ap, ◌∙◌, ◌⊎◌, inl, inr}
use Rattle.std.specs.List.{Contains}
use Rattle.std.proofs.lemmas.Bool.{cases_lt}
use Rattle.std.proofs.lemmas.List.{length-map, get_or_past}
use Rattle.std.proofs.lemmas.Option.{slice_get-get_or}
use Rattle.mt_text_spec.specs.Registries.{Registry}
use Rattle.mt_text_spec.specs.Texts.{Text}
use Rattle.mt_text_spec.specs.Queries.{Expr}
use Rattle.mt_query_spec.specs.Valid.{ValidExpr}
use Rattle.mt_match_spec.specs.Rows.{IsRow}
use Rattle.mt_match_spec.specs.Matches.{sight}
use Rattle.mt_segment_spec.specs.Tables.{Tables}
use Rattle.mt_eval_spec.specs.Told.{told, told_tokens}
use Rattle.mt_eval_spec.specs.RowsIn.{IsRowIn}
use Rattle.mt_eval_laws.specs.Laws.{Tell, SaySame, RowsAreTold}
use Rattle.mt_eval_laws.proofs.Sights.{matches_too}
use Rattle.mt_eval_laws.proofs.Telling.{Given, sees, seen, tokens_told}

module _ (given : Given) (images : List ℕ → List ℕ → List ℕ) (registry : Registry) (corpus : List Text) (all : Tables) (tell : Tell images registry corpus all) where
  -- a text that is told to have a token is there
  there_is : (number : ℕ) → 0 < told_tokens all number → (text : Text) × (slice_get corpus number ≡ Some text)
  there_is number some = by (cases_lt number (length corpus))
    where
      none : Text
      none = record { name = []; tokens = []; structs = [] }

      by : (number < length corpus) ⊎ (length corpus ≤ number) → (text : Text) × (slice_get corpus number ≡ Some text)
      by (inl l) = (get_or corpus number none, slice_get-get_or corpus number none l)
      by (inr past) =
          let long : length all.texts ≡ length corpus = ap length tell.are.texts ∙ length-map corpus (λ (t : Text). (t.name, length t.tokens)) in
          let zero : told_tokens all number ≡ 0 = ap (λ (head : List ℕ × ℕ). head.1) (get_or_past all.texts number ([], 0) (omega (arith, past, long))) in
          absurd (omega (arith, some, zero))

  pub rows_told : (texts : List ℕ) (expr : Expr) → ValidExpr registry expr → SaySame (IsRowIn all texts expr) (λ row. Contains texts row.span.text × IsRow images registry corpus expr row)
  rows_told texts expr valid = record {
    on = λ row h.
        let at = there_is row.span.text (omega (arith, h.some, h.inside)) in (
          h.listed,
          record {
            text = at.0;
            there = at.1;
            some = h.some;
            inside = subst (λ n. row.span.end ≤ n) (tokens_told given images registry corpus all tell row.span.text at.0 at.1) h.inside;
            matches = matches_too registry (told all row.span.text) (sight images registry at.0) (sees given images registry corpus all tell row.span.text at.0 at.1) expr row.span.begin row.span.end row.labels valid h.matches;
          },
        );
    back = λ row h.
        let is = h.1 in
        record {
          listed = h.0;
          some = is.some;
          inside = subst (λ n. row.span.end ≤ n) (sym (tokens_told given images registry corpus all tell row.span.text is.text is.there)) is.inside;
          matches = matches_too registry (sight images registry is.text) (told all row.span.text) (seen given images registry corpus all tell row.span.text is.text is.there) expr row.span.begin row.span.end row.labels valid is.matches;
        };
  }

pub rows_are_told : Given → RowsAreTold
rows_are_told given images registry corpus tables texts expr tell valid = rows_told given images registry corpus tables tell texts expr valid
