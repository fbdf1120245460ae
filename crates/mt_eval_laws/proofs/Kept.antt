-- What a query keeps by what tables tell is what it keeps in the texts.
use Rattle.std.proofs.Common.{◌≡◌, ℕ, ◌+◌, ◌<◌, List, [], ◌∷◌, length, get_or, slice_get, Some, Bool, true, false, not, sym, ◌∙◌, subst}
use Rattle.std.specs.List.{All, Contains}
use Rattle.std.proofs.lemmas.Option.{same_Some}
use Rattle.std.proofs.lemmas.List.Elements.{All-nil, All-cons}
use Rattle.mt_text_spec.specs.Registries.{Registry}
use Rattle.mt_text_spec.specs.Texts.{Text, Row, Span}
use Rattle.mt_text_spec.specs.Queries.{Expr, FilterKind, Within, NotWithin, Containing, NotContaining, Filters, NoMore, More, Cond, Query}
use Rattle.mt_query_spec.specs.Valid.{ValidExpr, ValidFilters, ValidCond, ValidConds}
use Rattle.mt_eval_spec.specs.Fits.{Fits}
use Rattle.mt_match_spec.specs.Tests.{Unless}
use Rattle.mt_match_spec.specs.Labels.{IsSetTo}
use Rattle.mt_match_spec.specs.Values.{value_at}
use Rattle.mt_match_spec.specs.Matches.{sight}
use Rattle.mt_match_spec.specs.Rows.{IsRow}
use Rattle.mt_match_spec.specs.Kept.{IsWithin, IsContaining, Passes, PassesAll, IsSpanOf, Meets, Keeps}
use Rattle.mt_segment_spec.specs.Tables.{Tables, first_place}
use Rattle.mt_eval_spec.specs.Told.{told_value}
use Rattle.mt_eval_spec.specs.RowsIn.{IsRowIn, PassesAllIn, MeetsIn, KeepsIn}
use Rattle.mt_eval_laws.specs.Laws.{Tell, SaySame, KeptAreTold}
use Rattle.mt_eval_laws.proofs.Labels.{set_inside}
use Rattle.mt_eval_laws.proofs.Telling.{Given, values_told}
use Rattle.mt_eval_laws.proofs.Rows.{rows_told}

pub record Both (First Second : Type 0) : Type 0 where
  pub on : First → Second
  pub back : Second → First

each_valid : (registry : Registry) (head : Expr) (conds : List Cond) → ValidConds registry head conds → All (ValidCond registry head) conds
each_valid registry head [] v = All-nil (ValidCond registry head)
each_valid registry head (c ∷ conds) v = All-cons (ValidCond registry head) c conds v.0 (each_valid registry head conds v.1)

module _ (given : Given) (images : List ℕ → List ℕ → List ℕ) (registry : Registry) (corpus : List Text) (all : Tables) (tell : Tell images registry corpus all) (texts : List ℕ) where
  -- ---- filters

  module _ (head : Expr) (valid : ValidExpr registry head) (LetIn Let : Span → Type 0) (same : (span : Span) → Contains texts span.text → Both (LetIn span) (Let span)) where
    In : Span → Type 0
    In = IsSpanOf (IsRowIn all texts head) LetIn

    Is : Span → Type 0
    Is = IsSpanOf (IsRow images registry corpus head) Let

    rows : SaySame (IsRowIn all texts head) (λ row. Contains texts row.span.text × IsRow images registry corpus head row)
    rows = rows_told given images registry corpus all tell texts head valid

    span_on : (span : Span) → IsSpanOf (IsRowIn all texts head) LetIn span → IsSpanOf (IsRow images registry corpus head) Let span
    span_on span i =
        let row = rows.on (record { span = span; labels = i.labels }) i.is_row in
        record { labels = i.labels; is_row = row.1; passes = (same span row.0).on i.passes }

    span_back : (span : Span) → Contains texts span.text → IsSpanOf (IsRow images registry corpus head) Let span → IsSpanOf (IsRowIn all texts head) LetIn span
    span_back span listed i =
        record { labels = i.labels; is_row = rows.back (record { span = span; labels = i.labels }) (listed, i.is_row); passes = (same span listed).back i.passes }

    within : (span : Span) → Contains texts span.text → Both (IsWithin (IsSpanOf (IsRowIn all texts head) LetIn) span) (IsWithin (IsSpanOf (IsRow images registry corpus head) Let) span)
    within span listed = record {
      on = λ w. record { around = w.around; is_operands = span_on w.around w.is_operands; lies = w.lies };
      back = λ w. record { around = w.around; is_operands = span_back w.around (subst (Contains texts) w.lies.text listed) w.is_operands; lies = w.lies };
    }

    containing : (span : Span) → Contains texts span.text → Both (IsContaining (IsSpanOf (IsRowIn all texts head) LetIn) span) (IsContaining (IsSpanOf (IsRow images registry corpus head) Let) span)
    containing span listed = record {
      on = λ w. record { held = w.held; is_operands = span_on w.held w.is_operands; lies = w.lies };
      back = λ w. record { held = w.held; is_operands = span_back w.held (subst (Contains texts) (sym w.lies.text) listed) w.is_operands; lies = w.lies };
    }

    pub filter_same : (kind : FilterKind) (span : Span) → Contains texts span.text → Both (Passes kind (IsSpanOf (IsRowIn all texts head) LetIn) span) (Passes kind (IsSpanOf (IsRow images registry corpus head) Let) span)
    filter_same Within span listed = within span listed
    filter_same NotWithin span listed = let w = within span listed in record { on = λ h k. h (w.back k); back = λ h k. h (w.on k) }
    filter_same Containing span listed = containing span listed
    filter_same NotContaining span listed = let w = containing span listed in record { on = λ h k. h (w.back k); back = λ h k. h (w.on k) }

  filters_same : (filters : Filters) → ValidFilters registry filters → (span : Span) → Contains texts span.text → Both (PassesAllIn all texts filters span) (PassesAll images registry corpus filters span)
  filters_same NoMore v span listed = record { on = λ h. tt; back = λ h. tt }
  filters_same (More kind head filters others) v span listed =
      let one = filter_same head v.0 (PassesAllIn all texts filters) (PassesAll images registry corpus filters) (λ s l. filters_same filters v.2 s l) kind span listed in
      let rest = filters_same others v.3 span listed in
      record { on = λ h. (one.on h.0, rest.on h.1); back = λ h. (one.back h.0, rest.back h.1) }

  -- ---- conditions

  module _ (head : Expr) (valid : ValidExpr registry head) (row : Row) (is : IsRow images registry corpus head row) where
    value_same : (attr label place : ℕ) → attr < length registry.attrs → (text : Text) (there : slice_get corpus row.span.text ≡ Some text) → place < length text.tokens →
        told_value all attr (first_place all row.span.text + place) ≡ value_at images registry text attr place
    value_same attr label place l text there inside = values_told given images registry corpus all tell row.span.text text there attr place l inside

    place_inside : (label place : ℕ) → IsSetTo row.labels label place → place < length is.text.tokens
    place_inside label place set = set_inside (sight images registry is.text) head row.span.begin row.span.end row.labels label place is.matches set

    compare_on : (equal : Bool) (a b c d : List ℕ) → a ≡ c → b ≡ d → Unless (not equal) (a ≡ b) → Unless (not equal) (c ≡ d)
    compare_on true a b c d ac bd e = sym ac ∙ e ∙ bd
    compare_on false a b c d ac bd n = λ e. n (ac ∙ e ∙ sym bd)

    cond_on : (cond : Cond) → ValidCond registry head cond → MeetsIn all row cond → Meets images registry corpus row cond
    cond_on cond v m = record {
      text = is.text;
      there = is.there;
      left = m.left;
      left_set = m.left_set;
      right = m.right;
      right_set = m.right_set;
      compare = compare_on cond.equal _ _ _ _
          (value_same cond.left_attr cond.left m.left v.left_attr is.text is.there (place_inside cond.left m.left m.left_set))
          (value_same cond.right_attr cond.right m.right v.right_attr is.text is.there (place_inside cond.right m.right m.right_set)) m.compare;
    }

    cond_back : (cond : Cond) → ValidCond registry head cond → Meets images registry corpus row cond → MeetsIn all row cond
    cond_back cond v m =
        let same : is.text ≡ m.text = same_Some is.text m.text (sym is.there ∙ m.there) in
        record {
          left = m.left;
          left_set = m.left_set;
          right = m.right;
          right_set = m.right_set;
          compare = compare_on cond.equal _ _ _ _
              (sym (value_same cond.left_attr cond.left m.left v.left_attr m.text m.there (subst (λ (t : Text). m.left < length t.tokens) same (place_inside cond.left m.left m.left_set))))
              (sym (value_same cond.right_attr cond.right m.right v.right_attr m.text m.there (subst (λ (t : Text). m.right < length t.tokens) same (place_inside cond.right m.right m.right_set)))) m.compare;
        }

  pub kept_told : (query : Query) → Fits registry query → SaySame (KeepsIn all texts query) (λ row. Contains texts row.span.text × Keeps images registry corpus query row)
  kept_told query valid = record {
    on = λ row k.
        let is = (rows_told given images registry corpus all tell texts query.head valid.head).on row k.is_row in (
          is.0,
          record {
            is_row = is.1;
            passes = (filters_same query.filters valid.filters row.span is.0).on k.passes;
            meets = λ n d l. cond_on query.head valid.head row is.1 (get_or query.conds n d) (each_valid registry query.head query.conds valid.conds n d l) (k.meets n d l);
          },
        );
    back = λ row k.
        let is = k.1.is_row in
        record {
          is_row = (rows_told given images registry corpus all tell texts query.head valid.head).back row (k.0, is);
          passes = (filters_same query.filters valid.filters row.span k.0).back k.1.passes;
          meets = λ n d l. cond_back query.head valid.head row is (get_or query.conds n d) (each_valid registry query.head query.conds valid.conds n d l) (k.1.meets n d l);
        };
  }

pub kept_are_told : Given → KeptAreTold
kept_are_told given images registry corpus tables texts query tell valid = kept_told given images registry corpus tables tell texts query valid
