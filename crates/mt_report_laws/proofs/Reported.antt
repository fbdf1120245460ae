-- The texts of frequency lists and collocations: there is one, and one only.
use Rattle.std.proofs.Common.{◌≡◌, ℕ, ◌+◌, ◌*◌, ◌<◌, ◌⊎◌, inl, inr, ℤ, pos, List, [], ◌∷◌, length, map, refl, sym, ◌∙◌, ap, subst, arith}
use Rattle.std.specs.List.{flat_map}
use Rattle.mt_text_spec.specs.Registries.{Registry}
use Rattle.mt_text_spec.specs.Texts.{Text, Span}
use Rattle.mt_match_spec.specs.Values.{Images}
use Rattle.mt_match_spec.specs.Rows.{ListsAll}
use Rattle.mt_sketch_spec.specs.Score.{IsScore}
use Rattle.mt_score.proofs.Order.{unique}
use Rattle.mt_report_spec.specs.Near.{in_window, near_begin, values_by}
use Rattle.mt_report_spec.specs.Counts.{Collocate, Frequency, IsCollocate, IsFrequency, collocate_cmp, collocate_line, frequency_cmp, frequency_line, number_line, spans_with, tokens_with}
use Rattle.mt_match_laws.proofs.Deciding.{alike, at_most, below, both}
use Rattle.mt_match_laws.proofs.One.{one}
use Rattle.mt_report_laws.specs.Laws.{CollocatesAreOne, FrequenciesAreOne, HaveCollocates, HaveFrequencies}
use Rattle.mt_report_laws.specs.Orders.{collocate_total, frequency_total, same_collocate, same_frequency}
use Rattle.mt_report_laws.proofs.Near.{counted}
use Rattle.mt_report_laws.proofs.Listed.{listed, none, none_listed}
use Rattle.mt_report_laws.proofs.Scored.{a_score}

-- ## Frequencies

module _ (images : Images) (registry : Registry) (corpus : List Text) (spans : List Span) (attr : ℕ) (distance : ℤ) where
  frequency_of : List ℕ → Frequency
  frequency_of value = record { value = value; spans = spans_with images registry corpus (near_begin attr distance) spans value }

  frequencies : (all : List Frequency) × ListsAll frequency_cmp (IsFrequency images registry corpus spans attr distance) all
  unfolding frequency_of
  frequencies =
      listed frequency_total frequency_of (λ v w. same_frequency (frequency_of v) (frequency_of w)) (IsFrequency images registry corpus spans attr distance)
      (flat_map (values_by images registry corpus (near_begin attr distance)) spans)
      (λ v. alike (λ some. record { count = refl; some = some }) (λ is. is.some) (below 0 (spans_with images registry corpus (near_begin attr distance) spans v)))
      (λ x is. record {
        value = x.value;
        member = counted (values_by images registry corpus (near_begin attr distance)) x.value spans (omega (arith, is.some, is.count));
        is = λ i. record { value = x.value; spans = is.count i };
      })

pub frequencies_there : HaveFrequencies
frequencies_there images registry corpus spans attr distance =
    let all = frequencies images registry corpus spans attr distance in
    (number_line (length all.0) ∷ map frequency_line all.0, record { all = all.0; are = all.1; says = refl })

pub frequencies_one : FrequenciesAreOne
frequencies_one images registry corpus spans attr distance lines others a b =
    a.says ∙ ap (λ (all : List Frequency). number_line (length all) ∷ map frequency_line all) (one frequency_total (IsFrequency images registry corpus spans attr distance) a.all b.all a.are b.are) ∙ sym b.says

-- ## Collocations

module _ (images : Images) (registry : Registry) (corpus : List Text) (spans : List Span) (attr : ℕ) (first last : ℤ) (least : ℕ) where
  score_of : (two_f sum : ℕ) → (0 < two_f) ⊎ (0 < two_f → ⊥) → ℤ
  score_of two_f sum (inl some) = (a_score two_f sum some).0
  score_of two_f sum (inr none) = pos 0

  is_score_of : (two_f sum : ℕ) (d : (0 < two_f) ⊎ (0 < two_f → ⊥)) → 0 < two_f → IsScore two_f sum (score_of two_f sum d)
  unfolding score_of
  is_score_of two_f sum (inl some) l = (a_score two_f sum some).1
  is_score_of two_f sum (inr none) l = absurd (none l)

  collocate_of : List ℕ → Collocate
  collocate_of value = record {
    value = value;
    both = spans_with images registry corpus (in_window attr first last) spans value;
    tokens = tokens_with images registry corpus attr value;
    score = score_of (2 * spans_with images registry corpus (in_window attr first last) spans value) (length spans + tokens_with images registry corpus attr value)
        (below 0 (2 * spans_with images registry corpus (in_window attr first last) spans value));
  }

  -- what is told of a value is all that there is to tell
  told : (x : Collocate) → IsCollocate images registry corpus spans attr first last least x → x ≡ collocate_of x.value
  unfolding collocate_of
  told x is =
      let two : 2 * x.both ≡ 2 * spans_with images registry corpus (in_window attr first last) spans x.value = omega (arith, is.count) in
      let sum : length spans + x.tokens ≡ length spans + tokens_with images registry corpus attr x.value = omega (arith, is.tokens_are) in
      let own : IsScore (2 * spans_with images registry corpus (in_window attr first last) spans x.value) (length spans + tokens_with images registry corpus attr x.value) x.score =
      subst (λ (n : ℕ). IsScore (2 * spans_with images registry corpus (in_window attr first last) spans x.value) n x.score) sum (subst (λ (n : ℕ). IsScore n (length spans + x.tokens) x.score) two is.scored) in
      let some : 0 < 2 * spans_with images registry corpus (in_window attr first last) spans x.value = omega (arith, is.some, is.count) in
      let same = unique _ _ x.score _ own (is_score_of _ (length spans + tokens_with images registry corpus attr x.value) (below 0 (2 * spans_with images registry corpus (in_window attr first last) spans x.value)) some) in
      λ i. record { value = x.value; both = is.count i; tokens = is.tokens_are i; score = same i }

  collocates : 0 < length spans → (all : List Collocate) × ListsAll (collocate_cmp (length spans)) (IsCollocate images registry corpus spans attr first last least) all
  unfolding collocate_of
  collocates some =
      listed (collocate_total (length spans) some) collocate_of (λ v w. same_collocate (length spans) (collocate_of v) (collocate_of w)) (IsCollocate images registry corpus spans attr first last least)
      (flat_map (values_by images registry corpus (in_window attr first last)) spans)
      (λ v. alike
      (λ h. record {
        count = refl;
        some = h.0;
        enough = h.1;
        tokens_are = refl;
        scored = is_score_of (2 * spans_with images registry corpus (in_window attr first last) spans v) (length spans + tokens_with images registry corpus attr v) _ (omega (arith, h.0));
      })
      (λ is. (is.some, is.enough))
      (both (below 0 (spans_with images registry corpus (in_window attr first last) spans v)) (at_most least (spans_with images registry corpus (in_window attr first last) spans v))))
      (λ x is. record {
        value = x.value;
        member = counted (values_by images registry corpus (in_window attr first last)) x.value spans (omega (arith, is.some, is.count));
        is = told x is;
      })

-- no span, no collocate
never : (images : Images) (registry : Registry) (corpus : List Text) (attr : ℕ) (first last : ℤ) (least : ℕ) (x : Collocate) → IsCollocate images registry corpus [] attr first last least x → ⊥
never images registry corpus attr first last least x is = let none : 0 < 0 = omega (arith, is.some, is.count) in omega (arith, none)

pub collocates_there : HaveCollocates
collocates_there images registry corpus [] attr first last least = (
  number_line 0 ∷ [],
  record {
    all = [];
    are = none (collocate_cmp 0) (IsCollocate images registry corpus [] attr first last least) (never images registry corpus attr first last least);
    says = refl;
  },
)
collocates_there images registry corpus (span ∷ spans) attr first last least =
    let all = collocates images registry corpus (span ∷ spans) attr first last least (omega arith) in
    (number_line (length all.0) ∷ map collocate_line all.0, record { all = all.0; are = all.1; says = refl })

same_lists : (images : Images) (registry : Registry) (corpus : List Text) (spans : List Span) (attr : ℕ) (first last : ℤ) (least : ℕ) (xs ys : List Collocate) →
    ListsAll (collocate_cmp (length spans)) (IsCollocate images registry corpus spans attr first last least) xs → ListsAll (collocate_cmp (length spans)) (IsCollocate images registry corpus spans attr first last least) ys → xs ≡ ys
same_lists images registry corpus [] attr first last least xs ys a b =
    none_listed (collocate_cmp 0) (IsCollocate images registry corpus [] attr first last least) xs (never images registry corpus attr first last least) a
    ∙ sym (none_listed (collocate_cmp 0) (IsCollocate images registry corpus [] attr first last least) ys (never images registry corpus attr first last least) b)
same_lists images registry corpus (span ∷ spans) attr first last least xs ys a b =
    one (collocate_total (length (span ∷ spans)) (omega arith)) (IsCollocate images registry corpus (span ∷ spans) attr first last least) xs ys a b

pub collocates_one : CollocatesAreOne
collocates_one images registry corpus spans attr first last least lines others a b =
    a.says ∙ ap (λ (all : List Collocate). number_line (length all) ∷ map collocate_line all) (same_lists images registry corpus spans attr first last least a.all b.all a.are b.are) ∙ sym b.says
