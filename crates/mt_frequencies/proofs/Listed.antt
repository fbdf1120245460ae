-- What is listed of a tally.
use Rattle.std.proofs.Common.{◌≡◌, ℕ, ◌<◌, inl, inr, Bool, true, false, cond, nat_eq, ℤ, List, [], ◌∷◌, length, map, filter, refl, sym, ◌∙◌, subst, arith}
use Rattle.std.specs.Cmp.Lexicographic.{pointwise, bytes_decides}
use Rattle.std.specs.Str.{bytes_eq}
use Rattle.std.specs.List.{Contains, IsDistinct}
use Rattle.std.specs.List.Sorted.{IsPermutation, IsSorted}
use Rattle.mt_text_spec.specs.Registries.{Registry}
use Rattle.mt_text_spec.specs.Texts.{Span, Text}
use Rattle.mt_match_spec.specs.Values.{Images}
use Rattle.mt_match_spec.specs.Rows.{ListsAll}
use Rattle.mt_match_laws.proofs.Members.{Member, from_member}
use Rattle.mt_report_spec.specs.Near.{near_begin, values_by}
use Rattle.mt_report_spec.specs.Counts.{Frequency, FrequencyText, IsFrequency, frequency_cmp, frequency_line, number_line}
use Rattle.mt_report_laws.specs.Orders.{frequency_total, same_frequency}
use Rattle.mt_frequencies.specs.declared.tally.Count.{Count}
use Rattle.mt_frequencies.specs.Tallies.{IsTally, Tallied, count_of, counts_in, frequency_of, is_counted}
use Rattle.mt_frequencies.proofs.Nearby.{below}
use Rattle.mt_frequencies.proofs.Ordered.{lists_all}
use Rattle.mt_frequencies.proofs.Placed.{less}

-- ## What is counted is among the values

found : (values : List (List ℕ)) (counts : List Count) (value : List ℕ) → 0 < (count_of values counts value).spans → Member value values
found [] counts value some = absurd (omega arith)
found (x ∷ xs) [] value some = absurd (omega arith)
found (x ∷ xs) (c ∷ cs) value some = by (bytes_eq value x) refl (found xs cs value) some
  where
    by : (b : Bool) → bytes_eq value x ≡ b → (0 < (count_of xs cs value).spans → Member value xs) → 0 < (cond b c (count_of xs cs value)).spans → Member value (x ∷ xs)
    by true e rest l = inl ((bytes_decides value x).0 e)
    by false e rest l = inr (rest l)

pub is_there : (tally : Tallied) (value : List ℕ) → 0 < (counts_in tally value).spans → Contains tally.values value
is_there tally value some = from_member tally.values value (found tally.values tally.counts value some)

-- ## Frequencies

pub frequencies_listed : (images : Images) (registry : Registry) (corpus : List Text) (spans : List Span) (attr : ℕ) (distance : ℤ) (distances : List ℤ) (tally : Tallied) (all : List Frequency) →
    IsTally (values_by images registry corpus (record { attr = attr; distances = distances; behind_last = false })) spans (counts_in tally) → distances ≡ distance ∷ [] → IsDistinct (pointwise nat_eq) tally.values →
    IsPermutation (map (frequency_of (counts_in tally)) (filter (is_counted 0 (counts_in tally)) tally.values)) all → IsSorted frequency_cmp all →
    FrequencyText images registry corpus spans attr distance (number_line (length all) ∷ map frequency_line all)
frequencies_listed images registry corpus spans attr distance distances tally all counts are distinct moved up = record { all = all; are = lists; says = refl }
  where
    counted : IsTally (values_by images registry corpus (near_begin attr distance)) spans (counts_in tally)
    counted = subst (λ (ds : List ℤ). IsTally (values_by images registry corpus (record { attr = attr; distances = ds; behind_last = false })) spans (counts_in tally)) are counts

    lists : ListsAll frequency_cmp (IsFrequency images registry corpus spans attr distance) all
    lists =
        lists_all frequency_total (frequency_of (counts_in tally)) (λ v w. same_frequency (frequency_of (counts_in tally) v) (frequency_of (counts_in tally) w)) (is_counted 0 (counts_in tally)) (IsFrequency images registry corpus spans attr distance)
        tally.values all distinct
        (λ v m kept. record { count = counted.spans v; some = below 0 (counts_in tally v).spans kept })
        (λ x is.
        let same : x.spans ≡ (counts_in tally x.value).spans = is.count ∙ sym (counted.spans x.value) in
        let some : 0 < (counts_in tally x.value).spans = omega (arith, is.some, same) in
        record { value = x.value; member = is_there tally x.value some; kept = less 0 (counts_in tally x.value).spans some; is = λ i. record { value = x.value; spans = same i } })
        moved up
