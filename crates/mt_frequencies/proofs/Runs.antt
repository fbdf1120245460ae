-- The values in the two runs of places of a window.
use Rattle.std.proofs.Common.{◌≡◌, ℕ, zero, suc, ◌+◌, ◌-◌, min, List, ◌∷◌, ◌++◌, map, refl, sym, ◌∙◌, ap, ap₂, arith}
use Rattle.std.specs.List.{range_with_len}
use Rattle.std.proofs.lemmas.List.{map-append}
use Rattle.mt_text_spec.specs.Texts.{Span}
use Rattle.mt_segment_spec.specs.Tables.{Tables, first_place}
use Rattle.mt_report_spec.specs.Near.{places_at}
use Rattle.mt_reports.specs.Told.{told_tokens, told_value}
use Rattle.mt_frequencies.specs.declared.distances.Distances.{Distances}
use Rattle.mt_frequencies.specs.Distances.{AreDistances, distances_of}
use Rattle.mt_frequencies.specs.Seen.{around_text, places_near, values_in}
use Rattle.mt_frequencies.proofs.Placed.{placed}

shifted : (value : ℕ → List ℕ) (first from count : ℕ) → map (λ place. value (first + place)) (range_with_len from count) ≡ map value (range_with_len (first + from) count)
shifted value first from zero = refl
shifted value first from (suc count) =
    let next : first + (from + 1) ≡ first + from + 1 = omega arith in
    ap (λ (rest : List (List ℕ)). value (first + from) ∷ rest) (shifted value first (from + 1) count ∙ ap (λ (n : ℕ). map value (range_with_len n count)) next)

shifted_run : (value : ℕ → List ℕ) (first from to : ℕ) → map (λ place. value (first + place)) (range_with_len from (to - from)) ≡ map value (range_with_len (first + from) (first + to - (first + from)))
shifted_run value first from to = let same : to - from ≡ first + to - (first + from) = omega arith in shifted value first from (to - from) ∙ ap (λ (n : ℕ). map value (range_with_len (first + from) n)) same

-- the values that tables tell near a span are those in its window
pub values_are : (tables : Tables) (attr text : ℕ) (distances : Distances) (span : Span) → AreDistances distances →
    map (λ place. told_value tables attr (first_place tables text + place)) (places_at (told_tokens tables text) span.begin (span.end - 1) (distances_of distances)) ≡ values_in tables attr (places_near (around_text tables text distances) span)
values_are tables attr text distances span are =
    let value : ℕ → List ℕ = told_value tables attr in
    let first = first_place tables text in
    let tokens = told_tokens tables text in
    let a = span.begin - (distances.before_to - 1) in
    let b = span.begin - (distances.before_from - 1) in
    let c = min (span.end - 1 + distances.behind_from) tokens in
    let d = min (span.end - 1 + distances.behind_to) tokens in
    ap (map (λ place. value (first + place))) (placed tokens span.begin (span.end - 1) distances are a b c d refl refl refl refl)
    ∙ map-append (λ place. value (first + place)) (range_with_len a (b - a)) (range_with_len c (d - c)) ∙ ap₂ ◌++◌ (shifted_run value first a b) (shifted_run value first c d)
    ∙ sym (map-append value (range_with_len (first + a) (first + b - (first + a))) (range_with_len (first + c) (first + d - (first + c))))
