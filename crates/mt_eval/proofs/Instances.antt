-- The instances that tables tell lie in their texts.
use Rattle.std.proofs.Common.{◌≡◌, ℕ, ◌≤◌, ◌<◌, List, [], length, get_or, slice_get, Some, ◌∙◌, ap, inl, inr, arith}
use Rattle.std.specs.List.{All, Contains, filter}
use Rattle.std.proofs.lemmas.Bool.{cases_lt}
use Rattle.std.proofs.lemmas.List.{length-map, get_or-map, get_or_past}
use Rattle.std.proofs.lemmas.List.Elements.{All-contains}
use Rattle.std.proofs.lemmas.Option.{slice_get_within, slice_get-get_or, get_or_from_slice_get}
use Rattle.mt_text_spec.specs.Queries.{Test}
use Rattle.mt_text_spec.specs.Texts.{StructSpan, Text}
use Rattle.mt_segment_spec.specs.Tables.{Tables, AreTables, heads_of, instances_of, is_of_kind}
use Rattle.mt_segment_laws.specs.Laws.{AreInstancesIn, InstancesLieInTexts}
use Rattle.mt_eval_spec.specs.Told.{IsToldInstance, told_spans, told_tokens}

no_span : (spans : List StructSpan) (span : StructSpan) → spans ≡ [] → Contains spans span → ⊥
no_span spans span none c = let e : length spans ≡ 0 = ap length none in omega (arith, e, c.1)

tokens_told : (tables : Tables) (corpus : List Text) (number : ℕ) (text : Text) → tables.texts ≡ heads_of corpus → slice_get corpus number ≡ Some text → told_tokens tables number ≡ length text.tokens
tokens_told tables corpus number text e at =
    let within : number < length corpus = slice_get_within corpus number text at in
    ap (λ (heads : List (List ℕ × ℕ)). (get_or heads number ([], 0)).1) e ∙ ap (λ (head : List ℕ × ℕ). head.1) (get_or-map (λ (t : Text). (t.name, length t.tokens)) corpus number text ([], 0) within)
    ∙ ap (λ (t : Text). length t.tokens) (get_or_from_slice_get corpus number text text at)

nothing : (k : ℕ) → get_or {A = List StructSpan} [] k [] ≡ []
nothing k = get_or_past [] k [] (omega arith)

-- the instances of a kind in a text end in it
abbrev EndInside : Tables → (kind text : ℕ) → Type 0
EndInside tables kind text = All (λ (span : StructSpan). span.end ≤ told_tokens tables text) (told_spans tables kind text)

end_here : InstancesLieInTexts → (tables : Tables) (known : AreTables tables) (kind text : ℕ) (t : Text) → slice_get known.under.by.corpus text ≡ Some t → kind < length tables.structs → EndInside tables kind text
end_here law tables known kind text t at low =
    let by = known.under.by in
    let its : AreInstancesIn kind t (told_spans tables kind text) = law known.under.images known.registry by.corpus tables by.texts by.are kind text t low at in
    let e : told_tokens tables text ≡ length t.tokens = tokens_told tables by.corpus text t by.are.texts at in
    λ i d lt. let p = its.inside i d lt in omega (arith, p.1, e)

no_text : Text
no_text = record { name = []; tokens = []; structs = [] }

none_past : (tables : Tables) (known : AreTables tables) (kind text : ℕ) → kind < length tables.structs → length known.under.by.corpus ≤ text → told_spans tables kind text ≡ []
none_past tables known kind text low past =
    let by = known.under.by in
    let long : length (instances_of kind by.corpus) ≡ length by.corpus = length-map by.corpus (λ (t : Text). filter (is_of_kind kind) t.structs) in
    ap (λ (lists : List (List StructSpan)). get_or lists text []) (by.are.structs kind (omega (arith, low, by.are.kind_count))) ∙ get_or_past (instances_of kind by.corpus) text [] (omega (arith, past, long))

end_in : InstancesLieInTexts → (tables : Tables) → AreTables tables → (kind text : ℕ) (span : StructSpan) → Contains (told_spans tables kind text) span → EndInside tables kind text
end_in law tables known kind text span c = elim (cases_lt kind (length tables.structs)) [
  | inr past ↦ absurd (no_span (told_spans tables kind text) span (ap (λ (lists : List (List StructSpan)). get_or lists text []) (get_or_past tables.structs kind [] past) ∙ nothing text) c)
  | inl low ↦ elim (cases_lt text (length known.under.by.corpus)) [
    | inr past ↦ absurd (no_span (told_spans tables kind text) span (none_past tables known kind text low past) c)
    | inl within ↦ end_here law tables known kind text (get_or known.under.by.corpus text no_text) (slice_get-get_or known.under.by.corpus text no_text within) low
  ]
]

-- an instance ends in its text
pub ends_inside : InstancesLieInTexts → (tables : Tables) → AreTables tables → (text kind : ℕ) (test : Test) (begin end : ℕ) → IsToldInstance tables text kind test begin end → end ≤ told_tokens tables text
ends_inside law tables known text kind test begin end is =
    let p = All-contains (λ (span : StructSpan). span.end ≤ told_tokens tables text) (told_spans tables kind text) is.span (end_in law tables known kind text is.span is.there) is.there in omega (arith, p, is.ends)
