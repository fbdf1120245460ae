-- A text that is entered: what its spans and instances say of the sets that are made of them.
use Rattle.std.proofs.Common.{◌≡◌, ℕ, ◌<◌, ◌≤◌, List, [], length, get_or, refl, sym, ◌∙◌, ap, subst, arith}
use Rattle.std.specs.List.{All, Contains}
use Rattle.mt_text_spec.specs.Queries as q
use Rattle.mt_text_spec.specs.Texts.{Span, StructSpan}
use Rattle.mt_places.specs.Places.{HasJust}
use Rattle.mt_segment_spec.specs.Tables.{Tables, AreTables}
use Rattle.mt_segment_laws.specs.Laws.{InstancesLieInTexts}
use Rattle.mt_eval_spec.specs.Told.{IsToldInstance, told_spans, told_tokens}
use Rattle.mt_automaton.specs.Parts.{Tag}
use Rattle.mt_prepare.specs.Resolved.{AreSpansOf, IsSpanOfTag}
use Rattle.mt_prepare.specs.TagRows.{IsOfSome, BeginsAt, EndsAt, IsEmptyAt, StandBetween, key_of}
use Rattle.mt_prepare.proofs.Sets.{renamed}
use Rattle.mt_prepare.proofs.Spans.{same_item, of_text, between}
use Rattle.mt_prepare.proofs.Told.{inside, lie_in}

-- the instance of a span that stands between
pub told_at : (tables : Tables) (tag : Tag) (spans : List Span) (text from to : ℕ) → AreSpansOf tables tag spans → StandBetween spans text from to → (k : ℕ) (d : Span) → from ≤ k → k < to
    → IsToldInstance tables text tag.kind tag.test (get_or spans k d).begin (get_or spans k d).end
told_at tables tag spans text from to are stand k d low high =
    let s : Span = get_or spans k d in
    let within : k < length spans = omega (arith, high, stand.last.within) in
    let its : IsSpanOfTag tables tag s = are.only s (k, within, same_item spans k s d within) in
    subst (λ (t : ℕ). IsToldInstance tables t tag.kind tag.test s.begin s.end) (of_text spans text from to stand.first stand.last k d low high) its.1

pub begins_low : InstancesLieInTexts → (tables : Tables) → AreTables tables → (tag : Tag) (spans : List Span) (text from to : ℕ) → AreSpansOf tables tag spans → StandBetween spans text from to
    → (limit : ℕ) → told_tokens tables text < limit → (k : ℕ) (d : Span) → from ≤ k → k < to → (get_or spans k d).begin < limit
begins_low law tables known tag spans text from to are stand limit fits k d low high =
    let s : Span = get_or spans k d in
    let p = inside law tables known text tag.kind tag.test s.begin s.end (told_at tables tag spans text from to are stand k d low high) in
    omega (arith, p.0, p.1, fits)

pub ends_low : InstancesLieInTexts → (tables : Tables) → AreTables tables → (kind text : ℕ) (instances : List StructSpan) → instances ≡ told_spans tables kind text
    → (limit : ℕ) → told_tokens tables text < limit → All (λ span. span.end < limit) instances
ends_low law tables known kind text instances e limit fits =
    subst (λ (spans : List StructSpan). All (λ span. span.end < limit) spans) (sym e)
    (λ k d lt.
    let s : StructSpan = get_or (told_spans tables kind text) k d in
    let p = (lie_in law tables known kind text s (k, lt, same_item (told_spans tables kind text) k s d lt)).inside k d lt in
    omega (arith, p.1, fits))

-- where a span of the text stands
stands : (tables : Tables) (tag : Tag) (spans : List Span) (text from to : ℕ) → text < length tables.texts → AreSpansOf tables tag spans → StandBetween spans text from to → (W : Span → ℕ → Type 0)
    → (begin end number : ℕ) → IsToldInstance tables text tag.kind tag.test begin end → W (record { text = text; begin = begin; end = end }) number → IsOfSome W spans from to number
stands tables tag spans text from to there are stand W begin end number told w =
    let x : Span = record { text = text; begin = begin; end = end } in
    let c : Contains spans x = are.each x (there, told) in
    let p = between spans text from to stand.first stand.last c.0 x c.1 (ap (λ (s : Span). s.text) c.2) in
    record { at = c.0; low = p.0; high = p.1; has = λ d. subst (λ (s : Span). W s number) (sym (same_item spans c.0 d x c.1 ∙ c.2)) w }

pub begins_are : (tables : Tables) (tag : Tag) (spans : List Span) (text from to : ℕ) → text < length tables.texts → AreSpansOf tables tag spans → StandBetween spans text from to
    → (set : List ℕ) → HasJust (IsOfSome BeginsAt spans from to) set → HasJust (λ place. (end : ℕ) × IsToldInstance tables text tag.kind tag.test place end) set
begins_are tables tag spans text from to there are stand set just =
    renamed (IsOfSome BeginsAt spans from to) (λ place. (end : ℕ) × IsToldInstance tables text tag.kind tag.test place end) set just
    (λ k p.
    let s : Span = get_or spans p.at (key_of 0) in
    (s.end, subst (λ (b : ℕ). IsToldInstance tables text tag.kind tag.test b s.end) (p.has (key_of 0)) (told_at tables tag spans text from to are stand p.at (key_of 0) p.low p.high)))
    (λ k p. stands tables tag spans text from to there are stand BeginsAt k p.0 k p.1 refl)

pub empty_are : (tables : Tables) (tag : Tag) (spans : List Span) (text from to : ℕ) → text < length tables.texts → AreSpansOf tables tag spans → StandBetween spans text from to
    → (set : List ℕ) → HasJust (IsOfSome IsEmptyAt spans from to) set → HasJust (λ place. IsToldInstance tables text tag.kind tag.test place place) set
empty_are tables tag spans text from to there are stand set just =
    renamed (IsOfSome IsEmptyAt spans from to) (λ place. IsToldInstance tables text tag.kind tag.test place place) set just
    (λ k p.
    let s : Span = get_or spans p.at (key_of 0) in
    let has = p.has (key_of 0) in
    subst (λ (b : ℕ). IsToldInstance tables text tag.kind tag.test b k) has.0
    (subst (λ (e : ℕ). IsToldInstance tables text tag.kind tag.test s.begin e) has.1 (told_at tables tag spans text from to are stand p.at (key_of 0) p.low p.high)))
    (λ k told. stands tables tag spans text from to there are stand IsEmptyAt k k k told (refl, refl))

no_instance : StructSpan
no_instance = record { kind = 0; begin = 0; end = 0; values = [] }

pub ends_are : (tables : Tables) (kind text : ℕ) (instances : List StructSpan) → instances ≡ told_spans tables kind text
    → (set : List ℕ) → HasJust (IsOfSome EndsAt instances 0 (length instances)) set → HasJust (λ place. (begin : ℕ) × IsToldInstance tables text kind q.Any begin place) set
ends_are tables kind text instances e set just =
    by (told_spans tables kind text) refl (subst (λ (spans : List StructSpan). HasJust (IsOfSome EndsAt spans 0 (length spans)) set) e just)
  where
    by : (spans : List StructSpan) → spans ≡ told_spans tables kind text → HasJust (IsOfSome EndsAt spans 0 (length spans)) set → HasJust (λ place. (begin : ℕ) × IsToldInstance tables text kind q.Any begin place) set
    by spans is made =
        renamed (IsOfSome EndsAt spans 0 (length spans)) (λ place. (begin : ℕ) × IsToldInstance tables text kind q.Any begin place) set made
        (λ k p.
        let s : StructSpan = get_or spans p.at no_instance in
        let there : Contains spans s = (p.at, p.high, same_item spans p.at s no_instance p.high) in
        (s.begin, record { span = s; there = subst (λ (xs : List StructSpan). Contains xs s) is there; begins = refl; ends = p.has no_instance; holds = tt }))
        (λ k p.
        let c : Contains spans p.1.span = subst (λ (xs : List StructSpan). Contains xs p.1.span) (sym is) p.1.there in
        record { at = c.0; low = omega arith; high = c.1; has = λ d. ap (λ (s : StructSpan). s.end) (same_item spans c.0 d p.1.span c.1 ∙ c.2) ∙ p.1.ends })
