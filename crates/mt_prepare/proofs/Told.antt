-- What tables tell of the instances and the tokens of a text.
use Rattle.std.proofs.Common.{◌≡◌, ℕ, ◌+◌, ◌<◌, ◌≤◌, List, [], length, take, get_or, slice_get, Some, sym, ◌∙◌, ap, inl, inr, arith}
use Rattle.std.specs.List.{All, AllPairs, Contains, filter}
use Rattle.std.proofs.lemmas.Bool.{cases_eq, cases_lt}
use Rattle.std.proofs.lemmas.List.{length-map, get_or-map, get_or_past}
use Rattle.std.proofs.lemmas.List.Elements.{All-contains}
use Rattle.std.proofs.lemmas.List.Sums.{sum-map, sum_by_more}
use Rattle.std.proofs.lemmas.Option.{slice_get_within, slice_get-get_or, get_or_from_slice_get}
use Rattle.mt_text_spec.specs.Queries.{Test}
use Rattle.mt_text_spec.specs.Texts.{StructSpan, Text}
use Rattle.mt_segment_spec.specs.Tables.{Tables, AreTables, heads_of, instances_of, is_of_kind, first_place}
use Rattle.mt_segment_laws.specs.Laws.{AreInstancesIn, InstancesLieInTexts}
use Rattle.mt_eval_spec.specs.Told.{IsToldInstance, told_spans, told_tokens}

-- ## Tokens

abbrev tokens_in : List ℕ × ℕ → ℕ
tokens_in head = head.1

-- a text's tokens stand between its first place and that of the next text
pub next_first : (tables : Tables) (text : ℕ) → text < length tables.texts → first_place tables text + told_tokens tables text ≡ first_place tables (text + 1)
next_first tables text l =
    let d : List ℕ × ℕ = ([], 0) in
    let a = sum-map tokens_in (take text tables.texts) in
    let b = sum-map tokens_in (take (text + 1) tables.texts) in
    let c = sum_by_more tokens_in tables.texts text d l in
    omega (arith, a, b, c)

-- ## Instances

pub no_span : (spans : List StructSpan) (span : StructSpan) → spans ≡ [] → Contains spans span → ⊥
no_span spans span none c = let e : length spans ≡ 0 = ap length none in omega (arith, e, c.1)

-- the text in which an instance lies, and the instances there
pub record LieIn (tables : Tables) (kind text : ℕ) : Type 0 where
  pub inside : All (λ span. (span.begin ≤ span.end) × (span.end ≤ told_tokens tables text)) (told_spans tables kind text)
  pub ordered : AllPairs (λ span later. span.end ≤ later.begin) (told_spans tables kind text)

tokens_told : (tables : Tables) (corpus : List Text) (number : ℕ) (text : Text) → tables.texts ≡ heads_of corpus → slice_get corpus number ≡ Some text → told_tokens tables number ≡ length text.tokens
tokens_told tables corpus number text e at =
    let within : number < length corpus = slice_get_within corpus number text at in
    ap (λ (heads : List (List ℕ × ℕ)). (get_or heads number ([], 0)).1) e ∙ ap (λ (head : List ℕ × ℕ). head.1) (get_or-map (λ (t : Text). (t.name, length t.tokens)) corpus number text ([], 0) within)
    ∙ ap (λ (t : Text). length t.tokens) (get_or_from_slice_get corpus number text text at)

nothing : (k : ℕ) → get_or {A = List StructSpan} [] k [] ≡ []
nothing k = get_or_past [] k [] (omega arith)

lie_here : InstancesLieInTexts → (tables : Tables) (known : AreTables tables) (kind text : ℕ) (t : Text) → slice_get known.under.by.corpus text ≡ Some t → kind < length tables.structs → LieIn tables kind text
lie_here law tables known kind text t at low =
    let by = known.under.by in
    let its : AreInstancesIn kind t (told_spans tables kind text) = law known.under.images known.registry by.corpus tables by.texts by.are kind text t low at in
    let e : told_tokens tables text ≡ length t.tokens = tokens_told tables by.corpus text t by.are.texts at in
    record {
      inside = λ i d lt. let p = its.inside i d lt in (p.0, omega (arith, p.1, e));
      ordered = its.ordered;
    }

no_text : Text
no_text = record { name = []; tokens = []; structs = [] }

none_past : (tables : Tables) (known : AreTables tables) (kind text : ℕ) → kind < length tables.structs → length known.under.by.corpus ≤ text → told_spans tables kind text ≡ []
none_past tables known kind text low past =
    let by = known.under.by in
    let long : length (instances_of kind by.corpus) ≡ length by.corpus = length-map by.corpus (λ (t : Text). filter (is_of_kind kind) t.structs) in
    ap (λ (lists : List (List StructSpan)). get_or lists text []) (by.are.structs kind (omega (arith, low, by.are.kind_count))) ∙ get_or_past (instances_of kind by.corpus) text [] (omega (arith, past, long))

pub lie_in : InstancesLieInTexts → (tables : Tables) → AreTables tables → (kind text : ℕ) (span : StructSpan) → Contains (told_spans tables kind text) span → LieIn tables kind text
lie_in law tables known kind text span c = elim (cases_lt kind (length tables.structs)) [
  | inr past ↦ absurd (no_span (told_spans tables kind text) span (ap (λ (lists : List (List StructSpan)). get_or lists text []) (get_or_past tables.structs kind [] past) ∙ nothing text) c)
  | inl low ↦ elim (cases_lt text (length known.under.by.corpus)) [
    | inr past ↦ absurd (no_span (told_spans tables kind text) span (none_past tables known kind text low past) c)
    | inl within ↦ lie_here law tables known kind text (get_or known.under.by.corpus text no_text) (slice_get-get_or known.under.by.corpus text no_text within) low
  ]
]

-- an instance lies in its text
pub inside : InstancesLieInTexts → (tables : Tables) → AreTables tables → (text kind : ℕ) (test : Test) (begin end : ℕ) → IsToldInstance tables text kind test begin end → (begin ≤ end) × (end ≤ told_tokens tables text)
inside law tables known text kind test begin end is =
    let p = All-contains (λ (span : StructSpan). (span.begin ≤ span.end) × (span.end ≤ told_tokens tables text)) (told_spans tables kind text) is.span (lie_in law tables known kind text is.span is.there).inside is.there in
    (omega (arith, p.0, is.begins, is.ends), omega (arith, p.1, is.ends))

ends_there : (spans : List StructSpan) → AllPairs (λ span later. span.end ≤ later.begin) spans → (first second : StructSpan) → Contains spans first → Contains spans second → first.begin ≡ second.begin
    → first.begin < first.end → second.begin < second.end → first.end ≡ second.end
ends_there spans pairs first second a b e some more = elim (cases_lt a.0 b.0) [
  | inl l ↦
      let p : (get_or spans a.0 first).end ≤ (get_or spans b.0 first).begin = pairs a.0 b.0 first l b.1 in
      let x : (get_or spans a.0 first).end ≡ first.end = ap (λ (s : StructSpan). s.end) a.2 in
      let y : (get_or spans b.0 first).begin ≡ second.begin = ap (λ (s : StructSpan). s.begin) (same spans b.0 first second b.1 ∙ b.2) in
      absurd (omega (arith, p, x, y, e, some))
  | inr g ↦ elim (cases_eq a.0 b.0) [
    | inl at ↦ ap (λ (s : StructSpan). s.end) (sym a.2 ∙ ap (λ (k : ℕ). get_or spans k first) at ∙ same spans b.0 first second b.1 ∙ b.2)
    | inr other ↦
        let p : (get_or spans b.0 first).end ≤ (get_or spans a.0 first).begin = pairs b.0 a.0 first (omega (arith, g, other)) a.1 in
        let x : (get_or spans a.0 first).begin ≡ first.begin = ap (λ (s : StructSpan). s.begin) a.2 in
        let y : (get_or spans b.0 first).end ≡ second.end = ap (λ (s : StructSpan). s.end) (same spans b.0 first second b.1 ∙ b.2) in
        absurd (omega (arith, p, x, y, e, more))
  ]
]
  where
    same : (xs : List StructSpan) (k : ℕ) (d o : StructSpan) → k < length xs → get_or xs k d ≡ get_or xs k o
    same xs k d o l = sym (get_or_from_slice_get xs k (get_or xs k d) o (slice_get-get_or xs k d l))

-- two instances of a kind that begin at one place and have tokens end at one
pub same_end : InstancesLieInTexts → (tables : Tables) → AreTables tables → (text kind : ℕ) (test other : Test) (begin end last : ℕ) → IsToldInstance tables text kind test begin end → IsToldInstance tables text kind other begin last
    → begin < end → begin < last → end ≡ last
same_end law tables known text kind test other begin end last one two some more =
    let e = ends_there (told_spans tables kind text) (lie_in law tables known kind text one.span one.there).ordered one.span two.span one.there two.there (one.begins ∙ sym two.begins)
    (omega (arith, one.begins, one.ends, some)) (omega (arith, two.begins, two.ends, more)) in
    sym one.ends ∙ e ∙ two.ends

-- of two instances of a kind that have tokens or lie apart, the one that begins first ends first
pub ends_first : InstancesLieInTexts → (tables : Tables) → AreTables tables → (text kind : ℕ) (test other : Test) (begin end later last : ℕ) → IsToldInstance tables text kind test begin end
    → IsToldInstance tables text kind other later last → begin < later → end ≤ later
ends_first law tables known text kind test other begin end later last one two before =
    by (told_spans tables kind text) (lie_in law tables known kind text one.span one.there).inside (lie_in law tables known kind text one.span one.there).ordered one.span two.span one.there two.there one.begins one.ends two.begins
  where
    same : (xs : List StructSpan) (k : ℕ) (d o : StructSpan) → k < length xs → get_or xs k d ≡ get_or xs k o
    same xs k d o l = sym (get_or_from_slice_get xs k (get_or xs k d) o (slice_get-get_or xs k d l))

    by : (spans : List StructSpan) → All (λ span. (span.begin ≤ span.end) × (span.end ≤ told_tokens tables text)) spans → AllPairs (λ span later. span.end ≤ later.begin) spans
        → (first second : StructSpan) → Contains spans first → Contains spans second → first.begin ≡ begin → first.end ≡ end → second.begin ≡ later → end ≤ later
    by spans all pairs first second a b p q r =
        let x : get_or spans b.0 first ≡ second = same spans b.0 first second b.1 ∙ b.2 in
        let xb : (get_or spans b.0 first).begin ≡ second.begin = ap (λ (s : StructSpan). s.begin) x in
        let xe : (get_or spans b.0 first).end ≡ second.end = ap (λ (s : StructSpan). s.end) x in
        let yb : (get_or spans a.0 first).begin ≡ first.begin = ap (λ (s : StructSpan). s.begin) a.2 in
        let ye : (get_or spans a.0 first).end ≡ first.end = ap (λ (s : StructSpan). s.end) a.2 in
        let order = (all b.0 first b.1).0 in
        let first_order = (all a.0 first a.1).0 in
        elim (cases_lt a.0 b.0) [
          | inl l ↦ let o : (get_or spans a.0 first).end ≤ (get_or spans b.0 first).begin = pairs a.0 b.0 first l b.1 in omega (arith, o, xb, ye, q, r)
          | inr g ↦ elim (cases_eq a.0 b.0) [
            | inl at ↦ let e : first.begin ≡ second.begin = sym yb ∙ ap (λ (k : ℕ). (get_or spans k first).begin) at ∙ xb in absurd (omega (arith, e, p, r, before))
            | inr other ↦
                let o : (get_or spans b.0 first).end ≤ (get_or spans a.0 first).begin = pairs b.0 a.0 first (omega (arith, g, other)) a.1 in
                absurd (omega (arith, o, xb, xe, yb, order, p, r, before))
          ]
        ]
