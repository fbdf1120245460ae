-- How far the spans of a text lead that begin at a place or before.
use Rattle.std.proofs.Common.{◌≡◌, ℕ, ◌+◌, ◌-◌, ◌<◌, ◌≤◌, ◌⊎◌, List, length, get_or, max, refl, sym, ◌∙◌, ap, subst, inl, inr, arith}
use Rattle.std.specs.List.{AllPairs, Contains}
use Rattle.std.proofs.lemmas.Bool.{cases_eq, cases_lt}
use Rattle.mt_text_spec.specs.Queries.{Test}
use Rattle.mt_text_spec.specs.Texts.{Span, StructSpan}
use Rattle.mt_segment_spec.specs.Tables.{Tables, AreTables}
use Rattle.mt_segment_laws.specs.Laws.{InstancesLieInTexts}
use Rattle.mt_eval_spec.specs.Told.{IsToldInstance, told_spans, told_tokens}
use Rattle.mt_automaton.specs.Parts.{Tag}
use Rattle.mt_prepare.specs.Resolved.{AreSpansOf}
use Rattle.mt_prepare.specs.TagRows.{IsBefore, IsFirstFrom, IsLastOfText, StandBetween}
use Rattle.mt_prepare.proofs.Spans.{between, same_item}
use Rattle.mt_prepare.proofs.Told.{inside, lie_in}

-- ## The last span that begins at a place or before

at_most : (s t : Span) → IsBefore s t → s.text ≤ t.text
at_most s t (inl l) = omega (arith, l)
at_most s t (inr p) = omega (arith, p.0)

later_of : (it one : Span) → it.text ≡ one.text → IsBefore it one → (it.begin < one.begin) ⊎ ((it.begin ≡ one.begin) × (it.end ≤ one.end))
later_of it one e (inl l) = absurd (omega (arith, e, l))
later_of it one e (inr (f, inl l)) = inl l
later_of it one e (inr (f, inr (g, l))) = inr (g, omega (arith, l))

-- a span of the text that begins at the place or before is not behind the search's end, and not before the text's begin
pub goes_before : (spans : List Span) (text at place begin end : ℕ) → IsFirstFrom spans (record { text = text; begin = at + 1; end = 0 }) place → begin ≤ at → (c : Contains spans (record { text = text; begin = begin; end = end })) → c.0 < place
goes_before spans text at place begin end first l c =
    let it : Span = record { text = text; begin = begin; end = end } in
    let key : Span = record { text = text; begin = at + 1; end = 0 } in
    elim (cases_lt c.0 place) [
      | inl low ↦ low
      | inr on ↦ absurd (first.behind c.0 it on c.1 (subst (λ (s : Span). IsBefore s key) (sym c.2) (inr (refl, inl (omega (arith, l))))))
    ]

pub goes_behind : (spans : List Span) (text from to begin end : ℕ) → StandBetween spans text from to → (c : Contains spans (record { text = text; begin = begin; end = end })) → from ≤ c.0
goes_behind spans text from to begin end stand c =
    let it : Span = record { text = text; begin = begin; end = end } in
    (between spans text from to stand.first stand.last c.0 it c.1 (ap (λ (s : Span). s.text) c.2)).0

last_there : (spans : List Span) (text place : ℕ) (one : Span) → place - 1 < length spans → one ≡ get_or spans (place - 1) one → one.text ≡ text → Contains spans (record { text = text; begin = one.begin; end = one.end })
last_there spans text place one within is e =
    subst (λ (t : ℕ). Contains spans (record { text = t; begin = one.begin; end = one.end })) e (place - 1, within, sym is)

pub last_is : (spans : List Span) (text at place begin end : ℕ) (one : Span) → AllPairs IsBefore spans → IsFirstFrom spans (record { text = text; begin = at + 1; end = 0 }) place → begin ≤ at
    → Contains spans (record { text = text; begin = begin; end = end }) → place - 1 < length spans → one ≡ get_or spans (place - 1) one → IsLastOfText spans text begin end one.end
last_is spans text at place begin end one pairs first l c within is =
    let it : Span = record { text = text; begin = begin; end = end } in
    let key : Span = record { text = text; begin = at + 1; end = 0 } in
    let low : c.0 < place = goes_before spans text at place begin end first l c in
    let one_low : IsBefore one key = subst (λ (s : Span). IsBefore s key) (sym is) (first.before (place - 1) one (omega (arith, low))) in
    let here : get_or spans (place - 1) it ≡ one = same_item spans (place - 1) it one within ∙ sym is in
    elim (cases_lt c.0 (place - 1)) [
      | inl less ↦
          let b : IsBefore it one = subst (λ (s : Span). IsBefore s one) c.2 (subst (IsBefore (get_or spans c.0 it)) here (pairs c.0 (place - 1) it less within)) in
          let x : text ≤ one.text = at_most it one b in
          let y : one.text ≤ text = at_most one key one_low in
          let e : one.text ≡ text = omega (arith, x, y) in
          record { first = one.begin; there = last_there spans text place one within is e; later = later_of it one (sym e) b }
      | inr on ↦
          let k : c.0 ≡ place - 1 = omega (arith, on, low) in
          let e : it ≡ one = sym c.2 ∙ ap (λ (n : ℕ). get_or spans n it) k ∙ here in
          let ends : end ≡ one.end = ap (λ (s : Span). s.end) e in
          record { first = one.begin; there = last_there spans text place one within is (sym (ap (λ (s : Span). s.text) e)); later = inr (ap (λ (s : Span). s.begin) e, omega (arith, ends)) }
    ]

-- ## Instances of a kind in order

comes_first : (spans : List StructSpan) → AllPairs (λ span later. span.end ≤ later.begin) spans → (one two : StructSpan) → Contains spans one → Contains spans two → one.begin < two.begin → two.begin ≤ two.end → one.end ≤ two.begin
comes_first spans pairs one two a b l inner =
    let there : get_or spans b.0 one ≡ two = same_item spans b.0 one two b.1 ∙ b.2 in
    elim (cases_lt a.0 b.0) [
      | inl low ↦
          let p : (get_or spans a.0 one).end ≤ (get_or spans b.0 one).begin = pairs a.0 b.0 one low b.1 in
          let x : (get_or spans a.0 one).end ≡ one.end = ap (λ (s : StructSpan). s.end) a.2 in
          let y : (get_or spans b.0 one).begin ≡ two.begin = ap (λ (s : StructSpan). s.begin) there in
          omega (arith, p, x, y)
      | inr g ↦ elim (cases_eq a.0 b.0) [
        | inl at ↦
            let e : one.begin ≡ two.begin = ap (λ (s : StructSpan). s.begin) (sym a.2 ∙ ap (λ (k : ℕ). get_or spans k one) at ∙ there) in
            absurd (omega (arith, e, l))
        | inr other ↦
            let p : (get_or spans b.0 one).end ≤ (get_or spans a.0 one).begin = pairs b.0 a.0 one (omega (arith, g, other)) a.1 in
            let x : (get_or spans a.0 one).begin ≡ one.begin = ap (λ (s : StructSpan). s.begin) a.2 in
            let y : (get_or spans b.0 one).end ≡ two.end = ap (λ (s : StructSpan). s.end) there in
            absurd (omega (arith, p, x, y, l, inner))
      ]
    ]

ends_before : InstancesLieInTexts → (tables : Tables) → AreTables tables → (text kind : ℕ) (test : Test) (begin end first last : ℕ) → IsToldInstance tables text kind test begin end → IsToldInstance tables text kind test first last
    → begin < first → end ≤ last
ends_before law tables known text kind test begin end first last one two l =
    let in_two = inside law tables known text kind test first last two in
    let e = comes_first (told_spans tables kind text) (lie_in law tables known kind text one.span one.there).ordered one.span two.span one.there two.there (omega (arith, one.begins, two.begins, l)) (omega (arith, two.begins, two.ends, in_two.0)) in
    omega (arith, e, one.ends, two.begins, in_two.0)

pub none_ends_behind : InstancesLieInTexts → (tables : Tables) → AreTables tables → (text : ℕ) → text < length tables.texts → (tag : Tag) (list : List Span) (at last : ℕ) → AreSpansOf tables tag list
    → ((begin end : ℕ) → begin ≤ at → Contains list (record { text = text; begin = begin; end = end }) → IsLastOfText list text begin end last)
    → (begin end : ℕ) → IsToldInstance tables text tag.kind tag.test begin end → begin ≤ at → end ≤ told_tokens tables text → end ≤ max at last
none_ends_behind law tables known text there tag list at last are found begin end told l within =
    let is = found begin end l (are.each (record { text = text; begin = begin; end = end }) (there, told)) in
    let other = (are.only (record { text = text; begin = is.first; end = last }) is.there).1 in
    elim is.later [
      | inl less ↦ let e = ends_before law tables known text tag.kind tag.test begin end is.first last told other less in omega (arith, e)
      | inr p ↦ omega (arith, p.1)
    ]
