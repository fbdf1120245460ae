-- What a view's words and spans say of its text.
use Rattle.std.proofs.Common.{◌≡◌, ℕ, ◌+◌, ◌<◌, ◌≤◌, List, [], length, take, get_or, Option, None, Some, IfSome, IfNone, sym, ◌∙◌, ap, subst, inl, inr, arith}
use Rattle.std.proofs.lemmas.Bool.{cases_lt}
use Rattle.std.proofs.lemmas.List.{get_or_past}
use Rattle.std.proofs.lemmas.List.Sums.{sum-map, sum_by-take-le}
use Rattle.mt_text_spec.specs.Queries as q
use Rattle.mt_text_spec.specs.Texts.{Span, StructSpan}
use Rattle.mt_query_spec.specs.Contents.{token_tests}
use Rattle.mt_query_spec.specs.Contents as contents
use Rattle.mt_places.specs.Places.{In, WordIs}
use Rattle.mt_segment_spec.specs.Tables.{Tables, first_place, token_count}
use Rattle.mt_segment_laws.specs.Laws.{InstancesLieInTexts}
use Rattle.mt_eval_spec.specs.Told.{HoldsAt, IsToldInstance, told, told_tokens}
use Rattle.mt_automaton.specs.Parts.{GoesOn, Longer}
use Rattle.mt_prepare.specs.TagRows.{IsLongerAt}
use Rattle.mt_prepare.specs.Resolved.{AreSpansOf}
use Rattle.mt_automaton.specs.Compiled.{IsSeenFor, instances}
use Rattle.mt_automaton.specs.Compiled as compiled
use Rattle.mt_prepare.specs.Viewed.{Viewed, Shows, no_tag, seen_of, tag_at, test_at}
use Rattle.mt_prepare.specs.declared.tag_rows.TagRows.{TagRows}
use Rattle.mt_prepare.proofs.Spans.{same_item}
use Rattle.mt_prepare.proofs.Listed.{tokens_are}
use Rattle.mt_prepare.proofs.Told.{inside, next_first, no_span, same_end}
use Rattle.mt_prepare.proofs.Words.{none_there, other_name}

-- a view is seen for its expression
pub seen_for : (view : Viewed) → IsSeenFor view.expr (seen_of view)
seen_for view =
    record {
      tests_are = λ i l. same_item (token_tests view.expr) i (q.Not q.Any) q.Any l;
      tags_are = λ i l. ap instances (same_item (contents.tags view.expr) i (no_tag view.tables) compiled.no_tag l);
    }

-- a token of a text is one of the segment's
place_low : (tables : Tables) (text place : ℕ) → text < length tables.texts → place < told_tokens tables text → first_place tables text + place < token_count tables
place_low tables text place l h =
    let tokens : List ℕ × ℕ → ℕ = λ head. head.1 in
    let next = next_first tables text l in
    let a = sum-map tokens (take (text + 1) tables.texts) in
    let b = sum-map tokens tables.texts in
    let c = sum_by-take-le tokens tables.texts (text + 1) in
    omega (arith, next, a, b, c, h)

module _ (tables : Tables) (text first tokens : ℕ) (expr : q.Expr) (tests : List (List ℕ)) (spans : List (List Span)) (rows : List TagRows) (s : Shows tables text first tokens expr tests spans rows) where
  no_test : (n place : ℕ) → length tests ≤ n → HoldsAt tables (test_at expr n) place → ⊥
  no_test n place past h =
      let e : test_at expr n ≡ q.Not q.Any = get_or_past (token_tests expr) n (q.Not q.Any) (omega (arith, past, s.tests_count)) in
      let never = subst (λ (t : q.Test). HoldsAt tables t place) e h in
      never tt

  pub holds_stand : (n at word : ℕ) → (n < length tests → WordIs (λ place. In (get_or tests n []) (first + place) × (place < tokens)) at word) → (length tests ≤ n → word ≡ 0)
      → WordIs (λ place. (place < told_tokens tables text) × HoldsAt tables (test_at expr n) (first_place tables text + place)) at word
  holds_stand n at word some none = elim (cases_lt n (length tests)) [
    | inl lt ↦
        let is = s.tests_are n lt in
        other_name (λ place. In (get_or tests n []) (first + place) × (place < tokens)) (λ place. (place < told_tokens tables text) × HoldsAt tables (test_at expr n) (first_place tables text + place)) at word (some lt)
        (λ k p. (omega (arith, p.1, s.tokens_is), subst (λ (f : ℕ). HoldsAt tables (test_at expr n) (f + k)) s.first_is (is.places.sound (first + k) p.0).1))
        (λ k p.
        let low : first + k < token_count tables = omega (arith, place_low tables text k s.there p.0, s.first_is) in
        (is.places.complete (first + k) (low, subst (λ (f : ℕ). HoldsAt tables (test_at expr n) (f + k)) (sym s.first_is) p.1) (omega (arith, low, is.width)), omega (arith, p.0, s.tokens_is)))
    | inr past ↦
        subst (WordIs (λ place. (place < told_tokens tables text) × HoldsAt tables (test_at expr n) (first_place tables text + place)) at) (sym (none past))
        (none_there (λ place. (place < told_tokens tables text) × HoldsAt tables (test_at expr n) (first_place tables text + place)) at (λ k l p. no_test n (first_place tables text + k) past p.1))
  ]

  -- behind the last tag there is no instance
  pub no_lies : (n : ℕ) (test : q.Test) (begin end : ℕ) → length rows ≤ n → IsToldInstance tables text (tag_at tables expr n).kind test begin end → ⊥
  no_lies n test begin end past told =
      let e : (tag_at tables expr n).kind ≡ length tables.structs = ap (λ (t : contents.Tag). t.kind) (get_or_past (contents.tags expr) n (no_tag tables) (omega (arith, past, s.rows_count))) in
      let none : (k : ℕ) → get_or {A = List StructSpan} [] k [] ≡ [] = λ k. get_or_past [] k [] (omega arith) in
      no_span (get_or (get_or tables.structs (tag_at tables expr n).kind []) text []) told.span (ap (λ (lists : List (List StructSpan)). get_or lists text []) (get_or_past tables.structs (tag_at tables expr n).kind [] (omega (arith, e))) ∙ none text) told.there

  no_rows : TagRows
  no_rows = record { from = 0; to = 0; begins = []; ends = []; empty = [] }

  pub begins_stand : InstancesLieInTexts → (n at word : ℕ) → ((d : TagRows) → n < length rows → WordIs (In (get_or rows n d).begins) at word) → (length rows ≤ n → word ≡ 0)
      → WordIs (λ place. (place ≤ told_tokens tables text) × ((end : ℕ) × IsToldInstance tables text (tag_at tables expr n).kind (tag_at tables expr n).test place end)) at word
  begins_stand law n at word some none = elim (cases_lt n (length rows)) [
    | inl lt ↦
        let are = s.rows_are n no_rows lt in
        other_name (In (get_or rows n no_rows).begins) (λ place. (place ≤ told_tokens tables text) × ((end : ℕ) × IsToldInstance tables text (tag_at tables expr n).kind (tag_at tables expr n).test place end)) at word (some no_rows lt)
        (λ k i.
        let p = are.begins.sound k i in
        let r = inside law tables s.valid text (tag_at tables expr n).kind (tag_at tables expr n).test k p.0 p.1 in
        (omega (arith, r.0, r.1), p))
        (λ k p. are.begins.complete k p.1 (omega (arith, p.0, are.begins_width)))
    | inr past ↦
        subst (WordIs (λ place. (place ≤ told_tokens tables text) × ((end : ℕ) × IsToldInstance tables text (tag_at tables expr n).kind (tag_at tables expr n).test place end)) at) (sym (none past))
        (none_there (λ place. (place ≤ told_tokens tables text) × ((end : ℕ) × IsToldInstance tables text (tag_at tables expr n).kind (tag_at tables expr n).test place end)) at
        (λ k l p. no_lies n (tag_at tables expr n).test k p.1.0 past p.1.1))
  ]

  pub ends_stand : InstancesLieInTexts → (n at word : ℕ) → ((d : TagRows) → n < length rows → WordIs (In (get_or rows n d).ends) at word) → (length rows ≤ n → word ≡ 0)
      → WordIs (λ place. (place ≤ told_tokens tables text) × ((begin : ℕ) × IsToldInstance tables text (tag_at tables expr n).kind q.Any begin place)) at word
  ends_stand law n at word some none = elim (cases_lt n (length rows)) [
    | inl lt ↦
        let are = s.rows_are n no_rows lt in
        other_name (In (get_or rows n no_rows).ends) (λ place. (place ≤ told_tokens tables text) × ((begin : ℕ) × IsToldInstance tables text (tag_at tables expr n).kind q.Any begin place)) at word (some no_rows lt)
        (λ k i. let p = are.ends.sound k i in ((inside law tables s.valid text (tag_at tables expr n).kind q.Any p.0 k p.1).1, p))
        (λ k p. are.ends.complete k p.1 (omega (arith, p.0, are.ends_width)))
    | inr past ↦
        subst (WordIs (λ place. (place ≤ told_tokens tables text) × ((begin : ℕ) × IsToldInstance tables text (tag_at tables expr n).kind q.Any begin place)) at) (sym (none past))
        (none_there (λ place. (place ≤ told_tokens tables text) × ((begin : ℕ) × IsToldInstance tables text (tag_at tables expr n).kind q.Any begin place)) at (λ k l p. no_lies n q.Any p.1.0 k past p.1.1))
  ]

  pub empty_stand : InstancesLieInTexts → (n at word : ℕ) → ((d : TagRows) → n < length rows → WordIs (In (get_or rows n d).empty) at word) → (length rows ≤ n → word ≡ 0)
      → WordIs (λ place. IsToldInstance tables text (tag_at tables expr n).kind (tag_at tables expr n).test place place) at word
  empty_stand law n at word some none = elim (cases_lt n (length rows)) [
    | inl lt ↦
        let are = s.rows_are n no_rows lt in
        other_name (In (get_or rows n no_rows).empty) (λ place. IsToldInstance tables text (tag_at tables expr n).kind (tag_at tables expr n).test place place) at word (some no_rows lt) are.empty.sound
        (λ k p. are.empty.complete k p (omega (arith, (inside law tables s.valid text (tag_at tables expr n).kind (tag_at tables expr n).test k k p).1, are.empty_width)))
    | inr past ↦
        subst (WordIs (λ place. IsToldInstance tables text (tag_at tables expr n).kind (tag_at tables expr n).test place place) at) (sym (none past))
        (none_there (λ place. IsToldInstance tables text (tag_at tables expr n).kind (tag_at tables expr n).test place place) at (λ k l p. no_lies n (tag_at tables expr n).test k k past p))
  ]

  pub spans_at : (n : ℕ) (item list : List Span) → n < length rows → list ≡ get_or spans n item → AreSpansOf tables (tag_at tables expr n) list
  spans_at n item list l e =
      let within : n < length spans = omega (arith, l, s.rows_count, s.spans_count) in
      subst (AreSpansOf tables (tag_at tables expr n)) (sym (e ∙ same_item spans n item [] within)) (s.spans_are n within)

  pub few : tokens < 4294967295
  few =
      let by = s.valid.under.by in
      let heads : List ℕ × ℕ → ℕ = λ head. head.1 in
      let next = next_first tables text s.there in
      let a = sum-map heads (take (text + 1) tables.texts) in
      let b = sum-map heads tables.texts in
      let c = sum_by-take-le heads tables.texts (text + 1) in
      omega (arith, next, a, b, c, tokens_are by.corpus tables by.are.texts, by.texts.short, s.tokens_is)

  pub goes_on : InstancesLieInTexts → (kind : ℕ) (test : q.Test) (begin end : ℕ) → IsToldInstance tables text kind test begin end → GoesOn (told tables text) begin end
  goes_on law kind test begin end is =
      let p = inside law tables s.valid text kind test begin end is in
      record { begins = inl (omega (arith, p.0, p.1)); ends = inl p.1; onward = λ _. p.0 }

  pub is_longer : InstancesLieInTexts → (n : ℕ) (list : List Span) (at end : ℕ) → AreSpansOf tables (tag_at tables expr n) list → IsLongerAt list text at end
      → Longer (seen_of (record { tables = tables; text = text; expr = expr })) n at end
  is_longer law n list at end are l =
      let told = (are.only (record { text = text; begin = at; end = end }) l.there).1 in
      record { some = l.some; within = (inside law tables s.valid text (tag_at tables expr n).kind (tag_at tables expr n).test at end told).1; lies = told }

  pub some_longer : InstancesLieInTexts → (n : ℕ) (list : List Span) (at : ℕ) (found : Option ℕ) → AreSpansOf tables (tag_at tables expr n) list → IfSome found (λ end. IsLongerAt list text at end)
      → IfSome found (λ end. Longer (seen_of (record { tables = tables; text = text; expr = expr })) n at end)
  some_longer law n list at None are l = tt
  some_longer law n list at (Some end) are l = is_longer law n list at end are l

  pub only_longer : InstancesLieInTexts → (n : ℕ) (list : List Span) (at : ℕ) (found : Option ℕ) → AreSpansOf tables (tag_at tables expr n) list → IfSome found (λ end. IsLongerAt list text at end)
      → IfNone found ((end : ℕ) → IsLongerAt list text at end → ⊥) → (end : ℕ) → Longer (seen_of (record { tables = tables; text = text; expr = expr })) n at end → found ≡ Some end
  only_longer law n list at None are some none end l = absurd (none end (record { some = l.some; there = are.each (record { text = text; begin = at; end = end }) (s.there, l.lies) }))
  only_longer law n list at (Some other) are some none end l =
      let told = (are.only (record { text = text; begin = at; end = other }) some.there).1 in
      ap Some (same_end law tables s.valid text (tag_at tables expr n).kind (tag_at tables expr n).test (tag_at tables expr n).test at other end told l.lies some.some l.some)
