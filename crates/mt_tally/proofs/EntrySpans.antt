-- How many spans of entries are new.
use Rattle.std.proofs.Common.{◌≡◌, ◌≢◌, ℕ, zero, suc, ◌+◌, take, slice_get, Some, ◌<◌, ◌≤◌, ◌⊎◌, inl, inr, List, [], ◌∷◌, length, refl, sym, ◌∙◌, ap, subst, arith}
use Rattle.std.specs.List.{All, AllByRecursion}
use Rattle.std.specs.declared.cmp.Ordering.TheVariants.{Greater}
use Rattle.std.specs.Ordering.{nat_cmp, ordering_then}
use Rattle.std.specs.Cmp.{nat_cmp_is}
use Rattle.std.specs.Cmp.Lexicographic.{slice_cmp}
use Rattle.std.proofs.lemmas.List.Sums.{sum-map, sum_by_more}
use Rattle.std.proofs.lemmas.Option.{same_Some}
use Rattle.std.proofs.lemmas.Bool.{cases_lt, cases_eq}
use Rattle.mt_text_spec.specs.Texts.{Row, Span, unset}
use Rattle.mt_text_spec.specs.Queries.{Cond}
use Rattle.mt_places.specs.Places.{In, HasJust, bit, room}
use Rattle.mt_match_spec.specs.Labels.{IsSetTo}
use Rattle.mt_segment_spec.specs.Tables.{Tables, first_place, token_count}
use Rattle.mt_eval_spec.specs.Told.{told_tokens}
use Rattle.mt_eval_spec.specs.RowsIn.{MeetsIn}
use Rattle.mt_shapes.specs.declared.shape.Shape.{Shape}
use Rattle.mt_shapes.specs.declared.table.Entry.{Entry}
use Rattle.mt_shapes.specs.Shapes.{row_of, IsWithin}
use Rattle.mt_shapes.specs.Tables.{entry, Before, Fine, IsRowOf}
use Rattle.mt_shapes.proofs.Bits.{in_room}
use Rattle.mt_tally.specs.Counts.{CountsBelow, HasCount, IsAmong}
use Rattle.mt_tally.specs.Tallies.{HasLabelsFrom, HasLabelsInside, HasSeen, IsFresh, IsSpanMet, IsSpanOfEntry, IsSpanUpto, span_at}
use Rattle.mt_tally.proofs.MetBegins.{set_there}
use Rattle.mt_tally.proofs.EntryRows.{of_entry, to_all}
use Rattle.mt_tally.proofs.Counting.{alike, either, image, no_more, none_of, numbers, IsImage}

-- a shape that comes first is no longer
shorter : (s t : Shape) → Before s t → s.length ≤ t.length
shorter s t less = elim (cases_lt t.length s.length) [
  | inl longer ↦
      let order = nat_cmp_is s.length t.length Greater longer in
      let again = ap (λ o. ordering_then o (slice_cmp nat_cmp s.labels t.labels)) order ∙ less in
      cc
  | inr fine ↦ fine
]

-- a place is in a set or not
in_or_not : (set : List ℕ) (b : ℕ) → In set b ⊎ (¬ In set b)
in_or_not set b = cases_eq (bit set b) 1

same_or_not : (a b : Span) → (a ≡ b) ⊎ (a ≡ b → ⊥)
same_or_not a b = elim (cases_eq a.text b.text) [
  | inr ne ↦ inr (λ e. ne (ap (λ (x : Span). x.text) e))
  | inl t ↦ elim (cases_eq a.begin b.begin) [
    | inr ne ↦ inr (λ e. ne (ap (λ (x : Span). x.begin) e))
    | inl u ↦ elim (cases_eq a.end b.end) [
      | inr ne ↦ inr (λ e. ne (ap (λ (x : Span). x.end) e))
      | inl v ↦ inl (λ i. record { text = t i; begin = u i; end = v i })
    ]
  ]
]

member_or_not : (a : Span) (spans : List Span) → IsAmong a spans ⊎ (IsAmong a spans → ⊥)
member_or_not a [] = inr (λ m. m)
member_or_not a (b ∷ spans) = elim (same_or_not a b) [
  | inl e ↦ inl (inl e)
  | inr ne ↦ elim (member_or_not a spans) [ inl m ↦ inl (inr m) | inr never ↦ inr (λ m. elim m [ inl e ↦ ne e | inr n ↦ never n ]) ]
]

module _ (tables : Tables) (conds : List Cond) (entries : List Entry) (text : ℕ) where
  -- ## What is seen

  pub nothing_seen : (seen : List ℕ) → ((b : ℕ) → ¬ In seen b) → HasSeen tables conds entries text 0 0 seen
  nothing_seen seen never = record {
    sound = λ b i. absurd (never b i);
    complete = λ b s. let low = s.below in absurd (omega (arith, low));
    past = λ i l. absurd (omega (arith, l));
    ahead = λ i l h. omega arith;
  }

  longer_upto : (n : ℕ) (span : Span) → IsSpanUpto tables conds entries text n span → IsSpanUpto tables conds entries text (n + 1) span
  longer_upto n span s = let low = s.below in record { at = s.at; below = omega (arith, low); is = s.is }

  at_n : (n : ℕ) (span : Span) → IsSpanOfEntry tables conds (entry entries n) text span → IsSpanUpto tables conds entries text (n + 1) span
  at_n n span s = record { at = n; below = omega arith; is = s }

  before_or_at : (n : ℕ) (span : Span) → IsSpanUpto tables conds entries text (n + 1) span → IsSpanUpto tables conds entries text n span ⊎ IsSpanOfEntry tables conds (entry entries n) text span
  before_or_at n span s = elim (cases_eq s.at n) [
    | inl here ↦ inr (subst (λ (k : ℕ). IsSpanOfEntry tables conds (entry entries k) text span) here s.is)
    | inr other ↦ let low = s.below in inl (record { at = s.at; below = omega (arith, low, other); is = s.is })
  ]

  -- an entry without a token has no span
  pub none_new : (n : ℕ) → (entry entries n).shape.length ≡ 0 → HasCount (IsFresh tables conds entries text n) 0
  none_new n empty = none_of (IsFresh tables conds entries text n) (λ span f. let some = f.is.some in omega (arith, some, empty))

  pub none_more : (n tokens : ℕ) (seen : List ℕ) → (entry entries n).shape.length ≡ 0 → HasSeen tables conds entries text n tokens seen → HasSeen tables conds entries text (n + 1) tokens seen
  none_more n tokens seen empty h = record {
    sound = λ b i. longer_upto n (span_at text b tokens) (h.sound b i);
    complete = λ b s. elim (before_or_at n (span_at text b tokens) s) [ inl was ↦ h.complete b was | inr now ↦ let some = now.some in absurd (omega (arith, some, empty)) ];
    past = λ i l. elim (cases_eq i n) [
      | inl here ↦ let e = ap (λ (k : ℕ). (entry entries k).shape.length) here in omega (arith, e, empty)
      | inr other ↦ h.past i (omega (arith, l, other))
    ];
    ahead = λ i l high. h.ahead i (omega (arith, l)) high;
  }

  -- the set turns to spans of the next entry's length
  pub turned : (tokens n : ℕ) (old new : List ℕ) (last : ℕ) → Fine last entries → n < length entries → (let next = (entry entries n).shape.length in next ≡ tokens → new ≡ old) → (((entry entries n).shape.length ≡ tokens → ⊥) → (b : ℕ) → ¬ In new b) →
      HasSeen tables conds entries text n tokens old → HasSeen tables conds entries text n (entry entries n).shape.length new
  turned tokens n old new last fine low same none h =
      let next = (entry entries n).shape.length in
      let grows : tokens ≤ next = h.ahead n (omega arith) low in
      let past : (i : ℕ) → i < n → (entry entries i).shape.length ≤ next = λ i l. let p = h.past i l in omega (arith, p, grows) in
      let ahead : (i : ℕ) → n ≤ i → i < length entries → next ≤ (entry entries i).shape.length = λ i l high. elim (cases_eq n i) [
        | inl here ↦ let e = ap (λ (k : ℕ). (entry entries k).shape.length) here in omega (arith, e)
        | inr other ↦ shorter (entry entries n).shape (entry entries i).shape (fine.ascending n i (omega (arith, l, other)) high)
      ] in
      elim (cases_eq next tokens) [
        | inl e ↦ record {
          sound = λ b i. subst (λ (k : ℕ). IsSpanUpto tables conds entries text n (span_at text b k)) (sym e) (h.sound b (subst (λ (s : List ℕ). In s b) (same e) i));
          complete = λ b s. subst (λ (x : List ℕ). In x b) (sym (same e)) (h.complete b (subst (λ (k : ℕ). IsSpanUpto tables conds entries text n (span_at text b k)) e s));
          past = past;
          ahead = ahead;
        }
        | inr ne ↦ record {
          sound = λ b i. absurd (none ne b i);
          complete = λ b s.
              let begins = ap (λ (x : Span). x.begin) s.is.span_is in
              let ends = ap (λ (x : Span). x.end) s.is.span_is in
              let p = h.past s.at s.below in
              absurd (omega (arith, begins, ends, p, grows, ne));
          past = past;
          ahead = ahead;
        }
      ]

  -- ## An entry's spans

  module _ (n last : ℕ) (some : 0 < (entry entries n).shape.length) (low : n < length entries) (seen met fresh after : List ℕ) (wide : length met ≡ length (entry entries n).begins) (cut : length fresh ≡ length met) (added : length after ≡ length seen)
      (seen_wide : length seen ≡ length (entry entries n).begins) (is_met : HasJust (λ b. In (entry entries n).begins b × All (MeetsIn tables (row_of (entry entries n).shape text b)) conds) met) (is_fresh : HasJust (λ b. In met b × (¬ In seen b)) fresh)
      (is_after : HasJust (λ b. In seen b ⊎ In fresh b) after) (h : HasSeen tables conds entries text n (entry entries n).shape.length seen) where
    abbrev at : ℕ → Span
    at b = span_at text b (entry entries n).shape.length

    of_fresh : (b : ℕ) → In fresh b → IsSpanOfEntry tables conds (entry entries n) text (at b)
    of_fresh b i = let m = is_met.sound b (is_fresh.sound b i).0 in record { some = some; begin = b; is_in = m.0; meets = m.1; span_is = refl }

    to_fresh : (b : ℕ) → In (entry entries n).begins b → All (MeetsIn tables (row_of (entry entries n).shape text b)) conds → (¬ In seen b) → In fresh b
    to_fresh b i m new =
        let inside = in_room (entry entries n).begins b i in
        is_fresh.complete b (is_met.complete b (i, m) (omega (arith, inside, wide)), new) (omega (arith, inside, wide, cut))

    pub all_seen : HasSeen tables conds entries text (n + 1) (entry entries n).shape.length after
    all_seen = record {
      sound = λ b i. elim (is_after.sound b i) [ inl was ↦ longer_upto n (at b) (h.sound b was) | inr now ↦ at_n n (at b) (of_fresh b now) ];
      complete = λ b s. elim (before_or_at n (at b) s) [
        | inl was ↦ let i = h.complete b was in let inside = in_room seen b i in is_after.complete b (inl i) (omega (arith, inside, added))
        | inr now ↦
            let here : b ≡ now.begin = ap (λ (x : Span). x.begin) now.span_is in
            let i : In (entry entries n).begins b = subst (In (entry entries n).begins) (sym here) now.is_in in
            let m : All (MeetsIn tables (row_of (entry entries n).shape text b)) conds = subst (λ (k : ℕ). All (MeetsIn tables (row_of (entry entries n).shape text k)) conds) (sym here) now.meets in
            let inside = in_room (entry entries n).begins b i in
            elim (in_or_not seen b) [
              | inl was ↦ is_after.complete b (inl was) (omega (arith, inside, seen_wide, added))
              | inr new ↦ is_after.complete b (inr (to_fresh b i m new)) (omega (arith, inside, seen_wide, added))
            ]
      ];
      past = λ i l. elim (cases_eq i n) [
        | inl here ↦ let e = ap (λ (k : ℕ). (entry entries k).shape.length) here in omega (arith, e)
        | inr other ↦ h.past i (omega (arith, l, other))
      ];
      ahead = λ i l high. h.ahead i (omega (arith, l)) high;
    }

    pub new_spans : (count : ℕ) → CountsBelow (room fresh) (In fresh) count → HasCount (IsFresh tables conds entries text n) count
    new_spans count c =
        alike (IsImage (λ (b : ℕ). at b) (λ k. (k < room fresh) × In fresh k)) (IsFresh tables conds entries text n) count
        (λ span r. record {
          is = subst (IsSpanOfEntry tables conds (entry entries n) text) (sym r.same) (of_fresh r.of r.is.1);
          new = λ was. (is_fresh.sound r.of r.is.1).1 (h.complete r.of (subst (IsSpanUpto tables conds entries text n) r.same was));
        })
        (λ span f.
        let b = f.is.begin in
        let i = to_fresh b f.is.is_in f.is.meets (λ was. f.new (subst (IsSpanUpto tables conds entries text n) (sym f.is.span_is) (h.sound b was))) in
        record { of = b; is = (in_room fresh b i, i); same = f.is.span_is })
        (image (λ (b : ℕ). at b) (λ k. (k < room fresh) × In fresh k) count (λ x z p q same. ap (λ (span : Span). span.begin) same) (numbers (room fresh) (In fresh) count c))

  -- ## All entries

  pub no_spans : HasCount (IsSpanUpto tables conds entries text 0) 0
  no_spans = none_of (IsSpanUpto tables conds entries text 0) (λ span s. let low = s.below in omega (arith, low))

  pub more_spans : (n count more : ℕ) → HasCount (IsSpanUpto tables conds entries text n) count → HasCount (IsFresh tables conds entries text n) more → HasCount (IsSpanUpto tables conds entries text (n + 1)) (count + more)
  more_spans n count more c d =
      alike (λ span. IsSpanUpto tables conds entries text n span ⊎ IsFresh tables conds entries text n span) (IsSpanUpto tables conds entries text (n + 1)) (count + more)
      (λ span h. elim h [ inl was ↦ longer_upto n span was | inr new ↦ at_n n span new.is ])
      (λ span s. elim (before_or_at n span s) [
        | inl was ↦ inl was
        | inr now ↦ elim (member_or_not span c.all) [ inl m ↦ inl (c.only span m) | inr never ↦ inr (record { is = now; new = λ was. never (c.each span was) }) ]
      ])
      (either (IsSpanUpto tables conds entries text n) (IsFresh tables conds entries text n) count more (λ span was new. new.new was) c d)

  -- the spans of rows of the table that meet all conditions
  pub all_spans : (n count : ℕ) → n ≡ length entries → HasCount (IsSpanUpto tables conds entries text n) count → HasCount (IsSpanMet tables conds entries text) count
  all_spans n count end c =
      alike (IsSpanUpto tables conds entries text n) (IsSpanMet tables conds entries text) count
      (λ span s.
      let low = s.below in
      let row = row_of (entry entries s.at).shape text s.is.begin in
      let same : row ≡ record { span = span; labels = row.labels } = ap (λ (x : Span). record { span = x; labels = row.labels }) (sym s.is.span_is) in
      record {
        labels = row.labels;
        is_row = subst (IsRowOf entries text) same (of_entry entries text s.at row (omega (arith, low, end)) (record { some = s.is.some; begin = s.is.begin; is_in = s.is.is_in; row_is = refl }));
        meets = subst (λ (r : Row). All (MeetsIn tables r) conds) same s.is.meets;
      })
      (λ span m.
      let r = to_all entries text n (record { span = span; labels = m.labels }) (omega (arith, end)) m.is_row in
      record {
        at = r.at;
        below = r.below;
        is = record { some = r.is.some; begin = r.is.begin; is_in = r.is.is_in; meets = subst (λ (x : Row). All (MeetsIn tables x) conds) r.is.row_is m.meets; span_is = ap (λ (x : Row). x.span) r.is.row_is };
      }) c

  -- there are no more of them than rows
  pub no_more_spans : (n count rows : ℕ) → n ≤ length entries → HasCount (IsRowOf entries text) rows → HasCount (IsSpanUpto tables conds entries text n) count → count ≤ rows
  no_more_spans n count rows within c d =
      no_more (λ (span : Span) (row : Row). row.span ≡ span) (IsSpanUpto tables conds entries text n) (IsRowOf entries text) count rows d c
      (λ span s.
      let low = s.below in
      let row = row_of (entry entries s.at).shape text s.is.begin in
      record { other = row; is = of_entry entries text s.at row (omega (arith, low, within)) (record { some = s.is.some; begin = s.is.begin; is_in = s.is.is_in; row_is = refl }); goes = sym s.is.span_is })
      (λ x z y e f. sym e ∙ f)

-- ## Labels

within_at : (P : ℕ → Type 0) (labels : List ℕ) (n place : ℕ) → AllByRecursion P labels → slice_get labels n ≡ Some place → P place
within_at P [] n place all e = let f : ⊥ = cc in absurd f
within_at P (x ∷ xs) zero place all e = subst P (same_Some x place e) all.0
within_at P (x ∷ xs) (suc n) place all e = within_at P xs n place all.1 e

set_within : (tokens : ℕ) (labels : List ℕ) (label place : ℕ) → AllByRecursion (IsWithin tokens) labels → IsSetTo labels label place → place ≤ tokens
set_within tokens labels zero place all s = absurd s
set_within tokens labels (suc n) place all s = elim (within_at (IsWithin tokens) labels n place all s.0) [ inl u ↦ absurd (s.1 u) | inr low ↦ low ]

abbrev tokens_in : List ℕ × ℕ → ℕ
tokens_in head = head.1

next_first : (tables : Tables) (text : ℕ) → text < length tables.texts → first_place tables text + told_tokens tables text ≡ first_place tables (text + 1)
next_first tables text l =
    let a = sum-map tokens_in (take text tables.texts) in
    let b = sum-map tokens_in (take (text + 1) tables.texts) in
    let d : List ℕ × ℕ = ([], 0) in
    let c = sum_by_more tokens_in tables.texts text d l in
    omega (arith, a, b, c)

-- the labels of a match of an entry stand at tokens of the segment
pub labels_from : (tables : Tables) (entries : List Entry) (text n first end begin : ℕ) → text < length tables.texts → told_tokens tables text < unset → Fine (told_tokens tables text) entries → HasLabelsInside entries text (told_tokens tables text) → n < length entries →
    0 < (entry entries n).shape.length → first ≡ first_place tables text → end ≡ first_place tables (text + 1) → end ≤ token_count tables → In (entry entries n).begins begin → HasLabelsFrom tables first begin (entry entries n).shape
labels_from tables entries text n first end begin here few fine labels low some is last whole i = λ label place set.
    let suits = fine.suits n low in
    let far = suits.inside begin i in
    let near = set_within (entry entries n).shape.length (entry entries n).shape.labels label place suits.labels set in
    let ne : begin + place ≢ unset = λ e. omega (arith, e, near, far, few) in
    let row = of_entry entries text n (row_of (entry entries n).shape text begin) low (record { some = some; begin = begin; is_in = i; row_is = refl }) in
    let inside = labels (row_of (entry entries n).shape text begin) label (begin + place) row (set_there (entry entries n).shape.labels label place begin set ne) in
    let next = next_first tables text here in
    omega (arith, inside, next, is, last, whole)
