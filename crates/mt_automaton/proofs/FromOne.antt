-- What begins at one place.
use Rattle.std.proofs.Common.{◌≡◌, ℕ, ◌+◌, ◌/◌, ◌<◌, ◌≤◌, List, [], ◌∷◌, length, replicate, refl, sym, ◌∙◌, ap, subst, inl, inr, arith}
use Rattle.std.proofs.lemmas.Bool.{cases_lt}
use Rattle.mt_text_spec.specs.Texts.{Row, unset}
use Rattle.mt_text_spec.specs.Orders.{row_cmp}
use Rattle.mt_match_spec.specs.Matches as m
use Rattle.mt_match_spec.specs.Labels.{no_labels, united}
use Rattle.mt_match_spec.specs.Rows.{ListsAll}
use Rattle.mt_places.specs.Places.{In, HasJust}
use Rattle.mt_rows.specs.Appends.{Appends, HasMore}
use Rattle.mt_automaton.specs.declared.part.Part.{Part}
use Rattle.mt_automaton.specs.declared.labelled.Labelled.{Labelled}
use Rattle.mt_automaton.specs.declared.groups.Group.{Group}
use Rattle.mt_automaton.specs.Parts.{Seen, PartMatches, meant, width}
use Rattle.mt_automaton.specs.LabelledParts.{labelled_meant}
use Rattle.mt_automaton.specs.Ways.{Image}
use Rattle.mt_automaton.specs.Groups.{AddsRows, Leads}
use Rattle.mt_automaton.specs.RowsFrom.{IsRowFrom, EndsIn, IsGroupRow, AreEnds, AreGroups}
use Rattle.mt_automaton.proofs.Bits.{in_room}
use Rattle.mt_automaton.proofs.Listed.{nothing_sorted, in_none}
use Rattle.mt_automaton.proofs.Bare.{bare_part}
use Rattle.mt_automaton.proofs.Unions.{labels_are_nine}

-- ## The same rows by another name

pub lists_renamed : (P Q : Row → Type 0) (rows : List Row) → ((row : Row) → P row → Q row) → ((row : Row) → Q row → P row) → ListsAll row_cmp P rows → ListsAll row_cmp Q rows
lists_renamed P Q rows to back h = record { ascending = h.ascending; only = λ x c. to x (h.only x c); each = λ x q. h.each x (back x q) }

pub appends_renamed : (P Q : Row → Type 0) (room : ℕ) (old new : List Row) → ((row : Row) → P row → Q row) → ((row : Row) → Q row → P row) → Appends P room old new → Appends Q room old new
appends_renamed P Q room old new to back h = record { rows = h.rows; are = lists_renamed P Q h.rows to back h.are; within = h.within; appended = h.appended }

pub more_renamed : (P Q : Row → Type 0) (room : ℕ) → ((row : Row) → P row → Q row) → ((row : Row) → Q row → P row) → HasMore P room → HasMore Q room
more_renamed P Q room to back h = record { rows = h.rows; are = lists_renamed P Q h.rows to back h.are; more = h.more }

-- ## A part without labels

pub are_ends : (v : Seen) (part : Part) (begin last : ℕ) (one found kept : List ℕ) → last ≡ v.text.tokens → begin < v.text.tokens → length one ≡ last / 64 + 1 → HasJust (λ k. k ≡ begin) one
    → Image (PartMatches v part) one found → length kept ≡ length found → HasJust (λ k. In found k × (k < last + 1)) kept → AreEnds v part begin kept
are_ends v part begin last one found kept e inside wide only i same just = record {
  inside = λ f h. let s = just.sound f h in omega (arith, s.1, e);
  sound = λ f h. let s = just.sound f h in let r = i.sound f s.0 in subst (λ b. PartMatches v part b f) (only.sound r.0 r.1) r.2;
  complete = λ f low h.
      let there : In found f = i.complete begin f (only.complete begin refl (omega (arith, inside, wide, e))) h (omega (arith, low, wide, e)) in
      let lt = in_room found f there in
      just.complete f (there, omega (arith, low, e)) (omega (arith, lt, same));
}

pub plain_row : (v : Seen) (part : Part) (text begin : ℕ) (set : List ℕ) → AreEnds v part begin set → (row : Row) → EndsIn set no_labels text begin row → IsRowFrom v.text (meant v part) text begin row
plain_row v part text begin set a row r = record {
  text_is = r.text_is;
  begin_is = r.begin_is;
  some = r.some;
  inside = a.inside row.span.end r.is_in;
  matches = subst (λ l. m.Matches v.text (meant v part) begin row.span.end l) (sym r.labels_are) (a.sound row.span.end r.is_in);
}

pub plain_row_back : (v : Seen) (part : Part) (text begin : ℕ) (set : List ℕ) → AreEnds v part begin set → (row : Row) → IsRowFrom v.text (meant v part) text begin row → EndsIn set no_labels text begin row
plain_row_back v part text begin set a row r =
    let none : row.labels ≡ no_labels = bare_part v part begin row.span.end row.labels r.matches in
    record {
      text_is = r.text_is;
      begin_is = r.begin_is;
      labels_are = none;
      some = r.some;
      is_in = a.complete row.span.end r.inside (subst (λ l. m.Matches v.text (meant v part) begin row.span.end l) none r.matches);
    }

-- ## A part with labels

none_first : (l : List ℕ) → united (replicate (length l) unset) l ≡ l
none_first [] = refl
none_first (x ∷ l) = ap (λ xs. x ∷ xs) (none_first l)

nine_first : (l : List ℕ) → length l ≡ 9 → united no_labels l ≡ l
nine_first l e = ap (λ n. united (replicate n unset) l) (sym e) ∙ none_first l

pub are_groups : (v : Seen) (part : Labelled) (begin last : ℕ) (one allowed : List ℕ) (groups : List Group) → last ≡ v.text.tokens → begin < v.text.tokens → length one ≡ last / 64 + 1 → HasJust (λ k. k ≡ begin) one
    → length allowed ≡ last / 64 + 1 → HasJust (λ k. (k < last + 1) × (k < begin + 1 → ⊥)) allowed → AddsRows (width v) (λ l f. Leads v part one allowed no_labels l f) [] groups → AreGroups v part begin groups
are_groups v part begin last one allowed groups e inside wide only wide_allowed behind a = record {
  fine = a.fine;
  sound = λ l f r. elim (a.sound l f r) [
    | inl was ↦ absurd (omega (arith, was.within))
    | inr x ↦
        let s = behind.sound f x.is_allowed in
        let same : x.labels ≡ l = sym (x.unite ∙ nine_first x.labels (labels_are_nine v part x.begin f x.labels x.matches)) in
        let here : x.begin ≡ begin = only.sound x.begin x.begins in
        record {
          some = elim (cases_lt f (begin + 1)) [ inl low ↦ absurd (s.1 low) | inr on ↦ omega (arith, on) ];
          inside = omega (arith, s.0, e);
          matches = subst (λ b. m.Matches v.text (labelled_meant v part) b f l) here (subst (λ k. m.Matches v.text (labelled_meant v part) x.begin f k) same x.matches);
        }
  ];
  complete = λ l f p. a.complete l f (record {
    is_allowed = behind.complete f (omega (arith, p.inside, e), λ low. omega (arith, low, p.some)) (omega (arith, p.inside, wide_allowed, e));
    begin = begin;
    begins = only.complete begin refl (omega (arith, inside, wide, e));
    labels = l;
    matches = p.matches;
    unite = sym (nine_first l (labels_are_nine v part begin f l p.matches));
  });
}

pub group_row : (v : Seen) (part : Labelled) (text begin : ℕ) (groups : List Group) → AreGroups v part begin groups → (row : Row) → IsGroupRow groups text begin row
    → IsRowFrom v.text (labelled_meant v part) text begin row
group_row v part text begin groups a row r =
    let s = a.sound row.labels row.span.end r.is_row in
    record { text_is = r.text_is; begin_is = r.begin_is; some = r.some; inside = s.inside; matches = s.matches }

pub group_row_back : (v : Seen) (part : Labelled) (text begin : ℕ) (groups : List Group) → AreGroups v part begin groups → (row : Row) → IsRowFrom v.text (labelled_meant v part) text begin row
    → IsGroupRow groups text begin row
group_row_back v part text begin groups a row r = record {
  text_is = r.text_is;
  begin_is = r.begin_is;
  some = r.some;
  is_row = a.complete row.labels row.span.end (record { some = r.some; inside = r.inside; matches = r.matches });
}

-- ## No row

pub no_row : (v : Seen) (part : Labelled) (text begin room : ℕ) (old : List Row) → v.text.tokens ≤ begin → ListsAll row_cmp (IsRowFrom v.text (labelled_meant v part) text begin) []
no_row v part text begin room old past = record {
  ascending = nothing_sorted row_cmp;
  only = λ x h. absurd (in_none x h);
  each = λ x r. absurd (omega (arith, r.some, r.inside, past));
}
