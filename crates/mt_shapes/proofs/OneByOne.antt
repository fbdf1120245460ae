-- Rows of which one at most begins at each place, one begin after another.
use Rattle.std.proofs.Common.{◌≡◌, ℕ, ◌+◌, ◌<◌, ◌≤◌, Option, None, Some, List, [], ◌∷◌, ◌++◌, length, refl, sym, ◌∙◌, ap, subst, inl, inr, arith}
use Rattle.std.specs.declared.cmp.Ordering.TheVariants.{Less}
use Rattle.std.specs.List.{Contains}
use Rattle.std.proofs.lemmas.Bool.{cases_lt}
use Rattle.std.proofs.lemmas.List.{length-append, append_assoc}
use Rattle.std.proofs.lemmas.List.Elements.{Contains-append_left, Contains-append_right, Contains-append_cases}
use Rattle.mt_text_spec.specs.Texts.{Row}
use Rattle.mt_text_spec.specs.Orders.{row_cmp}
use Rattle.mt_match_spec.specs.Labels.{no_labels}
use Rattle.mt_match_spec.specs.Rows.{ListsAll}
use Rattle.mt_rows.specs.Appends.{Appends}
use Rattle.mt_automaton.specs.Parts.{Seen, Longer, meant}
use Rattle.mt_automaton.specs.declared.part.Part.TheVariants.{Whole}
use Rattle.mt_automaton.specs.RowsFrom.{IsRowOfText, HasLonger}
use Rattle.mt_shapes.specs.Tables.{BeginsAt}
use Rattle.mt_shapes.proofs.Listed.{sorted_append, one_sorted, in_one, begins_before, nothing_there}

-- a row of P that begins below n
pub record Below (P : Row → Type 0) (n : ℕ) (row : Row) : Type 0 where
  pub is : P row
  pub below : row.span.begin < n

-- no row of P begins from one place on and before another
abbrev pub HasGap : (P : Row → Type 0) (from at : ℕ) → Type 0
HasGap P from at = (row : Row) → P row → from ≤ row.span.begin → row.span.begin < at → ⊥

-- the rows of P are those of one text
abbrev pub AreOfText : (P : Row → Type 0) (text : ℕ) → Type 0
AreOfText P text = (row : Row) → P row → row.span.text ≡ text

pub none_yet : (P : Row → Type 0) (room : ℕ) (old : List Row) → Appends (Below P 0) room old old
none_yet P room old = nothing_there (Below P 0) room old old (λ row r. let low = r.below in omega (arith, low)) refl

behind : (P : Row → Type 0) (text from at : ℕ) (rows more : List Row) → AreOfText P text → from ≤ at → ListsAll row_cmp (Below P from) rows → ((x : Row) → Contains more x → BeginsAt P at x) → (x y : Row) → Contains rows x → Contains more y → row_cmp x y ≡ Less
behind P text from at rows more texts low a b x y c d =
    let p = a.only x c in
    let r = b y d in
    let h = p.below in
    let here = r.here in
    begins_before x y (texts x p.is ∙ sym (texts y r.is)) (omega (arith, h, here, low))

pub next_begin : (P : Row → Type 0) (text room left from at : ℕ) (old mid new : List Row) → AreOfText P text → from ≤ at → HasGap P from at → length mid + left ≡ length old + room
    → Appends (Below P from) room old mid → Appends (BeginsAt P at) left mid new → Appends (Below P (at + 1)) room old new
next_begin P text room left from at old mid new texts low gap count a b =
    let many : length mid ≡ length old + length a.rows = ap length a.appended ∙ length-append old a.rows in
    let longer : length (a.rows ++ b.rows) ≡ length a.rows + length b.rows = length-append a.rows b.rows in
    let fits = b.within in
    record {
      rows = a.rows ++ b.rows;
      are = record {
        ascending = sorted_append row_cmp a.rows b.rows a.are.ascending b.are.ascending (behind P text from at a.rows b.rows texts low a.are b.are.only);
        only = λ x c. elim (Contains-append_cases a.rows b.rows x c) [
          | inl was ↦ let p = a.are.only x was in record { is = p.is; below = let h = p.below in omega (arith, h, low) }
          | inr now ↦ let r = b.are.only x now in record { is = r.is; below = let h = r.here in omega (arith, h) }
        ];
        each = λ x p. elim (cases_lt x.span.begin from) [
          | inl before ↦ Contains-append_left a.rows b.rows x (a.are.each x (record { is = p.is; below = before }))
          | inr on ↦ elim (cases_lt x.span.begin at) [
            | inl skipped ↦ absurd (gap x p.is on skipped)
            | inr late ↦ let h = p.below in Contains-append_right a.rows b.rows x (b.are.each x (record { is = p.is; here = omega (arith, late, h) }))
          ]
        ];
      };
      within = omega (arith, longer, many, count, fits);
      appended = b.appended ∙ ap (λ (k : List Row). k ++ b.rows) a.appended ∙ append_assoc old a.rows b.rows;
    }

pub more_than_room : (P : Row → Type 0) (text room left from at : ℕ) (old mid : List Row) → AreOfText P text → from ≤ at → length mid + left ≡ length old + room → Appends (Below P from) room old mid → HasLonger (BeginsAt P at) left → HasLonger P room
more_than_room P text room left from at old mid texts low count a h =
    let many : length mid ≡ length old + length a.rows = ap length a.appended ∙ length-append old a.rows in
    let longer : length (a.rows ++ h.rows) ≡ length a.rows + length h.rows = length-append a.rows h.rows in
    let over = h.more in
    record {
      rows = a.rows ++ h.rows;
      ascending = sorted_append row_cmp a.rows h.rows a.are.ascending h.ascending (behind P text from at a.rows h.rows texts low a.are h.only);
      only = λ x c. elim (Contains-append_cases a.rows h.rows x c) [ inl was ↦ (a.are.only x was).is | inr now ↦ (h.only x now).is ];
      more = omega (arith, longer, many, count, over);
    }

pub all_there : (P : Row → Type 0) (room from : ℕ) (old new : List Row) → ((row : Row) → P row → from ≤ row.span.begin → ⊥) → Appends (Below P from) room old new → Appends P room old new
all_there P room from old new none a = record {
  rows = a.rows;
  are = record {
    ascending = a.are.ascending;
    only = λ x c. (a.are.only x c).is;
    each = λ x p. elim (cases_lt x.span.begin from) [ inl before ↦ a.are.each x (record { is = p; below = before }) | inr on ↦ absurd (none x p on) ];
  };
  within = a.within;
  appended = a.appended;
}

-- ## Instances of a tag

-- a row of an instance of a tag in a text
abbrev pub IsInstance : (v : Seen) (tag text : ℕ) → Row → Type 0
IsInstance v tag text = IsRowOfText v.text (meant v (Whole tag)) text

pub of_one_text : (v : Seen) (tag text : ℕ) → AreOfText (IsInstance v tag text) text
of_one_text v tag text row r = r.text_is

-- the instance of a row has a token
pub longer_of : (v : Seen) (tag text : ℕ) (row : Row) → IsInstance v tag text row → Longer v tag row.span.begin row.span.end
longer_of v tag text row r = record { some = r.some; within = r.inside; lies = r.matches.lies }

-- the row of the instance that begins at a place
abbrev pub instance_row : (text at end : ℕ) → Row
instance_row text at end = record { span = record { text = text; begin = at; end = end }; labels = no_labels }

pub is_instance : (v : Seen) (tag text at end : ℕ) → Longer v tag at end → BeginsAt (IsInstance v tag text) at (instance_row text at end)
is_instance v tag text at end longer =
    let some = longer.some in
    let far = longer.within in
    record { is = record { text_is = refl; some = some; inside = far; matches = record { lies = longer.lies; labels_are = refl } }; here = refl }

-- what a view answers is so of each row that begins there
found_of : (v : Seen) (tag text at : ℕ) (found : Option ℕ) → ((e : ℕ) → Longer v tag at e → found ≡ Some e) → (x : Row) → BeginsAt (IsInstance v tag text) at x → found ≡ Some x.span.end
found_of v tag text at found only x r = only x.span.end (subst (λ b. Longer v tag b x.span.end) r.here (longer_of v tag text x r.is))

pub none_here : (v : Seen) (tag text at : ℕ) (found : Option ℕ) → found ≡ None → ((e : ℕ) → Longer v tag at e → found ≡ Some e) → (x : Row) → BeginsAt (IsInstance v tag text) at x → ⊥
none_here v tag text at found is only x r =
    let one : ◌≡◌ {A = Option ℕ} None (Some x.span.end) = sym is ∙ found_of v tag text at found only x r in
    let never : ⊥ = cc in never

only_here : (v : Seen) (tag text at end : ℕ) (found : Option ℕ) → found ≡ Some end → ((e : ℕ) → Longer v tag at e → found ≡ Some e) → (x : Row) → BeginsAt (IsInstance v tag text) at x → x ≡ instance_row text at end
only_here v tag text at end found is only x r =
    let one : ◌≡◌ {A = Option ℕ} (Some x.span.end) (Some end) = sym (found_of v tag text at found only x r) ∙ is in
    let same : x.span.end ≡ end = cc in
    let texts = r.is.text_is in
    let here = r.here in
    let labels = r.is.matches.labels_are in
    λ i. record { span = record { text = texts i; begin = here i; end = same i }; labels = labels i }

pub one_here : (v : Seen) (tag text at end room : ℕ) (found : Option ℕ) (old new : List Row) → 0 < room → found ≡ Some end → Longer v tag at end → ((e : ℕ) → Longer v tag at e → found ≡ Some e) → new ≡ old ++ instance_row text at end ∷ []
    → Appends (BeginsAt (IsInstance v tag text) at) room old new
one_here v tag text at end room found old new free is longer only pushed = record {
  rows = instance_row text at end ∷ [];
  are = record {
    ascending = one_sorted row_cmp (instance_row text at end);
    only = λ x c. subst (BeginsAt (IsInstance v tag text) at) (sym (in_one (instance_row text at end) x c)) (is_instance v tag text at end longer);
    each = λ x r. (0, omega arith, sym (only_here v tag text at end found is only x r));
  };
  within = omega (arith, free);
  appended = pushed;
}

pub no_room_here : (v : Seen) (tag text at end room : ℕ) → room ≡ 0 → Longer v tag at end → HasLonger (BeginsAt (IsInstance v tag text) at) room
no_room_here v tag text at end room none longer = record {
  rows = instance_row text at end ∷ [];
  ascending = one_sorted row_cmp (instance_row text at end);
  only = λ x c. subst (BeginsAt (IsInstance v tag text) at) (sym (in_one (instance_row text at end) x c)) (is_instance v tag text at end longer);
  more = omega (arith, none);
}
