-- What a resolved test says by numbers, and what the test holds of by values.
use Rattle.std.proofs.Common.{ℕ, ◌≡◌, ◌<◌, ◌↔◌, ◌⊎◌, inl, inr, Bool, true, false, List, [], length, slice_get, slice_index_or, Option, Some, None, IfSome, IfNone, sym, ◌∙◌, ap, arith}
use Rattle.std.specs.List.{Contains}
use Rattle.std.specs.Cmp.Lexicographic.{slice_cmp, nat_list_cmp_total}
use Rattle.std.specs.Ordering.{nat_cmp}
use Rattle.std.specs.declared.cmp.Ordering.TheVariants.{Equal}
use Rattle.std.proofs.lemmas.Option.{slice_get-get_or, get_or_from_slice_get, slice_get_within, same_Some, none-some}
use Rattle.std.proofs.lemmas.List.Elements.{Contains-get_or}
use Rattle.std.proofs.lemmas.Cmp.{tied_itself}
use Rattle.std.proofs.lemmas.Bool.{cases_lt}
use Rattle.mt_text_spec.specs.Queries as q
use Rattle.mt_match_spec.specs.Tests.{Unless}
use Rattle.mt_store_spec.specs.Lexicons.{IsBelow, IsAscending}
use Rattle.mt_segment_spec.specs.Tables.{Tables, tables_at, number_at, token_count}
use Rattle.mt_eval_spec.specs.Told.{told_value}
use Rattle.mt_segment_laws.specs.Laws.{AreWhole}
use Rattle.mt_pattern.specs.Plain.{AcceptsJust}
use Rattle.mt_prepare.specs.Asks.{Answers}
use Rattle.mt_prepare.specs.Resolved.{Resolves}
use Rattle.mt_prepare.specs.declared.resolved.Resolved.TheVariants as resolved

-- ## Unless

pub unless_alike : {A B : Type 0} (negated : Bool) → (A ↔ B) → (Unless negated A ↔ Unless negated B)
unless_alike false h = h
unless_alike true h = (λ n b. n (h.1 b), λ n a. n (h.0 a))

-- ## Numbers of values

not_below_itself : (a : List ℕ) → IsBelow a a → ⊥
not_below_itself a h = let e : slice_cmp nat_cmp a a ≡ Equal = tied_itself nat_list_cmp_total a in cc

never : (lexicon : List (List ℕ)) (value : List ℕ) (i j : ℕ) → IsAscending lexicon → i < j → slice_get lexicon i ≡ Some value → slice_get lexicon j ≡ Some value → ⊥
never lexicon value i j up l a b =
    let below : IsBelow (slice_index_or lexicon i []) (slice_index_or lexicon j []) = up i j [] l (slice_get_within lexicon j value b) in
    not_below_itself value (rw (get_or_from_slice_get lexicon i value [] a, get_or_from_slice_get lexicon j value [] b) at below)

-- a value has one number
pub one_number : (lexicon : List (List ℕ)) (value : List ℕ) (i j : ℕ) → IsAscending lexicon → slice_get lexicon i ≡ Some value → slice_get lexicon j ≡ Some value → i ≡ j
one_number lexicon value i j up a b = elim (cases_lt i j) as (λ _. i ≡ j) [
  | inl l ↦ absurd (never lexicon value i j up l a b)
  | inr h ↦ elim (cases_lt j i) as (λ _. i ≡ j) [ inl l ↦ absurd (never lexicon value j i up l b a) | inr k ↦ omega arith ]
]

-- the number is that of the value, just where the value at the number is
pub found_alike : (lexicon : List (List ℕ)) (text : List ℕ) (number : ℕ) (value : List ℕ) (id : Option ℕ) → IsAscending lexicon → slice_get lexicon number ≡ Some value →
    IfSome id (λ id. slice_get lexicon id ≡ Some text) → IfNone id (¬ Contains lexicon text) → ((id ≡ Some number) ↔ (value ≡ text))
found_alike lexicon text number value None up at found none = (
  λ e. absurd (none-some number e),
  λ e. absurd (none (rw e at (rw (get_or_from_slice_get lexicon number value [] at) at (Contains-get_or lexicon number [] (slice_get_within lexicon number value at))))),
)
found_alike lexicon text number value (Some id) up at found none = (
  λ e. let n : id ≡ number = same_Some id number e in same_Some value text (sym at ∙ ap (slice_get lexicon) (sym n) ∙ found),
  λ e. ap Some (one_number lexicon text id number up found (at ∙ ap Some e)),
)

-- ## Tests

-- the value at a place stands in the lexicon, at the number of the place
value_there : (tables : Tables) (attr place : ℕ) → AreWhole tables → attr < length tables.attrs → place < token_count tables →
    slice_get (tables_at tables.attrs attr).lexicon (number_at tables attr place) ≡ Some (told_value tables attr place)
value_there tables attr place whole known l = slice_get-get_or (tables_at tables.attrs attr).lexicon (number_at tables attr place) [] (whole.within attr place known l)

pub pattern_resolved : (tables : Tables) (attr : ℕ) (text : List ℕ) (negated : Bool) (ids : List Bool) → AreWhole tables → attr < length tables.attrs → Answers tables attr text ids →
    Resolves tables (q.Pattern attr text negated) (resolved.Some attr ids negated)
pattern_resolved tables attr text negated ids whole known marks = λ place l.
    unless_alike negated (marks.exactly (number_at tables attr place) (told_value tables attr place) (value_there tables attr place whole known l))

pub number_resolved : (tables : Tables) (attr : ℕ) (text : List ℕ) (negated : Bool) (id : Option ℕ) → AreWhole tables → attr < length tables.attrs → AcceptsJust text (tables_at tables.attrs attr).lexicon id →
    Resolves tables (q.Pattern attr text negated) (resolved.One attr id negated)
number_resolved tables attr text negated id whole known just = λ place l.
    unless_alike negated (just (number_at tables attr place) (told_value tables attr place) (value_there tables attr place whole known l))

pub literal_resolved : (tables : Tables) (attr : ℕ) (text : List ℕ) (negated : Bool) (id : Option ℕ) → AreWhole tables → attr < length tables.attrs → IsAscending (tables_at tables.attrs attr).lexicon →
    IfSome id (λ id. slice_get (tables_at tables.attrs attr).lexicon id ≡ Some text) → IfNone id (¬ Contains (tables_at tables.attrs attr).lexicon text) →
    Resolves tables (q.Literal attr text negated) (resolved.One attr id negated)
literal_resolved tables attr text negated id whole known up found none = λ place l.
    unless_alike negated (found_alike (tables_at tables.attrs attr).lexicon text (number_at tables attr place) (told_value tables attr place) id up (value_there tables attr place whole known l) found none)

pub not_alike : {A B : Type 0} → (A ↔ B) → ((¬ A) ↔ (¬ B))
not_alike h = (λ n b. n (h.1 b), λ n a. n (h.0 a))

pub both_alike : {A B C D : Type 0} → (A ↔ B) → (C ↔ D) → ((A × C) ↔ (B × D))
both_alike g h = (λ p. (g.0 p.0, h.0 p.1), λ p. (g.1 p.0, h.1 p.1))

pub either_alike : {A B C D : Type 0} → (A ↔ B) → (C ↔ D) → ((A ⊎ C) ↔ (B ⊎ D))
either_alike {A} {B} {C} {D} g h = (
  λ p. elim p as (λ _. B ⊎ D) [ inl a ↦ inl (g.0 a) | inr c ↦ inr (h.0 c) ],
  λ p. elim p as (λ _. A ⊎ C) [ inl b ↦ inl (g.1 b) | inr d ↦ inr (h.1 d) ],
)
