-- Rows of tests that are made of other rows.
use Rattle.std.proofs.Common.{◌≡◌, ℕ, ◌+◌, ◌/◌, ◌<◌, ◌≤◌, ◌⊎◌, List, length, get_or, Option, None, Some, Bool, true, false, sym, ◌∙◌, ap, subst, inl, inr, arith}
use Rattle.mt_places.specs.Places.{In, room, HasJust}
use Rattle.mt_match_spec.specs.Tests.{Unless}
use Rattle.mt_segment_spec.specs.Tables.{Tables, number_at, number_by, tables_at, token_count}
use Rattle.mt_prepare.specs.TestRows.{IsRow, NumberIsIn, AreSought, IsSoughtAt}

-- a token has room in a row
pub has_room : (tokens : ℕ) (P : ℕ → Type 0) (row : List ℕ) → IsRow tokens P row → (place : ℕ) → place < tokens → place < room row
has_room tokens P row is place lt = omega (arith, is.width)

pub whole : (tokens : ℕ) (row : List ℕ) → length row ≡ tokens / 64 + 1 → HasJust (λ place. place < tokens) row → IsRow tokens (λ place. Unit {0}) row
whole tokens row width just = record {
  width = width;
  places = record { sound = λ k i. (just.sound k i, tt); complete = λ k p lt. just.complete k p.0 lt };
}

pub others : (tokens : ℕ) (row all rest : List ℕ) → IsRow tokens (λ place. Unit {0}) all → length rest ≡ length all → HasJust (λ place. In all place × (In row place → ⊥)) rest
    → IsRow tokens (λ place. In row place → ⊥) rest
others tokens row all rest is same just = record {
  width = same ∙ is.width;
  places = record {
    sound = λ k i. let p = just.sound k i in ((is.places.sound k p.0).0, p.1);
    complete = λ k p lt. just.complete k (is.places.complete k (p.0, tt) (omega (arith, lt, same)), p.1) lt;
  };
}

pub negated : (tokens : ℕ) (P : ℕ → Type 0) (row rest : List ℕ) → IsRow tokens P row → IsRow tokens (λ place. In row place → ⊥) rest → IsRow tokens (λ place. P place → ⊥) rest
negated tokens P row rest is other = record {
  width = other.width;
  places = record {
    sound = λ k i. let q = other.places.sound k i in (q.0, λ p. q.1 (is.places.complete k (q.0, p) (has_room tokens P row is k q.0)));
    complete = λ k q lt. other.places.complete k (q.0, λ i. q.1 (is.places.sound k i).1) lt;
  };
}

pub both : (tokens : ℕ) (P Q : ℕ → Type 0) (a b new : List ℕ) → IsRow tokens P a → IsRow tokens Q b → length new ≡ length a → HasJust (λ place. In a place × In b place) new
    → IsRow tokens (λ place. P place × Q place) new
both tokens P Q a b new is_a is_b same just = record {
  width = same ∙ is_a.width;
  places = record {
    sound = λ k i. let p = just.sound k i in let x = is_a.places.sound k p.0 in let y = is_b.places.sound k p.1 in (x.0, (x.1, y.1));
    complete = λ k p lt. just.complete k (is_a.places.complete k (p.0, p.1.0) (has_room tokens P a is_a k p.0), is_b.places.complete k (p.0, p.1.1) (has_room tokens Q b is_b k p.0)) lt;
  };
}

pub either : (tokens : ℕ) (P Q : ℕ → Type 0) (a b new : List ℕ) → IsRow tokens P a → IsRow tokens Q b → length new ≡ length a → HasJust (λ place. In a place ⊎ In b place) new
    → IsRow tokens (λ place. P place ⊎ Q place) new
either tokens P Q a b new is_a is_b same just = record {
  width = same ∙ is_a.width;
  places = record {
    sound = λ k i. elim (just.sound k i) [
      | inl l ↦ let x = is_a.places.sound k l in (x.0, inl x.1)
      | inr r ↦ let y = is_b.places.sound k r in (y.0, inr y.1)
    ];
    complete = λ k p lt. elim p.1 [
      | inl x ↦ just.complete k (inl (is_a.places.complete k (p.0, x) (has_room tokens P a is_a k p.0))) lt
      | inr y ↦ just.complete k (inr (is_b.places.complete k (p.0, y) (has_room tokens Q b is_b k p.0))) lt
    ];
  };
}

pub plain : (tokens : ℕ) (row : List ℕ) → length row ≡ tokens / 64 + 1 → ((place : ℕ) → In row place → place < tokens) → IsRow tokens (λ place. In row place) row
plain tokens row width below = record { width = width; places = record { sound = λ k i. (below k i, i); complete = λ k p lt. p.1 } }

-- the row of a leaf as it is, or of the other tokens
pub unless_row : (tokens : ℕ) (P : ℕ → Type 0) (not : Bool) (row out : List ℕ) → IsRow tokens P row → IsRow tokens (λ place. Unless not (In row place)) out → IsRow tokens (λ place. Unless not (P place)) out
unless_row tokens P false row out is made = record {
  width = made.width;
  places = record {
    sound = λ k i. let p = made.places.sound k i in (p.0, (is.places.sound k p.1).1);
    complete = λ k p lt. made.places.complete k (p.0, is.places.complete k p (has_room tokens P row is k p.0)) lt;
  };
}
unless_row tokens P true row out is made = negated tokens P row out is made

-- the row of the numbers of a set is the row of what the numbers are there for
pub by_numbers : (tokens count : ℕ) (number : ℕ → ℕ) (T : ℕ → Type 0) (numbers row : List ℕ) → HasJust (λ n. (n < count) × T n) numbers → count ≤ room numbers
    → ((place : ℕ) → place < tokens → number place < count) → IsRow tokens (λ place. In numbers (number place)) row → IsRow tokens (λ place. T (number place)) row
by_numbers tokens count number T numbers row just fits low is = record {
  width = is.width;
  places = record {
    sound = λ k i. let p = is.places.sound k i in (p.0, (just.sound (number k) p.1).1);
    complete = λ k p lt. is.places.complete k (p.0, just.complete (number k) (low k p.0, p.1) (omega (arith, low k p.0, fits))) lt;
  };
}

-- at a base attribute, and at a mapped one
pub at_base : (tables : Tables) (attr : ℕ) (numbers row : List ℕ) → (tables_at tables.attrs attr).base ≡ None
    → IsRow (token_count tables) (λ place. In numbers (get_or (tables_at tables.attrs attr).numbers place 0)) row → IsRow (token_count tables) (NumberIsIn tables attr numbers) row
at_base tables attr numbers row e is =
    subst (λ (b : Option ℕ). IsRow (token_count tables) (λ place. In numbers (number_by (tables_at tables.attrs attr).numbers tables.attrs place b)) row) (sym e) is

pub at_mapped : (tables : Tables) (attr base : ℕ) (numbers row : List ℕ) → (tables_at tables.attrs attr).base ≡ Some base
    → IsRow (token_count tables) (λ place. In numbers (get_or (tables_at tables.attrs attr).numbers (get_or (tables_at tables.attrs base).numbers place 0) 0)) row
    → IsRow (token_count tables) (NumberIsIn tables attr numbers) row
at_mapped tables attr base numbers row e is =
    subst (λ (b : Option ℕ). IsRow (token_count tables) (λ place. In numbers (number_by (tables_at tables.attrs attr).numbers tables.attrs place b)) row) (sym e) is

-- a number of a base attribute at a place
pub base_low : (tables : Tables) (base limit place : ℕ) → (tables_at tables.attrs base).base ≡ None → number_at tables base place < limit → get_or (tables_at tables.attrs base).numbers place 0 < limit
base_low tables base limit place e h = subst (λ (b : Option ℕ). number_by (tables_at tables.attrs base).numbers tables.attrs place b < limit) e h

-- the row of the places at which a column has a number that is sought, by the column's and the count's other names
pub sought_row : (tokens count : ℕ) (column list : List ℕ) (T : ℕ → Type 0) (limit : ℕ) (sought : List Bool) (row : List ℕ) → tokens ≡ count → column ≡ list
    → AreSought T limit sought → ((place : ℕ) → place < count → get_or list place 0 < limit) → IsRow tokens (IsSoughtAt column sought) row → IsRow count (λ place. T (get_or list place 0)) row
sought_row tokens count column list T limit sought row e f says low filled =
    let is : IsRow count (IsSoughtAt list sought) row = subst (λ (n : ℕ). IsRow n (IsSoughtAt list sought) row) e (subst (λ (values : List ℕ). IsRow tokens (IsSoughtAt values sought) row) f filled) in
    record {
      width = is.width;
      places = record {
        sound = λ k i. let p = is.places.sound k i in (p.0, says.sound (get_or list k 0) p.1);
        complete = λ k p lt. is.places.complete k (p.0, says.complete (get_or list k 0) (low k p.0) p.1) lt;
      };
    }

-- each number of a column is one of which the list says whether it is sought
pub all_said_of : (tokens count : ℕ) (column list : List ℕ) (T : ℕ → Type 0) (limit : ℕ) (sought : List Bool) → tokens ≡ count → column ≡ list → AreSought T limit sought
    → ((place : ℕ) → place < count → get_or list place 0 < limit) → (place : ℕ) → place < tokens → get_or column place 0 < length sought
all_said_of tokens count column list T limit sought e f says low place lt =
    let same : get_or column place 0 ≡ get_or list place 0 = ap (λ values. get_or values place 0) f in
    omega (arith, same, low place (omega (arith, lt, e)), says.size)

-- what the list says of the base values, by the table's other name
pub says_of_table : (table list numbers : List ℕ) (count : ℕ) (sought held : List Bool) → table ≡ list → held ≡ sought → AreSought (λ base. In numbers (get_or table base 0)) count sought
    → AreSought (λ base. In numbers (get_or list base 0)) count held
says_of_table table list numbers count sought held e same says =
    subst (AreSought (λ base. In numbers (get_or list base 0)) count) (sym same) (subst (λ (t : List ℕ). AreSought (λ base. In numbers (get_or t base 0)) count sought) e says)
