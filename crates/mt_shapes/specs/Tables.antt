-- Tables of shapes, each with the set of the places where a match of this shape begins.
use Rattle.std.specs.Prelude.{ℕ, ◌≡◌, ◌+◌, ◌<◌, ◌≤◌, ◌⊎◌, List, [], length, slice_index_or}
use Rattle.std.specs.declared.cmp.Ordering.TheVariants.{Less}
use Rattle.mt_text_spec.specs.Texts.{Row}
use Rattle.mt_text_spec.specs.Queries as q
use Rattle.mt_match_spec.specs.Matches as m
use Rattle.mt_match_spec.specs.Labels.{no_labels}
use Rattle.mt_places.specs.Places.{In}
use Rattle.mt_automaton.specs.declared.view.Mark.{Mark}
use Rattle.mt_automaton.specs.Parts.{Seen, Stands, Longer}
use Rattle.mt_automaton.specs.Windows.{moved}
use Rattle.mt_automaton.specs.RowsFrom.{IsRowOfText}
use Rattle.mt_shapes.specs.declared.shape.Shape.{Shape}
use Rattle.mt_shapes.specs.declared.table.Entry.{Entry}
use Rattle.mt_shapes.specs.Shapes.{shape_cmp, IsOf, Suits}

-- what stands where a table has no entry
abbrev pub none : Entry
none = record { shape = record { length = 0; labels = [] }; begins = [] }

-- number i of the entries
abbrev pub entry : List Entry → ℕ → Entry
entry entries i = slice_index_or entries i none

-- a shape comes before another
abbrev pub Before : Shape → Shape → Type 0
Before shape other = shape_cmp shape other ≡ Less

-- the shape of each entry comes before those of the next ones
abbrev pub IsAscending : List Entry → Type 0
IsAscending entries = (i j : ℕ) → i < j → j < length entries → Before (entry entries i).shape (entry entries j).shape

-- a shape that no entry has comes behind the entries before a place, and before those from it on
pub record StandsBetween (entries : List Entry) (shape : Shape) (at : ℕ) : Type 0 where
  pub within : at ≤ length entries
  pub below : (i : ℕ) → i < at → Before (entry entries i).shape shape
  pub above : (i : ℕ) → at ≤ i → i < length entries → Before shape (entry entries i).shape

-- in ascending order of their shapes, for a text of so many tokens, and none without a begin
pub record Fine (tokens : ℕ) (entries : List Entry) : Type 0 where
  pub ascending : IsAscending entries
  pub suits : (i : ℕ) → i < length entries → Suits tokens (entry entries i).shape (entry entries i).begins
  pub some : (i : ℕ) → i < length entries → (begin : ℕ) × In (entry entries i).begins begin

-- a match of this shape begins there
pub record IsListed (entries : List Entry) (shape : Shape) (begin : ℕ) : Type 0 where
  pub at : ℕ
  pub within : at < length entries
  pub shape_is : (entry entries at).shape ≡ shape
  pub is_in : In (entry entries at).begins begin

-- these shapes and begins were added
pub record AddsListed (tokens : ℕ) (P : Shape → ℕ → Type 0) (old new : List Entry) : Type 0 where
  pub fine : Fine tokens new
  pub sound : (shape : Shape) (begin : ℕ) → IsListed new shape begin → IsListed old shape begin ⊎ P shape begin
  pub kept : (shape : Shape) (begin : ℕ) → IsListed old shape begin → IsListed new shape begin
  pub complete : (shape : Shape) (begin : ℕ) → P shape begin → IsListed new shape begin

-- a match that some of the first n entries tell of
pub record IsMatchBelow (entries : List Entry) (n begin end : ℕ) (labels : List ℕ) : Type 0 where
  pub at : ℕ
  pub below : at < n
  pub is : IsOf (entry entries at).shape (entry entries at).begins begin end labels

-- a match that some entry tells of
abbrev pub IsMatchOf : List Entry → m.Relation
IsMatchOf entries = IsMatchBelow entries (length entries)

-- these matches were added
pub record Adds (tokens : ℕ) (R : m.Relation) (old new : List Entry) : Type 0 where
  pub fine : Fine tokens new
  pub sound : (begin end : ℕ) (labels : List ℕ) → IsMatchOf new begin end labels → IsMatchOf old begin end labels ⊎ R begin end labels
  pub kept : (begin end : ℕ) (labels : List ℕ) → IsMatchOf old begin end labels → IsMatchOf new begin end labels
  pub complete : (begin end : ℕ) (labels : List ℕ) → R begin end labels → IsMatchOf new begin end labels

-- a match that begins and ends in a text of so many tokens
pub record Inside (tokens : ℕ) (R : m.Relation) (begin end : ℕ) (labels : List ℕ) : Type 0 where
  pub begins : begin ≤ tokens
  pub ends : end ≤ tokens
  pub matches : R begin end labels

-- a match of a shape, at whose begin a mark stands
pub record IsMarked (v : Seen) (mark : Mark) (shape : Shape) (begin end : ℕ) (labels : List ℕ) : Type 0 where
  pub stands : Stands v mark begin
  pub end_is : end ≡ begin + shape.length
  pub labels_are : labels ≡ moved begin shape.labels

-- the match between two places, with no label
pub record IsBetween (first last begin end : ℕ) (labels : List ℕ) : Type 0 where
  pub begin_is : begin ≡ first
  pub end_is : end ≡ last
  pub labels_are : labels ≡ no_labels

-- an instance of a tag that has a token, and begins at a place
pub record IsLongerAt (v : Seen) (tag at begin end : ℕ) (labels : List ℕ) : Type 0 where
  pub begin_is : begin ≡ at
  pub longer : Longer v tag begin end
  pub labels_are : labels ≡ no_labels

-- one that begins below n
pub record IsLongerBelow (v : Seen) (tag n begin end : ℕ) (labels : List ℕ) : Type 0 where
  pub below : begin < n
  pub longer : Longer v tag begin end
  pub labels_are : labels ≡ no_labels

-- so many places of a text, with no label
pub record IsStretch (tokens count begin end : ℕ) (labels : List ℕ) : Type 0 where
  pub end_is : end ≡ begin + count
  pub inside : end ≤ tokens
  pub labels_are : labels ≡ no_labels

-- stretches of `least` places and more, but fewer than n
pub record IsStretchBelow (tokens least n begin end : ℕ) (labels : List ℕ) : Type 0 where
  pub count : ℕ
  pub low : least ≤ count
  pub high : count < n
  pub is : IsStretch tokens count begin end labels

-- so many turns, not fewer than `least` and at most k, in a text
pub record IsTurned (tokens : ℕ) (R : m.Relation) (least k begin end : ℕ) (labels : List ℕ) : Type 0 where
  pub count : ℕ
  pub low : least ≤ count
  pub high : count ≤ k
  pub turns : Inside tokens (m.Turns R count) begin end labels

-- a row of a match that some of the first n entries tell of, with a token at least, from a place on
pub record IsRowBelow (entries : List Entry) (text begin n : ℕ) (row : Row) : Type 0 where
  pub text_is : row.span.text ≡ text
  pub begin_is : row.span.begin ≡ begin
  pub some : row.span.begin < row.span.end
  pub is : IsMatchBelow entries n row.span.begin row.span.end row.labels

-- a row of a match that some entry tells of, with a token at least
pub record IsRowOf (entries : List Entry) (text : ℕ) (row : Row) : Type 0 where
  pub text_is : row.span.text ≡ text
  pub some : row.span.begin < row.span.end
  pub is : IsMatchOf entries row.span.begin row.span.end row.labels

-- the rows of a table are those of an expression in a text, whatever number the text has
pub record TellsRows (entries : List Entry) (s : m.Sight) (expr : q.Expr) : Type 0 where
  pub there : (text : ℕ) (row : Row) → IsRowOf entries text row → IsRowOfText s expr text row
  pub back : (text : ℕ) (row : Row) → IsRowOfText s expr text row → IsRowOf entries text row

-- a row of P that begins at a place
pub record BeginsAt (P : Row → Type 0) (at : ℕ) (row : Row) : Type 0 where
  pub is : P row
  pub here : row.span.begin ≡ at

-- it begins below n
pub record BeginsBelow (entries : List Entry) (text n : ℕ) (row : Row) : Type 0 where
  pub is : IsRowOf entries text row
  pub below : row.span.begin < n
