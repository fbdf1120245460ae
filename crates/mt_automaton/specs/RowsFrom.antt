-- Rows that begin at one place of a text.
use Rattle.std.specs.Prelude.{ℕ, ◌≡◌, ◌<◌, ◌≤◌, List, ◌++◌, length}
use Rattle.std.specs.List.{Contains, IsDistinct}
use Rattle.std.specs.List.Sorted.{IsStrictlySortedBy}
use Rattle.std.specs.Ordering.{eq_by_cmp}
use Rattle.mt_text_spec.specs.Texts.{Row}
use Rattle.mt_text_spec.specs.Queries as q
use Rattle.mt_text_spec.specs.Orders.{row_cmp}
use Rattle.mt_match_spec.specs.Matches as m
use Rattle.mt_match_spec.specs.Rows.{ListsAll}
use Rattle.mt_places.specs.Places.{In}
use Rattle.mt_automaton.specs.declared.groups.Group.{Group}
use Rattle.mt_automaton.specs.declared.part.Part.{Part}
use Rattle.mt_automaton.specs.declared.labelled.Labelled.{Labelled}
use Rattle.mt_automaton.specs.Parts.{Seen, PartMatches, width}
use Rattle.mt_automaton.specs.LabelledParts.{labelled_meant}
use Rattle.mt_automaton.specs.Groups.{IsRowOf, Fine}

-- a row that an expression matches from a place of a text on, with a token at least
pub record IsRowFrom (s : m.Sight) (expr : q.Expr) (text begin : ℕ) (row : Row) : Type 0 where
  pub text_is : row.span.text ≡ text
  pub begin_is : row.span.begin ≡ begin
  pub some : begin < row.span.end
  pub inside : row.span.end ≤ s.tokens
  pub matches : m.Matches s expr begin row.span.end row.labels

-- a row that an expression matches in a text, with a token at least
pub record IsRowOfText (s : m.Sight) (expr : q.Expr) (text : ℕ) (row : Row) : Type 0 where
  pub text_is : row.span.text ≡ text
  pub some : row.span.begin < row.span.end
  pub inside : row.span.end ≤ s.tokens
  pub matches : m.Matches s expr row.span.begin row.span.end row.labels

-- it begins below n
pub record BeginsBelow (s : m.Sight) (expr : q.Expr) (text n : ℕ) (row : Row) : Type 0 where
  pub is : IsRowOfText s expr text row
  pub below : row.span.begin < n

-- some of the rows of P, ascending, are more than there is room for
pub record HasLonger (P : Row → Type 0) (room : ℕ) : Type 0 where
  pub rows : List Row
  pub ascending : IsStrictlySortedBy row_cmp rows
  pub only : (row : Row) → Contains rows row → P row
  pub more : room < length rows

-- a row with these labels that ends behind its begin, at a place of the set
pub record EndsIn (set labels : List ℕ) (text begin : ℕ) (row : Row) : Type 0 where
  pub text_is : row.span.text ≡ text
  pub begin_is : row.span.begin ≡ begin
  pub labels_are : row.labels ≡ labels
  pub some : begin < row.span.end
  pub is_in : In set row.span.end

-- it ends below n
pub record EndsBelow (set labels : List ℕ) (text begin n : ℕ) (row : Row) : Type 0 where
  pub ends : EndsIn set labels text begin row
  pub below : row.span.end < n

-- a row of some of the groups that ends behind its begin
pub record IsGroupRow (groups : List Group) (text begin : ℕ) (row : Row) : Type 0 where
  pub text_is : row.span.text ≡ text
  pub begin_is : row.span.begin ≡ begin
  pub some : begin < row.span.end
  pub is_row : IsRowOf groups row.labels row.span.end

-- all rows of P were added, ascending
pub record Gathers (P : Row → Type 0) (old new : List Row) : Type 0 where
  pub rows : List Row
  pub are : ListsAll row_cmp P rows
  pub appended : new ≡ old ++ rows

-- all rows of P, each once, in any order
pub record HasAll (P : Row → Type 0) (rows : List Row) : Type 0 where
  pub once : IsDistinct (eq_by_cmp row_cmp) rows
  pub only : (row : Row) → Contains rows row → P row
  pub each : (row : Row) → P row → Contains rows row

-- the ends of the matches of a part from one place on, as far as the text goes
pub record AreEnds (v : Seen) (part : Part) (begin : ℕ) (set : List ℕ) : Type 0 where
  pub inside : (f : ℕ) → In set f → f ≤ v.text.tokens
  pub sound : (f : ℕ) → In set f → PartMatches v part begin f
  pub complete : (f : ℕ) → f ≤ v.text.tokens → PartMatches v part begin f → In set f

-- a match of a part from one place on, with a token at least and as far as the text goes
pub record IsMatchFrom (v : Seen) (part : Labelled) (begin : ℕ) (labels : List ℕ) (f : ℕ) : Type 0 where
  pub some : begin < f
  pub inside : f ≤ v.text.tokens
  pub matches : m.Matches v.text (labelled_meant v part) begin f labels

-- the groups of these matches
pub record AreGroups (v : Seen) (part : Labelled) (begin : ℕ) (groups : List Group) : Type 0 where
  pub fine : Fine (width v) groups
  pub sound : (labels : List ℕ) (f : ℕ) → IsRowOf groups labels f → IsMatchFrom v part begin labels f
  pub complete : (labels : List ℕ) (f : ℕ) → IsMatchFrom v part begin labels f → IsRowOf groups labels f
