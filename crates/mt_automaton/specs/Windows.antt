-- A part of a text, seen as a text.
use Rattle.std.specs.Prelude.{ℕ, ◌≡◌, ◌+◌, ◌*◌, ◌/◌, ◌<◌, ◌≤◌, ◌⊎◌, ◌==◌, if◌then◌else◌, List, map}
use Rattle.std.specs.List.{AllByRecursion}
use Rattle.mt_text_spec.specs.Texts.{Row, unset}
use Rattle.mt_text_spec.specs.Queries as q
use Rattle.mt_match_spec.specs.Matches as m
use Rattle.mt_automaton.specs.declared.view.Mark.{Mark}
use Rattle.mt_automaton.specs.declared.view.Mark.TheVariants.{Holds, Begins, Ends, Empty}
use Rattle.mt_automaton.specs.Parts.{Seen}

-- A place of a text has a number in the part of n tokens from `base` on; one outside of it has the number `none`.
abbrev pub IsAt : (base n none place number : ℕ) → Type 0
IsAt base n none place number = ((number ≤ n) × (place ≡ base + number)) ⊎ ((number ≡ none) × ((place < base) ⊎ (base + n < place)))

-- an instance as it lies in that part: where it ends outside it ends at `outside`, and where it begins outside it begins behind that
pub record LiesIn (s : m.Sight) (base n kind : ℕ) (test : q.Test) (begin end : ℕ) : Type 0 where
  pub first : ℕ
  pub last : ℕ
  pub lies : s.lies kind test first last
  pub begins : IsAt base n (64 * (n / 64 + 1) + 1) first begin
  pub ends : IsAt base n (64 * (n / 64 + 1)) last end

-- the n tokens from `base` on
abbrev pub window : Seen → (base n : ℕ) → Seen
window v base n = record {
  text = record { tokens = n; holds = λ test place. v.text.holds test (base + place); lies = LiesIn v.text base n };
  test = v.test;
  tag = v.tag;
}

-- the places at which a mark may stand in n tokens are those below this number
abbrev pub end_of : Mark → ℕ → ℕ
end_of (Holds test) n = n
end_of (Begins tag) n = n + 1
end_of (Ends tag) n = n + 1
end_of (Empty tag) n = n + 1

-- labels whose places are counted from `base` on, by their places in the text; what is not set stays so
abbrev pub moved : (base : ℕ) → List ℕ → List ℕ
moved base labels = map (λ place. if place == unset then unset else base + place) labels

-- a row whose places are counted from `base` on, by its places in the text
abbrev pub moved_row : (base : ℕ) → Row → Row
moved_row base row = record { span = record { text = row.span.text; begin = base + row.span.begin; end = base + row.span.end }; labels = moved base row.labels }

-- a label that is not set, or has a place in the text below what stands for unset
abbrev pub FitsBehind : (base place : ℕ) → Type 0
FitsBehind base place = (place ≡ unset) ⊎ (base + place < unset)

-- the places of a row are below what stands for unset, by their places in the text
pub record RowFits (base : ℕ) (row : Row) : Type 0 where
  pub begin : base + row.span.begin < unset
  pub end : base + row.span.end < unset
  pub labels : AllByRecursion (FitsBehind base) row.labels

-- a match of the text, with its labels as a part counts them that begins at `base`
pub record MatchesAt (base : ℕ) (R : m.Relation) (begin end : ℕ) (labels : List ℕ) : Type 0 where
  pub counted : List ℕ
  pub matches : R begin end counted
  pub labels_are : labels ≡ moved base counted

-- The matches in w, whose begins and ends are counted from `base` on, are those in s that begin and end there.
pub record HasMatchesFrom (s : m.Sight) (base : ℕ) (w : m.Sight) : Type 0 where
  pub inside : base + w.tokens ≤ s.tokens
  pub sound : (expr : q.Expr) (begin end : ℕ) (labels : List ℕ) → begin ≤ w.tokens → end ≤ w.tokens → m.Matches w expr begin end labels → m.Matches s expr (base + begin) (base + end) (moved base labels)
  pub complete : (expr : q.Expr) (begin end : ℕ) (labels : List ℕ) → begin ≤ w.tokens → end ≤ w.tokens → m.Matches s expr (base + begin) (base + end) labels
      → MatchesAt base (m.Matches w expr) begin end labels
