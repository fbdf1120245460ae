-- Rows of a part with labels, in groups that share their labels.
use Rattle.std.specs.Prelude.{ℕ, ◌+◌, ◌≡◌, ◌<◌, ◌≤◌, ◌⊎◌, List, [], length, slice_index_or}
use Rattle.std.specs.declared.cmp.Ordering.TheVariants.{Less}
use Rattle.std.specs.Ordering.{nat_cmp}
use Rattle.std.specs.Cmp.Lexicographic.{slice_cmp}
use Rattle.mt_match_spec.specs.Matches as m
use Rattle.mt_match_spec.specs.Labels.{labelled, united}
use Rattle.mt_places.specs.Places.{In}
use Rattle.mt_automaton.specs.declared.labelled.Labelled.{Labelled}
use Rattle.mt_automaton.specs.declared.groups.Group.{Group}
use Rattle.mt_automaton.specs.Parts.{Seen}
use Rattle.mt_automaton.specs.LabelledParts.{labelled_meant}

-- a group without rows
abbrev pub none : Group
none = record { labels = []; ends = [] }

-- number i of the groups
abbrev pub group : List Group → ℕ → Group
group groups i = slice_index_or groups i none

-- a row: these labels, and this end
pub record IsRowOf (groups : List Group) (labels : List ℕ) (f : ℕ) : Type 0 where
  pub at : ℕ
  pub within : at < length groups
  pub labelled : (group groups at).labels ≡ labels
  pub is_in : In (group groups at).ends f

-- labels come before others: the first place in which they differ is lower there
abbrev pub Before : (labels others : List ℕ) → Type 0
Before labels others = slice_cmp nat_cmp labels others ≡ Less

-- the labels of each group come before those of the next ones
abbrev pub IsAscending : List Group → Type 0
IsAscending groups = (i j : ℕ) → i < j → j < length groups → Before (group groups i).labels (group groups j).labels

-- labels that no group has come behind the groups before a place, and before those from it on
pub record StandsBetween (groups : List Group) (labels : List ℕ) (at : ℕ) : Type 0 where
  pub within : at ≤ length groups
  pub below : (i : ℕ) → i < at → Before (group groups i).labels labels
  pub above : (i : ℕ) → at ≤ i → i < length groups → Before labels (group groups i).labels

-- in ascending order of their labels, in sets of so many words, of which none is empty
pub record Fine (width : ℕ) (groups : List Group) : Type 0 where
  pub ascending : IsAscending groups
  pub size : (i : ℕ) → i < length groups → length (group groups i).ends ≡ width
  pub some : (i : ℕ) → i < length groups → (f : ℕ) × In (group groups i).ends f

-- the rows P were added
pub record AddsRows (width : ℕ) (P : List ℕ → ℕ → Type 0) (old new : List Group) : Type 0 where
  pub fine : Fine width new
  pub sound : (labels : List ℕ) (f : ℕ) → IsRowOf new labels f → IsRowOf old labels f ⊎ P labels f
  pub kept : (labels : List ℕ) (f : ℕ) → IsRowOf old labels f → IsRowOf new labels f
  pub complete : (labels : List ℕ) (f : ℕ) → P labels f → IsRowOf new labels f

-- What a part leads to from a set of begins, at the ends that are allowed: the labels of its match are added to those that are there.
pub record Leads (v : Seen) (part : Labelled) (from allowed old new : List ℕ) (f : ℕ) : Type 0 where
  pub is_allowed : In allowed f
  pub begin : ℕ
  pub begins : In from begin
  pub labels : List ℕ
  pub matches : m.Matches v.text (labelled_meant v part) begin f labels
  pub unite : new ≡ united old labels

-- a token whose label is set, at a place of the set below n
pub record TokenBelow (label : ℕ) (set old : List ℕ) (n : ℕ) (new : List ℕ) (f : ℕ) : Type 0 where
  pub begin : ℕ
  pub below : begin < n
  pub is_in : In set begin
  pub unite : new ≡ united old (labelled label begin)
  pub end_is : f ≡ begin + 1
