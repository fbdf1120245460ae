-- When an automaton is of an expression: its tests and its tags have numbers, and no label of it stands within a repetition.
use Rattle.std.specs.Prelude.{ℕ, ◌≡◌, ◌<◌, List, length, slice_index_or}
use Rattle.mt_text_spec.specs.Queries as q
use Rattle.mt_match_spec.specs.Matches as m
use Rattle.mt_query_spec.specs.Valid.{HasNoLabel}
use Rattle.mt_query_spec.specs.Contents.{token_tests, tags}
use Rattle.mt_query_spec.specs.Contents as contents
use Rattle.mt_automaton.specs.declared.compile.Automaton.{Automaton}
use Rattle.mt_automaton.specs.Parts.{Seen, Tag}
use Rattle.mt_automaton.specs.LabelledParts.{labelled_meant}

-- ## The numbers of tests and tags

-- the instances that a tag of an expression speaks of
abbrev pub instances : contents.Tag → Tag
instances tag = record { kind = tag.kind; test = tag.test }

-- what stands where an expression has no tag of a number
abbrev pub no_tag : contents.Tag
no_tag = record { place = contents.OfEnd; kind = 0; test = q.Any }

-- these functions give each test and each tag of the expression by its number, from left to right
pub record Numbers (expr : q.Expr) (test : ℕ → q.Test) (tag : ℕ → Tag) : Type 0 where
  pub tests_are : (i : ℕ) → i < length (token_tests expr) → test i ≡ slice_index_or (token_tests expr) i q.Any
  pub tags_are : (i : ℕ) → i < length (tags expr) → tag i ≡ instances (slice_index_or (tags expr) i no_tag)

-- a text is seen for an expression: by its tests and its tags
abbrev pub IsSeenFor : q.Expr → Seen → Type 0
IsSeenFor expr v = Numbers expr v.test v.tag

-- ## Labels

-- no label stands within a repetition that may turn more than once
abbrev pub LabelsStand : q.Expr → Type 0
LabelsStand (q.TokenTest label test) = Unit {0}
LabelsStand (q.Begin kind test) = Unit {0}
LabelsStand (q.End kind) = Unit {0}
LabelsStand (q.Whole kind test) = Unit {0}
LabelsStand (q.Seq left right) = LabelsStand left × LabelsStand right
LabelsStand (q.Choice left right) = LabelsStand left × LabelsStand right
LabelsStand (q.Repeat inner least most) = LabelsStand inner × (1 < most → HasNoLabel inner)

-- ## Automata

-- The first expression is the second, but that repetitions of one turn at most may be written out: as the part, as a choice of no turn and the part, as no turn
-- of anything, as turns that never end well. So both match the same.
pub data WritesOut : q.Expr → q.Expr → Type 0 where
  same : (expr : q.Expr) → WritesOut expr expr
  seq : (a b c d : q.Expr) → WritesOut a c → WritesOut b d → WritesOut (q.Seq a b) (q.Seq c d)
  choice : (a b c d : q.Expr) → WritesOut a c → WritesOut b d → WritesOut (q.Choice a b) (q.Choice c d)
  repeat : (a c : q.Expr) (least most : ℕ) → WritesOut a c → WritesOut (q.Repeat a least most) (q.Repeat c least most)
  once : (a c : q.Expr) → WritesOut a c → WritesOut a (q.Repeat c 1 1)
  at_most_once : (any a c : q.Expr) → WritesOut a c → WritesOut (q.Choice (q.Repeat any 0 0) a) (q.Repeat c 0 1)
  no_turn : (any c : q.Expr) → WritesOut (q.Repeat any 0 0) (q.Repeat c 0 0)
  never : (any c : q.Expr) (low high least most : ℕ) → high < low → most < least → WritesOut (q.Repeat any low high) (q.Repeat c least most)

-- a view of nothing, by some tests and tags
abbrev pub by_numbers : (ℕ → q.Test) → (ℕ → Tag) → Seen
by_numbers test tag = record { text = record { tokens = 0; holds = λ t place. ⊥; lies = λ kind t begin end. ⊥ }; test = test; tag = tag }

-- An automaton is of an expression: what its part stands for, by the tests and tags of the expression, writes the expression out.
pub record IsOf (expr : q.Expr) (automaton : Automaton) : Type 0 where
  pub writes_out : (test : ℕ → q.Test) (tag : ℕ → Tag) → Numbers expr test tag → WritesOut (labelled_meant (by_numbers test tag) automaton.part) expr

-- two expressions match the same in a text
pub record MatchSame (s : m.Sight) (expr other : q.Expr) : Type 0 where
  pub there : (begin end : ℕ) (labels : List ℕ) → m.Matches s expr begin end labels → m.Matches s other begin end labels
  pub back : (begin end : ℕ) (labels : List ℕ) → m.Matches s other begin end labels → m.Matches s expr begin end labels
