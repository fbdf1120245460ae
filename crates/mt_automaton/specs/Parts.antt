-- What a part of a query without labels stands for, whose tests and tags are told by number, and what stands at the places of a text.
use Rattle.std.specs.Prelude.{ℕ, ◌≡◌, ◌<◌, ◌≤◌, ◌/◌, ◌+◌, ◌*◌, ◌⊎◌}
use Rattle.mt_text_spec.specs.Queries as q
use Rattle.mt_match_spec.specs.Matches as m
use Rattle.mt_match_spec.specs.Labels.{no_labels}
use Rattle.mt_automaton.specs.declared.part.Part.{Part}
use Rattle.mt_automaton.specs.declared.part.Part.TheVariants.{Token, Begin, End, Whole, Seq', Choice', Repeat', Gap}
use Rattle.mt_automaton.specs.declared.view.Mark.{Mark}
use Rattle.mt_automaton.specs.declared.view.Mark.TheVariants.{Holds, Begins, Ends, Empty}

-- the instances of a kind of structure that meet a test
pub record Tag : Type 0 where
  pub kind : ℕ
  pub test : q.Test

-- A text as it is seen for some expression: what a query sees of it, and the tests and the tags that the numbers stand for.
pub record Seen : Type 1 where
  pub text : m.Sight
  pub test : ℕ → q.Test
  pub tag : ℕ → Tag

-- the expression that a part stands for
abbrev pub meant : Seen → Part → q.Expr
meant v (Token test) = q.TokenTest 0 (v.test test)
meant v (Begin tag) = q.Begin (v.tag tag).kind (v.tag tag).test
meant v (End tag) = q.End (v.tag tag).kind
meant v (Whole tag) = q.Whole (v.tag tag).kind (v.tag tag).test
meant v (Seq' p left r right) = q.Seq (meant v left) (meant v right)
meant v (Choice' p left r right) = q.Choice (meant v left) (meant v right)
meant v (Repeat' p inner least most) = q.Repeat (meant v inner) least most
meant v (Gap least most) = q.Repeat (q.TokenTest 0 q.Any) least most

-- a part matches from a begin to an end, by what it stands for
abbrev pub PartMatches : Seen → Part → (begin end : ℕ) → Type 0
PartMatches v part begin end = m.Matches v.text (meant v part) begin end no_labels

-- an instance lies from a begin to an end
abbrev pub Lies : Seen → (tag begin end : ℕ) → Type 0
Lies v tag begin end = v.text.lies (v.tag tag).kind (v.tag tag).test begin end

-- how many words a set of the places of a text has
abbrev pub width : Seen → ℕ
width v = v.text.tokens / 64 + 1

-- the first place for which no such set has room
abbrev pub outside : m.Sight → ℕ
outside s = 64 * (s.tokens / 64 + 1)

-- one that has a token, and ends in the text
pub record Longer (v : Seen) (tag begin end : ℕ) : Type 0 where
  pub some : begin < end
  pub within : end ≤ v.text.tokens
  pub lies : Lies v tag begin end

-- a mark stands at a place of the text
abbrev pub Stands : Seen → Mark → (place : ℕ) → Type 0
Stands v (Holds test) place = (place < v.text.tokens) × v.text.holds (v.test test) place
Stands v (Begins tag) place = (place ≤ v.text.tokens) × ((end : ℕ) × Lies v tag place end)
Stands v (Ends tag) place = (place ≤ v.text.tokens) × ((begin : ℕ) × v.text.lies (v.tag tag).kind q.Any begin place)
Stands v (Empty tag) place = Lies v tag place place

-- An instance begins in the text, or behind `outside`; it ends in the text, or at `outside`. So may instances be told of which a part alone lies in the text.
pub record GoesOn (s : m.Sight) (begin end : ℕ) : Type 0 where
  pub begins : (begin ≤ s.tokens) ⊎ (outside s < begin)
  pub ends : (end ≤ s.tokens) ⊎ (end ≡ outside s)
  pub onward : begin ≤ s.tokens → begin ≤ end

-- No instance leads from a place of the text back, or in between: what begins and ends in the text lies all inside.
abbrev pub HasAllInside : m.Sight → Type 0
HasAllInside s = (kind : ℕ) (test : q.Test) (begin end : ℕ) → s.lies kind test begin end → GoesOn s begin end
