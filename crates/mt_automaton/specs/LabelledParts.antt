-- What a part of a query with labels stands for.
use Rattle.std.specs.Prelude.{ℕ, List}
use Rattle.mt_text_spec.specs.Queries as q
use Rattle.mt_match_spec.specs.Matches as m
use Rattle.mt_automaton.specs.declared.labelled.Labelled.{Labelled}
use Rattle.mt_automaton.specs.declared.labelled.Labelled.TheVariants.{Plain, Token, Seq', Choice'}
use Rattle.mt_automaton.specs.Parts.{Seen, meant}

-- the expression that a part with labels stands for
abbrev pub labelled_meant : Seen → Labelled → q.Expr
labelled_meant v (Plain part) = meant v part
labelled_meant v (Token label test) = q.TokenTest label (v.test test)
labelled_meant v (Seq' p left r right) = q.Seq (labelled_meant v left) (labelled_meant v right)
labelled_meant v (Choice' p left r right) = q.Choice (labelled_meant v left) (labelled_meant v right)

-- what a relation matches, whatever its labels
abbrev pub Somehow : m.Relation → (begin end : ℕ) → Type 0
Somehow R begin end = (labels : List ℕ) × R begin end labels

-- a part matches from a begin to an end, with some labels
abbrev pub MatchesSomehow : Seen → Labelled → (begin end : ℕ) → Type 0
MatchesSomehow v part = Somehow (m.Matches v.text (labelled_meant v part))
