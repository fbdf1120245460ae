-- How the parts of an expression are compiled, one after another.
use Rattle.std.specs.Prelude.{ℕ, ◌≡◌, ◌+◌, length}
use Rattle.mt_text_spec.specs.Queries as q
use Rattle.mt_query_spec.specs.Valid.{HasNoLabel}
use Rattle.mt_query_spec.specs.Contents.{token_tests, tags}
use Rattle.mt_automaton.specs.declared.labelled.Labelled.{Labelled}
use Rattle.mt_automaton.specs.declared.labelled.Labelled.TheVariants.{Plain, Token, Seq', Choice'}
use Rattle.mt_automaton.specs.Parts.{Tag}
use Rattle.mt_automaton.specs.LabelledParts.{labelled_meant}
use Rattle.mt_automaton.specs.Compiled.{Numbers, WritesOut, by_numbers}

-- it is a part without labels
abbrev pub IsPlain : Labelled → Type 0
IsPlain (Plain part) = Unit {0}
IsPlain (Token label test) = ⊥
IsPlain (Seq' p left r right) = ⊥
IsPlain (Choice' p left r right) = ⊥

-- A part is of an expression, whose tests are numbered from `first` on and whose tags from `first_tag` on. It has labels only where the expression has.
pub record Compiles (first first_tag : ℕ) (expr : q.Expr) (part : Labelled) : Type 0 where
  pub writes_out : (test : ℕ → q.Test) (tag : ℕ → Tag) → Numbers expr (λ i. test (first + i)) (λ i. tag (first_tag + i)) → WritesOut (labelled_meant (by_numbers test tag) part) expr
  pub plain : HasNoLabel expr → IsPlain part

-- the numbers of the tests and tags of an expression were given
pub record Counts (expr : q.Expr) (old old_tags new new_tags : ℕ) : Type 0 where
  pub tests_are : new ≡ old + length (token_tests expr)
  pub tags_are : new_tags ≡ old_tags + length (tags expr)
