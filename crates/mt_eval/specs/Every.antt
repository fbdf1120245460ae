-- A test of a token that holds of every token, and the rows of it alone: each token of a text is one, with no label.
use Rattle.std.specs.Prelude.{ℕ, zero, suc, ◌≡◌, ◌+◌, List, [], ◌∷◌, ◌++◌, length}
use Rattle.mt_text_spec.specs.Texts.{Row}
use Rattle.mt_text_spec.specs.Queries as q
use Rattle.mt_match_spec.specs.Labels.{no_labels}
use Rattle.mt_prepare.specs.declared.resolved.Resolved.{Resolved}
use Rattle.mt_prepare.specs.declared.resolved.Resolved.TheVariants as resolved
use Rattle.mt_eval.specs.Sequences.{test_at}

-- a test of a token with no label, and nothing else
abbrev pub IsUnlabelled : q.Expr → Type 0
IsUnlabelled (q.TokenTest label test) = label ≡ 0
IsUnlabelled (q.Begin kind test) = ⊥
IsUnlabelled (q.End kind) = ⊥
IsUnlabelled (q.Whole kind test) = ⊥
IsUnlabelled (q.Seq left right) = ⊥
IsUnlabelled (q.Choice left right) = ⊥
IsUnlabelled (q.Repeat inner least most) = ⊥

-- a test that holds of every token
abbrev pub IsAny : Resolved → Type 0
IsAny resolved.Any = Unit {0}
IsAny (resolved.One attr id negated) = ⊥
IsAny (resolved.Some attr ids negated) = ⊥
IsAny (resolved.Not' p inner) = ⊥
IsAny (resolved.Both' p left r right) = ⊥
IsAny (resolved.Either' p left r right) = ⊥

-- such a test, and no other
pub record IsAnyAlone (tests : List Resolved) : Type 0 where
  pub one : length tests ≡ 1
  pub any : IsAny (test_at tests 0)

-- the rows of the first tokens of a text, each of them one
unfoldable pub tokens_of : (text many : ℕ) → List Row
tokens_of text zero = []
tokens_of text (suc many) = tokens_of text many ++ record { span = record { text = text; begin = many; end = many + 1 }; labels = no_labels } ∷ []
