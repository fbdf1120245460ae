-- Sequences that set no label, and their rows.
use Rattle.std.proofs.Common.{◌≡◌, ℕ, ◌+◌, length, refl, sym, ap, ap₂, ◌∙◌}
use Rattle.mt_text_spec.specs.Texts.{Span}
use Rattle.mt_text_spec.specs.Queries as q
use Rattle.mt_query_spec.specs.Contents.{token_tests}
use Rattle.mt_match_spec.specs.Labels.{no_labels, labelled, united}
use Rattle.mt_eval.specs.Sequences.{row_from}
use Rattle.mt_eval.specs.Unlabelled.{SetsNone}
use Rattle.mt_eval.proofs.Unions.{only_these}

pub one_none : (label : ℕ) (test : q.Test) → label ≡ 0 → SetsNone (q.TokenTest label test)
one_none label test e = λ begin. ap (λ (l : ℕ). labelled l begin) e

pub both_none : (left right : q.Expr) → SetsNone left → SetsNone right → SetsNone (q.Seq left right)
both_none left right l r = λ begin. ap₂ united (l begin) (r (begin + length (token_tests left))) ∙ only_these no_labels refl

-- a row of a span alone
pub bare_row : (expr : q.Expr) (text begin end : ℕ) (span : Span) → SetsNone expr → span ≡ record { text = text; begin = begin; end = end } → end ≡ begin + length (token_tests expr) →
    record { span = span; labels = no_labels } ≡ row_from expr text begin
bare_row expr text begin end span none at to = λ i. record { span = (at ∙ ap (λ (n : ℕ). record { text = text; begin = begin; end = n }) to) i; labels = sym (none begin) i }
