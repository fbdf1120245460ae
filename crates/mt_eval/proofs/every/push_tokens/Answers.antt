use Rattle.std.proofs.Common.{◌+◌, List, [], ◌∷◌, ◌++◌, sym, ◌∙◌, ap}
use Rattle.std.proofs.lemmas.List.{append-nil, append_assoc}
use Rattle.mt_text_spec.specs.Texts.{Row, Span}
use Rattle.mt_match_spec.specs.Labels.{no_labels}
use Rattle.mt_eval.specs.Every.{tokens_of}
use Rattle.mt_eval.proofs.EachToken.{next_token, no_tokens}
use Rattle.mt_eval.proofs.every.push_tokens.Goals as goal

pub loop-begin-init : goal.loop-begin-init
loop-begin-init c = sym (ap (λ (rows : List Row). c.args.out.now ++ rows) (no_tokens c.args.text) ∙ append-nil c.args.out.now)

pub loop-begin-preserved : goal.loop-begin-preserved
loop-begin-preserved c =
    let text = c.args.text in
    let begin = c.loop-begin.begin in
    let row : Row = record { span = record { text = text; begin = begin; end = begin + 1 }; labels = no_labels } in
    c.in_ok-push_unlabelled.ensures.ok ∙ ap (λ (span : Span). c.loop-begin.out ++ record { span = span; labels = no_labels } ∷ []) c.new.ensures
    ∙ ap (λ (rows : List Row). rows ++ row ∷ []) c.loop-begin.invariant ∙ append_assoc c.args.out.now (tokens_of text begin) (row ∷ [])
    ∙ ap (λ (rows : List Row). c.args.out.now ++ rows) (next_token text begin)
