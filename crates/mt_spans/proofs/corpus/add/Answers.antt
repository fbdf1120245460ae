use Rattle.std.proofs.Common.{◌≡◌, ◌≢◌, ℕ, List, ◌∙◌, subst, arith}
use Rattle.std.specs.List.{All}
use Rattle.mt_text_spec.specs.Texts.{Text}
use Rattle.mt_spans.proofs.Corpora.{corpus_more}
use Rattle.mt_spans.proofs.corpus.add.Goals as goal

pub returns-in_ok-push : goal.returns-in_ok-push
returns-in_ok-push c = λ registry valid its.
    let named : c.as_str.result.now ≡ c.args.text.name = c.as_str.ensures ∙ c.name.ensures in
    let differs : All (λ held. held.name ≢ c.as_str.result.now) c.args.texts.now.items =
    subst (λ (ts : List Text). All (λ held. held.name ≢ c.as_str.result.now) ts) c.as_slice.ensures.value (c.is_held.ensures c.if-not-is_held.true) in
    rw c.in_ok-push.ensures.items
    (corpus_more registry c.args.texts.now.items c.args.text valid its (omega (arith, c.if-len-lt4.true, c.len.ensures)) (subst (λ (name : List ℕ). All (λ held. held.name ≢ name) c.args.texts.now.items) named differs))
