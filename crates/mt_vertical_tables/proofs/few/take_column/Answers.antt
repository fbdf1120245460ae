use Rattle.std.proofs.Common.{ℕ, List, ◌++◌, ◌∷◌, [], ap₂, sym, ◌∙◌, arith}
use Rattle.std.proofs.lemmas.List.{map_more}
use Rattle.mt_text_spec.specs.Texts.{Token, value_of}
use Rattle.mt_vertical_tables.proofs.few.take_column.Goals as goal

pub loop-token-preserved : goal.loop-token-preserved
loop-token-preserved c =
    let tokens = c.args.rows.now.tokens in
    let none : Token = record { values = [] } in
    c.in_ok-push.ensures ∙ ap₂ (λ (vs : List (List ℕ)) (v : List ℕ). vs ++ v ∷ []) c.loop-token.invariant (c.value.ensures none)
    ∙ sym (map_more (λ token. value_of token c.args.column) tokens c.loop-token.token none (omega (arith, c.loop-token-test.true, c.len-token-end.ensures)))
