use Rattle.std.proofs.Common.{◌≡◌, ◌*◌, Err, ◌∙◌, ap, rules, arith}
use Rattle.mt_rows.specs.declared.error.EvalError.TheVariants.{TooManyRows}
use Rattle.mt_automaton.proofs.MovedRows.{is_around, found_fit, found_moved, more_moved}
use Rattle.mt_automaton.proofs.rows_of_text.rows_at.Goals as goal

pub returns-in_err-rows_of_part-clause-more : goal.returns-in_err-rows_of_part-clause-more
returns-in_err-rows_of_part-clause-more g c = λ e.
    let v = g.V.View.seen c.args.view.now in
    let w = c.around-window in
    let around = is_around v c.args.part.now c.base-base.result w.result.tokens c.args.at (c.base-base.ensures ∙ ap (λ k. 64 * k) w.ensures.first) (omega (arith, c.tokens-inside.ensures.is, c.tokens-inside.ensures.few))
    c.tokens-inside.ensures.inside w.ensures.all w.ensures.matches in
    let was : c.rows_of_part.result ≡ Err TooManyRows = search rules in
    more_moved (g.V.View.seen w.result.view.now) v c.args.part.now c.args.text c.base-base.result w.result.first w.result.tokens c.args.at c.args.room (ap g.V.View.seen w.ensures.view) c.base-base.ensures around
    (c.rows_of_part.ensures.more was)

pub push_moved-requires : goal.push_moved-requires
push_moved-requires g c =
    let v = g.V.View.seen c.args.view.now in
    let w = c.around-window in
    let around = is_around v c.args.part.now c.base-base.result w.result.tokens c.args.at (c.base-base.ensures ∙ ap (λ k. 64 * k) w.ensures.first) (omega (arith, c.tokens-inside.ensures.is, c.tokens-inside.ensures.few))
    c.tokens-inside.ensures.inside w.ensures.all w.ensures.matches in
    found_fit (g.V.View.seen w.result.view.now) v c.args.part.now c.args.text c.base-base.result w.result.first w.result.tokens c.args.at c.args.room c.truncate.new.self c.rows_of_part.new.out (ap g.V.View.seen w.ensures.view)
    c.base-base.ensures around c.truncate.ensures c.in_ok-rows_of_part.ensures.ok

pub returns-clause-ok : goal.returns-clause-ok
returns-clause-ok g c =
    let v = g.V.View.seen c.args.view.now in
    let w = c.around-window in
    let around = is_around v c.args.part.now c.base-base.result w.result.tokens c.args.at (c.base-base.ensures ∙ ap (λ k. 64 * k) w.ensures.first) (omega (arith, c.tokens-inside.ensures.is, c.tokens-inside.ensures.few))
    c.tokens-inside.ensures.inside w.ensures.all w.ensures.matches in
    found_moved (g.V.View.seen w.result.view.now) v c.args.part.now c.args.text c.base-base.result w.result.first w.result.tokens c.args.at c.args.room c.truncate.new.self c.rows_of_part.new.out c.args.out.now
    c.push_moved.new.out (ap g.V.View.seen w.ensures.view) c.base-base.ensures around c.truncate.ensures c.in_ok-rows_of_part.ensures.ok c.in_ok-push_moved.ensures.ok
