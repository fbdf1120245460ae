use Rattle.std.proofs.Common.{◌≡◌, ℕ, ◌∙◌, ◌-◌, Err, List, rules, sym, subst, arith}
use Rattle.mt_rows.specs.declared.error.EvalError.TheVariants.{TooManyRows}
use Rattle.mt_text_spec.specs.Queries.{Expr, Cond}
use Rattle.mt_cql.specs.Shape.{shape}
use Rattle.mt_eval_spec.specs.Told.{told, told_tokens}
use Rattle.mt_eval.proofs.Queries.{conds_for}
use Rattle.mt_eval.proofs.Rowed.{next_first}
use Rattle.mt_shapes.specs.declared.table.Entry.{Entry}
use Rattle.mt_shapes.specs.Tables.{Fine, TellsRows}
use Rattle.mt_tally.specs.Conds.{AreFor}
use Rattle.mt_tally.specs.Counts.{HasCount}
use Rattle.mt_tally.specs.Tallies.{HasLabelsInside, IsSpanMet}
use Rattle.mt_totals.proofs.Tallied.{told_tally, told_more, labels_inside}
use Rattle.mt_totals.proofs.shaped.text_tally.Goals as goal

pub table_tally-result-requires-clause-last : goal.table_tally-result-requires-clause-last
table_tally-result-requires-clause-last g c =
    let next = next_first c.args.segment.now c.args.text c.requires.text in
    let first = c.text_bounds-first.ensures.begin in
    let end = c.text_bounds-first.ensures.end in
    let last : c.text_bounds-first.result.1 - c.text_bounds-first.result.0 ≡ told_tokens c.args.segment.now c.args.text = omega (arith, next, first, end) in
    last

pub table_tally-result-requires-clause-few : goal.table_tally-result-requires-clause-few
table_tally-result-requires-clause-few g c =
    let next = next_first c.args.segment.now c.args.text c.requires.text in
    let first = c.text_bounds-first.ensures.begin in
    let end = c.text_bounds-first.ensures.end in
    let last : c.text_bounds-first.result.1 - c.text_bounds-first.result.0 ≡ told_tokens c.args.segment.now c.args.text = omega (arith, next, first, end) in
    let few = c.in_ok-found.ensures.few in
    omega (arith, last, few)

pub table_tally-result-requires-clause-fine : goal.table_tally-result-requires-clause-fine
table_tally-result-requires-clause-fine g c =
    let next = next_first c.args.segment.now c.args.text c.requires.text in
    let first = c.text_bounds-first.ensures.begin in
    let end = c.text_bounds-first.ensures.end in
    let last : c.text_bounds-first.result.1 - c.text_bounds-first.result.0 ≡ told_tokens c.args.segment.now c.args.text = omega (arith, next, first, end) in
    let fine : Fine (told_tokens c.args.segment.now c.args.text) c.in-Some.entries.items = rw c.in-Some.is at c.in_ok-found.ensures.fine in
    subst (λ (es : List Entry). Fine (c.text_bounds-first.result.1 - c.text_bounds-first.result.0) es) (sym c.deref.ensures.value) (subst (λ (n : ℕ). Fine n c.in-Some.entries.items) (sym last) fine)

pub table_tally-result-requires-clause-labels : goal.table_tally-result-requires-clause-labels
table_tally-result-requires-clause-labels g c =
    let T = c.args.segment.now in
    let Q = c.args.query.now in
    let text = c.args.text in
    let items = c.in-Some.entries.items in
    let a : TellsRows items (told T text) (shape c.head-expr.result.now) = rw c.in-Some.is at c.in_ok-found.ensures.rows in
    let t : TellsRows items (told T text) Q.head = subst (λ (e : Expr). TellsRows items (told T text) e) c.head-expr.ensures a in
    let d : TellsRows c.deref.result.now (told T text) Q.head = subst (λ (es : List Entry). TellsRows es (told T text) Q.head) (sym c.deref.ensures.value) t in
    let next = next_first c.args.segment.now c.args.text c.requires.text in
    let first = c.text_bounds-first.ensures.begin in
    let end = c.text_bounds-first.ensures.end in
    let last : c.text_bounds-first.result.1 - c.text_bounds-first.result.0 ≡ told_tokens c.args.segment.now c.args.text = omega (arith, next, first, end) in
    subst (λ (n : ℕ). HasLabelsInside c.deref.result.now text n) (sym last) (labels_inside T Q text c.deref.result.now d c.labels_are_inside.ensures)

pub table_tally-result-requires-clause-conds : goal.table_tally-result-requires-clause-conds
table_tally-result-requires-clause-conds g c =
    subst (λ (conds : List Cond). AreFor c.args.segment.now conds) (sym (c.as_slice-conds.ensures ∙ c.conds.ensures)) (conds_for c.args.segment.now c.args.query.now c.requires.query)

pub returns-in-Ok-clause-tally : goal.returns-in-Ok-clause-tally
returns-in-Ok-clause-tally g c =
    let T = c.args.segment.now in
    let Q = c.args.query.now in
    let text = c.args.text in
    let items = c.in-Some.entries.items in
    let a : TellsRows items (told T text) (shape c.head-expr.result.now) = rw c.in-Some.is at c.in_ok-found.ensures.rows in
    let t : TellsRows items (told T text) Q.head = subst (λ (e : Expr). TellsRows items (told T text) e) c.head-expr.ensures a in
    let d : TellsRows c.deref.result.now (told T text) Q.head = subst (λ (es : List Entry). TellsRows es (told T text) Q.head) (sym c.deref.ensures.value) t in
    told_tally T Q text c.deref.result.now d c.in-Ok.tally.rows c.in-Ok.tally.spans c.in-Ok.ensures.rows
    (subst (λ (conds : List Cond). HasCount (IsSpanMet T conds c.deref.result.now text) c.in-Ok.tally.spans) (c.as_slice-conds.ensures ∙ c.conds.ensures) c.in-Ok.ensures.spans)

pub returns-in-Err-clause-too_many : goal.returns-in-Err-clause-too_many
returns-in-Err-clause-too_many g c = λ e.
    let T = c.args.segment.now in
    let Q = c.args.query.now in
    let text = c.args.text in
    let items = c.in-Some.entries.items in
    let a : TellsRows items (told T text) (shape c.head-expr.result.now) = rw c.in-Some.is at c.in_ok-found.ensures.rows in
    let t : TellsRows items (told T text) Q.head = subst (λ (e : Expr). TellsRows items (told T text) e) c.head-expr.ensures a in
    let d : TellsRows c.deref.result.now (told T text) Q.head = subst (λ (es : List Entry). TellsRows es (told T text) Q.head) (sym c.deref.ensures.value) t in
    let was : c.table_tally-result.result ≡ Err TooManyRows = search rules in
    told_more T Q text c.deref.result.now d c.args.room (c.table_tally-result.ensures.more was)
