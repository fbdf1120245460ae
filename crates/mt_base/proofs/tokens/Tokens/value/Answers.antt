use Rattle.std.proofs.Common.{[], ◌<◌, ◌*◌, ◌+◌, arith, ap, sym, ◌∙◌, get_or, length, rules}
use Rattle.std.proofs.lemmas.Option.{get_or_from_slice_get}
use Rattle.mt_text_spec.specs.Texts.{value_of}
use Rattle.mt_base.proofs.Rows.{length-rows, placed, value_at, value_past}
use Rattle.mt_base.proofs.tokens.Tokens.value.Goals as goal
use Rattle.mt_base.proofs.tokens.Tokens.value.Goals.{After-self, After-len-end}

counted : (c : After-self) → c.args.place < c.self.inside.count
counted c = omega (arith, c.requires, length-rows c.self.inside.columns c.self.inside.count c.self.inside.values, ap (λ t. length t.tokens) c.self.view_is)

below : (c : After-len-end) → c.args.place * c.self.inside.columns + c.args.column < c.len-end.result
below c =
    rw c.len-end.ensures (placed c.self.inside.columns c.self.inside.count c.self.inside.values c.args.place c.args.column c.self.invariant (counted c.before.before) c.if-column-self.false)

pub overflow_mul-at : goal.overflow_mul-at
overflow_mul-at c =
    let w : c.args.place * c.self.inside.columns < c.len-end.result = omega (arith, below c) in
    search rules

pub overflow_add-at : goal.overflow_add-at
overflow_add-at c =
    let w : c.args.place * c.self.inside.columns + c.args.column < c.len-end.result = below c in
    search rules

pub prove-unreachable-requires : goal.prove-unreachable-requires
prove-unreachable-requires c = omega (arith, c.if-prove.true, below c.before)

pub get-requires : goal.get-requires
get-requires c = rw (← c.len-end.ensures) c.if-prove.false

pub returns-then-column-self : goal.returns-then-column-self
returns-then-column-self c = λ token.
    sym (value_past c.self.inside.columns c.self.inside.count c.self.inside.values c.args.place c.args.column token (counted c.before.before.before) c.if-column-self.true)
    ∙ ap (λ t. value_of (get_or t.tokens c.args.place token) c.args.column) c.self.view_is

pub returns : goal.returns
returns c = λ token.
    sym (get_or_from_slice_get c.self.inside.values (c.args.place * c.self.inside.columns + c.args.column) c.get.result.now [] c.get.ensures)
    ∙ sym (value_at c.self.inside.columns c.self.inside.count c.self.inside.values c.args.place c.args.column token (counted c.before.before.before.before) c.if-column-self.false)
    ∙ ap (λ t. value_of (get_or t.tokens c.args.place token) c.args.column) c.self.view_is
