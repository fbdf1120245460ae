use Rattle.std.proofs.Common.{[], ◌<◌, ◌*◌, ◌+◌, arith, ap, sym, ◌∙◌, get_or, length, map, rules}
use Rattle.std.proofs.lemmas.List.{get_or-map, length-map}
use Rattle.mt_text_spec.specs.Texts.{value_of}
use Rattle.mt_base.proofs.Rows.{length-rows, placed, value_at}
use Rattle.mt_vertical.proofs.Added.{bytes_of}
use Rattle.mt_vertical.proofs.rows.Rows.value.Goals as goal
use Rattle.mt_vertical.proofs.rows.Rows.value.Goals.{After-self, After-len-end}

counted : (c : After-self) → c.args.place < c.self.inside.count
counted c = omega (arith, c.requires.place, length-rows c.self.inside.columns c.self.inside.count (map bytes_of c.self.inside.values.items), ap (λ t. length t.tokens) c.self.view_is)

low : (c : After-self) → c.args.column < c.self.inside.columns
low c = omega (arith, c.requires.column, ap (λ t. t.columns) c.self.view_is)

below : (c : After-len-end) → c.args.place * c.self.inside.columns + c.args.column < c.len-end.result
below c =
    omega (
      arith,
      c.len-end.ensures,
      placed c.self.inside.columns c.self.inside.count (map bytes_of c.self.inside.values.items) c.args.place c.args.column (length-map c.self.inside.values.items bytes_of ∙ c.self.invariant) (counted c.before) (low c.before),
      length-map c.self.inside.values.items bytes_of,
    )

pub overflow_mul-at : goal.overflow_mul-at
overflow_mul-at c =
    let w : c.args.place * c.self.inside.columns < c.len-end.result = omega (arith, below c) in
    search rules

pub overflow_add-at : goal.overflow_add-at
overflow_add-at c =
    let w : c.args.place * c.self.inside.columns + c.args.column < c.len-end.result = below c in
    search rules

pub prove-unreachable-requires : goal.prove-unreachable-requires
prove-unreachable-requires c = omega (arith, c.if-prove.true, below c.before)

pub returns : goal.returns
returns c = λ token.
    let old = c.self.inside in
    let at = c.args.place * old.columns + c.args.column in
    ap bytes_of c.index.ensures
    ∙ sym (get_or-map bytes_of old.values.items at c.index.result.now [] (omega (arith, c.len-end.ensures, c.if-prove.false)))
    ∙ sym (value_at old.columns old.count (map bytes_of old.values.items) c.args.place c.args.column token
    (omega (arith, c.requires.place, length-rows old.columns old.count (map bytes_of old.values.items), ap (λ t. length t.tokens) c.self.view_is)) (omega (arith, c.requires.column, ap (λ t. t.columns) c.self.view_is)))
    ∙ ap (λ t. value_of (get_or t.tokens c.args.place token) c.args.column) c.self.view_is
