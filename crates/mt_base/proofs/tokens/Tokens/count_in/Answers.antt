use Rattle.std.proofs.Common.{◌≡◌, ◌<◌, ◌∙◌, ap, sym, arith, length}
use Rattle.std.specs.List.{count_by}
use Rattle.std.specs.Str.{bytes_eq}
use Rattle.std.proofs.lemmas.List.{take_all}
use Rattle.std.proofs.lemmas.List.Sums.{count_by-le-length}
use Rattle.mt_text_spec.specs.Texts.{value_of}
use Rattle.mt_base.proofs.Rows.{length-rows, counted_yes, counted_no}
use Rattle.mt_base.proofs.tokens.Tokens.count_in.Goals as goal
use Rattle.mt_base.proofs.tokens.Tokens.count_in.Goals.{then-eq, else-eq}

pub value-requires : goal.value-requires
value-requires c =
    omega (arith, c.loop-place-test.true, length-rows c.self.inside.columns c.self.inside.count c.self.inside.values, ap (λ t. length t.tokens) c.self.view_is)

pub loop-place-preserved : goal.loop-place-preserved
loop-place-preserved c =
    let l : c.loop-place.place < length c.args.self.now.tokens =
    omega (arith, c.loop-place-test.true, length-rows c.self.inside.columns c.self.inside.count c.self.inside.values, ap (λ t. length t.tokens) c.self.view_is) in
    let e : c.eq.result ≡ bytes_eq c.value.result.now c.args.value.now = c.eq.ensures ∙ ap (λ v. bytes_eq v c.args.value.now) c.as_bytes.ensures.value in
    elim c.if-eq.branch [
      | then-eq w ↦ rw w.found-is (counted_yes c.args.self.now.tokens c.args.column c.loop-place.place c.loop-place.found c.value.result.now c.args.value.now l c.loop-place.invariant c.value.ensures (sym e ∙ w.if-eq.true))
      | else-eq w ↦ rw w.found-is (counted_no c.args.self.now.tokens c.args.column c.loop-place.place c.loop-place.found c.value.result.now c.args.value.now l c.loop-place.invariant c.value.ensures (sym e ∙ w.if-eq.false))
    ]

pub returns-clause-count : goal.returns-clause-count
returns-clause-count c = c.loop-place.invariant ∙ ap (count_by (λ token. bytes_eq (value_of token c.args.column) c.args.value.now)) (take_all c.loop-place.place c.args.self.now.tokens (omega (arith, c.loop-place-test.false, length-rows c.self.inside.columns c.self.inside.count c.self.inside.values, ap (λ t. length t.tokens) c.self.view_is)))

pub returns-clause-bound : goal.returns-clause-bound
returns-clause-bound c =
    omega (arith, returns-clause-count c, count_by-le-length (λ token. bytes_eq (value_of token c.args.column) c.args.value.now) c.args.self.now.tokens)
