use Rattle.std.proofs.Common.{◌+◌, ◌∙◌, ap, arith}
use Rattle.std.proofs.lemmas.List.{take_all}
use Rattle.mt_segment.specs.Numbered.{stands_for}
use Rattle.mt_segment.proofs.Numbered.{numbered_more}
use Rattle.mt_generate_tables.proofs.Codes.{no_values, value_next}
use Rattle.mt_generate_tables.specs.Coded.{tokens_of, values_of}
use Rattle.mt_generate_tables.proofs.numbering.add_values.Goals as goal

pub loop-code-init : goal.loop-code-init
loop-code-init c = record {
  count = c.in_ok-numbers.ensures.len;
  numbered = no_values c.args.values.now c.in_ok-numbers.numbers.items c.requires.none c.in_ok-numbers.ensures.items;
  values_are = ap (stands_for c.args.values.now) c.in_ok-numbers.ensures.items;
}

pub add_value-requires-clause-few : goal.add_value-requires-clause-few
add_value-requires-clause-few c = omega (arith, c.loop-code.invariant.numbered.few, c.loop-code.invariant.count, c.loop-code-test.true, c.requires.few)

pub loop-code-preserved : goal.loop-code-preserved
loop-code-preserved c =
    let inv = c.loop-code.invariant in
    record {
      count = c.in_ok-push.ensures.len ∙ ap (λ n. n + 1) inv.count;
      numbered = rw c.in_ok-push.ensures.items (numbered_more c.loop-code.values c.add_value.new.values c.loop-code.numbers.items _ c.in_ok-number.number inv.numbered c.in_ok-number.ensures.seen c.in_ok-number.ensures.number);
      values_are = value_next c.args.column c.loop-code.code-index c.args.codes.now c.loop-code.values c.add_value.new.values c.loop-code.numbers.items c.push.new.self.items c.in_ok-number.number
          c.loop-code-test.true inv.numbered inv.values_are c.in_ok-number.ensures.seen c.in_ok-number.ensures.number c.in_ok-push.ensures.items;
    }

pub returns-clause-numbered : goal.returns-clause-numbered
returns-clause-numbered c = c.loop-code.invariant.numbered

pub returns-clause-values : goal.returns-clause-values
returns-clause-values c = c.loop-code.invariant.values_are ∙ ap (λ codes. values_of c.args.column (tokens_of codes)) (take_all c.loop-code.code-index c.args.codes.now c.loop-code-test.false)
