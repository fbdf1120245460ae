use Rattle.std.proofs.Common.{◌≡◌, length, rules, arith}
use Rattle.std.proofs.lemmas.Bool.{eqb-true}
use Rattle.std.proofs.lemmas.Grind.{common_steps}
use Rattle.mt_vertical_tables.proofs.Values.{goes_on, all_seen}
use Rattle.mt_vertical_tables.proofs.lines.number_lines.Goals as goal

pub loop-rest-preserved : goal.loop-rest-preserved
loop-rest-preserved c = record {
  text = search rules;
  few = c.in_ok-add_told.ensures.few;
  so_far = goes_on c.args.column c.args.text.now c.loop-rest.rest.now _ _ _ _ c.first_value.ensures c.in_ok-add_told.ensures.adds c.loop-rest.invariant.so_far;
}

pub returns-clause-values : goal.returns-clause-values
returns-clause-values c =
    let none : length c.loop-rest.rest.now ≡ 0 = grind (arith, common_steps, eqb-true) in
    all_seen c.args.column c.args.text.now c.loop-rest.rest.now c.loop-rest.numbering none c.loop-rest.invariant.so_far
