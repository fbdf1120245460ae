use Rattle.std.proofs.Common.{[], sym, arith}
use Rattle.std.proofs.lemmas.List.{append-nil}
use Rattle.mt_automaton.proofs.FromOne.{no_row}
use Rattle.mt_automaton.proofs.rows.rows_of_part.Goals as goal

pub returns-then-begin-tokens-clause-ok : goal.returns-then-begin-tokens-clause-ok
returns-then-begin-tokens-clause-ok g c = record {
  rows = [];
  are = no_row (g.V.View.seen c.args.view.now) c.args.part.now c.args.text c.args.begin c.args.room c.args.out.now (omega (arith, c.if-begin-tokens.true, c.tokens.ensures.is));
  within = omega arith;
  appended = sym (append-nil c.args.out.now);
}
