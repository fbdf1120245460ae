use Rattle.std.proofs.Common.{sym, ◌∙◌}
use Rattle.mt_generate.proofs.Declared.{bare_by, same_name}
use Rattle.mt_generate.proofs.standard.is_bare.Goals as goal

pub returns-then-eq : goal.returns-then-eq
returns-then-eq c = bare_by c.args.kind.now c.args.name.now c.is_empty.result (rw (c.as_str.ensures, c.name.ensures) at (same_name c.as_str.result.now c.args.name.now (sym c.eq.ensures ∙ c.if-eq.true))) (rw c.attrs.ensures at c.is_empty.ensures)
