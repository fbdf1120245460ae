use Rattle.std.proofs.Common.{sym, ◌∙◌, ap}
use Rattle.std.specs.Prelude.{not}
use Rattle.std.proofs.lemmas.Bool.{true≢false}
use Rattle.mt_generate.proofs.Declared.{base_by, same_name}
use Rattle.mt_generate.proofs.standard.is_base.Goals.{then-eq, else-eq}
use Rattle.mt_generate.proofs.standard.is_base.Goals as goal

pub returns-then-is_none : goal.returns-then-is_none
returns-then-is_none c = elim c.if-eq.branch [
  | then-eq w ↦ base_by c.args.attr.now c.args.name.now c.is_empty.result (rw (c.as_str.ensures, c.name.ensures) at (same_name c.as_str.result.now c.args.name.now (sym c.eq.ensures ∙ w.if-eq.true)))
      (rw w.base.ensures at w.is_none.ensures ∙ ap not (sym w.value-is ∙ c.if-is_none.true)) (rw (c.as_str-then-is_none.ensures, c.mapper.ensures) at c.is_empty.ensures)
  | else-eq w ↦ absurd (true≢false (sym c.if-is_none.true ∙ w.value-is ∙ w.if-eq.false))
]
