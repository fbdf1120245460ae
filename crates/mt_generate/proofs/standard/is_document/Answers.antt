use Rattle.std.proofs.Common.{sym, ◌∙◌, codes}
use Rattle.std.proofs.lemmas.Bool.{true≢false, eqb-true}
use Rattle.mt_generate.proofs.Declared.{document_by, same_name}
use Rattle.mt_generate.proofs.standard.is_document.Goals.{then-eq, else-eq}
use Rattle.mt_generate.proofs.standard.is_document.Goals as goal

pub returns-then-len-eq1 : goal.returns-then-len-eq1
returns-then-len-eq1 c = elim c.if-eq.branch [
  | then-eq w ↦ document_by c.args.kind.now c.get.result.now (codes "doc") (codes "id") c.eq-then-len-eq1.result (rw (c.as_str.ensures, c.name.ensures) at (same_name c.as_str.result.now (codes "doc") (sym c.eq.ensures ∙ w.if-eq.true)))
      (rw w.attrs.ensures at (sym w.len.ensures ∙ eqb-true w.len.result 1 (sym w.value-is ∙ c.if-len-eq1.true))) (rw c.attrs-then-len-eq1.ensures at c.get.ensures) (rw c.as_str-then-len-eq1.ensures at c.eq-then-len-eq1.ensures)
  | else-eq w ↦ absurd (true≢false (sym c.if-len-eq1.true ∙ w.value-is ∙ w.if-eq.false))
]
