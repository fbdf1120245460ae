use Rattle.std.proofs.Common.{ℕ, ◌<◌, [], length, get_or, sym, ap, subst, ◌∙◌}
use Rattle.mt_store_spec.specs.Lexicons.{IsAscending}
use Rattle.mt_segment_spec.specs.Tables.{tables_at}
use Rattle.mt_tally.proofs.Values.{same_number, told_by, same_bytes}
use Rattle.mt_tally.proofs.conds.are_same.Goals as goal

pub returns-then-left_attr-right_attr-clause-same : goal.returns-then-left_attr-right_attr-clause-same
returns-then-left_attr-right_attr-clause-same g c =
    same_number (tables_at c.args.segment.now.attrs c.args.left_attr).lexicon c.value_id-one.result c.value_id-other.result _ _
    (subst IsAscending c.lexicon.ensures c.len.ensures.ascending) c.value_id-one.ensures.within
    (subst (λ (a : ℕ). c.value_id-other.result < length (tables_at c.args.segment.now.attrs a).lexicon) (sym c.if-left_attr-right_attr.true) c.value_id-other.ensures.within)
    (ap (λ (n : ℕ). get_or (tables_at c.args.segment.now.attrs c.args.left_attr).lexicon n []) (sym c.value_id-one.ensures.number))
    (ap (λ (n : ℕ). get_or (tables_at c.args.segment.now.attrs c.args.right_attr).lexicon n []) (sym c.value_id-other.ensures.number) ∙ ap (λ (a : ℕ). get_or (tables_at c.args.segment.now.attrs a).lexicon c.value_id-other.result []) (sym c.if-left_attr-right_attr.true))

pub returns-clause-same : goal.returns-clause-same
returns-clause-same g c =
    same_bytes c.value.result.now c.value-2.result.now _ _ c.eq.result c.eq.ensures
    (told_by (tables_at c.args.segment.now.attrs c.args.left_attr).lexicon c.lexicon-2.result.now c.value_id-one.result _ c.value.result.now c.lexicon-2.ensures c.value_id-one.ensures.number c.value.ensures)
    (told_by (tables_at c.args.segment.now.attrs c.args.right_attr).lexicon c.lexicon-3.result.now c.value_id-other.result _ c.value-2.result.now c.lexicon-3.ensures c.value_id-other.ensures.number c.value-2.ensures)
