use Rattle.std.proofs.Common.{◌∙◌, ◌++◌, ◌∷◌, [], ap, sym, arith}
use Rattle.std.specs.List.{filter}
use Rattle.std.proofs.lemmas.List.FromFn.{map-range_with_len_more}
use Rattle.mt_segment_spec.specs.Tables.{is_of_kind}
use Rattle.mt_vertical_tables.proofs.outline.instances.Goals as goal

pub loop-kind-preserved : goal.loop-kind-preserved
loop-kind-preserved c =
    let structs = c.args.structs.now in
    c.in_ok-add_kind.ensures ∙ ap (λ lists. lists ++ filter (is_of_kind c.loop-kind.kind) structs ∷ []) c.loop-kind.invariant
    ∙ sym (map-range_with_len_more (λ kind. filter (is_of_kind kind) structs) 0 c.loop-kind.kind c.loop-kind.kind (omega arith))
