use Rattle.std.proofs.Common.{◌≡◌, ◌<◌, ◌∙◌, ap, arith, get_or}
use Rattle.std.specs.List.{prefix_len}
use Rattle.mt_cql.specs.Texts.{stays}
use Rattle.mt_cql.proofs.Escaping.{kept_within, mark_at, mark_ascii}
use Rattle.mt_cql.proofs.printer.cut_kept.Goals as goal

pub range-requires-clause-end_boundary : goal.range-requires-clause-end_boundary
range-requires-clause-end_boundary c =
    let e : c.kept_length-n.result ≡ prefix_len (stays c.args.literal) c.args.rest.now = c.kept_length-n.ensures ∙ ap (prefix_len (stays c.args.literal)) c.as_bytes.ensures.value in (
      kept_within c.args.literal c.args.rest.now c.kept_length-n.result e,
      λ l h. absurd (let a : get_or c.args.rest.now c.kept_length-n.result 0 < 128 = mark_ascii c.args.literal _ (mark_at c.args.literal c.args.rest.now c.kept_length-n.result e l) in omega arith),
    )

pub range_from-requires : goal.range_from-requires
range_from-requires c = λ some.
    let e : c.kept_length-n.result ≡ prefix_len (stays c.args.literal) c.args.rest.now = c.kept_length-n.ensures ∙ ap (prefix_len (stays c.args.literal)) c.as_bytes.ensures.value in (
      kept_within c.args.literal c.args.rest.now c.kept_length-n.result e,
      λ l h. absurd (let a : get_or c.args.rest.now c.kept_length-n.result 0 < 128 = mark_ascii c.args.literal _ (mark_at c.args.literal c.args.rest.now c.kept_length-n.result e l) in omega arith),
    )
