use Rattle.std.proofs.Common.{◌/◌, length, map, arith}
use Rattle.std.proofs.lemmas.Result.{IfOk-weaker}
use Rattle.mt_lexicon.specs.declared.merger.Merged.{Merged}
use Rattle.mt_lexicon.specs.Joins.{JoinsMerged, Merges}
use Rattle.mt_lexicon.proofs.Merged.{halves_merged, in_halves, front_few, back_few, lexicons_few}
use Rattle.mt_lexicon.proofs.merger.+merge.Goals as goal

pub merge-requires : goal.merge-requires
merge-requires t c = (
  omega (arith, c.decreases, c.split_at.ensures.front_len, c.if-parts-le2.false),
  front_few (map (λ part. part.now) c.args.parts.now) (map (λ part. part.now) c.split_at.result.0.now) (map (λ part. part.now) c.split_at.result.1.now)
      (in_halves (λ part. part.now) (length c.args.parts.now / 2) c.args.parts.now c.split_at.result.0.now c.split_at.result.1.now c.split_at.ensures.front c.split_at.ensures.back) c.requires,
)

pub merge-requires-2 : goal.merge-requires-2
merge-requires-2 t c = (
  omega (arith, c.decreases, c.split_at.ensures.back_len, c.if-parts-le2.false),
  back_few (map (λ part. part.now) c.args.parts.now) (map (λ part. part.now) c.split_at.result.0.now) (map (λ part. part.now) c.split_at.result.1.now)
      (in_halves (λ part. part.now) (length c.args.parts.now / 2) c.args.parts.now c.split_at.result.0.now c.split_at.result.1.now c.split_at.ensures.front c.split_at.ensures.back) c.requires,
)

pub join_merged-requires : goal.join_merged-requires
join_merged-requires t c =
    lexicons_few (map (λ part. part.now) c.args.parts.now) (map (λ part. part.now) c.split_at.result.0.now) (map (λ part. part.now) c.split_at.result.1.now) c.in_ok-front.front.lexicon c.in_ok-back.back.lexicon
    (in_halves (λ part. part.now) (length c.args.parts.now / 2) c.args.parts.now c.split_at.result.0.now c.split_at.result.1.now c.split_at.ensures.front c.split_at.ensures.back) c.requires
    c.in_ok-front.ensures.lexicon c.in_ok-back.ensures.lexicon

pub returns : goal.returns
returns t c =
    let front = map (λ part. part.now) c.split_at.result.0.now in
    let back = map (λ part. part.now) c.split_at.result.1.now in
    IfOk-weaker c.join_merged.result
    (λ (merged : Merged). JoinsMerged c.in_ok-front.front.lexicon c.in_ok-back.back.lexicon merged.lexicon c.in_ok-front.front.renumberings.items c.in_ok-back.back.renumberings.items merged.renumberings.items)
    (λ (merged : Merged). Merges (map (λ part. part.now) c.args.parts.now) merged.lexicon merged.renumberings.items)
    (λ merged joined. halves_merged (map (λ part. part.now) c.args.parts.now) front back c.in_ok-front.front.lexicon c.in_ok-back.back.lexicon merged.lexicon
    c.in_ok-front.front.renumberings.items c.in_ok-back.back.renumberings.items merged.renumberings.items
    (in_halves (λ part. part.now) (length c.args.parts.now / 2) c.args.parts.now c.split_at.result.0.now c.split_at.result.1.now c.split_at.ensures.front c.split_at.ensures.back)
    c.in_ok-front.ensures c.in_ok-back.ensures joined)
    c.join_merged.ensures
