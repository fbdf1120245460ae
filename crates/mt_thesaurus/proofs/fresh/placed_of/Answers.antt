use Rattle.std.proofs.Common.{◌+◌, ap, sym, subst, ◌∙◌, arith, [], ◌∷◌, length, length-append}
use Rattle.mt_thesaurus.specs.Building.{AreScored}
use Rattle.mt_thesaurus.proofs.Scoring.{scored_more, scored_passed}
use Rattle.mt_thesaurus.proofs.fresh.placed_of.Goals as goal
use Rattle.mt_thesaurus.proofs.fresh.placed_of.Goals.{in-Some+in_ok-push-in-Some, in-None}

pub loop-place-preserved : goal.loop-place-preserved
loop-place-preserved c =
    let entries = c.args.numbered.now.entries in
    let n = c.loop-place.place in
    let placed = c.loop-place.placed.items in
    let more = c.match-scored.placed.items in
    elim c.match-scored.branch [
      | in-Some+in_ok-push-in-Some w ↦ (
          let is = ap (λ v. v.items) w.placed-is ∙ w.in_ok-push-in-Some.ensures.items in
          record {
            scored = scored_more c.score_is_unique.ensures entries n c.get-entry.result placed more w.in-Some.item c.loop-place.invariant.scored c.get-entry.ensures w.in-Some.ensures.some is c.requires.within c.requires.apart;
            few = omega (arith, c.loop-place.invariant.few, ap length is, length-append placed (w.in-Some.item ∷ []));
          })
      | in-None w ↦ (
          let is = ap (λ v. v.items) w.placed-is in
          record {
            scored = subst (AreScored entries (n + 1)) (sym is) (scored_passed entries n c.get-entry.result placed c.loop-place.invariant.scored c.get-entry.ensures w.in-None.ensures.none);
            few = omega (arith, c.loop-place.invariant.few, ap length is);
          })
    ]
