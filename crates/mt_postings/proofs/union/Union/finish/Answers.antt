use Rattle.std.proofs.Common.{◌<◌, subst, sym, ◌∙◌}
use Rattle.std.specs.List.Sorted.{IsPermutation}
use Rattle.std.proofs.lemmas.List.Sorted.{All-permutation}
use Rattle.std.proofs.lemmas.List.Filters.{dedup_is}
use Rattle.std.proofs.lemmas.Map.Keys.{IsStrictlyIncreasing-dedup}
use Rattle.mt_store_spec.specs.Positions.{ArePositions}
use Rattle.mt_postings.proofs.Gathered.{in_range_dedup, same_members}
use Rattle.mt_postings.proofs.union.Union.finish.Goals as goal

pub from_slice-requires : goal.from_slice-requires
from_slice-requires c =
    let is = dedup_is _ _ _ c.dedup.ensures.filtered in
    subst ArePositions (sym (c.as_slice.ensures.value ∙ is))
    (record {
      ascending = IsStrictlyIncreasing-dedup c.sort_unstable.new.self.items c.sort_unstable.ensures.sorted;
      in_range = in_range_dedup c.sort_unstable.new.self.items (All-permutation (λ p. p < 4294967295) c.self.inside.positions.items c.sort_unstable.new.self.items c.sort_unstable.ensures.permutation c.self.invariant);
    })

pub returns-clause-members : goal.returns-clause-members
returns-clause-members c =
    let is = dedup_is _ _ _ c.dedup.ensures.filtered in
    let kept = c.as_slice.ensures.value ∙ is in
    same_members c.from_slice.result c.args.self c.sort_unstable.new.self.items c.as_slice.result.now kept (subst (λ x. IsPermutation x c.sort_unstable.new.self.items) c.self.view_is c.sort_unstable.ensures.permutation) c.from_slice.ensures
