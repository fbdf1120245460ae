use Rattle.std.proofs.Common.{ℕ, ◌≡◌, ◌+◌, List, length, sym, ap, subst, ◌∙◌}
use Rattle.mt_store_spec.specs.Positions.{ArePositions}
use Rattle.mt_postings.specs.Merge.{merge}
use Rattle.mt_postings.proofs.Merging.{merge_positions, union_members}
use Rattle.mt_postings.proofs.postings.Postings.union.Goals as goal

-- what is merged, by the positions that the two lists are seen as
seen : (left right a b all : List ℕ) → a ≡ left → b ≡ right → all ≡ merge (length a + length b) a b → all ≡ merge (length left + length right) left right
seen left right a b all e f h = h ∙ ap (λ x. merge (length x + length b) x b) e ∙ ap (λ y. merge (length left + length y) left y) f

pub from_slice-requires : goal.from_slice-requires
from_slice-requires c =
    let all = seen c.args.self.now c.args.other.now c.as_slice.result.now c.as_slice-2.result.now c.as_slice-3.result.now (c.as_slice.ensures.value ∙ c.in_ok-left.ensures.all) (c.as_slice-2.ensures.value ∙ c.in_ok-right.ensures.all) (c.as_slice-3.ensures.value ∙ c.in_ok-all.ensures) in
    subst ArePositions (sym all) (merge_positions c.args.self.now c.args.other.now c.spelt.ensures.valid c.spelt-2.ensures.valid)

pub returns-clause-members : goal.returns-clause-members
returns-clause-members c =
    let all = seen c.args.self.now c.args.other.now c.as_slice.result.now c.as_slice-2.result.now c.as_slice-3.result.now (c.as_slice.ensures.value ∙ c.in_ok-left.ensures.all) (c.as_slice-2.ensures.value ∙ c.in_ok-right.ensures.all) (c.as_slice-3.ensures.value ∙ c.in_ok-all.ensures) in
    union_members c.from_slice.result c.args.self.now c.args.other.now c.as_slice-3.result.now all c.from_slice.ensures
