use Rattle.std.proofs.Common.{◌≡◌, ◌++◌, [], sym, ap, ◌∙◌, subst}
use Rattle.mt_store_spec.specs.Codes.{bits}
use Rattle.mt_store_spec.specs.Positions.{ArePositions}
use Rattle.mt_postings.specs.Kept.{positions_in}
use Rattle.mt_postings.proofs.Keeping.{kept_none, kept_is, kept_view}
use Rattle.mt_postings.proofs.coded.Coded.from_slice.Goals as goal

pub invariant_of-coded : goal.invariant_of-coded
invariant_of-coded c = kept_view [] c.new.result.items c.new-2.result.items 0 0 0 (kept_none c.new.result.items c.new-2.result.items c.new.ensures.items c.new-2.ensures.items)

pub append-requires : goal.append-requires
append-requires c =
    let none : positions_in 0 0 (bits c.new.result.items) ≡ [] = kept_is [] c.new.result.items c.new-2.result.items 0 0 0 (kept_none c.new.result.items c.new-2.result.items c.new.ensures.items c.new-2.ensures.items) in
    subst (λ x. ArePositions (x ++ c.args.positions.now)) (sym none) c.requires

pub returns : goal.returns
returns c =
    let none : positions_in 0 0 (bits c.new.result.items) ≡ [] = kept_is [] c.new.result.items c.new-2.result.items 0 0 0 (kept_none c.new.result.items c.new-2.result.items c.new.ensures.items c.new-2.ensures.items) in
    c.in_ok-append.ensures.ok ∙ ap (λ x. x ++ c.args.positions.now) none
