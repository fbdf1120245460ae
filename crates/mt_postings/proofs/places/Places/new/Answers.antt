use Rattle.std.proofs.Common.{◌≡◌, ◌-◌, ap, ◌∙◌, arith}
use Rattle.mt_postings.specs.Kept.{positions_in}
use Rattle.mt_postings.proofs.Coding.{short_code}
use Rattle.mt_postings.proofs.Keeping.{kept_told}
use Rattle.mt_postings.proofs.Placing.{placed_first}
use Rattle.mt_postings.proofs.places.Places.new.Goals as goal

pub new-requires : goal.new-requires
new-requires c = short_code c.args.bytes.now c.requires.0 c.requires.1

pub invariant_of-result : goal.invariant_of-result
invariant_of-result c = placed_first c.args.entries.now c.args.count c.args.bytes.now c.requires.0 c.new.result c.new.ensures c.requires.1 c.requires.2 c.requires.3

pub returns : goal.returns
returns c = λ ps k n.
    let some : c.args.count - 0 ≡ c.args.count = omega arith in
    ap (λ x. positions_in x 0 c.new.result.left) some ∙ ap (λ u. positions_in c.args.count 0 u.left) c.new.ensures ∙ kept_told ps c.args.bytes.now c.args.count k n
