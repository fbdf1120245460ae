use Rattle.std.proofs.Common.{◌∙◌, sym, subst}
use Rattle.std.specs.List.{All}
use Rattle.std.proofs.lemmas.List.{with_items_is}
use Rattle.mt_lexicon.proofs.FirstSight.{seen_again}
use Rattle.mt_vertical_tables.specs.Packing.{IsKnown}
use Rattle.mt_vertical_tables.proofs.Packing.{known_more, tells}
use Rattle.mt_vertical_tables.proofs.known.Seen.add.Goals as goal

pub returns-in-Some-clause-values : goal.returns-in-Some-clause-values
returns-in-Some-clause-values c =
    let seen = c.self.inside.builder in
    let all : All (IsKnown seen) c.as_slice.result.now = subst (All (IsKnown seen)) (sym c.as_slice.ensures.value) c.self.invariant in
    rw (← c.self.view_is) (seen_again seen c.args.value.now c.in-Some.number (c.in-Some.ensures seen c.args.value.now all c.packed-key.ensures.packed))

pub invariant_of-self-2 : goal.invariant_of-self-2
invariant_of-self-2 c =
    let more = c.add-2.new.self in
    let all : All (IsKnown more) c.as_mut_slice.result.now =
    subst (All (IsKnown more)) (sym c.as_mut_slice.ensures.value) (known_more c.self.inside.builder more c.args.value.now c.self.inside.known.items c.in_ok-number.ensures.values c.self.invariant) in
    rw (with_items_is c.self.inside.known c.put.new.known (c.put.ensures.count ∙ c.as_mut_slice.ensures.len))
    (c.put.ensures.known more all (tells more c.new.result c.args.value.now c.packed-key.result c.in_ok-number.number c.new.ensures.key c.new.ensures.number c.packed-key.ensures.packed c.in_ok-number.ensures.number))
