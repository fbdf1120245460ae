use Rattle.std.proofs.Common.{◌≡◌, get_or, replicate, rules, ◌∙◌, ap}
use Rattle.std.proofs.lemmas.List.{get_or-replicate}
use Rattle.mt_places.proofs.Bits.{none_in}
use Rattle.mt_places.proofs.places.Places.none.Goals as goal

pub returns-clause-none : goal.returns-clause-none
returns-clause-none c =
    let e : c.in_ok-words.words.items ≡ replicate c.args.width 0 = search rules in
    none_in c.in_ok-words.words.items (λ j h. ap (λ s. get_or s j 0) e ∙ get_or-replicate c.args.width j 0 0 (search rules))
