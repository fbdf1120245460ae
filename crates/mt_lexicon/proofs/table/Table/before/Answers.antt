use Rattle.std.proofs.Common.{arith}
use Rattle.std.proofs.lemmas.List.{length-map}
use Rattle.mt_lexicon.specs.declared.table.Link.{Link}
use Rattle.mt_lexicon.proofs.Chains.{before_within}
use Rattle.mt_lexicon.proofs.table.Table.before.Goals as goal

pub last_from-requires-clause-within : goal.last_from-requires-clause-within
last_from-requires-clause-within c =
    let count = length-map c.self.inside.links.items (λ (l : Link). l.hash) in
    let low = rw (← c.self.view_is) at c.requires in
    let is = before_within c.self.inside.links.items c.self.inside.ends.items c.args.number c.index-link.result.now c.index-link.result.now c.self.invariant.0 c.index-link.ensures (omega (arith, count)) in
    rw (← c.self.view_is) (omega (arith, count, is.bound))

pub last_from-requires-clause-bucket : goal.last_from-requires-clause-bucket
last_from-requires-clause-bucket c =
    let count = length-map c.self.inside.links.items (λ (l : Link). l.hash) in
    let low = rw (← c.self.view_is) at c.requires in
    let is = before_within c.self.inside.links.items c.self.inside.ends.items c.args.number c.index-link.result.now c.index-link.result.now c.self.invariant.0 c.index-link.ensures (omega (arith, count)) in
    rw (← c.self.view_is) is.here
