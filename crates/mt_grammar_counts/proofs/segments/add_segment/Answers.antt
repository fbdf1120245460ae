use Rattle.std.proofs.Common.{◌∙◌, sym, ap, subst}
use Rattle.mt_counts.specs.Counted.{Counted}
use Rattle.mt_triples.specs.CountsOf.{AreCountsOf}
use Rattle.mt_instances.specs.Collected.{Collected}
use Rattle.mt_grammar_counts.proofs.GroupLists.{attr_within}
use Rattle.mt_grammar_counts.proofs.segments.add_segment.Goals as goal

pub lexicon-requires : goal.lexicon-requires
lexicon-requires g c = rw c.ws_attr.ensures (attr_within c.args.registry.now c.args.segment.now c.requires.under)

pub add_ready-counted-requires-clause-fresh : goal.add_ready-counted-requires-clause-fresh
add_ready-counted-requires-clause-fresh g c = λ lifetimes outlive.
    let is = c.turn_to.ensures in
    record {
      lexicon = ap (λ (o : Collected). o.lexicon) is ∙ rw c.ws_attr.ensures at c.lexicon.ensures;
      numbers = ap (λ (o : Collected). o.numbers) is;
      given = ap (λ (o : Collected). o.given) is;
    }

pub returns-clause-counts : goal.returns-clause-counts
returns-clause-counts g c = λ images of done tell old.
    c.add_ready-counted.ensures.counts images of done tell
    (subst (λ (counted : Counted). AreCountsOf images c.args.registry.now c.args.grammar.now done counted) (sym (ap (λ (o : Collected). o.counted) c.turn_to.ensures)) old)
