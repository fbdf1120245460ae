use Rattle.std.proofs.Common.{subst, ap}
use Rattle.mt_corpus_spec.specs.Images.{Corpus}
use Rattle.mt_corpus.specs.Named.{IsTextAt}
use Rattle.mt_corpus.proofs.Holding.{none_held, place_within}
use Rattle.mt_corpus.proofs.Splitting.{found_there}
use Rattle.mt_corpus.proofs.corpus.Corpus.find.Goals as goal

pub get-requires-in-Some : goal.get-requires-in-Some
get-requires-in-Some c = place_within c.self.inside.registry c.self.inside.segments c.self.inside.live _ c.self.inside.texts c.self.inside.tokens c.self.invariant c.args.name.now c.in-Some.place.now c.in-Some.ensures.value

pub returns-in-None-clause-none : goal.returns-in-None-clause-none
returns-in-None-clause-none c =
    none_held c.self.inside.registry c.self.inside.segments c.self.inside.live _ c.self.inside.texts c.self.inside.tokens c.self.invariant c.args.self.now.groups c.args.name.now (ap (λ (v : Corpus). v.groups) c.self.view_is) c.in-None.ensures.value

pub returns-in-Some-clause-found : goal.returns-in-Some-clause-found
returns-in-Some-clause-found c =
    subst (λ (v : Corpus). IsTextAt v c.args.name.now c.get-in-Some.result.now c.in-Some.place.now.1) c.self.view_is
    (found_there c.self.inside.registry c.self.inside.segments c.self.inside.live _ c.self.inside.texts c.self.inside.tokens c.self.invariant c.args.name.now c.in-Some.place.now c.in-Some.ensures.value
    c.texts_are_decoded.ensures c.numbers_are_live.ensures c.images_are_decoded.ensures c.get-in-Some.result.now c.get-in-Some.ensures)
