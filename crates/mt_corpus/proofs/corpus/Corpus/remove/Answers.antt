use Rattle.std.proofs.Common.{◌∙◌, List, sym, ap, subst, arith}
use Rattle.mt_text_spec.specs.Registries.{Registry}
use Rattle.mt_corpus_spec.specs.Images.{Corpus, Image}
use Rattle.mt_corpus_spec.specs.Groups.{Group, without}
use Rattle.mt_corpus_spec.specs.Decoded.{groups_in, taken_in}
use Rattle.mt_corpus.proofs.Holding.{both_long, groups_less, held_less, none_held, place_within}
use Rattle.mt_corpus.specs.Named.{SplitsAt}
use Rattle.mt_corpus.proofs.Splitting.{splits_there}
use Rattle.mt_corpus.proofs.Sizes.{sized, text_within}
use Rattle.mt_corpus.proofs.corpus.Corpus.remove.Goals as goal

pub returns-in-None-clause-none : goal.returns-in-None-clause-none
returns-in-None-clause-none c =
    none_held c.self.inside.registry c.self.inside.segments c.self.inside.live _ c.self.inside.texts c.self.inside.tokens c.self.invariant c.args.self.now.groups c.args.name.now (ap (λ (v : Corpus). v.groups) c.self.view_is) c.in-None.ensures.value

pub get-requires-in-Some : goal.get-requires-in-Some
get-requires-in-Some c = place_within c.self.inside.registry c.self.inside.segments c.self.inside.live _ c.self.inside.texts c.self.inside.tokens c.self.invariant c.args.name.now c.in-Some.place.now c.in-Some.ensures.value

pub text_bounds-begin-requires : goal.text_bounds-begin-requires
text_bounds-begin-requires c =
    text_within c.texts_are_decoded.ensures c.numbers_are_live.ensures c.self.inside.registry c.self.inside.segments c.self.inside.live _ c.self.inside.texts c.self.inside.tokens c.self.invariant c.args.name.now c.in-Some.place.now c.in-Some.ensures.value
    c.get-in-Some.result.now c.get-in-Some.ensures

pub drop_live-requires : goal.drop_live-requires
drop_live-requires c =
    let long = both_long c.self.inside.registry c.self.inside.segments c.self.inside.live _ c.self.inside.texts c.self.inside.tokens c.self.invariant in
    let low = place_within c.self.inside.registry c.self.inside.segments c.self.inside.live _ c.self.inside.texts c.self.inside.tokens c.self.invariant c.args.name.now c.in-Some.place.now c.in-Some.ensures.value in
    omega (arith, long, low)

pub invariant_of-self : goal.invariant_of-self
invariant_of-self c =
    held_less c.self.inside.registry c.self.inside.segments c.self.inside.live _ c.self.inside.texts c.self.inside.tokens c.self.invariant c.args.name.now c.in-Some.place.now.0 c.in-Some.place.now.1 (sym c.in-Some.ensures.value)
    c.drop_live.new.live _ c.drop_live.ensures c.remove.ensures.updates.0

pub returns-in-Some-clause-ok : goal.returns-in-Some-clause-ok
returns-in-Some-clause-ok c =
    let made : Registry → List Group → List Image → Corpus = λ r g t. record { registry = r; groups = g; taken = t } in
    let inside = c.self.inside in
    let less = groups_less inside.registry inside.segments inside.live _ inside.texts inside.tokens c.self.invariant c.args.name.now c.in-Some.place.now.0 c.in-Some.place.now.1 (sym c.in-Some.ensures.value) in
    ap (λ (gs : List Group). made inside.registry gs (taken_in inside.registry inside.segments)) (ap (groups_in inside.registry inside.segments) c.drop_live.ensures ∙ less)
    ∙ ap (λ (v : Corpus). made v.registry (without c.args.name.now v.groups) v.taken) c.self.view_is

pub returns-in-Some-clause-tokens : goal.returns-in-Some-clause-tokens
returns-in-Some-clause-tokens c =
    sized c.texts_are_decoded.ensures c.numbers_are_live.ensures c.self.inside.registry c.self.inside.segments c.self.inside.live _ c.self.inside.texts c.self.inside.tokens c.self.invariant c.args.name.now c.in-Some.place.now c.in-Some.ensures.value
    c.args.self.now.groups c.get-in-Some.result.now c.text_bounds-begin.result.0 c.text_bounds-begin.result.1 (ap (λ (v : Corpus). v.groups) c.self.view_is) c.get-in-Some.ensures c.text_bounds-begin.ensures.begin c.text_bounds-begin.ensures.end

pub returns-in-Some-clause-split : goal.returns-in-Some-clause-split
returns-in-Some-clause-split c =
    subst (λ (v : Corpus). SplitsAt v.groups c.args.name.now) c.self.view_is
    (splits_there c.self.inside.registry c.self.inside.segments c.self.inside.live _ c.self.inside.texts c.self.inside.tokens c.self.invariant c.args.name.now c.in-Some.place.now c.in-Some.ensures.value)
