use Rattle.std.proofs.Common.{◌∙◌, ◌++◌, ◌∷◌, [], sym, ap, subst, length}
use Rattle.mt_text_spec.specs.Texts.{ValidText}
use Rattle.mt_corpus_spec.specs.Images.{Corpus}
use Rattle.mt_corpus_spec.specs.Groups.{HoldsName, IsFull, alone}
use Rattle.mt_corpus.specs.Held.{IsMadeOf}
use Rattle.mt_corpus.specs.Added.{MayBeKept, SomeMayBeKept}
use Rattle.mt_corpus.proofs.Holding.{both_long, few_segments, groups_after, held_after, held_same, name_made, tokens_made}
use Rattle.mt_corpus.proofs.corpus.Corpus.keep.Goals as goal

pub push_text-requires-clause-few : goal.push_text-requires-clause-few
push_text-requires-clause-few c = few_segments c.self.inside.registry c.self.inside.segments c.self.inside.live _ c.self.inside.texts c.self.inside.tokens c.self.invariant

pub push_text-requires-clause-both : goal.push_text-requires-clause-both
push_text-requires-clause-both c = both_long c.self.inside.registry c.self.inside.segments c.self.inside.live _ c.self.inside.texts c.self.inside.tokens c.self.invariant

pub invariant_of-self : goal.invariant_of-self
invariant_of-self c =
    let e = c.in_err-push_text.ensures in
    held_same c.self.inside.registry c.self.inside.segments c.self.inside.live _ c.self.inside.texts c.self.inside.tokens c.self.invariant c.push_text.new.segments c.push_text.new.live _ e.same_segments e.same_live e.same_places

pub invariant_of-self-2 : goal.invariant_of-self-2
invariant_of-self-2 c =
    let e = c.in_ok-push_text.ensures in
    let some = subst (λ (v : Corpus). SomeMayBeKept v c.args.segment) (sym c.self.view_is) c.requires in
    let text = some.text in
    held_after c.self.inside.registry c.self.inside.segments c.self.inside.live _ c.self.inside.texts c.self.inside.tokens c.self.invariant c.texts_are_decoded.ensures c.numbers_are_live.ensures text c.args.segment
    some.may.valid some.may.made some.may.free some.may.room
    c.push_text.new.segments c.push_text.new.live _ c.in_ok-name.name c.in_ok-live.live _ (c.in_ok-name.ensures ∙ c.text_name.ensures ∙ name_made c.self.inside.registry text c.args.segment some.may.made) c.in_ok-live.ensures
    (c.tokens-tokens.ensures.count ∙ tokens_made c.self.inside.registry text c.args.segment some.may.made) e.segments e.live e.places

pub returns-clause-ok : goal.returns-clause-ok
returns-clause-ok c = λ text kept.
    let e = c.in_ok-push_text.ensures in
    let may = subst (λ (v : Corpus). MayBeKept v text c.args.segment) (sym c.self.view_is) kept in
    groups_after c.self.inside.registry c.self.inside.segments c.self.inside.live _ c.self.inside.texts c.self.inside.tokens c.self.invariant c.texts_are_decoded.ensures c.numbers_are_live.ensures text c.args.segment
    may.valid may.made may.free may.room
    c.push_text.new.segments c.push_text.new.live e.segments (e.live ∙ ap (λ ns. c.self.inside.live ++ ns ∷ []) c.in_ok-live.ensures)
    ∙ ap (λ (v : Corpus). v.groups ++ alone text ∷ []) c.self.view_is
