use Rattle.std.proofs.Common.{List, sym, subst}
use Rattle.std.specs.List.{All}
use Rattle.mt_word_sketch_spec.specs.Order.{Weighed}
use Rattle.mt_sketch.specs.Told.{frequencies_of}
use Rattle.mt_thesaurus.specs.Told.{IsSmall}
use Rattle.mt_thesaurus.proofs.Telling.{reply_told}
use Rattle.mt_thesaurus.proofs.contexts.Contexts.thesaurus.Goals as goal

pub put_words-requires : goal.put_words-requires
put_words-requires g c = subst (λ (ws : List Weighed). All IsSmall ws) (sym c.as_slice.ensures) c.in_ok-shown.ensures.small

pub returns : goal.returns
returns g c = λ images registry grammar corpus counted are scores.
    let alike = c.in_ok-shown.ensures.are (frequencies_of counted) scores in
    reply_told images registry grammar corpus counted c.args.lemma.now c.args.max alike.words c.in_ok-shown.shown c.as_slice.result.now c.len.result c.in_ok-reply.reply c.put_words.new.out are
    alike.are alike.first c.len.ensures c.in_ok-reply.ensures c.as_slice.ensures c.in_ok-put_words.ensures
