use Rattle.std.proofs.Common.{◌∙◌, length, ap, arith, refl, map, List}
use Rattle.mt_thesaurus.specs.declared.placed.Placed.{Placed}
use Rattle.mt_thesaurus.specs.Sums.{turned, score_sum}
use Rattle.mt_thesaurus.proofs.Joining.{joined, entries_within, placed_below, scores_told}
use Rattle.mt_thesaurus.proofs.contexts.Contexts.new.Goals as goal

pub placed_of-requires-clause-within : goal.placed_of-requires-clause-within
placed_of-requires-clause-within g c = entries_within c.args.triples.now c.numbered-numbered.result c.requires c.numbered-numbered.ensures

pub sums_of-requires-clause-below : goal.sums_of-requires-clause-below
sums_of-requires-clause-below g c =
    placed_below c.args.triples.now c.numbered-numbered.result (length c.numbered-numbered.result.entries) c.len.result c.in_ok-placed.placed.items c.deref-2.result.now c.numbered-numbered.ensures c.in_ok-placed.ensures.are c.deref-2.ensures.value
    (omega (arith, c.len.ensures.len, ap length c.in_ok-words.ensures.are))

pub invariant_of-result : goal.invariant_of-result
invariant_of-result g c =
    joined c.in_ok-words.words.keys c.in_ok-placed.placed.items c.in_ok-by_word.by_word c.in_ok-by_word.by_context c.in_ok-turned.turned.items c.in_ok-sums.sums.items c.len.result c.in_ok-words.ensures.few (c.in_ok-turned.ensures ∙ ap (λ (ps : List Placed). map turned ps) c.deref.ensures.value) c.in_ok-by_word.ensures.some c.in_ok-by_word.ensures.others
    (omega (arith, c.len.ensures.len))
    (placed_below c.args.triples.now c.numbered-numbered.result (length c.numbered-numbered.result.entries) c.len.result c.in_ok-placed.placed.items c.in_ok-placed.placed.items c.numbered-numbered.ensures c.in_ok-placed.ensures.are refl
    (omega (arith, c.len.ensures.len, ap length c.in_ok-words.ensures.are)))
    c.in_ok-sums.ensures.count (λ word. c.in_ok-sums.ensures.sums word ∙ ap (λ (ps : List Placed). score_sum ps word) c.deref-2.ensures.value)

pub returns : goal.returns
returns g c =
    scores_told c.args.triples.now c.numbered-numbered.result c.requires c.numbered-numbered.ensures (length c.numbered-numbered.result.entries) refl c.in_ok-placed.placed.items c.in_ok-placed.ensures.are c.in_ok-words.words.keys c.in_ok-by_word.by_word c.in_ok-words.ensures.are c.in_ok-by_word.ensures.some
