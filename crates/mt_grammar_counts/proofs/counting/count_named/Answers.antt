use Rattle.std.proofs.Common.{◌∷◌, [], sym, subst, OnOk}
use Rattle.mt_text_spec.specs.Registries.{Registry}
use Rattle.mt_count_spec.specs.Counts.{HasRoom}
use Rattle.mt_triples.specs.CountsOf.{AreCountsOf}
use Rattle.mt_grammar_counts.specs.Told.{HasNoRoom, Tells}
use Rattle.mt_grammar_counts.proofs.Ending.{tells_named}
use Rattle.mt_grammar_counts.proofs.counting.count_named.Goals as goal

pub returns-clause-counts : goal.returns-clause-counts
returns-clause-counts g c = λ images split by.
    let e = c.registry-registry.ensures.registry in
    subst (λ (r : Registry). OnOk c.count_one.result (AreCountsOf images r c.args.grammar.now (split.text ∷ []) c.count_one.new.counts)) e
    (c.count_one.ensures.counts images split.text (subst (λ (r : Registry). Tells images r c.in-Some.segment.now c.in-Some.number split.text) (sym e)
    (tells_named images c.args.corpus.now c.args.name.now c.in-Some.segment.now c.in-Some.number c.registry-registry.ensures.valid c.in-Some.ensures.found split by)))

pub returns-clause-room : goal.returns-clause-room
returns-clause-room g c = λ images split by.
    let e = c.registry-registry.ensures.registry in
    subst (λ (r : Registry). OnOk c.count_one.result (HasRoom images r c.args.grammar.now (split.text ∷ []))) e
    (c.count_one.ensures.room images split.text (subst (λ (r : Registry). Tells images r c.in-Some.segment.now c.in-Some.number split.text) (sym e)
    (tells_named images c.args.corpus.now c.args.name.now c.in-Some.segment.now c.in-Some.number c.registry-registry.ensures.valid c.in-Some.ensures.found split by)))

pub returns-clause-too_many : goal.returns-clause-too_many
returns-clause-too_many g c = λ images split by h.
    let e = c.registry-registry.ensures.registry in
    subst (λ (r : Registry). HasNoRoom images r c.args.grammar.now (split.text ∷ [])) e
    (c.count_one.ensures.too_many images split.text (subst (λ (r : Registry). Tells images r c.in-Some.segment.now c.in-Some.number split.text) (sym e)
    (tells_named images c.args.corpus.now c.args.name.now c.in-Some.segment.now c.in-Some.number c.registry-registry.ensures.valid c.in-Some.ensures.found split by)) h)
