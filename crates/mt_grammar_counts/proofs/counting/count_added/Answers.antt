use Rattle.std.proofs.Common.{◌∷◌, [], sym, subst, OnOk}
use Rattle.mt_text_spec.specs.Registries.{Registry}
use Rattle.mt_segment_spec.specs.Tables.{AreTablesUnder}
use Rattle.mt_count_spec.specs.Counts.{HasRoom}
use Rattle.mt_triples.specs.CountsOf.{AreCountsOf}
use Rattle.mt_grammar_counts.specs.Told.{HasNoRoom, Tells}
use Rattle.mt_grammar_counts.proofs.Ending.{first_within, made_under, tells_added}
use Rattle.mt_grammar_counts.proofs.counting.count_added.Goals as goal

pub count_one-requires-clause-under : goal.count_one-requires-clause-under
count_one-requires-clause-under g c = λ lifetimes outlive.
    let some = c.requires.segment in
    subst (λ (r : Registry). AreTablesUnder r c.args.segment.now) (sym c.registry-registry.ensures.registry)
    (made_under c.args.corpus.now.registry some.text c.args.segment.now c.registry-registry.ensures.valid some.may.valid some.may.made)

pub count_one-requires-clause-number : goal.count_one-requires-clause-number
count_one-requires-clause-number g c = λ lifetimes outlive. first_within c.args.corpus.now.registry c.requires.segment.text c.args.segment.now c.requires.segment.may.made

pub returns-clause-counts : goal.returns-clause-counts
returns-clause-counts g c = λ images text may by.
    let e = c.registry-registry.ensures.registry in
    subst (λ (r : Registry). OnOk c.count_one.result (AreCountsOf images r c.args.grammar.now (text ∷ []) c.count_one.new.counts)) e
    (c.count_one.ensures.counts images text (subst (λ (r : Registry). Tells images r c.args.segment.now 0 text) (sym e) (tells_added c.images_are_decoded.ensures images c.args.corpus.now text c.args.segment.now c.registry-registry.ensures.valid may by)))

pub returns-clause-room : goal.returns-clause-room
returns-clause-room g c = λ images text may by.
    let e = c.registry-registry.ensures.registry in
    subst (λ (r : Registry). OnOk c.count_one.result (HasRoom images r c.args.grammar.now (text ∷ []))) e
    (c.count_one.ensures.room images text (subst (λ (r : Registry). Tells images r c.args.segment.now 0 text) (sym e) (tells_added c.images_are_decoded.ensures images c.args.corpus.now text c.args.segment.now c.registry-registry.ensures.valid may by)))

pub returns-clause-too_many : goal.returns-clause-too_many
returns-clause-too_many g c = λ images text may by h.
    let e = c.registry-registry.ensures.registry in
    subst (λ (r : Registry). HasNoRoom images r c.args.grammar.now (text ∷ [])) e
    (c.count_one.ensures.too_many images text (subst (λ (r : Registry). Tells images r c.args.segment.now 0 text) (sym e) (tells_added c.images_are_decoded.ensures images c.args.corpus.now text c.args.segment.now c.registry-registry.ensures.valid may by)) h)
